-- Where a scene is, beside the tape of a session that is at it.
use Rattle.std.proofs.Common.{◌≡◌, ℕ, ◌+◌, ◌≤◌, Bool, true, false, List, [], ◌∷◌, ◌++◌, refl, sym, ap, ap₂, subst, ◌∙◌, arith}
use Rattle.std.specs.Prelude.{Option, Some, None, if◌then◌else◌, is_some}
use Rattle.f8_spec.specs.ChipState.{ChipView, ChipState}
use Rattle.f8_spec.specs.declared.chips.PowerOn.{PowerOn}
use Rattle.rewind.specs.Asking.{allowed_since_power}
use Rattle.rewind.specs.Reached.{Reached, reached_by, started, turned}
use Rattle.rewind.specs.Tape.{TapeState, begin, played_from}
use Rattle.rewind.specs.declared.entry.Entry.{Entry}
use Rattle.rewind.specs.declared.entry.Entry.TheVariants.{Happens, Instruction}
use Rattle.rewind.proofs.EntriesReached.{reached_both}
use Rattle.chip_debug.specs.Scenes.{Scene, begun, entered, reached, stepped, stops}
use Rattle.chip_debug.specs.Standing.{SessionState, IsAt}

-- ---- the tape of a scene

-- a tape with the chain, the byte and what is said of the chips of a scene begins where that does
pub begin_is : (t : TapeState) (scene : Scene) → t.machine.chain ≡ scene.chain → t.fill ≡ scene.fill → t.powers ≡ scene.powers →
    begin t scene.first ≡ begun scene
begin_is t scene chain fill powers =
    ap₂ (λ (n : ℕ) (l : List ℕ). started n l t.powers scene.first) fill chain
    ∙ ap (λ (p : List PowerOn). started scene.fill scene.chain p scene.first) powers

module _ (s : SessionState) (states : List ChipState) (scene : Scene) (at : IsAt s states scene) where
  pub begun_is : begin s.tape scene.first ≡ begun scene
  begun_is = begin_is s.tape scene at.chain at.fill at.powers

  -- and what was played leads where its entries lead
  pub entered_is : played_from s.tape scene.first ≡ entered scene
  entered_is = ap₂ (λ (es : List Entry) (r : Reached). reached_by es r) at.entries begun_is

-- ---- an instruction more

pub reached_running : (scene : Scene) → scene.stopped ≡ false → reached scene ≡ entered scene
reached_running scene running = rw running refl

pub reached_stopped : (scene : Scene) → scene.stopped ≡ true → reached scene ≡ turned (entered scene)
reached_stopped scene stopped = rw stopped refl

-- an instruction behind the entries
pub entered_more : (entries : List Entry) (scene : Scene) →
    reached_by (entries ++ Instruction ∷ []) (begun scene) ≡ turned (reached_by entries (begun scene))
entered_more entries scene = reached_both entries (Instruction ∷ []) (begun scene)

-- a scene that goes on with an instruction more
abbrev pub with_instruction : Scene → Scene
with_instruction scene = record scene { entries = scene.entries ++ Instruction ∷ [] }

-- and one that it stops
abbrev pub with_stop : Scene → Scene
with_stop scene = record scene { stopped = true }

pub stepped_on : (scene : Scene) → stops scene ≡ false → stepped scene ≡ with_instruction scene
stepped_on scene goes = rw goes refl

pub stepped_off : (scene : Scene) → stops scene ≡ true → stepped scene ≡ with_stop scene
stepped_off scene halts = rw halts refl

module _ (scene : Scene) (running : scene.stopped ≡ false) where
  pub reached_on : reached (with_instruction scene) ≡ turned (reached scene)
  reached_on =
      reached_running (with_instruction scene) running ∙ entered_more scene.entries scene
      ∙ ap turned (sym (reached_running scene running))

  pub reached_off : reached (with_stop scene) ≡ turned (reached scene)
  reached_off = ap turned (sym (reached_running scene running))

  -- where the scene has not stopped, the next one is where the instruction leads
  pub reached_stepped : reached (stepped scene) ≡ turned (reached scene)
  reached_stepped = by (stops scene) refl
    where
      by : (b : Bool) → stops scene ≡ b → reached (stepped scene) ≡ turned (reached scene)
      by true halts = ap reached (stepped_off scene halts) ∙ reached_off
      by false goes = ap reached (stepped_on scene goes) ∙ reached_on

-- what no step changes
pub stepped_chain : (scene : Scene) → (stepped scene).chain ≡ scene.chain
stepped_chain scene = by (stops scene)
  where
    by : (b : Bool) → (if b then with_stop scene else with_instruction scene).chain ≡ scene.chain
    by true = refl
    by false = refl

pub stepped_breaks : (scene : Scene) → (stepped scene).breaks ≡ scene.breaks
stepped_breaks scene = by (stops scene)
  where
    by : (b : Bool) → (if b then with_stop scene else with_instruction scene).breaks ≡ scene.breaks
    by true = refl
    by false = refl

-- ---- questions

-- where two scenes are one, so is what is allowed
pub allowed_at : (p q : ℕ) (scene there : Scene) → scene ≡ there → q ≤ p + allowed_since_power (reached scene) →
    q ≤ p + allowed_since_power (reached there)
allowed_at p q scene there same few = subst (λ (s : Scene). q ≤ p + allowed_since_power (reached s)) same few

-- no chip was put a question
pub none_put : (p q : ℕ) → q ≡ p → q ≤ p + 0
none_put p q same = omega arith
