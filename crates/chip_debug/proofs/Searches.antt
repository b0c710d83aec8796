-- Among some entries: those up to an instruction, where the machine and its chips were before it, and the last one that is looked for.
use Rattle.std.proofs.Common.{◌≡◌, ℕ, zero, suc, add-one, ◌+◌, ◌-◌, List, [], ◌∷◌, ◌++◌, refl, sym, ap, ◌∙◌, arith}
use Rattle.std.specs.Prelude.{if◌then◌else◌, Option, Some, None, slice_get}
use Rattle.console_spec.specs.Run.{Position, Stop, pulse_in}
use Rattle.console_spec.specs.Telling.{with_event}
use Rattle.console_spec.specs.declared.Event.{Event}
use Rattle.console_spec.specs.declared.Event.TheVariants.{Keys, Pulse}
use Rattle.rewind.specs.LogEntries.{instructions_in}
use Rattle.rewind.specs.Reached.{Reached, entered, happened, happening, reached_by, turned}
use Rattle.rewind.specs.declared.entry.Entry.{Entry}
use Rattle.rewind.specs.declared.entry.Entry.TheVariants.{Happens, Instruction}
use Rattle.chip_debug.specs.Searching.{is_sought, last_sought}
use Rattle.chip_debug.specs.Stepping.{is_so, places, upto}
use Rattle.chip_debug.specs.declared.replaying.Sought.{Sought}

-- ---- the entries up to an instruction

upto_suc : (n : ℕ) (a b : List Entry) → n ≡ instructions_in a → upto (suc n) (a ++ Instruction ∷ b) ≡ a ++ Instruction ∷ []
upto_suc n [] b e = ap (λ (k : ℕ). Instruction ∷ upto k b) e
upto_suc n (Happens event ∷ a) b e = ap (λ (es : List Entry). Happens event ∷ es) (upto_suc n a b e)
upto_suc zero (Instruction ∷ a) b e = absurd (omega arith)
upto_suc (suc n) (Instruction ∷ a) b e = ap (λ (es : List Entry). Instruction ∷ es) (upto_suc n a b (omega arith))

pub upto_of : (n : ℕ) (a b : List Entry) → n ≡ instructions_in a → upto (n + 1) (a ++ Instruction ∷ b) ≡ a ++ Instruction ∷ []
upto_of n a b e = rw add-one (upto_suc n a b e)

-- ---- before an instruction

up_one : (n k : ℕ) → suc n ≡ k + 1 → n ≡ k
up_one n k e = omega arith

not_none : (k : ℕ) → zero ≡ k + 1 → ⊥
not_none k e = omega arith

place_before : (n : ℕ) (a b : List Entry) (r : Reached) → n ≡ instructions_in a →
    slice_get (places (a ++ Instruction ∷ b) r) n ≡ Some (reached_by a r)
place_before n [] b r e = ap (λ (k : ℕ). slice_get (places (Instruction ∷ b) r) k) e
place_before n (Happens event ∷ a) b r e = place_before n a b (entered (Happens event) r) e
place_before zero (Instruction ∷ a) b r e = absurd (not_none (instructions_in a) e)
place_before (suc n) (Instruction ∷ a) b r e = place_before n a b (turned r) (up_one n (instructions_in a) e)

one_less : (n : ℕ) → (n + 1) - 1 ≡ n
one_less n = omega arith

-- whether an instruction is looked for, by where it began
abbrev one_sought : Sought → List ℕ → ℕ → Option ℕ → Option Reached → Option ℕ
one_sought sought chain n prior place = if is_so (is_sought sought chain n) place then Some n else prior

last_suc : (sought : Sought) (chain : List ℕ) (es : List Entry) (r : Reached) (n : ℕ) → last_sought sought chain (suc n) es r
    ≡ one_sought sought chain (suc n) (last_sought sought chain n es r) (slice_get (places es r) (suc n - 1))
last_suc sought chain es r n = refl

last_more : (sought : Sought) (chain : List ℕ) (es : List Entry) (r : Reached) (n : ℕ) → last_sought sought chain (n + 1) es r
    ≡ one_sought sought chain (n + 1) (last_sought sought chain n es r) (slice_get (places es r) n)
last_more sought chain es r n =
    rw add-one (last_suc sought chain es r n)
    ∙ ap (λ (k : ℕ). one_sought sought chain (n + 1) (last_sought sought chain n es r) (slice_get (places es r) k)) (one_less n)

-- the last of one instruction more that is looked for
pub sought_more : (sought : Sought) (chain : List ℕ) (a b es : List Entry) (r : Reached) (done : ℕ) → es ≡ a ++ Instruction ∷ b →
    done ≡ instructions_in a →
    last_sought sought chain (done + 1) es r
    ≡ (if is_sought sought chain (done + 1) (reached_by a r) then Some (done + 1) else last_sought sought chain done es r)
sought_more sought chain a b es r done all counted =
    let there : slice_get (places es r) done ≡ Some (reached_by a r) =
    ap (λ (l : List Entry). slice_get (places l r) done) all ∙ place_before done a b r counted in
    last_more sought chain es r done
    ∙ ap (λ (place : Option Reached). one_sought sought chain (done + 1) (last_sought sought chain done es r) place) there

-- ---- an event leaves the counters

pulse_flow : (socket : Option ℕ) (x : Position) → (pulse_in socket x).flat.state.flow ≡ x.flat.state.flow
pulse_flow None x = refl
pulse_flow (Some socket) x = refl

event_flow : (event : Event) (x : Position) → (with_event event x).flat.state.flow ≡ x.flat.state.flow
event_flow (Keys port byte) x = refl
event_flow (Pulse chip) x = pulse_flow (slice_get x.chain chip) x

happening_flow : (stop : Option Stop) (event : Event) (r : Reached) →
    (happening stop event r).position.flat.state.flow ≡ r.position.flat.state.flow
happening_flow None event r = event_flow event r.position
happening_flow (Some stop) event r = refl

pub events_flow : (events : List Entry) (r : Reached) → instructions_in events ≡ 0 →
    (reached_by events r).position.flat.state.flow ≡ r.position.flat.state.flow
events_flow [] r none = refl
events_flow (Happens event ∷ later) r none = events_flow later (happened event r) none ∙ happening_flow r.stop event r
events_flow (Instruction ∷ later) r none = absurd (not_none (instructions_in later) (sym none))
