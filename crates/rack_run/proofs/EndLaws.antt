-- A run ends as its script asks.
use Rattle.std.proofs.Common.{◌≡◌, ◌≢◌, ℕ, zero, suc, ◌+◌, ◌*◌, ◌≤◌, Bool, true, false, List, [], ◌∷◌, Option, Some}
use Rattle.std.proofs.Common.{None, refl, ◌∙◌, arith}
use Rattle.std.specs.Prelude.{slice_get}
use Rattle.f8_spec.specs.Instructions.{decoded, row_of, row_clocks}
use Rattle.f8_spec.specs.ChipState.{ChipView}
use Rattle.f8_spec.specs.declared.chips.PowerOn.{PowerOn}
use Rattle.f8_spec.specs.declared.instructions.Op.{Op}
use Rattle.f8_spec.specs.declared.instructions.Row.{Row}
use Rattle.console_spec.specs.FlatStep.{clocks_by}
use Rattle.console_spec.specs.Processor.{State}
use Rattle.console_spec.specs.Run.{Position, Turn, Goes, Stops, Done, Unserved, Reserved, next, flat_next, decided}
use Rattle.console_spec.specs.Run.{goes_unless, instruction_fault, position_after, opcode_at, power_position}
use Rattle.console_spec.specs.Run.{chain_in_order, position_after_reset, reset_fault, gets_at, pulse_in}
use Rattle.console_spec.specs.Scripts.{Script, frame_clocks, events_at, most_instructions}
use Rattle.console_spec.specs.Services.{Fault}
use Rattle.console_spec.specs.Telling.{Way, Telling, is_over_at, is_over, with_event, with_events, events_behind}
use Rattle.console_spec.specs.Telling.{moment_of, telling, telling_on, telling_behind, on_rack, on_flat, begun}
use Rattle.console_spec.specs.Telling.{played_by, referred_by}
use Rattle.console_spec.specs.declared.Event.{Event}
use Rattle.console_spec.specs.declared.Event.TheVariants.{Keys, Pulse}
use Rattle.console_spec.specs.declared.End.{End}
use Rattle.console_spec.specs.declared.End.TheVariants.{Frames, Steps}
use Rattle.rack_run.specs.EndLaw.{EndsAsAsked, EndLaw}

-- an instruction that is done counts, and takes a clock at least
record Counts (x y : Position) : Type 0 where
  one : y.flat.state.count ≡ x.flat.state.count + 1
  clocks : x.flat.state.phi + 1 ≤ y.flat.state.phi

row_takes_some : (row : Row) (taken : Bool) → 1 ≤ row_clocks row taken
row_takes_some row taken = grind arith

some_clocks : (chosen : Option ℕ) (op : Op) (taken : Bool) → 1 ≤ clocks_by chosen op taken
some_clocks None op taken = row_takes_some (row_of op) taken
some_clocks (Some socket) op taken = omega arith

counts_after : (op : Op) (x : Position) → Counts x (position_after op x)
counts_after op x =
    let i = gets_at op x in
    record { one = refl; clocks = omega (arith, some_clocks i.chosen op i.taken) }

-- a turn that leads on counts, and one that stops the run isn't told as the end of its instructions
abbrev IsFair : Position → Turn → Type 0
IsFair x (Goes y) = Counts x y
IsFair x (Stops stop) = stop ≢ Done

unserved_not_done : (fault : Fault) → Unserved fault ≢ Done
unserved_not_done fault same = cc

reserved_not_done : (at code : ℕ) → Reserved at code ≢ Done
reserved_not_done at code same = cc

goes_fairly : (op : Op) (x : Position) (fault : Option Fault) → IsFair x (goes_unless fault (position_after op x))
goes_fairly op x None = counts_after op x
goes_fairly op x (Some fault) = unserved_not_done fault

rack_decides : (x : Position) (op : Option Op) →
    IsFair x (decided (λ op. goes_unless (instruction_fault op x) (position_after op x)) x.flat.state.flow.p (opcode_at x) op)
rack_decides x None = reserved_not_done x.flat.state.flow.p (opcode_at x)
rack_decides x (Some op) = goes_fairly op x (instruction_fault op x)

flat_decides : (x : Position) (op : Option Op) →
    IsFair x (decided (λ op. Goes (position_after op x)) x.flat.state.flow.p (opcode_at x) op)
flat_decides x None = reserved_not_done x.flat.state.flow.p (opcode_at x)
flat_decides x (Some op) = counts_after op x

rack_fairly : (x : Position) → IsFair x (next x)
rack_fairly x = rack_decides x (decoded (opcode_at x))

flat_fairly : (x : Position) → IsFair x (flat_next x)
flat_fairly x = flat_decides x (decoded (opcode_at x))

-- events leave instructions and clocks as they are
record Alike (x y : Position) : Type 0 where
  count : y.flat.state.count ≡ x.flat.state.count
  phi : y.flat.state.phi ≡ x.flat.state.phi

pulse_alike : (socket : Option ℕ) (x : Position) → Alike x (pulse_in socket x)
pulse_alike None x = record { count = refl; phi = refl }
pulse_alike (Some socket) x = record { count = refl; phi = refl }

event_alike : (e : Event) (x : Position) → Alike x (with_event e x)
event_alike (Keys port byte) x = record { count = refl; phi = refl }
event_alike (Pulse chip) x = pulse_alike (slice_get x.chain chip) x

events_alike : (es : List Event) (x : Position) → Alike x (with_events es x)
events_alike [] x = record { count = refl; phi = refl }
events_alike (e ∷ es) x =
    let one = event_alike e x in
    let rest = events_alike es (with_event e x) in
    record { count = rest.count ∙ one.count; phi = rest.phi ∙ one.phi }

-- so many instructions lead to the end of a run from here
abbrev Suffices : End → ℕ → State → Type 0
Suffices (Steps n) left s = s.count + left ≡ n
Suffices (Frames n) left s = n * frame_clocks ≤ s.phi + left

suffices_later : (end : End) (left : ℕ) (x y z : Position) → Counts x y → Alike y z →
    Suffices end (suc left) x.flat.state → Suffices end left z.flat.state
suffices_later (Steps n) left x y z counts alike enough = omega (arith, counts.one, alike.count, enough)
suffices_later (Frames n) left x y z counts alike enough = omega (arith, counts.clocks, alike.phi, enough)

none_left : (end : End) (s : State) → Suffices end 0 s → is_over_at end s ≡ true
none_left (Steps n) s enough = grind arith
none_left (Frames n) s enough = grind arith

module _ (way : Way) (script : Script) (fairly : (x : Position) → IsFair x (way.step x)) where
  abbrev EndsFrom : ℕ → Position → Type 0
  EndsFrom left x = EndsAsAsked script (telling way script left x).ending

  by_turn : (left : ℕ) (x : Position) → Suffices script.end (suc left) x.flat.state →
      ((z : Position) → Suffices script.end left z.flat.state → EndsFrom left z) → (turn : Turn) → IsFair x turn →
      EndsAsAsked script
      (telling_on script x (moment_of way script x (way.step x)) (λ z. telling way script left z) turn).ending
  by_turn left x enough later (Goes y) counts =
      let there = with_events (events_behind script x (Goes y)) y in
      later there
      (suffices_later script.end left x y there counts (events_alike (events_behind script x (Goes y)) y) enough)
  by_turn left x enough later (Stops stop) other = λ done. absurd (other done)

  by_test : (left : ℕ) (x : Position) (over : Bool) → is_over script x ≡ over →
      EndsAsAsked script (telling_on script x (moment_of way script x (way.step x)) (λ z. telling way script left z) (way.step x)).ending →
      EndsFrom (suc left) x
  unfolding telling
  by_test left x true over rest = rw over (λ done. over)
  by_test left x false on rest = rw on rest

  ends : (left : ℕ) (x : Position) → Suffices script.end left x.flat.state → EndsFrom left x
  unfolding telling
  ends zero x enough = λ done. none_left script.end x.flat.state enough
  ends (suc left) x enough =
      by_test left x (is_over script x) refl
      (by_turn left x enough (λ z here. ends left z here) (way.step x) (fairly x))

starts : (end : End) (s : State) → s.count ≡ 0 → Suffices end (most_instructions end) s
starts (Steps n) s none = omega (arith, none)
starts (Frames n) s none = omega arith

starts_reset : (vs : List ChipView) (chain : List ℕ) (powers : List PowerOn) (script : Script) →
    Suffices script.end (most_instructions script.end) (position_after_reset (begun vs chain powers script)).flat.state
starts_reset vs chain powers script =
    starts script.end (position_after_reset (begun vs chain powers script)).flat.state
    (events_alike (events_at 0 script.events) (power_position vs chain powers script.power)).count

behind_reset : (script : Script) (x : Position) (rest : Position → Telling) →
    EndsAsAsked script (rest (position_after_reset x)).ending → (fault : Option Fault) →
    EndsAsAsked script (telling_behind x rest (goes_unless fault (position_after_reset x))).ending
behind_reset script x rest ends None = ends
behind_reset script x rest ends (Some fault) = λ done. absurd (unserved_not_done fault done)

pub end_law : EndLaw
unfolding played_by referred_by
end_law vs chain powers traced script =
    let x = begun vs chain powers script in
    let y = begun vs (chain_in_order vs) powers script in
    let most = most_instructions script.end in (
      behind_reset script x (λ z. telling (on_rack traced) script most z)
          (ends (on_rack traced) script rack_fairly most (position_after_reset x) (starts_reset vs chain powers script))
          (reset_fault x),
      ends on_flat script flat_fairly most (position_after_reset y) (starts_reset vs (chain_in_order vs) powers script),
    )
