-- The instructions among some entries are those that the flat machine has counted.
use Rattle.std.proofs.Common.{◌≡◌, ℕ, ◌+◌, true, false, List, [], ◌∷◌, refl, sym, ap, ◌∙◌, arith}
use Rattle.std.specs.Prelude.{Option, Some, None, is_some, slice_get}
use Rattle.f8_spec.specs.ChipState.{ChipView}
use Rattle.f8_spec.specs.Instructions.{decoded}
use Rattle.f8_spec.specs.declared.chips.PowerOn.{PowerOn}
use Rattle.f8_spec.specs.declared.instructions.Op.{Op}
use Rattle.console_spec.specs.Run.{Position, Stop, Turn, Goes, Stops, decided, goes_unless, instruction_fault, next, opcode_at}
use Rattle.console_spec.specs.Run.{position_after, position_after_reset, pulse_in, reset_fault}
use Rattle.console_spec.specs.Services.{Fault}
use Rattle.console_spec.specs.Telling.{with_event}
use Rattle.console_spec.specs.declared.Event.{Event}
use Rattle.console_spec.specs.declared.Event.TheVariants.{Keys, Pulse}
use Rattle.rewind.specs.LogEntries.{instructions_in}
use Rattle.rewind.specs.Reached.{Reached, happened, happening, hearing, led_by, next_steps, powered_on, reached_by, reset_of}
use Rattle.rewind.specs.Reached.{served_steps, started, turned}
use Rattle.rewind.specs.declared.entry.Entry.{Entry}
use Rattle.rewind.specs.declared.entry.Entry.TheVariants.{Happens, Instruction}
use Rattle.rewind.proofs.EntriesReached.{stays_stopped}

-- ---- an instruction that is done counts

goes_count : (x y : Position) (fault : Option Fault) (op : Op) → goes_unless fault (position_after op x) ≡ Goes y →
    y.flat.state.count ≡ x.flat.state.count + 1
goes_count x y None op e =
    let same : position_after op x ≡ y = cc in
    ap (λ (z : Position). z.flat.state.count) (sym same)
goes_count x y (Some fault) op e = cc

decided_count : (x y : Position) (at code : ℕ) (found : Option Op) →
    decided (λ op. goes_unless (instruction_fault op x) (position_after op x)) at code found ≡ Goes y →
    y.flat.state.count ≡ x.flat.state.count + 1
decided_count x y at code None e = cc
decided_count x y at code (Some op) e = goes_count x y (instruction_fault op x) op e

next_count : (x y : Position) → next x ≡ Goes y → y.flat.state.count ≡ x.flat.state.count + 1
next_count x y e = decided_count x y x.flat.state.flow.p (opcode_at x) (decoded (opcode_at x)) e

-- ---- events and reset don't

pulse_count : (socket : Option ℕ) (x : Position) → (pulse_in socket x).flat.state.count ≡ x.flat.state.count
pulse_count None x = refl
pulse_count (Some socket) x = refl

event_count : (event : Event) (x : Position) → (with_event event x).flat.state.count ≡ x.flat.state.count
event_count (Keys port byte) x = refl
event_count (Pulse chip) x = pulse_count (slice_get x.chain chip) x

happening_count : (stop : Option Stop) (event : Event) (r : Reached) →
    (happening stop event r).position.flat.state.count ≡ r.position.flat.state.count
happening_count None event r = event_count event r.position
happening_count (Some stop) event r = refl

reset_count : (fault : Option Fault) (r there : Reached) → there.position.flat.state.count ≡ r.position.flat.state.count →
    (led_by (goes_unless fault (position_after_reset r.position)) there).position.flat.state.count ≡ r.position.flat.state.count
reset_count None r there same = refl
reset_count (Some fault) r there same = same

pub begun_count : (fill : ℕ) (chain : List ℕ) (powers : List PowerOn) (vs : List ChipView) →
    (started fill chain powers vs).position.flat.state.count ≡ 0
begun_count fill chain powers vs =
    reset_count (reset_fault (powered_on fill chain powers vs).position) (powered_on fill chain powers vs) _ refl

-- ---- entries

-- an instruction that stops the machine doesn't count
pub stopped_count : (r : Reached) → r.stop ≡ None → is_some (turned r).stop ≡ true →
    (turned r).position.flat.state.count ≡ r.position.flat.state.count
stopped_count r running stops = by (next r.position) stops
  where
    by : (turn : Turn) → is_some (led_by turn (hearing (next_steps r) r)).stop ≡ true →
        (led_by turn (hearing (next_steps r) r)).position.flat.state.count ≡ r.position.flat.state.count
    by (Goes y) halts = absurd (let runs = ap (λ (o : Option Stop). is_some o) running in cc)
    by (Stops stop) halts = refl

done_count : (r : Reached) (later : List Entry) → (reached_by later (turned r)).stop ≡ None →
    (turned r).position.flat.state.count ≡ r.position.flat.state.count + 1
done_count r later goes = by (next r.position) refl
  where
    by : (turn : Turn) → next r.position ≡ turn →
        (turned r).position.flat.state.count ≡ r.position.flat.state.count + 1
    by (Goes y) is =
        ap (λ (t : Turn). (led_by t (hearing (next_steps r) r)).position.flat.state.count) is ∙ next_count r.position y is
    by (Stops stop) is =
        let halts : is_some (turned r).stop ≡ true =
        ap (λ (t : Turn). is_some (led_by t (hearing (next_steps r) r)).stop) is in
        absurd (let behind = stays_stopped later (turned r) halts in let runs = ap (λ (o : Option Stop). is_some o) goes in cc)

-- where nothing has stopped the machine, each instruction counts once
pub counted : (es : List Entry) (r : Reached) → (reached_by es r).stop ≡ None →
    (reached_by es r).position.flat.state.count ≡ r.position.flat.state.count + instructions_in es
counted [] r goes = omega arith
counted (Happens event ∷ later) r goes =
    let rest = counted later (happened event r) goes in
    let same = happening_count r.stop event r in
    omega (arith, rest, same)
counted (Instruction ∷ later) r goes =
    let rest = counted later (turned r) goes in
    let one = done_count r later goes in
    omega (arith, rest, one)
