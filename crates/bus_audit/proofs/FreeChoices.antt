-- What a trace dictates are free inputs, and it does not hang on inputs so far, nor on reset.
use Rattle.std.proofs.Common.{◌≡◌, ℕ, ◌<◌, ◌≤◌, ◌==◌, ◌&&◌, Bool, true, false, List, [], ◌∷◌, ◌++◌, Option, Some, None, refl, ◌∙◌, ap, sym}
use Rattle.std.proofs.lemmas.Bool.{ltb-false}
use Rattle.std.specs.Prelude.{nat_lt, if◌then◌else◌, bit_and, slice_get}
use Rattle.f8_spec.specs.BusArbitration.{Seat}
use Rattle.f8_spec.specs.ChipState.{admits_pulses}
use Rattle.f8_spec.specs.Instructions.{decoded}
use Rattle.f8_spec.specs.Words.{places_on}
use Rattle.f8_spec.specs.declared.instructions.Op.{Op}
use Rattle.f8_spec.specs.declared.instructions.Op.TheVariants.{In, Ins}
use Rattle.console_spec.specs.AddressSpace.{byte_at}
use Rattle.console_spec.specs.InterruptChoice.{control_of}
use Rattle.console_spec.specs.InterruptRequests.{Mark}
use Rattle.console_spec.specs.Run.{Position, seats_of, opcode_at, position_after_reset}
use Rattle.console_spec.specs.Writes.{latch_of, readers}
use Rattle.console_spec.specs.declared.Event.{Event}
use Rattle.console_spec.specs.declared.Event.TheVariants.{Keys}
use Rattle.console_spec.specs.declared.PortWrite.{PortWrite}
use Rattle.bus_audit.specs.PlainSteps.{HaveBytes}
use Rattle.bus_audit.specs.declared.step.TraceStep.{TraceStep}
use Rattle.bus_audit.specs.FreeRuns.{AreFree}
use Rattle.bus_audit.specs.Choices.{data_port_read, unless_own, second_byte, key_by, key_choice, takes_pulse, place_in_chain, pulse_to}
use Rattle.bus_audit.specs.Choices.{interrupting_socket, from_last_fetch, pulse_by, pulse_choice, choice_for, choice}
use Rattle.bus_audit.specs.Determinacy.{with_free}
use Rattle.bus_audit.proofs.FreeInputs.{pulses_after, pulses_after-append}
use Rattle.bus_audit.proofs.PortReads.{key_leaves_pulses}
use Rattle.bus_audit.proofs.ToldSteps.{second_small}

-- ---- free inputs

pub free-append : (events later : List Event) → AreFree events → AreFree later → AreFree (events ++ later)
free-append [] later first second = second
free-append (e ∷ events) later first second = (first.0, free-append events later first.1 second)

unless_own_high : (port p : ℕ) → unless_own port ≡ Some p → 2 ≤ p
unless_own_high port p is = by (nat_lt port 2) refl is
  where
    by : (own : Bool) → nat_lt port 2 ≡ own → (if own then None else Some port) ≡ Some p → 2 ≤ p
    by true e here = absurd (cc)
    by false e here = let same : port ≡ p = cc in rw (sym same) (ltb-false port 2 e)

read_high : (op : Op) (operand p : ℕ) → data_port_read op operand ≡ Some p → 2 ≤ p
read_high In operand p is = unless_own_high operand p is
read_high (Ins n) operand p is = unless_own_high n p is
read_high op operand p is = absurd (cc)

key_free : (writes : List PortWrite) (seats : List Seat) (port byte : Option ℕ) → ((p : ℕ) → port ≡ Some p → 2 ≤ p) →
    ((b : ℕ) → byte ≡ Some b → b < 256) → AreFree (key_by writes seats port byte)
key_free writes seats None byte high small = tt
key_free writes seats (Some port) None high small = tt
key_free writes seats (Some port) (Some byte) high small =
    by (nat_lt 0 (readers port seats) && (bit_and byte (latch_of port writes) == latch_of port writes))
  where
    by : (picks : Bool) → AreFree (if picks then Keys port byte ∷ [] else [])
    by true = ((high port refl, small byte refl), tt)
    by false = tt

pulse_free : (writes : List PortWrite) (seats : List Seat) (chain : List ℕ) (told : Option ℕ) → AreFree (pulse_by writes seats chain told)
pulse_free writes seats chain None = tt
pulse_free writes seats chain (Some socket) = by (takes_pulse (slice_get seats socket) writes) (place_in_chain socket chain)
  where
    by : (takes : Bool) (place : Option ℕ) → AreFree (if takes then pulse_to place else [])
    by true None = tt
    by true (Some place) = (tt, tt)
    by false place = tt

pub op_free : (op : Op) (x : Position) (trace : List TraceStep) → HaveBytes trace →
    AreFree (key_choice op x trace ++ pulse_choice op x trace)
op_free op x trace small =
    let operand = byte_at x.flat.memory (places_on x.flat.state.flow.p 1) in
    free-append (key_choice op x trace) (pulse_choice op x trace)
    (key_free x.flat.state.writes (seats_of x.copies) (data_port_read op operand) (second_byte trace) (λ p e. read_high op operand p e)
    (λ b e. second_small trace b e small))
    (pulse_free x.flat.state.writes (seats_of x.copies) x.chain (interrupting_socket (from_last_fetch op x trace)))

pub choice_free : (x : Position) (trace : List TraceStep) → HaveBytes trace → AreFree (choice trace x)
choice_free x trace small = by (decoded (opcode_at x))
  where
    by : (op : Option Op) → AreFree (choice_for op x trace)
    by None = tt
    by (Some op) = op_free op x trace small

-- ---- what they hang on

pub choice-with_free : (keys : List ℕ) (pulses : List Mark) (x : Position) (trace : List TraceStep) →
    choice trace (with_free keys pulses x) ≡ choice trace x
choice-with_free keys pulses x trace = by (decoded (opcode_at x))
  where
    by : (op : Option Op) → choice_for op (with_free keys pulses x) trace ≡ choice_for op x trace
    by None = refl
    by (Some op) = refl

pub choice-after_reset : (x : Position) (trace : List TraceStep) → choice trace (position_after_reset x) ≡ choice trace x
choice-after_reset x trace = by (decoded (opcode_at x))
  where
    by : (op : Option Op) → choice_for op (position_after_reset x) trace ≡ choice_for op x trace
    by None = refl
    by (Some op) = refl

-- ---- before the first instruction no chip takes a pulse

takes_none_by : (wired : Bool) (ports : Option ℕ) → (wired && admits_pulses (control_of ports [])) ≡ false
takes_none_by true None = refl
takes_none_by true (Some first) = refl
takes_none_by false None = refl
takes_none_by false (Some first) = refl

takes_none : (o : Option Seat) → takes_pulse o [] ≡ false
takes_none None = refl
takes_none (Some seat) = takes_none_by seat.wired seat.ports

pub no_first_pulse : (phi : ℕ) (x : Position) (trace : List TraceStep) (marks : List Mark) → x.flat.state.writes ≡ [] →
    pulses_after x.chain phi (choice trace x) marks ≡ marks
no_first_pulse phi x trace marks none = by (decoded (opcode_at x))
  where
    pulse_none : (told : Option ℕ) → pulses_after x.chain phi (pulse_by x.flat.state.writes (seats_of x.copies) x.chain told) marks ≡ marks
    pulse_none None = refl
    pulse_none (Some socket) =
        ap (λ (takes : Bool). pulses_after x.chain phi (if takes then pulse_to (place_in_chain socket x.chain) else []) marks)
        (ap (takes_pulse (slice_get (seats_of x.copies) socket)) none ∙ takes_none (slice_get (seats_of x.copies) socket))

    by : (op : Option Op) → pulses_after x.chain phi (choice_for op x trace) marks ≡ marks
    by None = refl
    by (Some op) =
        pulses_after-append x.chain phi (key_choice op x trace) (pulse_choice op x trace) marks
        ∙ ap (pulses_after x.chain phi (pulse_choice op x trace))
        (key_leaves_pulses x.chain phi x.flat.state.writes (seats_of x.copies)
        (data_port_read op (byte_at x.flat.memory (places_on x.flat.state.flow.p 1))) (second_byte trace) marks)
        ∙ pulse_none (interrupting_socket (from_last_fetch op x trace))
