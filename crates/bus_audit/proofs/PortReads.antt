-- With the key byte that a trace dictates a port reads as the trace says.
use Rattle.std.proofs.Common.{◌≡◌, ℕ, ◌+◌, ◌<◌, ◌==◌, ◌&&◌, Bool, true, false, List, [], ◌∷◌, ◌++◌, length, Option, Some, None, refl, ◌∙◌}
use Rattle.std.proofs.Common.{ap, sym}
use Rattle.std.proofs.Common.{inl, inr, arith, get_or-set_same, eq-eqb}
use Rattle.std.proofs.lemmas.Bool.{cases_eq, lt-ltb, ne_eqb, ltb-true}
use Rattle.std.proofs.lemmas.Nat.{and_comm, or_comm, and_or_self}
use lib.Bits.{or_add_and}
use Rattle.std.specs.Prelude.{nat_lt, if◌then◌else◌, bit_and, bit_or, slice_get, slice_index}
use Rattle.f8_spec.specs.BusArbitration.{Seat}
use Rattle.f8_spec.specs.Words.{places_on}
use Rattle.f8_spec.specs.declared.instructions.Op.{Op}
use Rattle.f8_spec.specs.declared.instructions.Op.TheVariants.{In, Ins}
use Rattle.console_spec.specs.AddressSpace.{byte_at}
use Rattle.console_spec.specs.InterruptRequests.{Mark}
use Rattle.console_spec.specs.Run.{Position, seats_of, instruction_course}
use Rattle.console_spec.specs.Writes.{latch_of, readers, port_value, chip_port_byte}
use Rattle.console_spec.specs.declared.Event.{Event}
use Rattle.console_spec.specs.declared.Event.TheVariants.{Keys}
use Rattle.console_spec.specs.declared.PortWrite.{PortWrite}
use Rattle.bus_audit.specs.PlainSteps.{HaveBytes, plain_course}
use Rattle.bus_audit.specs.declared.step.TraceStep.{TraceStep}
use Rattle.bus_audit.specs.Choices.{second_byte, key_to, key_by, key_choice, place_in_chain, pulse_to, takes_pulse, pulse_by}
use Rattle.bus_audit.specs.Determinacy.{with_free}
use Rattle.bus_audit.proofs.FreeInputs.{keys_after, pulses_after}
use Rattle.bus_audit.proofs.SameSteps.{before_at, port_at}
use Rattle.bus_audit.proofs.ToldSteps.{in_tells, ins_tells, first_small}

-- ---- bits

or_has : (a b : ℕ) → bit_and (bit_or a b) a ≡ a
or_has a b = ap (λ (n : ℕ). bit_and n a) (or_comm a b) ∙ and_or_self a b

pub or_twice : (a b : ℕ) → bit_or a (bit_or a b) ≡ bit_or a b
or_twice a b =
    let sum : bit_or a (bit_or a b) + bit_and a (bit_or a b) ≡ a + bit_or a b = or_add_and a (bit_or a b) in
    let both : bit_and a (bit_or a b) ≡ a = and_comm a (bit_or a b) ∙ or_has a b in
    omega (arith, sum, both)

-- ---- one port

picked : (a b : Bool) (events : List Event) → a ≡ true → b ≡ true → (if a && b then events else []) ≡ events
picked true true events e f = refl
picked true false events e f = absurd (cc)
picked false b events e f = absurd (cc)

-- the byte that one chip's port reads as is chosen
key_picked : (writes : List PortWrite) (seats : List Seat) (others : List ℕ) (port : ℕ) → readers port seats ≡ 1 →
    key_to writes seats port (port_value port others writes) ≡ Keys port (port_value port others writes) ∷ []
key_picked writes seats others port one =
    let latch = latch_of port writes in
    let byte = port_value port others writes in
    picked (nat_lt 0 (readers port seats)) (bit_and byte latch == latch) (Keys port byte ∷ [])
    (lt-ltb 0 (readers port seats) (omega (arith, one)))
    (eq-eqb (bit_and byte latch) latch (or_has latch (slice_index others port)))

value_again : (writes : List PortWrite) (seats : List Seat) (keys others : List ℕ) (port : ℕ) → readers port seats ≡ 1 →
    port < length keys →
    port_value port (keys_after (key_to writes seats port (port_value port others writes)) keys) writes ≡ port_value port others writes
value_again writes seats keys others port one within =
    let latch = latch_of port writes in
    let byte = port_value port others writes in
    ap (λ (events : List Event). bit_or latch (slice_index (keys_after events keys) port)) (key_picked writes seats others port one)
    ∙ ap (bit_or latch) (get_or-set_same keys port byte 0 within)
    ∙ or_twice latch (slice_index others port)

-- what a port reads as by how many chips have it
abbrev pub read_as : Bool → ℕ → ℕ
read_as one value = if one then value else 255

pub reads_again : (writes : List PortWrite) (seats : List Seat) (keys others : List ℕ) (port : ℕ) → port < length keys →
    chip_port_byte port seats (keys_after (key_to writes seats port (chip_port_byte port seats others writes)) keys) writes
    ≡ chip_port_byte port seats others writes
reads_again writes seats keys others port within = elim (cases_eq (readers port seats) 1) [
  | inl one ↦
      let is : (readers port seats == 1) ≡ true = eq-eqb (readers port seats) 1 one in
      let value : chip_port_byte port seats others writes ≡ port_value port others writes =
      ap (λ (b : Bool). read_as b (port_value port others writes)) is in
      ap (λ (byte : ℕ). chip_port_byte port seats (keys_after (key_to writes seats port byte) keys) writes) value
      ∙ ap (λ (b : Bool). read_as b (port_value port (keys_after (key_to writes seats port (port_value port others writes)) keys) writes)) is
      ∙ value_again writes seats keys others port one within
      ∙ sym value
  | inr other ↦
      let is : (readers port seats == 1) ≡ false = ne_eqb (readers port seats) 1 other in
      ap (λ (b : Bool). read_as b
      (port_value port (keys_after (key_to writes seats port (chip_port_byte port seats others writes)) keys) writes)) is
      ∙ sym (ap (λ (b : Bool). read_as b (port_value port others writes)) is)
]

-- with the keys of ports 0 and 1 alike
abbrev pub OwnAlike : List ℕ → List ℕ → Type 0
OwnAlike keys others = (n : ℕ) → n < 2 → slice_index keys n ≡ slice_index others n

pub value_alike : (writes : List PortWrite) (keys others : List ℕ) (port : ℕ) → slice_index keys port ≡ slice_index others port →
    port_value port keys writes ≡ port_value port others writes
value_alike writes keys others port same = ap (bit_or (latch_of port writes)) same

pub chip_alike : (writes : List PortWrite) (seats : List Seat) (keys others : List ℕ) (port : ℕ) →
    slice_index keys port ≡ slice_index others port → chip_port_byte port seats keys writes ≡ chip_port_byte port seats others writes
chip_alike writes seats keys others port same = ap (read_as (readers port seats == 1)) (value_alike writes keys others port same)

-- by whether a port is the processor's own
reads_by : (writes : List PortWrite) (seats : List Seat) (keys others : List ℕ) (port : ℕ) (told : Option ℕ) (own : Bool) →
    nat_lt port 2 ≡ own → OwnAlike keys others →
    (nat_lt port 2 ≡ false → (port < length keys) × (told ≡ Some (chip_port_byte port seats others writes))) →
    chip_port_byte port seats (keys_after (key_by writes seats (if own then None else Some port) told) keys) writes
    ≡ chip_port_byte port seats others writes
reads_by writes seats keys others port told true is alike tells =
    chip_alike writes seats keys others port (alike port (ltb-true port 2 is))
reads_by writes seats keys others port told false is alike tells =
    ap (λ (byte : Option ℕ). chip_port_byte port seats (keys_after (key_by writes seats (Some port) byte) keys) writes) (tells is).1
    ∙ reads_again writes seats keys others port (tells is).0

-- ---- the instructions that read a port

-- with the key byte that is dictated alone
abbrev keyed_by : Op → Position → List TraceStep → List ℕ → List ℕ
keyed_by op y trace keys = keys_after (key_choice op y trace) keys

module _ (y : Position) (trace more : List TraceStep) (keys : List ℕ) (pulses : List Mark) (small : HaveBytes trace)
    (size : length keys ≡ 256) (alike : OwnAlike keys y.flat.state.keys) where
  in_reads : (before_at In y).fault ≡ None → trace ≡ plain_course (instruction_course In y) ++ more →
      port_at In (with_free (keyed_by In y trace keys) pulses y) ≡ port_at In y
  in_reads served is =
      let port = byte_at y.flat.memory (places_on y.flat.state.flow.p 1) in
      let tells = in_tells y trace more served is in
      let within : port < 256 = first_small trace port tells.0 small in
      reads_by y.flat.state.writes (seats_of y.copies) keys y.flat.state.keys port (second_byte trace) (nat_lt port 2) refl alike
      (λ other. (omega (arith, within, size), tells.1))

  abbrev pub ins_reads_as : Bool → ℕ → ℕ → ℕ
  ins_reads_as own value byte = if own then value else byte

  ins_by : (n : ℕ) (own : Bool) → nat_lt n 2 ≡ own → (before_at (Ins n) y).fault ≡ None →
      trace ≡ plain_course (instruction_course (Ins n) y) ++ more →
      ins_reads_as own
      (port_value n (keys_after (key_by y.flat.state.writes (seats_of y.copies) (if own then None else Some n) (second_byte trace)) keys)
      y.flat.state.writes)
      (chip_port_byte n (seats_of y.copies)
      (keys_after (key_by y.flat.state.writes (seats_of y.copies) (if own then None else Some n) (second_byte trace)) keys) y.flat.state.writes)
      ≡ ins_reads_as own (port_value n y.flat.state.keys y.flat.state.writes)
      (chip_port_byte n (seats_of y.copies) y.flat.state.keys y.flat.state.writes)
  ins_by n true own served is = value_alike y.flat.state.writes keys y.flat.state.keys n (alike n (ltb-true n 2 own))
  ins_by n false own served is =
      let tells = ins_tells n y trace more own served is in
      let within : n < 256 = first_small trace n tells.0 small in
      let read : port_at (Ins n) y ≡ chip_port_byte n (seats_of y.copies) y.flat.state.keys y.flat.state.writes =
      ap (λ (b : Bool). ins_reads_as b (port_value n y.flat.state.keys y.flat.state.writes)
      (chip_port_byte n (seats_of y.copies) y.flat.state.keys y.flat.state.writes)) own in
      reads_by y.flat.state.writes (seats_of y.copies) keys y.flat.state.keys n (second_byte trace) false own alike
      (λ other. (omega (arith, within, size), tells.1 ∙ ap (λ (byte : ℕ). Some byte) read))

  pub port_reads : (op : Op) → (before_at op y).fault ≡ None → trace ≡ plain_course (instruction_course op y) ++ more →
      port_at op (with_free (keyed_by op y trace keys) pulses y) ≡ port_at op y
  port_reads In served is = in_reads served is
  port_reads (Ins n) served is = ins_by n (nat_lt n 2) refl served is
  port_reads op served is = refl

-- ---- each choice leaves the other's

pub pulse_leaves_keys : (writes : List PortWrite) (seats : List Seat) (chain : List ℕ) (told : Option ℕ) (keys : List ℕ) →
    keys_after (pulse_by writes seats chain told) keys ≡ keys
pulse_leaves_keys writes seats chain None keys = refl
pulse_leaves_keys writes seats chain (Some socket) keys = by (takes_pulse (slice_get seats socket) writes) (place_in_chain socket chain)
  where
    by : (takes : Bool) (place : Option ℕ) → keys_after (if takes then pulse_to place else []) keys ≡ keys
    by true None = refl
    by true (Some place) = refl
    by false place = refl

pub key_leaves_pulses : (chain : List ℕ) (phi : ℕ) (writes : List PortWrite) (seats : List Seat) (port byte : Option ℕ) (marks : List Mark) →
    pulses_after chain phi (key_by writes seats port byte) marks ≡ marks
key_leaves_pulses chain phi writes seats None byte marks = refl
key_leaves_pulses chain phi writes seats (Some port) None marks = refl
key_leaves_pulses chain phi writes seats (Some port) (Some byte) marks =
    by (nat_lt 0 (readers port seats) && (bit_and byte (latch_of port writes) == latch_of port writes))
  where
    by : (picks : Bool) → pulses_after chain phi (if picks then Keys port byte ∷ [] else []) marks ≡ marks
    by true = refl
    by false = refl
