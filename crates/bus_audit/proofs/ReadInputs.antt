-- The inputs that are read off a trace serve as well as those that it dictates: where the steps that stand next are those of an instruction
-- with some inputs, they are its steps with those read too.
use Rattle.std.proofs.Common.{◌≡◌, ℕ, ◌+◌, ◌<◌, ◌≤◌, ◌==◌, Bool, true, false, List, [], ◌∷◌, ◌++◌, length, map, Option, Some, None}
use Rattle.std.proofs.Common.{refl, ◌∙◌, ap, sym, subst, inl, inr, arith, eq-eqb, get_or-set_same}
use Rattle.std.proofs.lemmas.Bool.{cases_eq, ne_eqb, ltb-true, ltb-false}
use Rattle.std.specs.Prelude.{nat_lt, if◌then◌else◌, bit_or, slice_index, slice_set}
use Rattle.std.specs.List.{AllByRecursion}
use Rattle.f8_spec.specs.BusArbitration.{Seat, Ruling, Served, Conflict, Undriven, Astray, rule_of}
use Rattle.f8_spec.specs.Instructions.{row_of, clocks_before_fetch}
use Rattle.f8_spec.specs.MicroSteps.{Step, steps_before_fetch, last_fetch}
use Rattle.f8_spec.specs.Words.{places_on}
use Rattle.f8_spec.specs.declared.instructions.Op.{Op}
use Rattle.f8_spec.specs.declared.instructions.Op.TheVariants.{In, Ins}
use Rattle.f8_spec.specs.declared.instructions.Row.{Row}
use Rattle.f8_spec.specs.declared.instructions.Row.TheVariants.{StackToK, DataToPair, ReadData, StoreData, Immediate}
use Rattle.f8_spec.specs.declared.instructions.Row.TheVariants.{PortIn, PortOut, Call, Jump, LoadData, Branch}
use Rattle.f8_spec.specs.declared.instructions.Row.TheVariants.{BranchIsar, ShortIn, ShortOut, Idle, StackFromK, CallK}
use Rattle.f8_spec.specs.declared.instructions.Row.TheVariants.{JumpQ, DataFromQ, DataFromH, Return, Exchange, AddData}
use Rattle.f8_spec.specs.declared.instructions.Row.TheVariants.{Plain, PlainLong}
use Rattle.console_spec.specs.AddressSpace.{byte_at}
use Rattle.console_spec.specs.BusAccesses.{Access, accesses_before_fetch, last_access}
use Rattle.console_spec.specs.BusTrace.{Course, course_by, course_of, is_access, with_unaccessed, ending_steps}
use Rattle.console_spec.specs.CounterCopies.{Copy}
use Rattle.console_spec.specs.FlatStep.{clocks_by, with_acknowledged}
use Rattle.console_spec.specs.InterruptRequests.{Mark}
use Rattle.console_spec.specs.Processor.{Flow, Inputs, history_of, result_of}
use Rattle.console_spec.specs.Run.{Position, seats_of, gets_at, gets_all_at, instruction_course, position_after}
use Rattle.console_spec.specs.Services.{access_ruling}
use Rattle.console_spec.specs.Writes.{latch_of, readers, port_value, chip_port_byte}
use Rattle.console_spec.specs.declared.Event.{Event}
use Rattle.console_spec.specs.declared.Event.TheVariants.{Keys}
use Rattle.console_spec.specs.declared.PortWrite.{PortWrite}
use Rattle.bus_audit.specs.PlainSteps.{HaveBytes, plain, plain_course}
use Rattle.bus_audit.specs.declared.step.TraceStep.{TraceStep}
use Rattle.bus_audit.specs.FreeRuns.{AreFree}
use Rattle.bus_audit.specs.Choices.{first_byte, second_byte, interrupting_socket, from_last_fetch, place_in_chain, pulse_to}
use Rattle.bus_audit.specs.Determinacy.{with_free}
use Rattle.bus_audit.specs.ReadInputs.{second_code, reads_port, key_of, read_key, begins_end, from_end, pulse_of, read_pulse, read_inputs}
use Rattle.bus_audit.proofs.FreeInputs.{keys_after, pulses_after, keys_after-append, pulses_after-append, free_leaves}
use Rattle.bus_audit.proofs.SameSteps.{before_at, behind_at, own_at, port_at, chosen_with, same_steps}
use Rattle.bus_audit.proofs.ToldSteps.{first_small, second_small, told_in_parts, told_from_fetch, vector_told, in_tells, ins_tells}
use Rattle.bus_audit.proofs.PortReads.{OwnAlike, or_twice, read_as, value_alike, chip_alike, ins_reads_as}
use Rattle.bus_audit.proofs.Asking.{IsMarkedBy, Pulsing, AreSpent, placed_marked, pulse_placed, chosen_again, spent_now}
use Rattle.bus_audit.proofs.Shadows.{Shadow, late_by}
use Rattle.bus_audit.proofs.FreeChoices.{free-append}

-- ---- they are free inputs

key_of_free : (port byte : Option ℕ) → ((b : ℕ) → byte ≡ Some b → b < 256) → AreFree (key_of port byte)
key_of_free None byte small = tt
key_of_free (Some port) None small = tt
key_of_free (Some port) (Some byte) small = by (nat_lt port 2) refl
  where
    by : (own : Bool) → nat_lt port 2 ≡ own → AreFree (if own then [] else Keys port byte ∷ [])
    by true e = tt
    by false e = ((ltb-false port 2 e, small byte refl), tt)

pub read_key_free : (trace : List TraceStep) → HaveBytes trace → AreFree (read_key trace)
read_key_free trace small = by (reads_port (second_code trace))
  where
    by : (reads : Bool) → AreFree (if reads then key_of (first_byte trace) (second_byte trace) else [])
    by true = key_of_free (first_byte trace) (second_byte trace) (λ b e. second_small trace b e small)
    by false = tt

pulse_to_free : (place : Option ℕ) → AreFree (pulse_to place)
pulse_to_free None = tt
pulse_to_free (Some place) = (tt, tt)

pulse_of_free : (chain : List ℕ) (told : Option ℕ) → AreFree (pulse_of chain told)
pulse_of_free chain None = tt
pulse_of_free chain (Some socket) = pulse_to_free (place_in_chain socket chain)

pub read_free : (chain : List ℕ) (trace : List TraceStep) → HaveBytes trace → AreFree (read_inputs chain trace)
read_free chain trace small =
    free-append (read_key trace) (read_pulse chain trace) (read_key_free trace small) (pulse_of_free chain (interrupting_socket (from_end trace)))

-- ---- a key byte leaves the pulses, and a pulse the key bytes

key_of_unpulsed : (chain : List ℕ) (phi : ℕ) (port byte : Option ℕ) (marks : List Mark) → pulses_after chain phi (key_of port byte) marks ≡ marks
key_of_unpulsed chain phi None byte marks = refl
key_of_unpulsed chain phi (Some port) None marks = refl
key_of_unpulsed chain phi (Some port) (Some byte) marks = by (nat_lt port 2)
  where
    by : (own : Bool) → pulses_after chain phi (if own then [] else Keys port byte ∷ []) marks ≡ marks
    by true = refl
    by false = refl

pub read_key_unpulsed : (chain : List ℕ) (phi : ℕ) (trace : List TraceStep) (marks : List Mark) →
    pulses_after chain phi (read_key trace) marks ≡ marks
read_key_unpulsed chain phi trace marks = by (reads_port (second_code trace))
  where
    by : (reads : Bool) → pulses_after chain phi (if reads then key_of (first_byte trace) (second_byte trace) else []) marks ≡ marks
    by true = key_of_unpulsed chain phi (first_byte trace) (second_byte trace) marks
    by false = refl

pulse_to_unkeyed : (place : Option ℕ) (keys : List ℕ) → keys_after (pulse_to place) keys ≡ keys
pulse_to_unkeyed None keys = refl
pulse_to_unkeyed (Some place) keys = refl

pulse_of_unkeyed : (chain : List ℕ) (told : Option ℕ) (keys : List ℕ) → keys_after (pulse_of chain told) keys ≡ keys
pulse_of_unkeyed chain None keys = refl
pulse_of_unkeyed chain (Some socket) keys = pulse_to_unkeyed (place_in_chain socket chain) keys

pub read_keys : (chain : List ℕ) (trace : List TraceStep) (keys : List ℕ) →
    keys_after (read_inputs chain trace) keys ≡ keys_after (read_key trace) keys
read_keys chain trace keys =
    keys_after-append (read_key trace) (read_pulse chain trace) keys
    ∙ pulse_of_unkeyed chain (interrupting_socket (from_end trace)) (keys_after (read_key trace) keys)

pub read_pulses : (chain : List ℕ) (phi : ℕ) (trace : List TraceStep) (marks : List Mark) →
    pulses_after chain phi (read_inputs chain trace) marks ≡ pulses_after chain phi (read_pulse chain trace) marks
read_pulses chain phi trace marks =
    pulses_after-append chain phi (read_key trace) (read_pulse chain trace) marks
    ∙ ap (pulses_after chain phi (read_pulse chain trace)) (read_key_unpulsed chain phi trace marks)

-- ---- the port reads as the trace says

set_again : (writes : List PortWrite) (seats : List Seat) (keys others : List ℕ) (port : ℕ) → port < length keys →
    chip_port_byte port seats (slice_set keys port (chip_port_byte port seats others writes)) writes ≡ chip_port_byte port seats others writes
set_again writes seats keys others port within = elim (cases_eq (readers port seats) 1) [
  | inl one ↦
      let is : (readers port seats == 1) ≡ true = eq-eqb (readers port seats) 1 one in
      let value : chip_port_byte port seats others writes ≡ port_value port others writes =
      ap (λ (b : Bool). read_as b (port_value port others writes)) is in
      ap (λ (byte : ℕ). chip_port_byte port seats (slice_set keys port byte) writes) value
      ∙ ap (λ (b : Bool). read_as b (port_value port (slice_set keys port (port_value port others writes)) writes)) is
      ∙ latched one
      ∙ sym value
  | inr other ↦
      let is : (readers port seats == 1) ≡ false = ne_eqb (readers port seats) 1 other in
      ap (λ (b : Bool). read_as b (port_value port (slice_set keys port (chip_port_byte port seats others writes)) writes)) is
      ∙ sym (ap (λ (b : Bool). read_as b (port_value port others writes)) is)
]
  where
    latched : readers port seats ≡ 1 → port_value port (slice_set keys port (port_value port others writes)) writes ≡ port_value port others writes
    latched one =
        let latch = latch_of port writes in
        ap (bit_or latch) (get_or-set_same keys port (port_value port others writes) 0 within) ∙ or_twice latch (slice_index others port)

read_by : (writes : List PortWrite) (seats : List Seat) (keys others : List ℕ) (port : ℕ) (own : Bool) → nat_lt port 2 ≡ own →
    OwnAlike keys others → port < length keys →
    chip_port_byte port seats (keys_after (if own then [] else Keys port (chip_port_byte port seats others writes) ∷ []) keys) writes
    ≡ chip_port_byte port seats others writes
read_by writes seats keys others port true is alike within = chip_alike writes seats keys others port (alike port (ltb-true port 2 is))
read_by writes seats keys others port false is alike within = set_again writes seats keys others port within

-- what is read where the steps tell of a port
read_told : (trace : List TraceStep) (port byte : ℕ) → first_byte trace ≡ Some port → second_byte trace ≡ Some byte →
    second_code trace ≡ Some 0x1B → read_key trace ≡ (if nat_lt port 2 then [] else Keys port byte ∷ [])
read_told trace port byte first second code =
    ap (λ (o : Option ℕ). if reads_port o then key_of (first_byte trace) (second_byte trace) else []) code
    ∙ ap (λ (o : Option ℕ). key_of o (second_byte trace)) first
    ∙ ap (key_of (Some port)) second

module _ (y : Position) (trace more : List TraceStep) (keys : List ℕ) (pulses : List Mark) (small : HaveBytes trace)
    (size : length keys ≡ 256) (alike : OwnAlike keys y.flat.state.keys) where
  abbrev keyed : List ℕ
  keyed = keys_after (read_key trace) keys

  in_serves : (before_at In y).fault ≡ None → trace ≡ plain_course (instruction_course In y) ++ more →
      port_at In (with_free keyed pulses y) ≡ port_at In y
  in_serves served is =
      let port = byte_at y.flat.memory (places_on y.flat.state.flow.p 1) in
      let tells = in_tells y trace more served is in
      let within : port < 256 = first_small trace port tells.0 small in
      ap (λ (events : List Event). chip_port_byte port (seats_of y.copies) (keys_after events keys) y.flat.state.writes)
      (read_told trace port (port_at In y) tells.0 tells.1 tells.2)
      ∙ read_by y.flat.state.writes (seats_of y.copies) keys y.flat.state.keys port (nat_lt port 2) refl alike (omega (arith, within, size))

  ins_by : (n : ℕ) (own : Bool) → nat_lt n 2 ≡ own → (before_at (Ins n) y).fault ≡ None →
      trace ≡ plain_course (instruction_course (Ins n) y) ++ more →
      ins_reads_as y trace more keys pulses small size alike own (port_value n keyed y.flat.state.writes)
      (chip_port_byte n (seats_of y.copies) keyed y.flat.state.writes)
      ≡ ins_reads_as y trace more keys pulses small size alike own (port_value n y.flat.state.keys y.flat.state.writes)
      (chip_port_byte n (seats_of y.copies) y.flat.state.keys y.flat.state.writes)
  ins_by n true own served is =
      let within = ltb-true n 2 own in
      value_alike y.flat.state.writes keyed y.flat.state.keys n
      (free_leaves (read_key trace) keys n (read_key_free trace small) within ∙ alike n within)
  ins_by n false own served is =
      let tells = ins_tells n y trace more own served is in
      let within : n < 256 = first_small trace n tells.0 small in
      let read : port_at (Ins n) y ≡ chip_port_byte n (seats_of y.copies) y.flat.state.keys y.flat.state.writes =
      ap (λ (b : Bool). ins_reads_as y trace more keys pulses small size alike b (port_value n y.flat.state.keys y.flat.state.writes)
      (chip_port_byte n (seats_of y.copies) y.flat.state.keys y.flat.state.writes)) own in
      ap (λ (events : List Event). chip_port_byte n (seats_of y.copies) (keys_after events keys) y.flat.state.writes)
      (read_told trace n (port_at (Ins n) y) tells.0 tells.1 tells.2
      ∙ ap (λ (byte : ℕ). if nat_lt n 2 then [] else Keys n byte ∷ []) read)
      ∙ read_by y.flat.state.writes (seats_of y.copies) keys y.flat.state.keys n (nat_lt n 2) refl alike (omega (arith, within, size))

  pub key_serves : (op : Op) → (before_at op y).fault ≡ None → trace ≡ plain_course (instruction_course op y) ++ more →
      port_at op (with_free keyed pulses y) ≡ port_at op y
  key_serves In served is = in_serves served is
  key_serves (Ins n) served is = ins_by n (nat_lt n 2) refl served is
  key_serves op served is = refl

-- ---- where an instruction ends

abbrev AreInside : List Step → Type 0
AreInside steps = AllByRecursion (λ (s : Step). begins_end s.romc ≡ false) steps

module _ (i : Inputs) (c : Flow) (copies : List Copy) (tail : List TraceStep) where
  abbrev Passes : Course → Type 0
  Passes course = from_end (map plain course.steps ++ tail) ≡ from_end tail

  passes_ruled : (s : Step) (v : Ruling) (rest : Course) → begins_end s.romc ≡ false → Passes rest → Passes (course_by i s v rest)
  passes_ruled s (Served socket) rest inside later = rw inside later
  passes_ruled s (Conflict parties) rest inside later = refl
  passes_ruled s (Undriven at) rest inside later = refl
  passes_ruled s (Astray socket at reference) rest inside later = refl

  passes_idle : (s : Step) (rest : Course) → begins_end s.romc ≡ false → Passes rest → Passes (with_unaccessed i s rest)
  passes_idle s rest inside later = rw inside later

  pub passes : (steps : List Step) (accesses : List Access) → AreInside steps → Passes (course_of i c copies steps accesses)
  passes [] accesses inside = refl
  passes (s ∷ later) [] inside = passes_idle s (course_of i c copies later []) inside.0 (passes later [] inside.1)
  passes (s ∷ later) (a ∷ accesses) inside = by (is_access (rule_of s.romc)) (passes later accesses inside.1) (passes later (a ∷ accesses) inside.1)
    where
      by : (b : Bool) → Passes (course_of i c copies later accesses) → Passes (course_of i c copies later (a ∷ accesses)) →
          Passes (if b then course_by i s (access_ruling c copies a) (course_of i c copies later accesses)
          else with_unaccessed i s (course_of i c copies later (a ∷ accesses)))
      by true first second = passes_ruled s (access_ruling c copies a) (course_of i c copies later accesses) inside.0 first
      by false first second = passes_idle s (course_of i c copies later (a ∷ accesses)) inside.0 second

branch_inside : (taken : Bool) → AreInside (steps_before_fetch Branch taken)
branch_inside true = (refl, (refl, tt))
branch_inside false = (refl, (refl, tt))

branch_isar_inside : (taken : Bool) → AreInside (steps_before_fetch BranchIsar taken)
branch_isar_inside true = (refl, tt)
branch_isar_inside false = (refl, tt)

row_inside : (row : Row) (taken : Bool) → AreInside (steps_before_fetch row taken)
row_inside Plain taken = tt
row_inside PlainLong taken = tt
row_inside Idle taken = (refl, tt)
row_inside StackToK taken = (refl, (refl, tt))
row_inside StackFromK taken = (refl, (refl, tt))
row_inside CallK taken = (refl, (refl, tt))
row_inside JumpQ taken = (refl, (refl, tt))
row_inside DataToPair taken = (refl, (refl, tt))
row_inside DataFromQ taken = (refl, (refl, tt))
row_inside DataFromH taken = (refl, (refl, tt))
row_inside ReadData taken = (refl, tt)
row_inside StoreData taken = (refl, tt)
row_inside Return taken = (refl, tt)
row_inside Immediate taken = (refl, tt)
row_inside PortIn taken = (refl, (refl, tt))
row_inside PortOut taken = (refl, (refl, tt))
row_inside Call taken = (refl, (refl, (refl, (refl, tt))))
row_inside Jump taken = (refl, (refl, (refl, tt)))
row_inside LoadData taken = (refl, (refl, (refl, (refl, tt))))
row_inside Exchange taken = (refl, tt)
row_inside AddData taken = (refl, tt)
row_inside Branch taken = branch_inside taken
row_inside BranchIsar taken = branch_isar_inside taken
row_inside ShortIn taken = (refl, (refl, tt))
row_inside ShortOut taken = (refl, (refl, tt))

fetch_begins : (row : Row) (i : Inputs) (v : Ruling) (more : List TraceStep) →
    from_end (plain_course (course_by i (last_fetch row) v (record { steps = []; fault = None })) ++ more)
    ≡ plain_course (course_by i (last_fetch row) v (record { steps = []; fault = None })) ++ more
fetch_begins row i (Served socket) more = refl
fetch_begins row i (Conflict parties) more = refl
fetch_begins row i (Undriven at) more = refl
fetch_begins row i (Astray socket at reference) more = refl

ending_begins : (row : Row) (i : Inputs) (c : Flow) (copies : List Copy) (a : Access) (more : List TraceStep) (chosen : Option ℕ) →
    from_end (plain_course (course_of i c copies (ending_steps row chosen) (a ∷ [])) ++ more)
    ≡ plain_course (course_of i c copies (ending_steps row chosen) (a ∷ [])) ++ more
ending_begins row i c copies a more None = fetch_begins row i (access_ruling c copies a) more
ending_begins row i c copies a more (Some socket) = refl

-- where the steps that stand next are those of an instruction, they end as it does
end_told : (op : Op) (y : Position) (trace more : List TraceStep) → (before_at op y).fault ≡ None →
    trace ≡ plain_course (instruction_course op y) ++ more → from_end trace ≡ from_last_fetch op y trace
end_told op y trace more served is =
    let i = gets_all_at op y in
    let tail = plain_course (behind_at op y) ++ more in
    ap from_end (told_in_parts op y trace more served is)
    ∙ passes i y.flat.state.flow y.copies tail (steps_before_fetch (row_of op) i.taken) (accesses_before_fetch (row_of op) i)
    (row_inside (row_of op) i.taken)
    ∙ ending_begins (row_of op) i y.flat.state.flow y.copies (last_access (row_of op) i) more i.chosen
    ∙ sym (told_from_fetch op y trace more served is)

pub read_vector : (op : Op) (y : Position) (trace more : List TraceStep) → (before_at op y).fault ≡ None →
    trace ≡ plain_course (instruction_course op y) ++ more → interrupting_socket (from_end trace) ≡ (gets_all_at op y).chosen
read_vector op y trace more served is = ap interrupting_socket (end_told op y trace more served is) ∙ vector_told op y trace more served is

-- ---- the pulse

module _ (seats : List Seat) (writes : List PortWrite) (chain : List ℕ) (phi : ℕ) (spent : List Mark) where
  pub read_shape : (o : Option ℕ) → IsMarkedBy o phi spent (pulses_after chain phi (pulse_of chain o) spent)
  read_shape None = inl refl
  read_shape (Some s) = placed_marked chain phi spent s true

  abbrev pub read_pulsing : Pulsing seats writes chain phi spent
  read_pulsing = record {
    pulses = λ o. pulses_after chain phi (pulse_of chain o) spent;
    shape = read_shape;
    comes = λ s seat there takes has. pulse_placed chain phi spent s has;
  }

-- at a position beside which these pulses are spent
module _ (y : Position) (keys : List ℕ) (pulses : List Mark) (shadow : Shadow y keys pulses) (op : Op) (trace more : List TraceStep)
    (is : trace ≡ plain_course (instruction_course op y) ++ more) (served : (before_at op y).fault ≡ None) where
  abbrev told : Option ℕ
  told = interrupting_socket (from_end trace)

  abbrev time : ℕ
  time = y.flat.state.phi + clocks_before_fetch op (own_at op y).taken

  abbrev pub marks_read : List Mark
  marks_read = pulses_after y.chain y.flat.state.phi (read_pulse y.chain trace) pulses

  told_is : told ≡ chosen_with op y (history_of y.flat.state) (own_at op y)
  told_is = read_vector op y trace more served is

  pub pulse_serves : chosen_with op y (history_of (with_free keys marks_read y).flat.state) (own_at op y)
      ≡ chosen_with op y (history_of y.flat.state) (own_at op y)
  pulse_serves =
      let s = y.flat.state in
      let order : s.phi ≤ time = omega arith in
      chosen_again (seats_of y.copies) s.writes s.acknowledged s.pulses pulses y.chain s.phi time told
      (read_pulsing (seats_of y.copies) s.writes y.chain s.phi pulses) shadow.spent
      shadow.steady.writes shadow.steady.acknowledged order op (result_of op (own_at op y) s.registers).status.icb (sym told_is)
      ∙ told_is

  -- and behind the instruction it is spent
  pub read_spent : AreSpent (position_after op y).flat.state.acknowledged marks_read
  read_spent =
      let s = y.flat.state in
      let i = gets_at op y in
      let ending = s.phi + clocks_by i.chosen op i.taken in
      let order : s.phi ≤ time = omega arith in
      subst (λ (o : Option ℕ). AreSpent (with_acknowledged o ending s.acknowledged) marks_read) told_is
      (spent_now (seats_of y.copies) s.writes s.acknowledged s.pulses pulses y.chain s.phi time told
      (read_pulsing (seats_of y.copies) s.writes y.chain s.phi pulses) shadow.spent
      shadow.steady.writes shadow.steady.acknowledged order ending
      (λ socket e. late_by i.chosen socket op i.taken s.phi (sym told_is ∙ e)))

-- ---- the steps

-- an instruction does the same with the key byte that is read, and with pulses by which the same interrupt is taken
pub read_steps : (y : Position) (keys : List ℕ) (pulses marks : List Mark) → Shadow y keys pulses → (op : Op) (trace more : List TraceStep) →
    HaveBytes trace → trace ≡ plain_course (instruction_course op y) ++ more →
    ((before_at op y).fault ≡ None → chosen_with op y (history_of (with_free keys marks y).flat.state) (own_at op y)
    ≡ chosen_with op y (history_of y.flat.state) (own_at op y)) →
    instruction_course op (with_free (keys_after (read_key trace) keys) marks y) ≡ instruction_course op y
read_steps y keys pulses marks shadow op trace more small is chosen =
    same_steps op y (keys_after (read_key trace) keys) marks (λ served. record {
      port = key_serves y trace more keys marks small shadow.size shadow.alike op served is;
      chosen = chosen served;
    })
