-- The turns of a run: an instruction, power-on and reset of the flat machine, with the copies of the chips beside it. An instruction that
-- has an access which is not served stops the run.
use Rattle.std.specs.Prelude.{ℕ, false, List, [], ◌∷◌, length, map, slice_get, Option, Some, None}
use Rattle.std.specs.List.{enumerate_from, range_with_len}
use Rattle.f8_spec.specs.Instructions.{decoded, row_of}
use Rattle.f8_spec.specs.MicroSteps.{reset_steps}
use Rattle.f8_spec.specs.ChipState.{ChipView}
use Rattle.f8_spec.specs.BusArbitration.{Seat, seat_of}
use Rattle.f8_spec.specs.declared.chips.PowerOn.{PowerOn}
use Rattle.f8_spec.specs.declared.instructions.Op.{Op}
use Rattle.console_spec.specs.AddressSpace.{byte_at}
use Rattle.console_spec.specs.Processor.{Inputs, after_reset, with_pulse}
use Rattle.console_spec.specs.FlatMachine.{FlatState, flat_at_power, flat_after, gets, gets_all}
use Rattle.console_spec.specs.CounterCopies.{Copy, copies_after, reset_copy}
use Rattle.console_spec.specs.Powering.{start_in}
use Rattle.console_spec.specs.BusAccesses.{Access, accesses_of}
use Rattle.console_spec.specs.Services.{Fault, first_fault}
use Rattle.console_spec.specs.BusTrace.{Course, course_of, steps_with}

-- the flat machine, the copies of the chips by their sockets, and the sockets of the chips described, in the order of the description
pub record Position : Type 0 where
  pub flat : FlatState
  pub copies : List Copy
  pub chain : List ℕ

abbrev pub seats_of : List Copy → List Seat
seats_of copies = map (λ c. c.seat) copies

-- ---- a pulse from outside

abbrev pub pulse_in : Option ℕ → Position → Position
pulse_in None x = x
pulse_in (Some socket) x = record x { flat = record x.flat { state = with_pulse socket x.flat.state } }

-- at the chip in a place of the chain, and no pulse where there is no such chip
abbrev pub with_pulse_at : ℕ → Position → Position
with_pulse_at chip x = pulse_in (slice_get x.chain chip) x

-- ---- an instruction

-- what an instruction gets at a position, without and with the opcode at its end
abbrev pub gets_at : Op → Position → Inputs
gets_at op x = gets op (seats_of x.copies) x.chain x.flat

abbrev pub gets_all_at : Op → Position → Inputs
gets_all_at op x = gets_all op (seats_of x.copies) x.chain x.flat

-- why an instruction is not done: the first of its accesses that is not served
abbrev pub instruction_fault : Op → Position → Option Fault
instruction_fault op x = first_fault x.flat.state.flow x.copies (accesses_of op (gets_at op x))

abbrev pub position_after : Op → Position → Position
position_after op x = record {
  flat = flat_after op (seats_of x.copies) x.chain x.flat;
  copies = copies_after (row_of op) (gets_at op x) x.copies;
  chain = x.chain;
}

-- its bus steps, up to the first that is not served
abbrev pub instruction_course : Op → Position → Course
instruction_course op x =
    let i = gets_all_at op x in
    course_of i x.flat.state.flow x.copies (steps_with (row_of op) i) (accesses_of op i)

-- ---- power-on and reset

-- Power-on, on a rack of chips that are fitted and a chain of those described, with what is said of each. The copies are those that reset
-- will leave: the stack register and the data counters of a chip stand where power-on left its counters.
abbrev pub power_position : List ChipView → List ℕ → List PowerOn → ℕ → Position
power_position vs chain powers fill = record {
  flat = flat_at_power vs chain powers fill;
  copies = map (reset_copy (start_in fill chain powers)) (enumerate_from 0 (map seat_of vs));
  chain = chain;
}

-- the chain of chips that are all described, each in a socket of its own in their order
abbrev pub chain_in_order : List ChipView → List ℕ
chain_in_order vs = range_with_len 0 (length vs)

-- reset fetches at 0, on each set of counters
abbrev pub reset_access : Access
reset_access = record { romc = 0x00; place = λ second c. 0 }

abbrev pub reset_fault : Position → Option Fault
reset_fault x = first_fault x.flat.state.flow x.copies (reset_access ∷ [])

-- reset gets nothing but the opcode at 0
abbrev pub reset_gets : List ℕ → Inputs
reset_gets memory = record {
  taken = false;
  chosen = None;
  operand = 0;
  second = 0;
  opcode = byte_at memory 0;
  data_byte = 0;
  data_high = 0;
  data_low = 0;
  stack_high = 0;
  stack_low = 0;
  accumulator = 0;
  k_high = 0;
  k_low = 0;
  q_high = 0;
  q_low = 0;
  h_high = 0;
  h_low = 0;
  port = 0;
  port_byte = 0;
  vector_high = 0;
  vector_low = 0;
}

-- its bus steps, up to the fetch
abbrev pub reset_course : Position → Course
reset_course x = course_of (reset_gets x.flat.memory) x.flat.state.flow x.copies reset_steps (reset_access ∷ [])

abbrev pub position_after_reset : Position → Position
position_after_reset x = record x { flat = record x.flat { state = after_reset x.flat.state } }

-- ---- a turn

-- why a run stops
pub data Stop : Type 0 where
  -- all its instructions are done
  Done : Stop
  -- a bus step is not served
  Unserved : Fault → Stop
  -- at this address stands this opcode, which no instruction has
  Reserved : ℕ → ℕ → Stop

-- an instruction, or reset, is done and leads on, or it stops the run
pub data Turn : Type 0 where
  Goes : Position → Turn
  Stops : Stop → Turn

-- where the run stands at its end, and why it stops there
pub record Ending : Type 0 where
  pub position : Position
  pub stop : Stop

abbrev pub goes_unless : Option Fault → Position → Turn
goes_unless None x = Goes x
goes_unless (Some fault) x = Stops (Unserved fault)

-- the next instruction by its opcode; what becomes of an instruction differs between a machine with chips and one without
abbrev pub decided : (Op → Turn) → ℕ → ℕ → Option Op → Turn
decided carried_out at code None = Stops (Reserved at code)
decided carried_out at code (Some op) = carried_out op

abbrev pub opcode_at : Position → ℕ
opcode_at x = byte_at x.flat.memory x.flat.state.flow.p

abbrev pub turn_by : (Op → Turn) → Position → Turn
turn_by carried_out x =
    decided carried_out x.flat.state.flow.p (opcode_at x) (decoded (opcode_at x))

-- the next instruction on the rack
abbrev pub next : Position → Turn
next x = turn_by (λ op. goes_unless (instruction_fault op x) (position_after op x)) x

-- the next instruction on the flat instruction set alone
abbrev pub flat_next : Position → Turn
flat_next x = turn_by (λ op. Goes (position_after op x)) x

-- ---- its bus steps

-- the bus steps of the next instruction; where its opcode stops the run there are none
abbrev pub course_as : Position → Option Op → Course
course_as x None = record { steps = []; fault = None }
course_as x (Some op) = instruction_course op x

abbrev pub turn_course : Position → Course
turn_course x = course_as x (decoded (opcode_at x))
