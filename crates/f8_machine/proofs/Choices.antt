-- As the last step of an instruction begins, the machine chooses the chip that the flat machine chooses.
use Rattle.std.proofs.Common.{◌≡◌, ℕ, ◌+◌, ◌-◌, ◌<◌, ◌≤◌, Bool, true, false, List, [], ◌∷◌, refl, sym, ap, ap₂, ◌∙◌}
use Rattle.std.proofs.Common.{subst, arith}
use Rattle.std.specs.Prelude.{not, nat_lt, ◌&&◌, ◌||◌, if◌then◌else◌, Option, Some, None}
use Rattle.f8_spec.specs.BusArbitration.{Seat}
use Rattle.f8_spec.specs.ChipState.{ChipState}
use Rattle.f8_spec.specs.Instructions.{decoded, row_of, row_clocks, has_long_fetch, is_shielding, step_clocks}
use Rattle.f8_spec.specs.Instructions.{clocks_before_fetch}
use Rattle.f8_spec.specs.MicroSteps.{clocks_along}
use Rattle.f8_spec.specs.declared.instructions.Op.{Op}
use Rattle.f8_spec.specs.declared.instructions.Op.TheVariants.{Outs, Ins, LrWJ}
use Rattle.f8_spec.specs.declared.instructions.Row.{Row}
use Rattle.f8_spec.specs.declared.instructions.Row.TheVariants.{Branch, BranchIsar, Idle, PortOut, ShortIn, ShortOut}
use Rattle.f8_spec.proofs.ValuesBelow.{values_below, same_below}
use Rattle.console_spec.specs.BusTrace.{TracedStep, ending_steps}
use Rattle.console_spec.specs.FlatStep.{chosen_at, clocks_by, with_acknowledged}
use Rattle.console_spec.specs.InterruptChoice.{first_asking, is_asking_at}
use Rattle.console_spec.specs.InterruptRequests.{Mark, History}
use Rattle.console_spec.specs.Processor.{Inputs, Registers, effect, history_of, own_inputs, result_of}
use Rattle.console_spec.specs.Processor.{with_write, write_at}
use Rattle.console_spec.specs.Run.{Position, gets_at, gets_all_at, position_after, seats_of}
use Rattle.console_spec.specs.declared.PortWrite.{PortWrite}
use Rattle.console_spec.proofs.InputLaws.{result_of-with_interrupt, result_of-with_opcode}
use Rattle.cpu3850.specs.CpuPorts.{read_by}
use Rattle.cpu3850.specs.CpuSteps.{CpuState, last_step, taken, taken_as, worked}
use Rattle.cpu3850.specs.Reaching.{done}
use Rattle.data_bus.specs.Racks.{views}
use Rattle.probe.specs.ProbeState.{ProbeState}
use Rattle.f8_machine.specs.Choosing.{asks_in, chosen_by, first_in}
use Rattle.f8_machine.proofs.Acknowledged.{writes_are}
use Rattle.f8_machine.proofs.Along.{Along, acknowledged_along, history_with}
use Rattle.f8_machine.proofs.Copies.{seats_same}
use Rattle.f8_machine.proofs.Endings.{ending_portless}
use Rattle.f8_machine.proofs.PortValues.{bus_port}
use Rattle.f8_machine.proofs.RequestAnswers.{sampled}
use Rattle.f8_machine.proofs.Rows.{has_put}
use Rattle.f8_machine.proofs.Starts.{instruction_aim}

-- ---- instructions that write a port of a chip

abbrev put_shields_in : Option Op → Bool
put_shields_in None = true
put_shields_in (Some op) = not (has_put (row_of op)) || is_shielding op

all_shield : values_below (λ code. put_shields_in (decoded code)) 256 ≡ values_below (λ code. true) 256
unfolding values_below decoded
all_shield = refl

-- each of them shields its end
pub put_shields : (code : ℕ) (op : Op) → code < 256 → decoded code ≡ Some op → has_put (row_of op) ≡ true →
    is_shielding op ≡ true
put_shields code op small held put =
    by (is_shielding op) (ap put_shields_in (sym held)
    ∙ same_below (λ k. put_shields_in (decoded k)) (λ k. true) 256 code all_shield small)
  where
    by : (b : Bool) → (not (has_put (row_of op)) || b) ≡ true → b ≡ true
    by true e = refl
    by false e = let no : (not true || false) ≡ true = subst (λ (p : Bool). (not p || false) ≡ true) put e in cc

-- the others write none
pub no_put : (row : Row) (i : Inputs) (seats : List Seat) → has_put row ≡ false → bus_port row i seats ≡ None
no_put PortOut i seats none = cc
no_put ShortOut i seats none = cc
no_put row i seats none = refl

-- ---- the interrupt control bit

same_or : (test : Bool) (m n : Registers) → m.status.icb ≡ n.status.icb → (if test then m else n).status.icb ≡ n.status.icb
same_or true m n same = same
same_or false m n same = refl

-- the last step of an instruction that doesn't shield its end leaves it
ins_icb : (own : Bool) (n byte : ℕ) (m : Registers) →
    (worked (if own then Idle else ShortIn) (Ins n) (last_step (if own then Idle else ShortIn)) byte m).status.icb
    ≡ m.status.icb
unfolding effect
ins_icb true n byte m = refl
ins_icb false n byte m = refl

outs_icb : (own : Bool) (n byte : ℕ) (m : Registers) →
    (worked (if own then Idle else ShortOut) (Outs n) (last_step (if own then Idle else ShortOut)) byte m).status.icb
    ≡ m.status.icb
unfolding effect
outs_icb true n byte m = refl
outs_icb false n byte m = refl

pub last_icb : (op : Op) (byte : ℕ) (m : Registers) → is_shielding op ≡ false →
    (worked (row_of op) op (last_step (row_of op)) byte m).status.icb ≡ m.status.icb
unfolding effect
last_icb LrWJ byte m other = cc
last_icb (Ins n) byte m other = ins_icb (nat_lt n 2) n byte m
last_icb (Outs n) byte m other = outs_icb (nat_lt n 2) n byte m
last_icb op byte m other = refl

-- ---- what stands as the last step begins

-- the clocks of the last fetch are among those of a row
fetch_among : (row : Row) (taken : Bool) → (if has_long_fetch row then 6 else 4) ≤ row_clocks row taken
fetch_among Branch true = omega arith
fetch_among Branch false = omega arith
fetch_among BranchIsar true = omega arith
fetch_among BranchIsar false = omega arith
fetch_among row taken = omega arith

-- the time is that of the sample
sample_time : (op : Op) (taken : Bool) (chosen : Option ℕ) (time phi : ℕ) →
    time + clocks_along (ending_steps (row_of op) chosen) ≡ phi + clocks_by chosen op taken →
    time ≡ phi + clocks_before_fetch op taken
sample_time op taken None time phi e = by (has_long_fetch (row_of op)) (fetch_among (row_of op) taken) e
  where
    by : (long : Bool) → (if long then 6 else 4) ≤ row_clocks (row_of op) taken →
        time + (0 + step_clocks long) ≡ phi + row_clocks (row_of op) taken →
        time ≡ phi + (row_clocks (row_of op) taken - (if long then 6 else 4))
    by true among e = omega arith
    by false among e = omega arith
sample_time op taken (Some socket) time phi e = omega (arith, e)

-- the acknowledgements are those before the instruction
acknowledged_back : (row : Row) (chosen : Option ℕ) (phi : ℕ) (ms ns : List Mark) →
    acknowledged_along chosen phi (ending_steps row chosen) ms ≡ with_acknowledged chosen phi ns → ms ≡ ns
acknowledged_back row None phi ms ns e = e
acknowledged_back row (Some socket) phi ms ns e = cc

no_put_of : (op : Op) → is_shielding op ≡ false → (has_put (row_of op) ≡ true → is_shielding op ≡ true) →
    has_put (row_of op) ≡ false
no_put_of op other shields = by (has_put (row_of op)) shields
  where
    by : (put : Bool) → (put ≡ true → is_shielding op ≡ true) → put ≡ false
    by true shields = let yes : is_shielding op ≡ true = shields refl in cc
    by false shields = refl

module _ (op : Op) (x : Position) (probe : ProbeState) (states : List ChipState) (so_far : List TracedStep)
    (left : Along (gets_all_at op x) x (instruction_aim op x) (ending_steps (row_of op) (gets_all_at op x).chosen) probe
    (views states) so_far) (other : is_shielding op ≡ false)
    (shields : has_put (row_of op) ≡ true → is_shielding op ≡ true) where
  -- an instruction that doesn't shield its end has left the history
  same_writes : left.writes ≡ x.flat.state.writes
  same_writes =
      writes_are (gets_all_at op x) x (instruction_aim op x) (ending_steps (row_of op) (gets_all_at op x).chosen) probe
      (views states) so_far left (ending_portless (row_of op) (gets_all_at op x).chosen)
      ∙ ap (λ (port : Option ℕ). with_write (write_at (position_after op x).flat.state.phi
      (gets_all_at op x).accumulator port) x.flat.state.writes)
      (no_put (row_of op) (gets_all_at op x) (seats_of x.copies) (no_put_of op other shields))

  same_marks : left.acknowledged ≡ x.flat.state.acknowledged
  same_marks = acknowledged_back (row_of op) (gets_all_at op x).chosen (position_after op x).flat.state.phi
      left.acknowledged x.flat.state.acknowledged left.acknowledged_later

  same_time : left.time ≡ x.flat.state.phi + clocks_before_fetch op (gets_all_at op x).taken
  same_time = sample_time op (gets_all_at op x).taken (gets_all_at op x).chosen left.time x.flat.state.phi left.ends

  -- so each chip asks where the flat machine has it ask
  pub asks_alike : (socket : ℕ) → asks_in states socket
      ≡ is_asking_at (seats_of x.copies) (history_of x.flat.state)
      (x.flat.state.phi + clocks_before_fetch op (gets_all_at op x).taken) socket
  asks_alike socket =
      sampled left.time (history_with x left.writes left.acknowledged) (views states) socket left.in_time
      ∙ ap (λ (seats : List Seat). is_asking_at seats (history_with x left.writes left.acknowledged) left.time socket)
      (seats_same left.now probe.last x.copies (views states) left.copies)
      ∙ ap (λ (ws : List PortWrite). is_asking_at (seats_of x.copies) (history_with x ws left.acknowledged) left.time
      socket) same_writes
      ∙ ap (λ (ms : List Mark). is_asking_at (seats_of x.copies) (history_with x x.flat.state.writes ms) left.time
      socket) same_marks
      ∙ ap (λ (time : ℕ). is_asking_at (seats_of x.copies) (history_of x.flat.state) time socket) same_time

-- the first that asks
first_alike : (states : List ChipState) (seats : List Seat) (h : History) (time : ℕ) →
    ((socket : ℕ) → asks_in states socket ≡ is_asking_at seats h time socket) → (chain : List ℕ) →
    first_in states chain ≡ first_asking seats h time chain
first_alike states seats h time alike [] = refl
first_alike states seats h time alike (socket ∷ later) =
    ap₂ (λ (asks : Bool) (found : Option ℕ). if asks then Some socket else found) (alike socket)
    (first_alike states seats h time alike later)

-- where an interrupt may be taken at all
chosen_alike : (op : Op) (icb : Bool) (states : List ChipState) (seats : List Seat) (chain : List ℕ) (h : History)
    (time : ℕ) → (is_shielding op ≡ false → first_in states chain ≡ first_asking seats h time chain) →
    chosen_by (Some op) icb states chain ≡ chosen_at op icb seats chain h time
unfolding chosen_at
chosen_alike op icb states seats chain h time alike = by (is_shielding op) icb alike
  where
    by : (shields icb : Bool) → (shields ≡ false → first_in states chain ≡ first_asking seats h time chain) →
        (if not shields && icb then first_in states chain else None)
        ≡ (if shields || not icb then None else first_asking seats h time chain)
    by true icb alike = refl
    by false true alike = alike refl
    by false false alike = refl

-- ---- the choice

-- what the instruction brings, without the opcode and the interrupt at its end
own_result : (op : Op) (x : Position) (m : Registers) →
    result_of op (gets_all_at op x) m ≡ result_of op (own_inputs op x.flat.memory (seats_of x.copies) x.flat.state) m
own_result op x m =
    result_of-with_opcode op (gets_all_at op x).opcode (gets_at op x) m
    ∙ result_of-with_interrupt op (gets_at op x).chosen (gets_at op x).vector_high (gets_at op x).vector_low
    (own_inputs op x.flat.memory (seats_of x.copies) x.flat.state) m

-- the bit as the last step begins is that after the instruction
same_bit : (op : Op) (x : Position) (start cpu : CpuState) (index : ℕ) → decoded cpu.opcode ≡ Some op →
    index ≡ last_step (row_of op) → is_shielding op ≡ false → start.registers ≡ x.flat.state.registers →
    taken index (gets_all_at op x).opcode cpu ≡ done op (gets_all_at op x) start →
    cpu.registers.status.icb
    ≡ (result_of op (own_inputs op x.flat.memory (seats_of x.copies) x.flat.state) x.flat.state.registers).status.icb
same_bit op x start cpu index held last other registers ends =
    let byte = (gets_all_at op x).opcode in
    sym (last_icb op (read_by op byte cpu.ports) cpu.registers other)
    ∙ ap (λ (n : ℕ). (worked (row_of op) op n (read_by op byte cpu.ports) cpu.registers).status.icb) (sym last)
    ∙ ap (λ (found : Option Op). (taken_as found index byte cpu).registers.status.icb) (sym held)
    ∙ ap (λ (c : CpuState). c.registers.status.icb) ends
    ∙ ap (λ (m : Registers). m.status.icb) (own_result op x start.registers)
    ∙ ap (λ (m : Registers). (result_of op (own_inputs op x.flat.memory (seats_of x.copies) x.flat.state) m).status.icb)
    registers

-- no interrupt at the end of an instruction that shields it
pub shielded : (op : Op) (x : Position) → is_shielding op ≡ true → (gets_all_at op x).chosen ≡ None
unfolding chosen_at
shielded op x shields = rw shields refl

shielded_by : (op : Op) (icb : Bool) (seats : List Seat) (chain : List ℕ) (h : History) (time : ℕ) →
    is_shielding op ≡ true → chosen_at op icb seats chain h time ≡ None
unfolding chosen_at
shielded_by op icb seats chain h time shields = rw shields refl

pub choice_is : (op : Op) (x : Position) (start cpu : CpuState) (probe : ProbeState) (states : List ChipState)
    (chain : List ℕ) (so_far : List TracedStep) (index : ℕ) →
    Along (gets_all_at op x) x (instruction_aim op x) (ending_steps (row_of op) (gets_all_at op x).chosen) probe
    (views states) so_far → (has_put (row_of op) ≡ true → is_shielding op ≡ true) →
    decoded cpu.opcode ≡ Some op → index ≡ last_step (row_of op) → start.registers ≡ x.flat.state.registers →
    chain ≡ x.chain → taken index (gets_all_at op x).opcode cpu ≡ done op (gets_all_at op x) start →
    chosen_by (decoded cpu.opcode) cpu.registers.status.icb states chain ≡ (gets_all_at op x).chosen
unfolding own_inputs
choice_is op x start cpu probe states chain so_far index left shields held last registers same ends =
    ap (λ (found : Option Op). chosen_by found cpu.registers.status.icb states chain) held
    ∙ ap (chosen_by (Some op) cpu.registers.status.icb states) same
    ∙ chosen_alike op cpu.registers.status.icb states (seats_of x.copies) x.chain (history_of x.flat.state)
    (x.flat.state.phi + clocks_before_fetch op (gets_all_at op x).taken)
    (λ other. first_alike states (seats_of x.copies) (history_of x.flat.state) _
    (asks_alike op x probe states so_far left other shields) x.chain)
    ∙ by (is_shielding op) refl
  where
    by : (b : Bool) → is_shielding op ≡ b →
        chosen_at op cpu.registers.status.icb (seats_of x.copies) x.chain (history_of x.flat.state)
        (x.flat.state.phi + clocks_before_fetch op (gets_all_at op x).taken) ≡ (gets_all_at op x).chosen
    by true shielding = shielded_by op _ _ _ _ _ shielding ∙ sym (shielded op x shielding)
    by false other = ap (λ (icb : Bool). chosen_at op icb (seats_of x.copies) x.chain (history_of x.flat.state)
        (x.flat.state.phi + clocks_before_fetch op (gets_all_at op x).taken))
        (same_bit op x start cpu index held last other registers ends)
