-- Along the steps of an instruction the CPU comes to the registers of the flat machine, for each of the 67 instructions.
use Rattle.std.proofs.Common.{◌≡◌, ◌==◌, ℕ, ◌+◌, Bool, true, false, List, [], ◌∷◌, length, zero-add, refl, arith}
use Rattle.std.specs.Prelude.{Some, nat_lt}
use Rattle.std.proofs.lemmas.Bool.{ne_eqb}
use Rattle.f8_spec.specs.BusCodes.{driver_of}
use Rattle.f8_spec.specs.Instructions.{decoded, row_of}
use Rattle.f8_spec.specs.MicroSteps.{Step as MicroStep, steps_of}
use Rattle.f8_spec.specs.declared.instructions.Op.{Op}
use Rattle.f8_spec.specs.declared.instructions.Op.TheVariants.{LrKP, LrPK, Pk, LrP0Q, LrQDc, LrDcQ, LrDcH, LrHDc, Lm}
use Rattle.f8_spec.specs.declared.instructions.Op.TheVariants.{St, Di, Ei, Pop, LrWJ, Li, Ni, Oi, Xi, Ai, Ci, In, Out}
use Rattle.f8_spec.specs.declared.instructions.Op.TheVariants.{Pi, Jmp, Dci, Xdc, Bt, Am, Amd, Nm, Om, Xm, Cm, Adc, Br7}
use Rattle.f8_spec.specs.declared.instructions.Op.TheVariants.{Bf, Ins, Outs, Asd}
use Rattle.f8_spec.specs.declared.instructions.Row.{Row}
use Rattle.console_spec.specs.Processor.{Registers, Inputs, effect, byte_of, is_taken, port_field}
use Rattle.cpu3850.specs.CpuSteps.{CpuState, last_step, driven_in, taken_in}
use Rattle.cpu3850.specs.Reaching.{is_placed_by, Places, from_cpu, Reaches, done}
use Rattle.cpu3850.proofs.PlanLaws.{length-steps_of}

-- the same, with the instruction and its row named in place of the opcode held
abbrev ReachesBy : Row → Op → Inputs → ℕ → List MicroStep → CpuState → CpuState → Type 0
ReachesBy row op i index [] c end = c ≡ end
ReachesBy row op i index (s ∷ rest) c end =
    Places (is_placed_by (driver_of s.romc)) (driven_in row (port_field op) index c.registers) (byte_of i s.source)
    × ReachesBy row op i (index + 1) rest (taken_in row op index (byte_of i s.source) c) end

-- `PI` and `JMP` keep the high byte of the target in the accumulator, where the last step before the fetch finds it
kept_by_call : (byte : ℕ) (m : Registers) → (effect Pi byte m).accumulator ≡ byte
unfolding effect
kept_by_call byte m = refl

kept_by_jump : (byte : ℕ) (m : Registers) → (effect Jmp byte m).accumulator ≡ byte
unfolding effect
kept_by_jump byte m = refl

-- `INS`, of a port of the CPU's own or of a chip's
reaches_in : (n : ℕ) (i : Inputs) (c : CpuState) (taken own : Bool) → nat_lt n 2 ≡ own →
    ReachesBy (row_of (Ins n)) (Ins n) (from_cpu (Ins n) c i) 0 (steps_of (row_of (Ins n)) taken) c
    (done (Ins n) (from_cpu (Ins n) c i) c)
unfolding effect
reaches_in n i c taken true is_own = rw is_own (refl, (tt, rw is_own refl))
reaches_in n i c taken false is_own = rw is_own (refl, (tt, (tt, rw is_own refl)))

-- `OUTS`, likewise
reaches_out : (n : ℕ) (i : Inputs) (c : CpuState) (taken own : Bool) → nat_lt n 2 ≡ own →
    ReachesBy (row_of (Outs n)) (Outs n) (from_cpu (Outs n) c i) 0 (steps_of (row_of (Outs n)) taken) c
    (done (Outs n) (from_cpu (Outs n) c i) c)
unfolding effect
reaches_out n i c taken true is_own = rw is_own (refl, (tt, rw is_own refl))
reaches_out n i c taken false is_own = rw is_own (refl, (refl, (tt, rw is_own refl)))

-- each instruction by its steps, with its branch taken or not
reaches_by : (op : Op) (i : Inputs) (c : CpuState) (taken : Bool) →
    ReachesBy (row_of op) op (from_cpu op c i) 0 (steps_of (row_of op) taken) c (done op (from_cpu op c i) c)
unfolding effect
reaches_by LrKP i c taken = (tt, (tt, (tt, refl)))
reaches_by LrPK i c taken = (refl, (refl, (tt, refl)))
reaches_by Pk i c taken = (refl, (refl, (tt, refl)))
reaches_by LrP0Q i c taken = (refl, (refl, (tt, refl)))
reaches_by LrQDc i c taken = (tt, (tt, (tt, refl)))
reaches_by LrDcQ i c taken = (refl, (refl, (tt, refl)))
reaches_by LrDcH i c taken = (refl, (refl, (tt, refl)))
reaches_by LrHDc i c taken = (tt, (tt, (tt, refl)))
reaches_by Lm i c taken = (tt, (tt, refl))
reaches_by St i c taken = (refl, (tt, refl))
reaches_by Di i c taken = (refl, (tt, refl))
reaches_by Ei i c taken = (refl, (tt, refl))
reaches_by Pop i c taken = (refl, (tt, refl))
reaches_by LrWJ i c taken = (refl, (tt, refl))
reaches_by Li i c taken = (tt, (tt, refl))
reaches_by Ni i c taken = (tt, (tt, refl))
reaches_by Oi i c taken = (tt, (tt, refl))
reaches_by Xi i c taken = (tt, (tt, refl))
reaches_by Ai i c taken = (tt, (tt, refl))
reaches_by Ci i c taken = (tt, (tt, refl))
reaches_by In i c taken = (tt, (tt, (tt, refl)))
reaches_by Out i c taken = (tt, (refl, (tt, refl)))
reaches_by Pi i c taken = (tt, (refl, (tt, (kept_by_call i.operand c.registers, (tt, refl)))))
reaches_by Jmp i c taken = (tt, (tt, (kept_by_jump i.operand c.registers, (tt, refl))))
reaches_by Dci i c taken = (tt, (tt, (tt, (tt, (tt, refl)))))
reaches_by Xdc i c taken = (refl, (tt, refl))
reaches_by (Bt t) i c true = (refl, (tt, (tt, refl)))
reaches_by (Bt t) i c false = (refl, (tt, (tt, refl)))
reaches_by (Bf t) i c true = (refl, (tt, (tt, refl)))
reaches_by (Bf t) i c false = (refl, (tt, (tt, refl)))
reaches_by Br7 i c true = (tt, (tt, refl))
reaches_by Br7 i c false = (tt, (tt, refl))
reaches_by Am i c taken = (tt, (tt, refl))
reaches_by Amd i c taken = (tt, (tt, refl))
reaches_by Nm i c taken = (tt, (tt, refl))
reaches_by Om i c taken = (tt, (tt, refl))
reaches_by Xm i c taken = (tt, (tt, refl))
reaches_by Cm i c taken = (tt, (tt, refl))
reaches_by Adc i c taken = (refl, (tt, refl))
reaches_by (Ins n) i c taken = reaches_in n i c taken (nat_lt n 2) refl
reaches_by (Outs n) i c taken = reaches_out n i c taken (nat_lt n 2) refl
reaches_by (Asd r) i c taken = (refl, (tt, refl))
reaches_by op i c taken = (tt, refl)

-- the opcode held stays to the last step, so that it names the instruction in each
reaches_held : (op : Op) (i : Inputs) (index : ℕ) (rest : List MicroStep) (c end : CpuState) →
    decoded c.opcode ≡ Some op → index + length rest ≡ last_step (row_of op) + 1 →
    ReachesBy (row_of op) op i index rest c end → Reaches i index rest c end
reaches_held op i index [] c end held count there = there
reaches_held op i index (s ∷ []) c end held count there = rw held there
reaches_held op i index (s ∷ t ∷ rest) c end held count there =
    let earlier : (index == last_step (row_of op)) ≡ false = ne_eqb index (last_step (row_of op)) (λ same. omega arith) in
    let later : decoded (taken_in (row_of op) op index (byte_of i s.source) c).opcode ≡ Some op = rw earlier held in
    rw held (there.0, reaches_held op i (index + 1) (t ∷ rest) _ end later (omega arith) there.1)

-- along its steps an instruction brings its results, and the next opcode
pub reaches : (op : Op) (i : Inputs) (c : CpuState) → decoded c.opcode ≡ Some op →
    Reaches (from_cpu op c i) 0 (steps_of (row_of op) (is_taken op c.registers)) c (done op (from_cpu op c i) c)
reaches op i c held =
    reaches_held op (from_cpu op c i) 0 (steps_of (row_of op) (is_taken op c.registers)) c _ held
    (rw zero-add (length-steps_of (row_of op) (is_taken op c.registers)))
    (reaches_by op i c (is_taken op c.registers))
