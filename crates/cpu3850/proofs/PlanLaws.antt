-- A step that isn't the last of its instruction leaves the plan as it is.
use Rattle.std.proofs.Common.{◌≡◌, ◌==◌, ℕ, ◌+◌, ◌<◌, Bool, true, false, length, refl, ap, ◌∙◌, arith}
use Rattle.std.specs.Prelude.{Option, Some, None}
use Rattle.std.proofs.lemmas.Bool.{ne_eqb}
use Rattle.std.proofs.lemmas.List.{length-map}
use Rattle.f8_spec.specs.Instructions.{decoded, row_of}
use Rattle.f8_spec.specs.MicroSteps.{steps_of}
use Rattle.f8_spec.specs.declared.instructions.Op.{Op}
use Rattle.f8_spec.specs.declared.instructions.Op.TheVariants.{Bt, Bf, Br7}
use Rattle.f8_spec.specs.declared.instructions.Row.{Row}
use Rattle.f8_spec.specs.declared.instructions.Row.TheVariants.{Branch, BranchIsar}
use Rattle.console_spec.specs.Processor.{Registers, is_taken}
use Rattle.cpu3850.specs.CpuPorts.{read_by}
use Rattle.cpu3850.specs.CpuSteps.{CpuState, bus_step, listed, planned_as, planned, last_step, worked, taken_as, taken}

-- a list is as long with its branch taken as without
pub length-steps_of : (row : Row) (branched : Bool) → length (steps_of row branched) ≡ last_step row + 1
length-steps_of Branch true = refl
length-steps_of Branch false = refl
length-steps_of BranchIsar true = refl
length-steps_of BranchIsar false = refl
length-steps_of row branched = refl

-- the steps of an instruction, its last fetch counted
length-listed : (op : Op) (branched : Bool) → length (listed op branched) ≡ last_step (row_of op) + 1
length-listed op branched = length-map (steps_of (row_of op) branched) bus_step ∙ length-steps_of (row_of op) branched

-- where a step comes later in the list, this one isn't the last
pub is_no_last : (index : ℕ) (op : Op) (branched : Bool) → index + 1 < length (listed op branched) → (index == last_step (row_of op)) ≡ false
is_no_last index op branched later =
    ne_eqb index (last_step (row_of op)) (λ same. omega (arith, length-listed op branched))

-- only a branch reads flags and ISAR for its plan, and a branch changes neither
is_taken-worked : (op : Op) (index byte : ℕ) (m : Registers) → (index == last_step (row_of op)) ≡ false →
    is_taken op (worked (row_of op) op index byte m) ≡ is_taken op m
is_taken-worked (Bt t) index byte m earlier = rw earlier refl
is_taken-worked (Bf t) index byte m earlier = rw earlier refl
is_taken-worked Br7 index byte m earlier = rw earlier refl
is_taken-worked op index byte m earlier = refl

-- the same, by what the opcode is decoded to
planned-taken_as : (found : Option Op) (index byte : ℕ) (c : CpuState) → decoded c.opcode ≡ found →
    index + 1 < length (planned_as found c.registers) →
    planned (taken_as found index byte c) ≡ planned_as found c.registers
planned-taken_as None index byte c held later = ap (λ found. planned_as found c.registers) held
planned-taken_as (Some op) index byte c held later =
    let earlier = is_no_last index op (is_taken op c.registers) later in
    rw (earlier, held) (ap (listed op) (is_taken-worked op index (read_by op byte c.ports) c.registers earlier))

-- a step that isn't the last leaves the plan
pub planned-taken : (index byte : ℕ) (c : CpuState) → index + 1 < length (planned c) → planned (taken index byte c) ≡ planned c
planned-taken index byte c later = planned-taken_as (decoded c.opcode) index byte c refl later
