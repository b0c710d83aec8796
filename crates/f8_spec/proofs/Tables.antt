-- What the tables say of one another.
use Rattle.std.proofs.Common.{◌≡◌, Bool, true, false, refl}
use Rattle.f8_spec.specs.Instructions.{row_clocks, interrupt_clocks}
use Rattle.f8_spec.specs.MicroSteps.{steps_of, clocks_along, reset_steps, interrupt_steps}
use Rattle.f8_spec.specs.declared.instructions.Row.{Row}
use Rattle.f8_spec.specs.declared.instructions.Row.TheVariants.{Branch, BranchIsar}

-- the clocks of an instruction are those of its steps
pub clocks_along-steps_of : (row : Row) (taken : Bool) → clocks_along (steps_of row taken) ≡ row_clocks row taken
clocks_along-steps_of Branch true = refl
clocks_along-steps_of Branch false = refl
clocks_along-steps_of BranchIsar true = refl
clocks_along-steps_of BranchIsar false = refl
clocks_along-steps_of row taken = refl

-- the clocks of reset and of an interrupt are those of their steps
reset_clocks : clocks_along reset_steps ≡ 14
reset_clocks = refl

interrupt_taken : clocks_along interrupt_steps ≡ interrupt_clocks
interrupt_taken = refl
