use Rattle.std.proofs.Common.{drop, []}
use Rattle.f8_asm.specs.Evaluation.{values}
use Rattle.f8_asm.specs.Formulas.{stack_behind}
use Rattle.f8_asm.proofs.Stacks.{StackOn}
use Rattle.f8_asm.proofs.formulas.formula_value.Given as goal

-- the steps taken and those that follow lead to the same stack
abbrev pub invariant-loop-step : goal.invariant-loop-step
invariant-loop-step l =
    let acts = values l.scope.symbols.now l.scope.address in
    StackOn acts (drop l.step-index l.steps) l.stack.items (stack_behind acts l.formula [])
