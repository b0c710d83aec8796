use Rattle.std.proofs.Common.{drop, []}
use Rattle.f8_asm.specs.Formulas.{stack_behind}
use Rattle.f8_asm.proofs.Stacks.{StackOn}
use Rattle.f8_link.specs.Evaluation.{placed_values}
use Rattle.f8_link.proofs.scope.formula_found.Given as goal

-- the steps taken and those that follow lead to the same stack
abbrev pub invariant-loop-step : goal.invariant-loop-step
invariant-loop-step l =
    let acts = placed_values l.scope.names.now l.scope.imports.now l.scope.offset in
    StackOn acts (drop l.step-index l.steps) l.stack.items (stack_behind acts l.formula [])
