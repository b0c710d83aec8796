-- What a list of steps is kept as.
use Rattle.std.specs.Prelude.{◌≡◌, ◌≤◌, List, length, take}
use Rattle.cpu3850.specs.declared.steps.Step.{Step}
use Rattle.cpu3850.specs.declared.steps.StepRow.{StepRow}

-- the list itself
abbrev pub steps_in : StepRow → List Step
steps_in row = take row.count row.items

-- there is room for five steps
pub record IsStepRow (row : StepRow) : Type 0 where
  pub count : row.count ≤ 5
  pub size : length row.items ≡ 5
