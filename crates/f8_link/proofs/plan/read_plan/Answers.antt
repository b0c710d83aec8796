-- A line stops the call, or the text ends, with a module or without.
use Rattle.std.proofs.Common.{◌≡◌, ℕ, ◌∙◌, ◌<◌, length, sym, ap, arith, Ok}
use Rattle.std.proofs.lemmas.Bool.Decides.{nat_tests}
use Rattle.std.proofs.lemmas.Result.{err_from_is_err_and}
use Rattle.std.proofs.lemmas.List.{length-map}
use Rattle.f8_link.specs.Plans.{module_seen}
use Rattle.f8_link.proofs.PlanLines.{no_module, plan_ends, plan_told, some_module}
use Rattle.f8_link.proofs.plan.read_plan.Goals as goal

pub returns-in_err-count : goal.returns-in_err-count
returns-in_err-count c =
    let told = err_from_is_err_and c.from_residual.result c.from_residual.ensures.1 in
    rw (told.1, told.2) (plan_told {A = ℕ} c.args.text.now c.in_err-count.field-0.0
    (λ count. c.read_lines.new.draft) (λ plan. plan) (rw c.new.ensures at c.in_err-count.ensures.draft))

pub returns-then-is_empty : goal.returns-then-is_empty
returns-then-is_empty c =
    let size = length-map c.as_slice.result.now module_seen in
    let same = ap length (c.as_slice.ensures.lines ∙ c.draft.view_is) in
    let none : length c.read_lines.new.draft ≡ 0 = grind (arith, nat_tests, size, same) in
    plan_ends c.args.text.now c.read_lines.new.draft (rw c.new.ensures at c.in_ok-count.ensures.draft)
    ∙ rw c.in_ok-count.ensures.count (no_module _ _ none)

pub returns : goal.returns
returns c =
    let size = length-map c.as_slice.result.now module_seen in
    let same = ap length (c.as_slice.ensures.lines ∙ c.draft.view_is) in
    let some : 0 < length c.read_lines.new.draft = grind (arith, nat_tests, size, same) in
    plan_ends c.args.text.now c.read_lines.new.draft (rw c.new.ensures at c.in_ok-count.ensures.draft)
    ∙ some_module _ _ some ∙ ap Ok (sym c.draft.view_is)
