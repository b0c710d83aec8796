-- What the slice tells is the order of the list.
use Rattle.std.proofs.Common.{◌≡◌, rules, arith}
use Rattle.std.specs.Prelude.{nat_lt}
use Rattle.std.proofs.lemmas.Bool.Decides.{nat_tests}
use Rattle.std.proofs.lemmas.List.Sorted.{answers_always}
use Rattle.case_text.proofs.AscendingLists.{told_listed}
use Rattle.case_text.proofs.sets.are_listed.Goals as goal

pub returns-then-not-is_empty : goal.returns-then-not-is_empty
returns-then-not-is_empty c =
    told_listed c.args.bytes.now c.is_sorted_by.result (grind (arith, nat_tests))
    (c.is_sorted_by.ensures.cases nat_lt
    (answers_always _ (λ pair less. less ≡ nat_lt pair.0.now pair.1.0.now) _ (λ f pair less after called. search rules)))
