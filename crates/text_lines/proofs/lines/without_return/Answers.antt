use Rattle.std.proofs.Common.{◌≡◌, sym, arith}
use Rattle.std.proofs.lemmas.Bool.Decides.{nat_tests}
use Rattle.text_lines.proofs.LineLaws.{returned, unreturned}
use Rattle.text_lines.proofs.lines.without_return.Goals as goal

pub returns-then-last-eq13-clause-value : goal.returns-then-last-eq13-clause-value
returns-then-last-eq13-clause-value c =
    let last : c.in-Some.last.now ≡ 13 = grind (arith, nat_tests) in
    rw c.in-Some.ensures.cases.0 (rw last (sym (returned c.in-Some.front.now)))

pub returns-else-last-eq13-clause-value : goal.returns-else-last-eq13-clause-value
returns-else-last-eq13-clause-value c =
    rw c.in-Some.ensures.cases.0 (sym (unreturned c.in-Some.front.now c.in-Some.last.now (λ e. grind (arith, nat_tests))))
