-- The line of the first step that is left, or that nothing is left, or that there is no step at all.
use Rattle.std.proofs.Common.{◌<◌, length, sym, ◌∙◌, arith}
use Rattle.std.proofs.lemmas.Bool.Decides.{nat_tests}
use Rattle.bus_audit.proofs.AuditLaws.{answer_left, answer_none}
use Rattle.bus_audit.proofs.answers.answer.Goals as goal

pub returns-in-Some : goal.returns-in-Some
returns-in-Some c = answer_left c.args.trace.now c.args.instructions c.args.count c.in-Some.left (sym c.get.ensures ∙ c.in-Some.is)

pub returns-in-None : goal.returns-in-None
returns-in-None c =
    let some : 0 < length c.args.trace.now.told = grind (arith, nat_tests, c.is_empty.ensures, c.if-is_empty.false) in
    answer_none c.args.trace.now c.args.instructions c.args.count some (sym c.get.ensures ∙ c.in-None.is)
