-- What is found says just whether the list is closed, safe and free of faults, and so what each run does.
use Rattle.std.proofs.Common.{rules}
use Rattle.case_text.proofs.ConfirmedRuns.{agreed_exactly, agreed_goes_on, whole_exactly, whole_goes_on}
use Rattle.case_text.proofs.confirmed.confirm.Goals as goal

pub returns-clause-answer : goal.returns-clause-answer
returns-clause-answer c = search rules

pub returns-clause-whole : goal.returns-clause-whole
returns-clause-whole c =
    whole_exactly c.args.cart.now.chips c.args.list.now c.judged_law.ensures c.judge.result (returns-clause-answer c)

pub returns-clause-agreed : goal.returns-clause-agreed
returns-clause-agreed c =
    agreed_exactly c.args.cart.now.chips c.args.list.now c.judged_law.ensures c.judge.result (returns-clause-answer c)

pub returns-clause-served : goal.returns-clause-served
returns-clause-served c =
    whole_goes_on c.args.cart.now.chips c.args.list.now c.judged_law.ensures c.case_soundness_law.ensures c.judge.result (returns-clause-answer c)

pub returns-clause-undriven : goal.returns-clause-undriven
returns-clause-undriven c =
    agreed_goes_on c.args.cart.now.chips c.args.list.now c.judged_law.ensures c.case_soundness_law.ensures c.judge.result (returns-clause-answer c)
