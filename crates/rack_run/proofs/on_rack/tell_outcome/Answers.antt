-- The lines of the steps that were served, and the one of the step that isn't behind them.
use Rattle.std.proofs.Common.{sym}
use Rattle.std.proofs.lemmas.Result.{err_from_is_err_and}
use Rattle.f8_machine.specs.Faults.{fault_of}
use Rattle.console_spec.specs.Telling.{code_of}
use Rattle.rack_run.specs.Texts.{served_told, unserved_told}
use Rattle.rack_run.proofs.PutLaws.{puts_same, puts_then, puts_first, puts_nothing}
use Rattle.rack_run.proofs.ToldTexts.{text_in-append}
use Rattle.rack_run.proofs.on_rack.tell_outcome.Goals as goal

pub returns-in_err-tell_steps-in-Fault : goal.returns-in_err-tell_steps-in-Fault
returns-in_err-tell_steps-in-Fault g c =
    let p = err_from_is_err_and c.from_residual.result c.from_residual.ensures.1 in
    let both =
    text_in-append c.args.detail (served_told c.args.detail c.in-Fault.steps)
    (unserved_told c.args.detail (code_of (fault_of c.in-Fault.fault)) c.in-Fault.long) in
    rw (p.1, c.in-Fault.is)
    (puts_same _ _ _ _ _ (sym both) (puts_first _ _ _ _ _ _ (rw c.as_slice-in-Fault.ensures.value at c.in_err-tell_steps-in-Fault.ensures)))

pub returns-in_ok-tell_steps-in-Fault : goal.returns-in_ok-tell_steps-in-Fault
returns-in_ok-tell_steps-in-Fault g c =
    let both =
    text_in-append c.args.detail (served_told c.args.detail c.in-Fault.steps)
    (unserved_told c.args.detail (code_of (fault_of c.in-Fault.fault)) c.in-Fault.long) in
    rw c.in-Fault.is (puts_same _ _ _ _ _ (sym both)
    (puts_then _ _ _ _ _ _ _ (rw c.as_slice-in-Fault.ensures.value at c.in_ok-tell_steps-in-Fault.ensures)
    (rw c.code_of.ensures at c.tell_fault.ensures)))

pub returns-in-Reserved : goal.returns-in-Reserved
returns-in-Reserved g c = rw c.in-Reserved.is (puts_nothing _ _ c.args.detail)
