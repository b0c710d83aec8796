-- The served ones decide, and then the one behind them.
use Rattle.std.proofs.Common.{List, length, ap, sym, ◌∙◌, Some}
use Rattle.f8_machine.specs.Faults.{fault_of}
use Rattle.bus_audit.specs.Answers.{steps_of}
use Rattle.bus_audit.specs.PlainSteps.{plain_fault}
use Rattle.bus_audit.specs.Turns.{stand_next}
use Rattle.bus_audit.specs.declared.trace.ToldLine.{ToldLine}
use Rattle.bus_audit.proofs.Standing.{served_within, served_then, served_not}
use Rattle.bus_audit.proofs.ToldInputs.{part_from}
use Rattle.bus_audit.proofs.matching.cut_is_next.Goals as goal

pub returns-then-not-stand_next : goal.returns-then-not-stand_next
returns-then-not-stand_next c =
    sym (served_not c.args.served.now c.args.rest.now (plain_fault (Some (fault_of c.args.fault.now, c.args.long)))
    (sym c.stand_next.ensures ∙ c.if-not-stand_next.true))

pub slice_bounds-fault_is_next-count : goal.slice_bounds-fault_is_next-count
slice_bounds-fault_is_next-count c = served_within c.args.served.now c.args.rest.now (sym c.stand_next.ensures ∙ c.if-not-stand_next.false)

pub slice_bounds-fault_is_next-start : goal.slice_bounds-fault_is_next-start
slice_bounds-fault_is_next-start c = served_within c.args.served.now c.args.rest.now (sym c.stand_next.ensures ∙ c.if-not-stand_next.false)

pub returns : goal.returns
returns c =
    c.fault_is_next.ensures
    ∙ ap (λ (ls : List ToldLine). stand_next (plain_fault (Some (fault_of c.args.fault.now, c.args.long))) (steps_of ls))
    (part_from (length c.args.served.now) c.args.rest.now)
    ∙ sym (served_then c.args.served.now c.args.rest.now (plain_fault (Some (fault_of c.args.fault.now, c.args.long)))
    (sym c.stand_next.ensures ∙ c.if-not-stand_next.false))
