-- The steps that count are the trace's.
use Rattle.std.proofs.Common.{◌≤◌, ◌+◌, length, ap, sym, ◌∙◌, arith}
use Rattle.bus_audit.proofs.Standing.{served_within, cut_within}
use Rattle.bus_audit.proofs.matching.judge.Goals as goal

pub returns-then-stand_next-clause-within : goal.returns-then-stand_next-clause-within
returns-then-stand_next-clause-within c =
    let served = c.as_slice.result.now in
    let within : length served ≤ length c.args.rest.now = served_within served c.args.rest.now (sym c.stand_next.ensures ∙ c.if-stand_next.true) in
    let same = ap (λ l. length l) c.as_slice.ensures.value in
    omega (arith, within, same, c.len.ensures.value)

pub returns-then-cut_is_next-clause-within : goal.returns-then-cut_is_next-clause-within
returns-then-cut_is_next-clause-within c =
    let served = c.as_slice-in-Fault.result.now in
    let within : length served + 1 ≤ length c.args.rest.now =
    cut_within served c.in-Fault.fault c.in-Fault.long c.args.rest.now (sym c.cut_is_next.ensures ∙ c.if-cut_is_next.true) in
    let same = ap (λ l. length l) c.as_slice-in-Fault.ensures.value in
    omega (arith, within, same, c.len-then-cut_is_next.ensures.value)
