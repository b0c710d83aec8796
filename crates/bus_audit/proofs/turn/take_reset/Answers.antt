-- The outcome is that of the position's reset.
use Rattle.std.proofs.Common.{length, map}
use Rattle.std.specs.Prelude.{sum_by}
use Rattle.bus_audit.specs.Answers.{steps_of}
use Rattle.bus_audit.proofs.HeardLaws.{hears_are}
use Rattle.bus_audit.proofs.OutcomeLaws.{begins_are}
use Rattle.bus_audit.proofs.turn.take_reset.Goals as goal

pub returns-clause-turns : goal.returns-clause-turns
returns-clause-turns g c = λ x r.
    let news = map (λ b. (goal.Chip-dyn g (b.vtable, b.value)).state b.value) c.reset-outcome.new.rack.items in
    rw c.judge.ensures.turn
    (begins_are x c.args.machine.now c.reset-outcome.new.self news (steps_of c.args.rest.now) c.reset-outcome.result
    (c.reset-outcome.ensures.refines x r))

pub returns-clause-hears : goal.returns-clause-hears
returns-clause-hears g c =
    let olds = map (λ b. (goal.Chip-dyn g (b.vtable, b.value)).state b.value) c.args.rack.now.items in
    let news = map (λ b. (goal.Chip-dyn g (b.vtable, b.value)).state b.value) c.reset-outcome.new.rack.items in
    rw c.judge.ensures.turn
    (hears_are (length c.args.rack.now.items) c.args.machine.now c.reset-outcome.new.self olds news
    (sum_by (λ b. (goal.Chip-dyn g (b.vtable, b.value)).queries b.value) c.args.rack.now.items)
    (sum_by (λ b. (goal.Chip-dyn g (b.vtable, b.value)).queries b.value) c.reset-outcome.new.rack.items)
    (steps_of c.args.rest.now) c.reset-outcome.result c.reset-outcome.ensures.follows c.reset-outcome.ensures.asked
    c.judge.ensures.few)
