use Rattle.f8_isa.proofs.Standing.{StandsAt-at_power}
use Rattle.f8_isa.proofs.machine.Isa.new.Goals as goal

pub returns : goal.returns
returns c =
    let zero = c.default.ensures in
    rw (c.at_power.ensures, zero.0, zero.1.0, zero.1.1.0, zero.1.1.1, c.in-Ok.ensures.first) (
    StandsAt-at_power c.args.map.now c.args.chips.now c.args.powers.now c.args.fill c.in_ok-memory.memory c.new-ports.result c.requires.map
    c.in_ok-memory.ensures c.new-ports.ensures c.in-Ok.ensures.limits)
