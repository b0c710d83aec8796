-- More steps than are left don't stand next, and else one after another decides.
use Rattle.std.proofs.Common.{sym}
use Rattle.bus_audit.proofs.Standing.{short_stand}
use Rattle.bus_audit.proofs.matching.stand_next.Goals as goal

pub returns-then-rest-served : goal.returns-then-rest-served
returns-then-rest-served c = sym (short_stand c.args.served.now c.args.rest.now c.if-rest-served.true)
