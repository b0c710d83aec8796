-- An audit that is refused leaves the rack, and asks it nothing.
use Rattle.std.proofs.Common.{refl}
use Rattle.channel_f.proofs.auditing.audit_trace.Goals as goal

pub returns-in-Some-clause-rack : goal.returns-in-Some-clause-rack
returns-in-Some-clause-rack g c = rw (← c.in-Some.ensures.line) (record { same = refl; unasked = refl })
