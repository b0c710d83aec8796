-- What is found is what the audit answers.
use Rattle.loader.specs.Seen.{seen_auditing}
use Rattle.channel_f.proofs.Auditings.{audits_found, finds_exactly}
use Rattle.channel_f.proofs.auditing.audit_fitted.Goals as goal

pub returns-clause-exact : goal.returns-clause-exact
returns-clause-exact g c =
    finds_exactly (seen_auditing c.args.asked.now) c.args.chain _ _ c.audit-found.ensures.answer c.audit-found.ensures.accepts

pub returns-clause-audits : goal.returns-clause-audits
returns-clause-audits g c =
    audits_found (seen_auditing c.args.asked.now) c.args.chain _ _ c.audit-found.ensures.answer _ _ _ c.audit-found.ensures.audits
