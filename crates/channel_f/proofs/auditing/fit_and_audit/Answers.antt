-- The chips are fitted, and then the audit is theirs.
use Rattle.loader.specs.Seen.{seen_auditing}
use Rattle.rack_run.proofs.AskingLaws.{none_asked}
use Rattle.channel_f.specs.Answers.{audit_answer}
use Rattle.channel_f.proofs.Auditings.{audit_answers, audits_rack, audits_wanting, exact_on}
use Rattle.channel_f.proofs.Games.{answers_wanting}
use Rattle.channel_f.proofs.auditing.fit_and_audit.Goals as goal

pub returns-in-Ok-clause-answers : goal.returns-in-Ok-clause-answers
returns-in-Ok-clause-answers g c =
    audit_answers _ _ _ (seen_auditing c.args.asked.now) _ _ _ c.in-Ok.ensures.views c.chain_of-chain.ensures
    c.audit_fitted.ensures.reports

pub returns-in-Ok-clause-rack : goal.returns-in-Ok-clause-rack
returns-in-Ok-clause-rack g c =
    audits_rack _ _ _ (seen_auditing c.args.asked.now) _ _ _ c.in-Ok.ensures.views c.chain_of-chain.ensures
    c.audit_fitted.ensures.reports _ _ _ _ c.in-Ok.ensures.fitted
    (none_asked (λ b. (goal.Chip-dyn g (b.vtable, b.value)).queries b.value) c.args.rack.now.items c.fit_all.new.rack.items
    c.fit_all.ensures.asked) c.audit_fitted.ensures.audits

pub returns-in-Ok-clause-exact : goal.returns-in-Ok-clause-exact
returns-in-Ok-clause-exact g c =
    λ by_memory. exact_on (seen_auditing c.args.asked.now) _ _ _ c.in-Ok.ensures.views c.chain_of-chain.ensures c.audit_fitted.ensures.exact

pub returns-in-Err-clause-answers : goal.returns-in-Err-clause-answers
returns-in-Err-clause-answers g c = answers_wanting _ (audit_answer (seen_auditing c.args.asked.now) _)

pub returns-in-Err-clause-rack : goal.returns-in-Err-clause-rack
returns-in-Err-clause-rack g c =
    audits_wanting (seen_auditing c.args.asked.now) _ _ _ _
    (none_asked (λ b. (goal.Chip-dyn g (b.vtable, b.value)).queries b.value) c.args.rack.now.items c.fit_all.new.rack.items
    c.fit_all.ensures.asked) c.in-Err.ensures.partly
