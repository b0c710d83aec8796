-- What an audit on a rack answers, and what becomes of the rack.
use Rattle.std.proofs.Common.{◌≡◌, ◌≢◌, ℕ, List, refl, ap, ◌∙◌, subst}
use Rattle.f8_spec.specs.ChipState.{ChipState, ChipView}
use Rattle.data_bus.specs.Racks.{views}
use Rattle.bus_audit.specs.Answers.{answer_in, steps_of}
use Rattle.bus_audit.specs.Audits.{Audits, Beginning}
use Rattle.bus_audit.specs.DictatedRuns.{dictated}
use Rattle.bus_audit.specs.declared.answers.AuditAnswer.{AuditAnswer}
use Rattle.bus_audit.specs.declared.answers.AuditAnswer.TheVariants.{Accept, Reject}
use Rattle.outside.specs.SinkRules.{Output}
use Rattle.loader.specs.Games.{Auditing}
use Rattle.rack_run.specs.Seating.{fitted_views, seated, RackFits, RackFitsInPart}
use Rattle.channel_f.specs.Answers.{audit_answer, audit_by, audit_setup, audited_answer, game_chain}
use Rattle.channel_f.specs.ExactAudits.{AcceptsExactly, FindsExactly}
use Rattle.channel_f.specs.RackAudited.{AuditsRack, audit_begun, audit_found}
use Rattle.channel_f.specs.Reports.{Answers, Reports}
use Rattle.channel_f.specs.declared.status.Status.{Status}
use Rattle.channel_f.specs.declared.status.Status.TheVariants as status
use Rattle.channel_f.proofs.Games.{answers_of, no_memory_from}

audited_not_memory : (found : AuditAnswer) → (audited_answer found).status ≢ status.Memory
audited_not_memory (Accept instructions) e = cc
audited_not_memory (Reject line) e = cc

-- what is found is exact, since what was answered is
pub finds_exactly : (asked : Auditing) (chain : List ℕ) (vs : List ChipView) (found : AuditAnswer) →
    found ≡ answer_in asked.trace (dictated (audit_setup asked chain vs) (steps_of asked.trace.told)) →
    AcceptsExactly found (audit_setup asked chain vs) (steps_of asked.trace.told) → FindsExactly asked chain vs
unfolding audit_by
finds_exactly asked chain vs found is exact =
    subst (λ (f : AuditAnswer). AcceptsExactly f (audit_setup asked chain vs) (steps_of asked.trace.told)) is exact

-- and so is what becomes of the rack
pub audits_found : (asked : Auditing) (chain : List ℕ) (vs : List ChipView) (found : AuditAnswer) →
    found ≡ answer_in asked.trace (dictated (audit_setup asked chain vs) (steps_of asked.trace.told)) →
    (first : Beginning) (news : List ChipState) (after : ℕ) → Audits first found news after → Audits first (audit_by asked chain vs) news after
unfolding audit_by
audits_found asked chain vs found is first news after audits = subst (λ (f : AuditAnswer). Audits first f news after) is audits

module _ (a b : Output) (said : Status) (asked : Auditing) (rack fitted : List ChipState) (chain : List ℕ)
    (same : views fitted ≡ fitted_views asked.game.cart.chips rack) (linked : chain ≡ game_chain asked.game rack)
    (reports : Reports a b said (audited_answer (audit_by asked chain (views fitted))).status
    (audited_answer (audit_by asked chain (views fitted))).lines) where
  found_same : audit_by asked chain (views fitted)
      ≡ audit_by asked (game_chain asked.game rack) (fitted_views asked.game.cart.chips rack)
  found_same =
      ap (λ (sockets : List ℕ). audit_by asked sockets (views fitted)) linked
      ∙ ap (λ (vs : List ChipView). audit_by asked (game_chain asked.game rack) vs) same

  pub audit_answers : Answers a b said (audit_answer asked rack)
  audit_answers =
      answers_of a b said (audit_answer asked rack).status (audit_answer asked rack).lines (audited_not_memory _)
      (subst (λ (found : AuditAnswer). Reports a b said (audited_answer found).status (audited_answer found).lines) found_same reports)

  pub audits_rack : (news : List ChipState) (before begun after : ℕ) → RackFits (seated asked.game.cart.chips rack) rack fitted →
      begun ≡ before → Audits (audit_begun asked chain fitted begun) (audit_by asked chain (views fitted)) news after →
      AuditsRack said asked rack news before after
  audits_rack news before begun after fits none audits = record {
    wanting = λ by_memory. absurd (no_memory_from said _ (audited_not_memory _) reports.which by_memory);
    unasked = λ by_memory. absurd (no_memory_from said _ (audited_not_memory _) reports.which by_memory);
    audited = λ by_memory. record {
      fitted = fitted;
      fits = fits;
      audited =
          subst (λ (n : ℕ). Audits (audit_begun asked (game_chain asked.game rack) fitted n) (audit_found asked rack) news after) none
          (subst (λ (sockets : List ℕ). Audits (audit_begun asked sockets fitted begun) (audit_found asked rack) news after) linked
          (subst (λ (found : AuditAnswer). Audits (audit_begun asked chain fitted begun) found news after) found_same audits));
    };
  }

pub exact_on : (asked : Auditing) (rack fitted : List ChipState) (chain : List ℕ) →
    views fitted ≡ fitted_views asked.game.cart.chips rack → chain ≡ game_chain asked.game rack →
    FindsExactly asked chain (views fitted) →
    FindsExactly asked (game_chain asked.game rack) (fitted_views asked.game.cart.chips rack)
exact_on asked rack fitted chain same linked exact =
    subst (λ (vs : List ChipView). FindsExactly asked (game_chain asked.game rack) vs) same
    (subst (λ (sockets : List ℕ). FindsExactly asked sockets (views fitted)) linked exact)

pub audits_wanting : (asked : Auditing) (rack news : List ChipState) (before after : ℕ) → after ≡ before →
    RackFitsInPart (seated asked.game.cart.chips rack) rack news → AuditsRack status.Memory asked rack news before after
audits_wanting asked rack news before after none partly = record {
  wanting = λ by_memory. partly;
  unasked = λ by_memory. none;
  audited = λ by_memory. absurd (by_memory refl);
}
