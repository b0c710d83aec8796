-- What becomes of the rack in an audit: fitting, and then what the audit makes of the chips. And how many questions were put to its chips,
-- which is this project's own: none where no audit began.
use Rattle.std.specs.Prelude.{◌≡◌, ◌≢◌, ℕ, List, Option, Some, None, Result, Ok, Err}
use Rattle.f8_spec.specs.ChipState.{ChipState}
use Rattle.bus_audit.specs.Answers.{steps_of}
use Rattle.bus_audit.specs.Audits.{Audits, Beginning, beginning}
use Rattle.bus_audit.specs.declared.answers.AuditAnswer.{AuditAnswer}
use Rattle.loader.specs.declared.refusals.Stop.{Stop}
use Rattle.loader.specs.Games.{Auditing}
use Rattle.rack_run.specs.Seating.{fitted_views, seated, RackFits, RackFitsInPart}
use Rattle.channel_f.specs.Answers.{audit_by, game_chain, refusal}
use Rattle.channel_f.specs.RackAfter.{Leaves}
use Rattle.channel_f.specs.declared.status.Status.{Status}
use Rattle.channel_f.specs.declared.status.Status.TheVariants as status

-- what an audit begins with on chips that are fitted, with the chain of those described
abbrev pub audit_begun : Auditing → List ℕ → List ChipState → ℕ → Beginning
audit_begun asked chain fitted before =
    beginning asked.game.script.power chain asked.game.cart.powers (steps_of asked.trace.told) fitted before

-- what is found on the chips of a rack
abbrev pub audit_found : Auditing → List ChipState → AuditAnswer
audit_found asked rack = audit_by asked (game_chain asked.game rack) (fitted_views asked.game.cart.chips rack)

-- the chips are fitted as the cartridge has it, and then the audit is theirs
pub record AuditedOn (asked : Auditing) (rack news : List ChipState) (before after : ℕ) : Type 0 where
  pub fitted : List ChipState
  pub fits : RackFits (seated asked.game.cart.chips rack) rack fitted
  pub audited : Audits (audit_begun asked (game_chain asked.game rack) fitted before) (audit_found asked rack) news after

-- What a call that audits a trace says of the rack, also where the sink fails at its line. Where memory was wanting, the first chips may have
-- been fitted, and no more became of any.
pub record AuditsRack (said : Status) (asked : Auditing) (rack news : List ChipState) (before after : ℕ) : Type 0 where
  pub wanting : said ≡ status.Memory → RackFitsInPart (seated asked.game.cart.chips rack) rack news
  pub unasked : said ≡ status.Memory → after ≡ before
  pub audited : said ≢ status.Memory → AuditedOn asked rack news before after

-- chips that are refused leave the rack as it was
abbrev pub AuditsUnless : Option (List ℕ) → Status → Auditing → (rack news : List ChipState) → (before after : ℕ) → Type 0
AuditsUnless (Some line) said asked rack news before after = Leaves rack news before after
AuditsUnless None said asked rack news before after = AuditsRack said asked rack news before after

-- and so do files that stop the command
abbrev pub RackAudited : Status → Result Auditing Stop → (rack news : List ChipState) → (before after : ℕ) → Type 0
RackAudited said (Ok asked) rack news before after =
    AuditsUnless (refusal asked.game.cart.chips rack) said asked rack news before after
RackAudited said (Err stop) rack news before after = Leaves rack news before after
