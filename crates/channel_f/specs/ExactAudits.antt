-- What an answer of an audit promises: a trace is accepted exactly where it is the whole record of some free run on the rack.
use Rattle.std.specs.Prelude.{◌≡◌, ◌≢◌, ◌↔◌, ℕ, List, None, Result, Ok, Err}
use Rattle.f8_spec.specs.ChipState.{ChipState, ChipView}
use Rattle.bus_audit.specs.Answers.{steps_of}
use Rattle.bus_audit.specs.FreeRuns.{Setup, IsRecord}
use Rattle.bus_audit.specs.declared.answers.AuditAnswer.{AuditAnswer}
use Rattle.bus_audit.specs.declared.answers.AuditAnswer.TheVariants.{Accept}
use Rattle.bus_audit.specs.declared.step.TraceStep.{TraceStep}
use Rattle.loader.specs.declared.refusals.Stop.{Stop}
use Rattle.loader.specs.Games.{Auditing}
use Rattle.rack_run.specs.Seating.{fitted_views}
use Rattle.channel_f.specs.Answers.{audit_by, audit_setup, game_chain, refusal}
use Rattle.channel_f.specs.declared.status.Status.{Status}
use Rattle.channel_f.specs.declared.status.Status.TheVariants as status

-- it is accepted with so many instructions exactly where the steps are the whole record of a free run that has done so many
abbrev pub AcceptsExactly : AuditAnswer → Setup → List TraceStep → Type 0
AcceptsExactly found setup steps = (n : ℕ) → (found ≡ Accept n) ↔ IsRecord setup n steps

-- what is found on chips that are fitted, with the chain of those described
abbrev pub FindsExactly : Auditing → List ℕ → List ChipView → Type 0
FindsExactly asked chain vs = AcceptsExactly (audit_by asked chain vs) (audit_setup asked chain vs) (steps_of asked.trace.told)

-- It promises this on every rack that has a place for the chips.
abbrev pub AnswersExactly : Status → Auditing → List ChipState → Type 0
AnswersExactly said asked rack =
    refusal asked.game.cart.chips rack ≡ None → said ≢ status.Memory →
    FindsExactly asked (game_chain asked.game rack) (fitted_views asked.game.cart.chips rack)

-- where files gave no audit, nothing is judged
abbrev pub IsExactAudit : Status → Result Auditing Stop → List ChipState → Type 0
IsExactAudit said (Ok asked) rack = AnswersExactly said asked rack
IsExactAudit said (Err stop) rack = Unit {0}
