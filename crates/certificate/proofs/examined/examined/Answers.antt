-- Where nothing fails, and where something does.
use Rattle.std.proofs.Common.{◌≡◌, true, None, sym, ◌∙◌}
use Rattle.std.specs.Prelude.{Some}
use Rattle.abs_domain.specs.Joins.{is_state_below}
use Rattle.abs_domain.specs.PointOrder.{point_cmp}
use Rattle.abs_step.specs.MapView.{view_of}
use Rattle.abs_step.specs.StatesAtPoints.{states_of}
use Rattle.abs_step.specs.Successors.{start_point, start_state}
use Rattle.abs_step.specs.CartridgeAnalysis.{analysis}
use Rattle.certificate.specs.Examination.{covers, first_failure}
use Rattle.certificate.proofs.Examinations.{never_agreed, never_whole, nothing_fails}
use Rattle.certificate.proofs.NextStates.{free_as}
use Rattle.certificate.proofs.examined.examined.Goals as goal

pub returns-then-is_fault_free-clause-answer : goal.returns-then-is_fault_free-clause-answer
returns-then-is_fault_free-clause-answer c =
    let an = analysis (view_of c.args.map.now) c.args.split.now in
    let notes = states_of c.args.notes.now.entries in
    let start : covers point_cmp is_state_below notes start_point start_state ≡ true =
    sym c.covers_start.ensures ∙ c.if-not-covers_start.false in
    let none : first_failure an notes notes ≡ None = sym c.first_failure.ensures.first ∙ c.in_default.is in
    sym (nothing_fails an notes _ start none
    (sym (free_as (view_of c.args.map.now) c.args.notes.now.entries) ∙ sym c.is_fault_free.ensures ∙ c.if-is_fault_free.true))

pub returns-else-is_fault_free-clause-answer : goal.returns-else-is_fault_free-clause-answer
returns-else-is_fault_free-clause-answer c =
    let an = analysis (view_of c.args.map.now) c.args.split.now in
    let notes = states_of c.args.notes.now.entries in
    let start : covers point_cmp is_state_below notes start_point start_state ≡ true =
    sym c.covers_start.ensures ∙ c.if-not-covers_start.false in
    let none : first_failure an notes notes ≡ None = sym c.first_failure.ensures.first ∙ c.in_default.is in
    sym (nothing_fails an notes _ start none
    (sym (free_as (view_of c.args.map.now) c.args.notes.now.entries) ∙ sym c.is_fault_free.ensures ∙ c.if-is_fault_free.false))

pub returns-in-Some-clause-whole : goal.returns-in-Some-clause-whole
returns-in-Some-clause-whole c =
    let an = analysis (view_of c.args.map.now) c.args.split.now in
    let notes = states_of c.args.notes.now.entries in
    let first : first_failure an notes notes ≡ Some c.in-Some.failure = sym c.first_failure.ensures.first ∙ c.in-Some.is in
    λ is. absurd (never_whole an notes c.in-Some.failure first is)

pub returns-in-Some-clause-agreed : goal.returns-in-Some-clause-agreed
returns-in-Some-clause-agreed c =
    let an = analysis (view_of c.args.map.now) c.args.split.now in
    let notes = states_of c.args.notes.now.entries in
    let first : first_failure an notes notes ≡ Some c.in-Some.failure = sym c.first_failure.ensures.first ∙ c.in-Some.is in
    λ is. absurd (never_agreed an notes c.in-Some.failure first is)
