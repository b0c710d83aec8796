-- Each instruction leads on, or is the last.
use Rattle.std.proofs.Common.{◌∙◌, ap, refl, sym, arith}
use Rattle.std.specs.Prelude.{Option, is_some}
use Rattle.rack_run.specs.declared.ending.Halt.{Halt}
use Rattle.chip_debug.specs.Standing.{SessionState}
use Rattle.chip_debug.specs.declared.session.Ran.{Ran}
use Rattle.chip_debug.proofs.Halts.{none_of, stops_as}
use Rattle.chip_debug.proofs.GoingLaws.{reached_first, reached_more, gone_all, gone_met, gone_stopped, gone_stops}
use Rattle.chip_debug.proofs.session.Session.go.Goals as goal

pub returns-then-is_some-clause-gone : goal.returns-then-is_some-clause-gone
returns-then-is_some-clause-gone g c = λ scene stands.
    gone_stopped c.args.heeds c.args.count scene _ _ _ _ stands
    (stops_as _ _ scene stands ∙ ap (λ (s : SessionState). is_some s.halt) (sym c.self.view_is) ∙ sym c.is_some.ensures
    ∙ c.if-is_some.true)
    (ap (λ (r : Ran). r.count) c.ended.ensures) (ap (λ (r : Ran). r.broke) c.ended.ensures)

pub loop-done-init : goal.loop-done-init
loop-done-init g c = record {
  reached = λ scene stands. reached_first c.args.heeds c.args.count scene _ _ _ stands;
  same = refl;
  running = ap (λ (s : SessionState). s.halt) (sym c.self.view_is)
      ∙ none_of c.self.inside.halt (sym c.is_some.ensures ∙ c.if-is_some.false);
  fits = c.requires.fits;
  chips = refl;
  spare = refl;
  counted = omega arith;
}

pub loop-done-preserved : goal.loop-done-preserved
loop-done-preserved g c = record {
  reached = λ scene stands.
      let here = c.loop-done.invariant.reached scene stands in
      reached_more c.args.heeds c.args.count scene c.loop-done.done _ _ _ _ here c.loop-done-test.true
      (stops_as _ _ here.there here.at ∙ ap (λ (o : Option Halt). is_some o) c.loop-done.invariant.running)
      c.turn.result _ _ _ (c.turn.ensures.turned here.there here.at) c.in-Done.is;
  same = c.turn.ensures.patches ∙ c.loop-done.invariant.same;
  running = c.turn.ensures.goes_on c.in-Done.is;
  fits = c.turn.ensures.fits;
  chips = c.turn.ensures.chips ∙ c.loop-done.invariant.chips;
  spare = c.turn.ensures.spare ∙ c.loop-done.invariant.spare;
  counted = omega (arith, c.turn.ensures.count, c.loop-done.invariant.counted);
}

pub returns-in-Met-clause-gone : goal.returns-in-Met-clause-gone
returns-in-Met-clause-gone g c = λ scene stands.
    let here = c.loop-done.invariant.reached scene stands in
    gone_met c.args.heeds c.args.count scene c.loop-done.done _ _ _ _ here c.loop-done-test.true
    (stops_as _ _ here.there here.at ∙ ap (λ (o : Option Halt). is_some o) c.loop-done.invariant.running)
    c.turn.result _ _ _ (c.turn.ensures.turned here.there here.at) _ c.in-Met.is
    (ap (λ (r : Ran). r.count) c.ended-in-Met.ensures) (ap (λ (r : Ran). r.broke) c.ended-in-Met.ensures)

pub returns-in-Stopped-clause-gone : goal.returns-in-Stopped-clause-gone
returns-in-Stopped-clause-gone g c = λ scene stands.
    let here = c.loop-done.invariant.reached scene stands in
    gone_stops c.args.heeds c.args.count scene c.loop-done.done _ _ _ _ here c.loop-done-test.true
    (stops_as _ _ here.there here.at ∙ ap (λ (o : Option Halt). is_some o) c.loop-done.invariant.running)
    c.turn.result _ _ _ (c.turn.ensures.turned here.there here.at) _ c.in-Stopped.is
    (ap (λ (r : Ran). r.count) c.ended-in-Stopped.ensures) (ap (λ (r : Ran). r.broke) c.ended-in-Stopped.ensures)

pub returns-clause-gone : goal.returns-clause-gone
returns-clause-gone g c = λ scene stands.
    gone_all c.args.heeds c.args.count scene c.loop-done.done _ _ _ _ (c.loop-done.invariant.reached scene stands) _
    c.loop-done-test.false (ap (λ (r : Ran). r.count) c.ended-2.ensures)
    (ap (λ (r : Ran). r.broke) c.ended-2.ensures)
