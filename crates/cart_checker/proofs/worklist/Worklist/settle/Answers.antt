-- All that holds next is added.
use Rattle.std.proofs.Common.{refl, arith}
use Rattle.abs_domain.specs.StateView.{state_of}
use Rattle.abs_domain.specs.declared.points.Point.{Point}
use Rattle.abs_domain.specs.declared.state.Abs.{Abs}
use Rattle.abs_step.proofs.Reachability.{reached_fits}
use Rattle.cart_checker.specs.Worklists.{Only}
use Rattle.cart_checker.specs.WorkView.{map_analysis, work_of}
use Rattle.cart_checker.proofs.Settling.{IsAnswer, IsWay, no_way, settling_none, settling_more, settling_all, way_of, way_reached}
use Rattle.cart_checker.proofs.Stops.{add_shows, handed_on}
use Rattle.cart_checker.proofs.worklist.Worklist.settle.Goals as goal
use Rattle.cart_checker.proofs.worklist.Worklist.settle.Goals.{in-Some+in_ok-add-in-Ok, in_default}

pub after-requires : goal.after-requires
after-requires c = (reached_fits (map_analysis c.args.map.now c.args.split.now) c.requires.laws c.requires.reached).split

pub loop-place-init : goal.loop-place-init
loop-place-init c =
    settling_none c.args.map.now c.args.split.now (work_of c.args.self.now) c.args.point c.args.state c.in-Ok.ways
    c.requires.holds

pub add-requires : goal.add-requires
add-requires c = record { few = c.loop-place.invariant.holds.few }

pub returns-in_err-add-in-Ok-clause-halt : goal.returns-in_err-add-in-Ok-clause-halt
returns-in_err-add-in-Ok-clause-halt c =
    let an = map_analysis c.args.map.now c.args.split.now in
    let way : Point × Abs = (c.in-Some.point, c.in-Some.state) in
    let answer : IsAnswer c.args.map.now c.args.split.now c.args.point c.args.state c.in-Ok.ways =
    record { safe = c.in-Ok.ensures.safe; leads = c.in-Ok.ensures.successors } in
    let is : IsWay c.in-Ok.ways c.loop-place.place way =
    way_of c.in-Ok.ways c.loop-place.place way c.get.result c.get.ensures c.in-Some.is in
    let reached =
    way_reached c.args.map.now c.args.split.now c.args.point c.args.state c.in-Ok.ways c.loop-place.place way answer is
    c.requires.reached in
    handed_on an c.from_residual.result c.in_err-add-in-Ok.field-0.0 c.from_residual.ensures.1
    (add_shows an c.requires.laws (work_of c.loop-place.self) (Only an c.args.point (state_of c.args.state)) way.0 (state_of way.1)
    c.in_err-add-in-Ok.field-0.0 refl
    c.loop-place.invariant.holds reached c.in_err-add-in-Ok.ensures.halt)

pub loop-place-preserved : goal.loop-place-preserved
loop-place-preserved c =
    elim c.match-get.branch [
      | in-Some+in_ok-add-in-Ok w ↦
          let way : Point × Abs = (w.in-Some.point, w.in-Some.state) in
          let answer : IsAnswer c.args.map.now c.args.split.now c.args.point c.args.state c.in-Ok.ways =
          record { safe = c.in-Ok.ensures.safe; leads = c.in-Ok.ensures.successors } in
          let is : IsWay c.in-Ok.ways c.loop-place.place way =
          way_of c.in-Ok.ways c.loop-place.place way c.get.result c.get.ensures w.in-Some.is in
          let reached =
          way_reached c.args.map.now c.args.split.now c.args.point c.args.state c.in-Ok.ways c.loop-place.place way answer is
          c.requires.reached in
          rw w.self-is
          (settling_more c.args.map.now c.args.split.now c.requires.laws _ _ _ c.args.point c.args.state c.in-Ok.ways c.loop-place.place
          way c.loop-place.invariant is reached w.in_ok-add-in-Ok.ensures.added w.in_ok-add-in-Ok.ensures.few)
      | in_default w ↦
          absurd (no_way c.get.result c.in-Ok.ways c.loop-place.place c.get.ensures w.in_default.is
          (omega (arith, c.loop-place-test.true, c.len-place-end.ensures)))
    ]

pub returns-after-loop-place-clause-holds : goal.returns-after-loop-place-clause-holds
returns-after-loop-place-clause-holds c =
    let answer : IsAnswer c.args.map.now c.args.split.now c.args.point c.args.state c.in-Ok.ways =
    record { safe = c.in-Ok.ensures.safe; leads = c.in-Ok.ensures.successors } in
    settling_all c.args.map.now c.args.split.now c.requires.laws _ _ c.args.point c.args.state c.in-Ok.ways c.loop-place.place
    c.loop-place.invariant
    (omega (arith, c.loop-place-test.false, c.len-place-end.ensures)) answer
