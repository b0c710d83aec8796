-- One of what holds next after the other is covered, up to the first that isn't.
use Rattle.std.proofs.Common.{◌≡◌, ◌+◌, refl, sym, ap, ◌∙◌, arith}
use Rattle.std.specs.Prelude.{Some, option_map, slice_get}
use Rattle.abs_domain.specs.declared.points.Point.{Point}
use Rattle.abs_domain.specs.declared.state.Abs.{Abs}
use Rattle.abs_step.specs.StatesAtPoints.{states_of}
use Rattle.abs_step.specs.StepView.{invariant_of}
use Rattle.certificate.proofs.NextStates.{open_here, open_step, way_there}
use Rattle.certificate.proofs.examined.first_open.Goals as goal
use Rattle.certificate.proofs.examined.first_open.Goals.{in-Some+else-not-covers, in_default}

pub returns-then-not-covers : goal.returns-then-not-covers
returns-then-not-covers c =
    let way : Point × Abs = (c.in-Some.point, c.in-Some.state) in
    let notes = states_of c.args.notes.now.entries in
    let is : slice_get c.args.ways.now c.loop-place.place ≡ Some (invariant_of way) =
    sym c.get.ensures ∙ ap (option_map invariant_of) c.in-Some.is in
    sym (open_here notes c.args.ways.now c.loop-place.place way is (sym c.covers.ensures ∙ c.if-not-covers.true))
    ∙ c.loop-place.invariant

pub loop-place-preserved : goal.loop-place-preserved
loop-place-preserved c =
    elim c.match-get.branch [
      | in-Some+else-not-covers w ↦
          let way : Point × Abs = (w.in-Some.point, w.in-Some.state) in
          let is : slice_get c.args.ways.now c.loop-place.place ≡ Some (invariant_of way) =
          sym c.get.ensures ∙ ap (option_map invariant_of) w.in-Some.is in
          open_step (states_of c.args.notes.now.entries) c.args.ways.now c.loop-place.place (c.loop-place.place + 1) way refl is
          (sym w.covers.ensures ∙ w.if-not-covers.false)
          ∙ c.loop-place.invariant
      | in_default w ↦
          let past = way_there c.args.ways.now c.loop-place.place c.get.result c.get.ensures w.in_default.is in
          absurd (omega (arith, past, c.loop-place-test.true, c.len-place-end.ensures))
    ]
