-- What is added, by what is at the point.
use Rattle.std.proofs.Common.{rules, ◌≡◌, ◌+◌, cond, is_some, Some, None, length, sym, ap, ◌∙◌, arith}
use Rattle.std.specs.Prelude.{option_map}
use Rattle.std.specs.Map.{lookup}
use Rattle.std.specs.BTreeMap.{is_at}
use Rattle.std.specs.BTreeMap.Entry.{entry_value, map_with_value}
use Rattle.abs_domain.specs.StateView.{state_of}
use Rattle.abs_domain.specs.PointOrder.{point_cmp}
use Rattle.abs_step.specs.StatesAtPoints.{states_of}
use Rattle.cart_checker.specs.Worklists.{state_by}
use Rattle.cart_checker.specs.WorkView.{work_of}
use Rattle.cart_checker.proofs.WorkReads.{IsInserted, found_as, many_as, wrote}
use Rattle.cart_checker.proofs.WorkAdds.{added_new, added_below, added_raised}
use Rattle.cart_checker.proofs.Stops.{only_memory}
use Rattle.cart_checker.proofs.worklist.Worklist.add.Goals as goal

pub returns-then-below-clause-added : goal.returns-then-below-clause-added
returns-then-below-clause-added c =
    let notes = c.args.self.now.notes.entries in
    let there : lookup (is_at (point_cmp c.args.point.now)) notes ≡ Some c.get-old.result.now = search rules in
    let noted : state_by point_cmp (states_of notes) c.args.point.now ≡ Some (state_of c.get-old.result.now) =
    found_as notes c.args.point.now ∙ ap (option_map state_of) there in
    added_below _ _ c.args.point.now _ _ noted (sym c.below.ensures.test ∙ c.if-below.true) (search rules)

pub returns-in_ok-make_due-in-Ok-Occupied-clause-added : goal.returns-in_ok-make_due-in-Ok-Occupied-clause-added
returns-in_ok-make_due-in-Ok-Occupied-clause-added c =
    let notes = c.args.self.now.notes.entries in
    let there : lookup (is_at (point_cmp c.args.point.now)) notes ≡ Some c.get-old.result.now = search rules in
    let noted : state_by point_cmp (states_of notes) c.args.point.now ≡ Some (state_of c.get-old.result.now) =
    found_as notes c.args.point.now ∙ ap (option_map state_of) there in
    let written : c.make_due.new.self.notes ≡ map_with_value c.in-Ok-Occupied.field-0 c.join-raised.result = search rules in
    let update = c.in-Ok-Occupied.ensures.update in
    let inserted : IsInserted notes c.make_due.new.self.notes.entries c.args.point.now c.join-raised.result = record {
      found = rw written (update.0 c.join-raised.result).0;
      entries = rw written (update.1 c.join-raised.result);
      was_ascending = c.entry.ensures.ordered;
      ascends = rw written (update.2 c.join-raised.result);
      count = rw written (c.in-Ok-Occupied.ensures.len c.join-raised.result ∙ ap (λ o. length notes + cond (is_some o) 0 1) c.in-Ok-Occupied.ensures.value);
    } in
    added_raised _ _ c.args.point.now _ _ noted (sym c.below.ensures.test ∙ c.if-below.false)
    (rw (← c.join-raised.ensures)
    (wrote notes _ c.args.self.now.due.keys _ c.args.point.now c.join-raised.result inserted c.in_ok-make_due-in-Ok-Occupied.ensures.due))

pub returns-in_ok-make_due-in-Ok-Occupied-clause-few : goal.returns-in_ok-make_due-in-Ok-Occupied-clause-few
returns-in_ok-make_due-in-Ok-Occupied-clause-few c =
    let notes = c.args.self.now.notes.entries in
    let more = c.make_due.new.self.notes.entries in
    let was : length (states_of notes) ≡ length notes = many_as notes in
    let is : length (states_of more) ≡ length more = many_as more in
    let there : Some c.get-old.result.now ≡ entry_value c.in-Ok-Occupied.field-0 = search rules in
    let written : c.make_due.new.self.notes ≡ map_with_value c.in-Ok-Occupied.field-0 c.join-raised.result = search rules in
    let same : length more ≡ length notes + 0 =
    rw written (c.in-Ok-Occupied.ensures.len c.join-raised.result ∙ ap (λ o. length notes + cond (is_some o) 0 1) (sym there)) in
    let few = c.requires.few in
    omega arith

pub returns-in_err-make_due-in-Ok-Occupied-clause-halt : goal.returns-in_err-make_due-in-Ok-Occupied-clause-halt
returns-in_err-make_due-in-Ok-Occupied-clause-halt c =
    let notes = c.args.self.now.notes.entries in
    let there : lookup (is_at (point_cmp c.args.point.now)) notes ≡ Some c.get-old.result.now = search rules in
    let noted : state_by point_cmp (states_of notes) c.args.point.now ≡ Some (state_of c.get-old.result.now) =
    found_as notes c.args.point.now ∙ ap (option_map state_of) there in
    only_memory (work_of c.args.self.now) c.args.point.now (state_of c.get-old.result.now) noted c.from_residual.result
    c.from_residual.ensures.1

pub returns-then-is_full-clause-halt : goal.returns-then-is_full-clause-halt
returns-then-is_full-clause-halt c =
    let notes = c.args.self.now.notes.entries in
    let many : length (states_of notes) ≡ length notes = many_as notes in
    let absent : lookup (is_at (point_cmp c.args.point.now)) notes ≡ None = search rules in (
      omega (arith, c.if-is_full.true, c.len-is_full.ensures.len),
      found_as notes c.args.point.now ∙ ap (option_map state_of) absent,
    )

pub returns-in_ok-make_due-in-Ok-Vacant-clause-added : goal.returns-in_ok-make_due-in-Ok-Vacant-clause-added
returns-in_ok-make_due-in-Ok-Vacant-clause-added c =
    let notes = c.args.self.now.notes.entries in
    let absent : lookup (is_at (point_cmp c.args.point.now)) notes ≡ None = search rules in
    let written : c.make_due-in-Ok-Vacant.new.self.notes ≡ map_with_value c.in-Ok-Vacant.field-0 c.args.state.now = search rules in
    let update = c.in-Ok-Vacant.ensures.update in
    let inserted : IsInserted notes c.make_due-in-Ok-Vacant.new.self.notes.entries c.args.point.now c.args.state.now = record {
      found = rw written (update.0 c.args.state.now).0;
      entries = rw written (update.1 c.args.state.now);
      was_ascending = c.entry.ensures.ordered;
      ascends = rw written (update.2 c.args.state.now);
      count = rw written (c.in-Ok-Vacant.ensures.len c.args.state.now ∙ ap (λ o. length notes + cond (is_some o) 0 1) c.in-Ok-Vacant.ensures.value);
    } in
    added_new _ _ c.args.point.now _ (found_as notes c.args.point.now ∙ ap (option_map state_of) absent)
    (wrote notes _ c.args.self.now.due.keys _ c.args.point.now c.args.state.now inserted c.in_ok-make_due-in-Ok-Vacant.ensures.due)

pub returns-then-is_full-2-clause-halt : goal.returns-then-is_full-2-clause-halt
returns-then-is_full-2-clause-halt c =
    let notes = c.args.self.now.notes.entries in
    let many : length (states_of notes) ≡ length notes = many_as notes in (
      omega (arith, c.if-is_full-2.true, c.len-is_full.ensures.len),
      found_as notes c.args.point.now ∙ ap (option_map state_of) c.in-Err.ensures.absent,
    )
