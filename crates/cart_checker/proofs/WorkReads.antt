-- The work of a search, as the program holds it and as it is read: what a look-up finds, and what a write does.
use Rattle.std.proofs.Common.{◌≡◌, ◌+◌, Bool, true, false, cond, is_some, List, [], ◌∷◌, length, refl, sym, ap, ◌∙◌, subst}
use Rattle.std.specs.Prelude.{Option, Some, None, option_map}
use Rattle.std.specs.List.Sorted.{IsStrictlySortedBy}
use Rattle.std.specs.Map.{lookup, keys_of}
use Rattle.std.specs.BTreeMap.{is_at, insert_entry}
use Rattle.std.specs.Ordering.{match_ordering}
use Rattle.std.specs.declared.cmp.Ordering.{Ordering}
use Rattle.std.specs.declared.cmp.Ordering.TheVariants.{Less, Equal, Greater}
use Rattle.std.proofs.lemmas.List.{length-map}
use Rattle.std.proofs.lemmas.Map.Made.{lookup-map_values, keys_of-map_values}
use Rattle.abs_domain.specs.AbstractState.{AbstractState}
use Rattle.abs_domain.specs.StateView.{state_of}
use Rattle.abs_domain.specs.PointOrder.{point_cmp}
use Rattle.abs_domain.specs.declared.points.Point.{Point}
use Rattle.abs_domain.specs.declared.state.Abs.{Abs}
use Rattle.abs_step.specs.StatesAtPoints.{state_in, states_of}
use Rattle.cart_checker.specs.Worklists.{state_by, Wrote}
use Rattle.cart_checker.specs.WorkView.{IsMadeDue}

pub found_as : (notes : List (Point × Abs)) (p : Point) →
    state_by point_cmp (states_of notes) p ≡ option_map state_of (lookup (is_at (point_cmp p)) notes)
found_as notes p = lookup-map_values state_of (is_at (point_cmp p)) notes

pub many_as : (notes : List (Point × Abs)) → length (states_of notes) ≡ length notes
many_as notes = length-map notes state_in

-- ---- an insertion

insert_by : (o : Ordering) (e : Point × Abs) (es more : List (Point × Abs)) (mores : List (Point × AbstractState)) (q : Point) (v : Abs) →
    states_of more ≡ mores →
    states_of (match_ordering o ((q, v) ∷ e ∷ es) ((e.0, v) ∷ es) (e ∷ more))
    ≡ match_ordering o ((q, state_of v) ∷ state_in e ∷ states_of es) ((e.0, state_of v) ∷ states_of es) (state_in e ∷ mores)
insert_by Less e es more mores q v same = refl
insert_by Equal e es more mores q v same = refl
insert_by Greater e es more mores q v same = ap (λ (ns : List (Point × AbstractState)). state_in e ∷ ns) same

insert_as : (notes : List (Point × Abs)) (q : Point) (v : Abs) →
    states_of (insert_entry point_cmp notes q v) ≡ insert_entry point_cmp (states_of notes) q (state_of v)
insert_as [] q v = refl
insert_as (e ∷ es) q v =
    insert_by (point_cmp q e.0) e es (insert_entry point_cmp es q v) (insert_entry point_cmp (states_of es) q (state_of v)) q v
    (insert_as es q v)

-- what the insertion of a state tells
pub record IsInserted (old new : List (Point × Abs)) (q : Point) (v : Abs) : Type 0 where
  pub found : (p : Point) →
      lookup (is_at (point_cmp p)) new ≡ cond (is_at (point_cmp q) p) (Some v) (lookup (is_at (point_cmp p)) old)
  pub entries : new ≡ insert_entry point_cmp old q v
  pub was_ascending : IsStrictlySortedBy point_cmp (keys_of old)
  pub ascends : IsStrictlySortedBy point_cmp (keys_of new)
  pub count : length new ≡ length old + cond (is_some (lookup (is_at (point_cmp q)) old)) 0 1

read_by : (b : Bool) (v : Abs) (o : Option Abs) →
    option_map state_of (cond b (Some v) o) ≡ cond b (Some (state_of v)) (option_map state_of o)
read_by true v o = refl
read_by false v o = refl

some_as : (o : Option Abs) → is_some (option_map state_of o) ≡ is_some o
some_as None = refl
some_as (Some s) = refl

pub wrote : (old new : List (Point × Abs)) (due more : List Point) (q : Point) (v : Abs) → IsInserted old new q v → IsMadeDue due more q →
    Wrote point_cmp (record { notes = states_of old; due = due }) (record { notes = states_of new; due = more }) q (state_of v)
wrote old new due more q v inserted made = record {
  notes = λ p. found_as new p ∙ ap (option_map state_of) (inserted.found p) ∙ read_by (is_at (point_cmp q) p) v _
      ∙ ap (cond (is_at (point_cmp q) p) (Some (state_of v))) (sym (found_as old p));
  due = made.due;
  entries = ap states_of inserted.entries ∙ insert_as old q v;
  was_ascending = subst (IsStrictlySortedBy point_cmp) (sym (keys_of-map_values state_of old)) inserted.was_ascending;
  ascends = subst (IsStrictlySortedBy point_cmp) (sym (keys_of-map_values state_of new)) inserted.ascends;
  longer = made.longer;
  count = count;
}
  where
    same : is_some (state_by point_cmp (states_of old) q) ≡ is_some (lookup (is_at (point_cmp q)) old)
    same = ap is_some (found_as old q) ∙ some_as (lookup (is_at (point_cmp q)) old)

    count : length (states_of new) ≡ length (states_of old) + cond (is_some (state_by point_cmp (states_of old) q)) 0 1
    count = rw (many_as new, many_as old, same) inserted.count
