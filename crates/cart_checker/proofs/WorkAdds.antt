-- A state that is added to the work of a search, by what is at its point.
use Rattle.std.proofs.Common.{◌≡◌, true, false, [], sym, ap, subst}
use Rattle.std.specs.Prelude.{Some, None, MatchBool}
use Rattle.abs_domain.specs.AbstractState.{AbstractState}
use Rattle.abs_domain.specs.Joins.{is_state_below, joined_state}
use Rattle.abs_domain.specs.PointOrder.{point_cmp}
use Rattle.abs_domain.specs.declared.points.Point.{Point}
use Rattle.cart_checker.specs.Worklists.{Work, state_by, Wrote, AddedTo, Added}

module _ (old new : Work Point AbstractState) (q : Point) (t : AbstractState) where
  pub added_first : old.notes ≡ [] → Added point_cmp is_state_below joined_state old new q t → Wrote point_cmp old new q t
  added_first empty is =
      subst (AddedTo point_cmp is_state_below joined_state old new q t) (ap (λ notes. state_by point_cmp notes q) empty) is

  pub added_new : state_by point_cmp old.notes q ≡ None → Wrote point_cmp old new q t →
      Added point_cmp is_state_below joined_state old new q t
  added_new absent is = subst (AddedTo point_cmp is_state_below joined_state old new q t) (sym absent) is

  module _ (s : AbstractState) (noted : state_by point_cmp old.notes q ≡ Some s) where
    pub added_below : is_state_below t s ≡ true → new ≡ old → Added point_cmp is_state_below joined_state old new q t
    added_below below same =
        subst (AddedTo point_cmp is_state_below joined_state old new q t) (sym noted)
        (subst (λ b. MatchBool b (new ≡ old) (Wrote point_cmp old new q (joined_state s t))) (sym below) same)

    pub added_raised : is_state_below t s ≡ false → Wrote point_cmp old new q (joined_state s t) →
        Added point_cmp is_state_below joined_state old new q t
    added_raised below is =
        subst (AddedTo point_cmp is_state_below joined_state old new q t) (sym noted)
        (subst (λ b. MatchBool b (new ≡ old) (Wrote point_cmp old new q (joined_state s t))) (sym below) is)
