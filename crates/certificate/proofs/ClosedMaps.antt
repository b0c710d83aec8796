-- Maps that are closed and safe are examined as such, and their texts are read as the maps.
use Rattle.std.proofs.Common.{◌≡◌, ℕ, ◌≤◌, List, [], ◌∷◌, length, sym, ◌∙◌, arith}
use Rattle.std.specs.Prelude.{◌↔◌, Some}
use Rattle.std.specs.List.{All, AllByRecursion, Contains}
use Rattle.std.specs.List.Sorted.{IsStrictlySortedBy}
use Rattle.std.specs.Map.{keys_of}
use Rattle.std.proofs.lemmas.Cmp.{eq_by_cmp_equiv}
use Rattle.std.proofs.lemmas.List.Elements.{All-head, All-tail, All-contains, All-contains_itself, All-from_recursion, All-weaker}
use Rattle.std.proofs.lemmas.Map.Keys.{IsDistinct-from_sorted}
use Rattle.std.proofs.lemmas.Map.Views.{Contains-from_lookup, lookup-from_Contains, tells_apart}
use Rattle.abs_domain.specs.AbstractState.{AbstractState}
use Rattle.abs_domain.specs.PointOrder.{point_cmp}
use Rattle.abs_domain.specs.declared.points.Point.{Point}
use Rattle.abs_domain.proofs.PointOrders.{point_laws}
use Rattle.abs_step.specs.MapView.{MapView}
use Rattle.abs_step.specs.Successors.{start_point}
use Rattle.abs_step.specs.CartridgeAnalysis.{FitsPoint, analysis}
use Rattle.abs_step.specs.ReachedStates.{state_at, HoldsFaultFreeStates, IsInvariantMap, IsSafelyClosed}
use Rattle.certificate.specs.CertificateLaws.{AllFit, AllInRange, HaveSplit}
use Rattle.certificate.specs.ClosedMaps.{ClosedMapLaw}
use Rattle.certificate.specs.Examination.{examined}
use Rattle.certificate.specs.declared.examined.VerifyAnswer.{VerifyAnswer}
use Rattle.certificate.specs.declared.examined.VerifyAnswer.TheVariants.{Whole, Agreed}
use Rattle.certificate.proofs.Examinations.{whole_exactly, agreed_exactly}
use Rattle.certificate.proofs.RoundTrip.{again, fitting}
use Rattle.certificate.proofs.TextSizes.{text_size, whole_where_fit}

by_recursion : {X : Type 0} (P : X → Type 0) (xs : List X) → All P xs → AllByRecursion P xs
by_recursion P [] all = tt
by_recursion P (x ∷ xs) all = (All-head P x xs all, by_recursion P xs (All-tail P x xs all))

module _ (m : MapView) (tracked : List ℕ) (notes : List (Point × AbstractState)) where
  -- states that fit their points make an invariant map
  pub map_of_fitting : IsStrictlySortedBy point_cmp (keys_of notes) → length notes ≤ 65536 → AllFit tracked notes →
      IsInvariantMap (analysis m tracked) notes
  map_of_fitting ascends few fit = record {
    ascends = ascends;
    few = few;
    fits = λ p s here.
        All-contains (λ (e : Point × AbstractState). FitsPoint tracked e.0 e.1) notes (p, s)
        (All-from_recursion (λ (e : Point × AbstractState). FitsPoint tracked e.0 e.1) notes fit)
        (Contains-from_lookup (tells_apart point_laws.exact) p s notes here);
  }

  all_fit : IsInvariantMap (analysis m tracked) notes → AllFit tracked notes
  all_fit is_map = by_recursion (λ (e : Point × AbstractState). FitsPoint tracked e.0 e.1) notes
      (All-weaker (Contains notes) (λ (e : Point × AbstractState). FitsPoint tracked e.0 e.1) each notes (All-contains_itself notes))
    where
      each : (e : Point × AbstractState) → Contains notes e → FitsPoint tracked e.0 e.1
      each e among =
          is_map.fits e.0 e.1 (lookup-from_Contains (eq_by_cmp_equiv point_laws.total) e.0 e.1 notes
          (IsDistinct-from_sorted point_cmp (keys_of notes) is_map.ascends) among)

-- What is found is right of a map as the program holds it, all of which is within its range where nothing fails.
module _ (m : MapView) (tracked : List ℕ) (notes : List (Point × AbstractState)) (ascends : IsStrictlySortedBy point_cmp (keys_of notes))
    (few : length notes ≤ 65536) (split : HaveSplit tracked notes) (answer : VerifyAnswer) (is : answer ≡ examined (analysis m tracked) notes) where
  is_map : AllInRange notes → IsInvariantMap (analysis m tracked) notes
  is_map ranges = map_of_fitting m tracked notes ascends few (fitting tracked notes split ranges)

  pub whole_as : (answer ≡ Whole → AllInRange notes) →
      (answer ≡ Whole) ↔ (IsSafelyClosed (analysis m tracked) notes × HoldsFaultFreeStates (analysis m tracked) notes)
  whole_as ranges = (
    λ found. (whole_exactly (analysis m tracked) point_laws.total point_laws.exact notes (is_map (ranges found))).0 (sym is ∙ found),
    λ h. is ∙ (whole_exactly (analysis m tracked) point_laws.total point_laws.exact notes h.0.is_map).1 h,
  )

  pub agreed_as : (answer ≡ Agreed → AllInRange notes) →
      (answer ≡ Agreed) ↔ (IsSafelyClosed (analysis m tracked) notes × (HoldsFaultFreeStates (analysis m tracked) notes → ⊥))
  agreed_as ranges = (
    λ found. (agreed_exactly (analysis m tracked) point_laws.total point_laws.exact notes (is_map (ranges found))).0 (sym is ∙ found),
    λ h. is ∙ (agreed_exactly (analysis m tracked) point_laws.total point_laws.exact notes h.0.is_map).1 h,
  )

pub split_of : (tracked : List ℕ) (notes : List (Point × AbstractState)) → AllFit tracked notes → HaveSplit tracked notes
split_of tracked [] fits = tt
split_of tracked (e ∷ es) fits = (fits.0.split, split_of tracked es fits.1)

some_points : (m : MapView) (tracked : List ℕ) (notes : List (Point × AbstractState)) (p : Point) (s : AbstractState) →
    state_at (analysis m tracked) notes p ≡ Some s → 1 ≤ length notes
some_points m tracked [] p s here = absurd (cc)
some_points m tracked (e ∷ es) p s here = omega arith

pub closed_maps : ClosedMapLaw
closed_maps = record {
  split = λ m tracked notes closed. split_of tracked notes (all_fit m tracked notes closed.is_map);
  read = λ m tracked notes few closed.
      again tracked notes few (some_points m tracked notes start_point closed.closed.start.upper closed.closed.start.noted) closed.is_map.few
      closed.is_map.ascends (all_fit m tracked notes closed.is_map);
  size = λ m tracked notes few closed.
      text_size tracked notes few closed.is_map.few (whole_where_fit tracked notes (all_fit m tracked notes closed.is_map));
  whole = λ m tracked notes closed free.
      (whole_exactly (analysis m tracked) point_laws.total point_laws.exact notes closed.is_map).1 (closed, free);
  agreed = λ m tracked notes closed none.
      (agreed_exactly (analysis m tracked) point_laws.total point_laws.exact notes closed.is_map).1 (closed, none);
}
