-- The order of points is total, and only a point itself is its equal.
use Rattle.std.proofs.Common.{◌≡◌, ℕ, List, [], ◌∷◌, refl, ap}
use Rattle.std.specs.Prelude.{Option, Some, None}
use Rattle.std.specs.declared.cmp.Ordering.{Ordering}
use Rattle.std.specs.declared.cmp.Ordering.TheVariants.{Less, Equal, Greater}
use Rattle.std.specs.Ordering.{nat_cmp, ordering_then}
use Rattle.std.specs.Option.{option_cmp}
use Rattle.std.specs.Cmp.Lexicographic.{slice_cmp, options_total}
use Rattle.std.proofs.lemmas.Cmp.{nat_cmp_total, lists_total, on_total, then_total}
use Rattle.std.proofs.lemmas.Map.Lookups.{exact_unsigned}
use Rattle.abs_domain.specs.PointOrder.{point_cmp}
use Rattle.abs_domain.specs.DomainLaws.{PointLaw}
use Rattle.abs_domain.specs.declared.points.Point.{Point}

-- two comparisons in a row answer equal where both do
both_equal : (a b : Ordering) → ordering_then a b ≡ Equal → (a ≡ Equal) × (b ≡ Equal)
both_equal Equal b e = (refl, e)
both_equal Less b e = absurd (cc)
both_equal Greater b e = absurd (cc)

module _ {A : Type 0} (R : A → A → Ordering) (exact : (x y : A) → R x y ≡ Equal → x ≡ y) where
  options_exact : (x y : Option A) → option_cmp R x y ≡ Equal → x ≡ y
  options_exact None None e = refl
  options_exact None (Some y) e = absurd (cc)
  options_exact (Some x) None e = absurd (cc)
  options_exact (Some x) (Some y) e = ap Some (exact x y e)

  lists_exact : (xs ys : List A) → slice_cmp R xs ys ≡ Equal → xs ≡ ys
  lists_exact [] [] e = refl
  lists_exact [] (y ∷ ys) e = absurd (cc)
  lists_exact (x ∷ xs) [] e = absurd (cc)
  lists_exact (x ∷ xs) (y ∷ ys) e =
      let both = both_equal (R x y) (slice_cmp R xs ys) e in
      let head : x ≡ y = exact x y both.0 in
      let tail : xs ≡ ys = lists_exact xs ys both.1 in
      cc

numbers_exact : (x y : ℕ) → nat_cmp x y ≡ Equal → x ≡ y
numbers_exact x y e = exact_unsigned x y e

bytes_exact : (x y : Option ℕ) → option_cmp nat_cmp x y ≡ Equal → x ≡ y
bytes_exact x y e = options_exact nat_cmp numbers_exact x y e

points_exact : (p q : Point) → point_cmp p q ≡ Equal → p ≡ q
points_exact p q e =
    let first = both_equal (nat_cmp p.at q.at) _ e in
    let rest = both_equal (option_cmp nat_cmp p.ret q.ret) _ first.1 in
    let at : p.at ≡ q.at = numbers_exact p.at q.at first.0 in
    let ret : p.ret ≡ q.ret = bytes_exact p.ret q.ret rest.0 in
    let split : p.split ≡ q.split = lists_exact (option_cmp nat_cmp) bytes_exact p.split q.split rest.1 in
    λ i. record { at = at i; ret = ret i; split = split i }

pub point_laws : PointLaw
point_laws = record {
  compares = λ p q. refl;
  total = then_total (on_total (λ (p : Point). p.at) nat_cmp_total)
      (then_total (on_total (λ (p : Point). p.ret) (options_total nat_cmp_total))
      (on_total (λ (p : Point). p.split) (lists_total (options_total nat_cmp_total))));
  exact = points_exact;
}
