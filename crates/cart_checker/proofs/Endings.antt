-- What is found at the end, and what the verdict by it is.
use Rattle.std.proofs.Common.{◌≡◌, ℕ, Bool, true, false, ◌&&◌, List, [], ◌∷◌, refl, sym, ap, ◌∙◌, subst}
use Rattle.std.specs.Prelude.{Result, Ok, Err, IfOk, IfErr}
use Rattle.std.specs.List.{All, AllByRecursion, Contains, list_all}
use Rattle.std.specs.List.Sorted.{IsStrictlySortedBy}
use Rattle.std.specs.Map.{keys_of}
use Rattle.std.proofs.lemmas.Cmp.{eq_by_cmp_equiv}
use Rattle.std.proofs.lemmas.List.Elements.{All-head, All-tail, All-from_recursion, All-contains, All-contains_itself, All-weaker}
use Rattle.std.proofs.lemmas.Map.Keys.{IsDistinct-from_sorted}
use Rattle.std.proofs.lemmas.Map.Views.{Contains-from_lookup, lookup-from_Contains, tells_apart}
use Rattle.memory_map.specs.MapOf.{MapTable}
use Rattle.abs_domain.specs.AbstractState.{AbstractState}
use Rattle.abs_domain.specs.StateView.{state_of}
use Rattle.abs_domain.specs.PointOrder.{point_cmp}
use Rattle.abs_domain.specs.declared.points.Point.{Point}
use Rattle.abs_domain.specs.declared.state.Abs.{Abs}
use Rattle.abs_step.specs.MapView.{MapView, view_of}
use Rattle.abs_step.specs.Safety.{is_fault_free}
use Rattle.abs_step.specs.StepView.{invariant_of}
use Rattle.abs_step.specs.StatesAtPoints.{states_of}
use Rattle.abs_step.specs.Analysis.{Analysis, AnalysisLaws}
use Rattle.abs_step.specs.CartridgeAnalysis.{as_invariant}
use Rattle.abs_step.specs.ReachedStates.{HoldsFaultFreeStates, IsLeastMap}
use Rattle.abs_step.proofs.Reachability.{none_past_unsafe, none_past_too_many, least_is_lowest, least_is_fault_free}
use Rattle.cart_checker.specs.declared.halt.Halt.{Halt}
use Rattle.cart_checker.specs.declared.halt.Halt.TheVariants.{Memory, TooMany, Refused}
use Rattle.cart_checker.specs.declared.verdict.Verdict.{Verdict}
use Rattle.cart_checker.specs.Verdicts.{IsVerdictIn, CarriesIn}
use Rattle.cart_checker.specs.WorkView.{map_analysis, are_fault_free, map_verdict, IsVerdictOn, Shows}

both : (b c : Bool) → (b && c) ≡ true → (b ≡ true) × (c ≡ true)
both true c h = (refl, h)
both false c h = absurd (cc)

pass_each : (test : Point × AbstractState → Bool) (es : List (Point × AbstractState)) → list_all test es ≡ true →
    AllByRecursion (λ e. test e ≡ true) es
pass_each test [] h = tt
pass_each test (e ∷ es) h = let parts = both (test e) (list_all test es) h in (parts.0, pass_each test es parts.1)

all_pass : (test : Point × AbstractState → Bool) (es : List (Point × AbstractState)) → All (λ e. test e ≡ true) es → list_all test es ≡ true
all_pass test [] h = refl
all_pass test (e ∷ es) h =
    let first : test e ≡ true = All-head (λ e. test e ≡ true) e es h in
    rw first (all_pass test es (All-tail (λ e. test e ≡ true) e es h))

-- whether the states of a tree are free of faults, as they are read
pub free_as : (m : MapView) (notes : List (Point × Abs)) →
    list_all (λ e. is_fault_free m (invariant_of e)) notes ≡ are_fault_free m (states_of notes)
free_as m [] = refl
free_as m (e ∷ es) = ap (λ (b : Bool). is_fault_free m (invariant_of e) && b) (free_as m es)

module _ (m : MapTable) (tracked : List ℕ) (laws : AnalysisLaws (map_analysis m tracked)) where
  abbrev an : Analysis Point AbstractState
  an = map_analysis m tracked

  abbrev IsFree : Point × AbstractState → Type 0
  IsFree e = is_fault_free (view_of m) (as_invariant e) ≡ true

  module _ (notes : List (Point × AbstractState)) where
    all_free : are_fault_free (view_of m) notes ≡ true → HoldsFaultFreeStates an notes
    all_free free p s noted =
        All-contains IsFree notes (p, s)
        (All-from_recursion IsFree notes (pass_each (λ e. is_fault_free (view_of m) (as_invariant e)) notes free))
        (Contains-from_lookup (tells_apart laws.exact) p s notes noted)

    each_free : IsStrictlySortedBy point_cmp (keys_of notes) → HoldsFaultFreeStates an notes → are_fault_free (view_of m) notes ≡ true
    each_free ascends free =
        all_pass (λ e. is_fault_free (view_of m) (as_invariant e)) notes
        (All-weaker (Contains notes) IsFree each notes (All-contains_itself notes))
      where
        each : (e : Point × AbstractState) → Contains notes e → IsFree e
        each e among =
            free e.0 e.1
            (lookup-from_Contains (eq_by_cmp_equiv laws.total) e.0 e.1 notes (IsDistinct-from_sorted point_cmp (keys_of notes) ascends)
            among)

    -- the verdict on the least map is right, and has what shows it
    record IsRight (verdict : Verdict) : Type 0 where
      is : IsVerdictIn an verdict
      carries : CarriesIn an verdict

    map_right : IsLeastMap an notes → (free : Bool) → are_fault_free (view_of m) notes ≡ free → IsRight (map_verdict free notes)
    map_right least true is =
        let free = all_free is in record {
          is = (notes, least.closed, free);
          carries = (record { least = least; lowest = least_is_lowest an laws notes least }, free);
        }
    map_right least false is = record {
      is = (
        (notes, least.closed),
        λ some.
            let each = each_free least.closed.is_map.ascends (least_is_fault_free an laws notes least some) in
            let both : false ≡ true = sym is ∙ each in
            absurd (cc),
      );
      carries = record { least = least; lowest = least_is_lowest an laws notes least };
    }

  -- ---- the verdict on what a search found

  pub is_right : (found : Result (List (Point × AbstractState)) Halt) (verdict : Verdict) → IfOk found (IsLeastMap an) →
      IfErr found (Shows an) →
      IsVerdictOn (view_of m) found verdict → IsVerdictIn an verdict
  is_right (Ok notes) verdict least shows on =
      subst (IsVerdictIn an) (sym on) (map_right notes least (are_fault_free (view_of m) notes) refl).is
  is_right (Err (Refused p s reason)) verdict least shows on =
      subst (IsVerdictIn an) (sym on) (none_past_unsafe an laws p (state_of s) reason shows)
  is_right (Err TooMany) verdict least shows on = subst (IsVerdictIn an) (sym on) (none_past_too_many an laws shows)
  is_right (Err Memory) verdict least shows on = absurd on

  pub carries_it : (found : Result (List (Point × AbstractState)) Halt) (verdict : Verdict) → IfOk found (IsLeastMap an) →
      IfErr found (Shows an) →
      IsVerdictOn (view_of m) found verdict → CarriesIn an verdict
  carries_it (Ok notes) verdict least shows on =
      subst (CarriesIn an) (sym on) (map_right notes least (are_fault_free (view_of m) notes) refl).carries
  carries_it (Err (Refused p s reason)) verdict least shows on = subst (CarriesIn an) (sym on) shows
  carries_it (Err TooMany) verdict least shows on = subst (CarriesIn an) (sym on) shows
  carries_it (Err Memory) verdict least shows on = absurd on

-- where one fact of what is there makes another
pub if_ok : {X E : Type 0} (P Q : X → Type 0) (result : Result X E) → ((x : X) → P x → Q x) → IfOk result P → IfOk result Q
if_ok P Q (Ok x) makes is = makes x is
if_ok P Q (Err e) makes is = tt
