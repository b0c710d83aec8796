-- Where the checker's map is closed and safe the list of it is told, and where some such map is free of faults it is found whole.
use Rattle.std.proofs.Common.{◌≡◌, true, Bool, List, map, ◌⊎◌, inl, inr, refl, sym, ap, ◌∙◌, subst}
use Rattle.std.specs.Prelude.{Option, Some, None, is_some, option_map, Result, Ok, Err, IfOk}
use Rattle.memory_map.specs.MapOf.{seats_of}
use Rattle.cart_data.specs.declared.cart.Cart.{Cart}
use Rattle.abs_domain.specs.AbstractState.{AbstractState}
use Rattle.abs_domain.specs.declared.points.Point.{Point}
use Rattle.abs_step.specs.CartridgeAnalysis.{TellsBytes}
use Rattle.abs_step.specs.MapView.{MapView, MapViewLaw, chips_view}
use Rattle.abs_step.specs.ReachedStates.{HoldsFaultFreeStates, IsLeastMap}
use Rattle.cart_checker.specs.Verdicts.{analysis_of, Carries, IsFaultFreeCart, IsSafeCart, IsVerdict}
use Rattle.cart_checker.specs.declared.verdict.Verdict.{Verdict}
use Rattle.cart_checker.specs.declared.verdict.Verdict.TheVariants as verdicts
use Rattle.case_step.specs.CaseLaws.{JudgedLaw}
use Rattle.case_step.specs.Entries.{EntryView}
use Rattle.noted_cases.specs.NotedEntries.{noted_entry}
use Rattle.noted_cases.specs.NotedLaws.{NotedLaw}
use Rattle.case_text.specs.WrittenLaws.{WrittenLaw}
use Rattle.case_search.specs.ProvedLists.{found_of, is_whole, judged_entries}
use Rattle.case_search.specs.declared.proving.ProveAnswer.{ProveAnswer}
use Rattle.case_search.proofs.NotedTexts.{noted_found, noted_whole}

-- the verdict has this map
abbrev pub HasNotes : Verdict → List (Point × AbstractState) → Type 0
HasNotes verdict notes = (verdict ≡ verdicts.Whole notes) ⊎ (verdict ≡ verdicts.Agreed notes)

-- and where some map is free of faults, it is
record IsRightMap (cart : Cart) (notes : List (Point × AbstractState)) : Type 0 where
  least : IsLeastMap (analysis_of cart) notes
  free : IsFaultFreeCart cart → HoldsFaultFreeStates (analysis_of cart) notes

right_map : (cart : Cart) (verdict : Verdict) (notes : List (Point × AbstractState)) → HasNotes verdict notes → IsVerdict cart verdict →
    Carries cart verdict → IsRightMap cart notes
right_map cart verdict notes (inl whole) is carries =
    let shown = subst (Carries cart) whole carries in record { least = shown.0.least; free = λ some. shown.1 }
right_map cart verdict notes (inr agreed) is carries =
    let shown = subst (Carries cart) agreed carries in
    let none = subst (IsVerdict cart) agreed is in
    record { least = shown.least; free = λ some. absurd (none.1 some) }

seen_some : {A B : Type 0} (f : A → B) (o : Option A) → is_some (option_map f o) ≡ is_some o
seen_some f None = refl
seen_some f (Some x) = refl

-- what is found of some entries, by an answer that says so
abbrev pub Finds : {E : Type 0} → Cart → Result (Option ProveAnswer) E → List EntryView → Type 0
Finds cart result entries =
    IfOk result (λ shown. option_map is_whole shown ≡ found_of (judged_entries (chips_view cart.chips) entries))

module _ (views : MapViewLaw) (noted : NotedLaw) (texts : WrittenLaw) (law : JudgedLaw) (cart : Cart)
    (tells : TellsBytes (chips_view cart.chips)) (verdict : Verdict) (notes : List (Point × AbstractState)) (has : HasNotes verdict notes)
    (is : IsVerdict cart verdict) (carries : Carries cart verdict) (entries : List EntryView) (are : entries ≡ map noted_entry notes)
  where
    abbrev m : MapView
    m = chips_view cart.chips

    right : IsRightMap cart notes
    right = right_map cart verdict notes has is carries

    whole_found : IsFaultFreeCart cart → found_of (judged_entries m entries) ≡ Some true
    whole_found some =
        ap (λ (es : List EntryView). found_of (judged_entries m es)) are
        ∙ noted_whole noted texts law m (seats_of cart.chips) cart.split (views.right cart.chips) tells notes right.least (right.free some)

    some_found : is_some (found_of (judged_entries m entries)) ≡ true
    some_found =
        ap (λ (es : List EntryView). is_some (found_of (judged_entries m es))) are
        ∙ noted_found noted texts law m (seats_of cart.chips) cart.split (views.right cart.chips) tells notes right.least

    module _ {E : Type 0} where
      pub whole_kept : (result : Result (Option ProveAnswer) E) → Finds cart result entries →
          IfOk result (λ shown. IsFaultFreeCart cart → option_map is_whole shown ≡ Some true)
      whole_kept (Ok shown) finds = λ some. finds ∙ whole_found some
      whole_kept (Err e) finds = tt

      pub safe_kept : (result : Result (Option ProveAnswer) E) → Finds cart result entries →
          IfOk result (λ shown. IsSafeCart cart → is_some shown ≡ true)
      safe_kept (Ok shown) finds = λ some. sym (seen_some is_whole shown) ∙ ap (λ (o : Option Bool). is_some o) finds ∙ some_found
      safe_kept (Err e) finds = tt
