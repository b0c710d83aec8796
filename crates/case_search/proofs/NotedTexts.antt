-- The entries of the least map that is closed and safe have a text, and the list that is read from it shows as much as the map.
use Rattle.std.proofs.Common.{◌≡◌, ℕ, ◌≤◌, true, List, [], ◌∷◌, length, map, refl, sym, ap, ◌∙◌, arith}
use Rattle.std.specs.Prelude.{Some, is_some}
use Rattle.std.specs.List.{AllByRecursion}
use Rattle.std.specs.Map.{keys_of}
use Rattle.std.proofs.lemmas.Cmp.{eq_by_cmp_equiv}
use Rattle.std.proofs.lemmas.List.{length-map}
use Rattle.std.proofs.lemmas.Map.Keys.{IsDistinct-from_sorted}
use Rattle.std.proofs.lemmas.Map.Views.{lookup-from_Contains}
use Rattle.f8_spec.specs.BusArbitration.{Seat}
use Rattle.abs_domain.specs.AbstractState.{AbstractState, HasScratchpad}
use Rattle.abs_domain.specs.PointOrder.{point_cmp}
use Rattle.abs_domain.specs.declared.points.Point.{Point}
use Rattle.abs_domain.proofs.PointOrders.{point_laws}
use Rattle.abs_step.specs.CartridgeAnalysis.{analysis, FitsPoint, TellsBytes}
use Rattle.abs_step.specs.MapView.{MapView, IsViewOf}
use Rattle.abs_step.specs.ReachedStates.{state_at, HoldsFaultFreeStates, IsLeastMap}
use Rattle.abs_step.specs.Successors.{start_point}
use Rattle.abs_step.proofs.Members.{IsIn, all_of, contains_of_in}
use Rattle.case_step.specs.CaseLaws.{JudgedLaw}
use Rattle.case_step.specs.CaseLists.{IsSafelyClosedList, HasFaultFreeCases, judged}
use Rattle.case_step.specs.Entries.{EntryView}
use Rattle.case_step.specs.declared.answer.CasesAnswer.{CasesAnswer}
use Rattle.case_step.specs.declared.answer.CasesAnswer.TheVariants.{Whole, Agreed, NotClosed, Unsafe}
use Rattle.noted_cases.specs.NotedEntries.{noted_entry}
use Rattle.noted_cases.specs.NotedLaws.{AreOfLeastMap, NotedLaw}
use Rattle.case_text.specs.WrittenCases.{IsInForm, is_writable, lines_of, text_of, written}
use Rattle.case_text.specs.WrittenLaws.{IsReadAs, WrittenLaw}
use Rattle.case_search.specs.ProvedLists.{found_of, judged_entries}
use Rattle.case_search.proofs.NotedForms.{notes_in_form}
use Rattle.case_search.proofs.NotedSizes.{IsShort, notes_short, writable}

-- ---- the text

module _ (m : MapView) (tracked : List ℕ) (notes : List (Point × AbstractState)) (least : IsLeastMap (analysis m tracked) notes) where
  fits : (p : Point) (s : AbstractState) → IsIn (p, s) notes → FitsPoint tracked p s
  fits p s among =
      least.closed.is_map.fits p s
      (lookup-from_Contains (eq_by_cmp_equiv point_laws.total) p s notes
      (IsDistinct-from_sorted point_cmp (keys_of notes) least.closed.is_map.ascends) (contains_of_in notes (p, s) among))

  in_form : AllByRecursion IsInForm (map noted_entry notes)
  in_form = notes_in_form tracked notes fits

  short : AllByRecursion IsShort (map noted_entry notes)
  short =
      notes_short notes
      (all_of (λ (note : Point × AbstractState). HasScratchpad note.1) notes (λ note among. (fits note.0 note.1 among).scratchpad))

some_note : (m : MapView) (tracked : List ℕ) (notes : List (Point × AbstractState)) (s : AbstractState) →
    state_at (analysis m tracked) notes start_point ≡ Some s → 1 ≤ length notes
some_note m tracked [] s noted = absurd (cc)
some_note m tracked (note ∷ notes) s noted = omega arith

has_text : (entries : List EntryView) → is_writable (lines_of entries) ≡ true → written entries ≡ Some (text_of (lines_of entries))
unfolding written
has_text entries may = rw may refl

-- ---- what is found of the list

-- a closed and safe list is found whole where its cases are free of faults, and whole or agreed in any case
found_whole : JudgedLaw → (m : MapView) (list : List EntryView) → IsSafelyClosedList m list → HasFaultFreeCases m list →
    found_of (Some (judged m list)) ≡ Some true
found_whole law m list closed free = ap (λ (answer : CasesAnswer). found_of (Some answer)) ((law.whole m list).1 (closed, free))

found_some : JudgedLaw → (m : MapView) (list : List EntryView) → IsSafelyClosedList m list →
    is_some (found_of (Some (judged m list))) ≡ true
found_some law m list closed = by (judged m list) refl
  where
    no_other : (answer : CasesAnswer) → judged m list ≡ answer → (answer ≡ Whole → ⊥) → (answer ≡ Agreed → ⊥) → ⊥
    no_other answer is whole agreed =
        agreed (sym is ∙ (law.agreed m list).1 (closed, λ free. whole (sym is ∙ (law.whole m list).1 (closed, free))))

    by : (answer : CasesAnswer) → judged m list ≡ answer → is_some (found_of (Some answer)) ≡ true
    by Whole is = refl
    by Agreed is = refl
    by (NotClosed from to) is = absurd (no_other (NotClosed from to) is (λ e. cc) (λ e. cc))
    by (Unsafe entry reason) is = absurd (no_other (Unsafe entry reason) is (λ e. cc) (λ e. cc))

module _ (noted : NotedLaw) (texts : WrittenLaw) (law : JudgedLaw) (m : MapView) (seats : List Seat) (tracked : List ℕ)
    (view : IsViewOf m seats) (tells : TellsBytes m) (notes : List (Point × AbstractState)) (least : IsLeastMap (analysis m tracked) notes)
  where
    abbrev entries : List EntryView
    entries = map noted_entry notes

    has_written : written entries ≡ Some (text_of (lines_of entries))
    has_written =
        let some = some_note m tracked notes least.closed.closed.start.upper least.closed.closed.start.noted in
        let few = least.closed.is_map.few in
        let size = length-map notes noted_entry in
        has_text entries (writable entries (short m tracked notes least) (omega (arith, some, size)) (omega (arith, few, size)))

    again : IsReadAs (text_of (lines_of entries)) entries
    again = texts.again entries (text_of (lines_of entries)) (in_form m tracked notes least) has_written

    list_of : AreOfLeastMap m tracked notes again.list
    list_of = record { least = least; same = again.same }

    judged_again : judged_entries m entries ≡ Some (judged m again.list)
    judged_again = rw (has_written, again.read) refl

    closed : IsSafelyClosedList m again.list
    closed = noted.closed m seats tracked notes again.list view tells list_of

    pub noted_found : is_some (found_of (judged_entries m entries)) ≡ true
    noted_found = rw judged_again (found_some law m again.list closed)

    pub noted_whole : HoldsFaultFreeStates (analysis m tracked) notes → found_of (judged_entries m entries) ≡ Some true
    noted_whole free =
        rw judged_again (found_whole law m again.list closed (noted.fault_free m seats tracked notes again.list view tells list_of free))
