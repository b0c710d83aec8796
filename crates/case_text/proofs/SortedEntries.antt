-- The lines that are written of some entries are those of a list: in order, with the same entries.
use Rattle.std.proofs.Common.{◌≡◌, ℕ, List, [], ◌∷◌, map, ◌⊎◌, inl, inr, refl, sym, ap, ◌∙◌, subst, arith}
use Rattle.std.specs.Prelude.{◌↔◌, Some}
use Rattle.std.specs.List.{AllByRecursion, Contains}
use Rattle.std.specs.List.Sorted.{IsStrictlySortedBy}
use Rattle.std.specs.Ordering.{nat_cmp}
use Rattle.std.specs.Cmp.Lexicographic.{slice_cmp, on_texts}
use Rattle.std.specs.BTreeSet.{insert_key}
use Rattle.std.specs.declared.cmp.Ordering.{Ordering}
use Rattle.std.specs.declared.cmp.Ordering.TheVariants.{Equal}
use Rattle.std.proofs.lemmas.Map.Lookups.{exact_bytes}
use Rattle.line_words.specs.Words.{words}
use Rattle.case_step.specs.Entries.{EntryView}
use Rattle.case_text.specs.EntryWords.{entry_of}
use Rattle.case_text.specs.WrittenCases.{entry_text, lines_with, lines_of, IsInForm}
use Rattle.case_text.proofs.EntriesAgain.{entry_again}
use Rattle.case_text.proofs.InsertedKeys.{map_inserted, all_inserted, inserted_sorted, first_contained, later_contained}
use Rattle.case_text.proofs.InsertedKeys.{contained_cases, kept_contained, contained_before, new_contained}

-- as their lines compare as texts
abbrev pub by_text : EntryView → EntryView → Ordering
by_text e f = slice_cmp nat_cmp (entry_text e) (entry_text f)

abbrev pub sorted_with : List EntryView → List EntryView → List EntryView
sorted_with list [] = list
sorted_with list (e ∷ entries) = sorted_with (insert_key by_text list e) entries

abbrev pub sorted : List EntryView → List EntryView
sorted entries = sorted_with [] entries

-- ---- their lines, and their order

lines_are : (list entries : List EntryView) → map entry_text (sorted_with list entries) ≡ lines_with (map entry_text list) entries
lines_are list [] = refl
lines_are list (e ∷ entries) =
    lines_are (insert_key by_text list e) entries
    ∙ ap (λ (lines : List (List ℕ)). lines_with lines entries) (map_inserted entry_text (slice_cmp nat_cmp) e list)

pub lines_sorted : (entries : List EntryView) → map entry_text (sorted entries) ≡ lines_of entries
lines_sorted entries = lines_are [] entries

in_order : (list entries : List EntryView) → IsStrictlySortedBy by_text list → IsStrictlySortedBy by_text (sorted_with list entries)
in_order list [] ascends = ascends
in_order list (e ∷ entries) ascends =
    in_order (insert_key by_text list e) entries (inserted_sorted by_text (on_texts entry_text) e list ascends)

pub sorted_ascends : (entries : List EntryView) → IsStrictlySortedBy by_text (sorted entries)
unfolding IsStrictlySortedBy
sorted_ascends entries = in_order [] entries tt

-- ---- each is in form

forms_with : (list entries : List EntryView) → AllByRecursion IsInForm list → AllByRecursion IsInForm entries →
    AllByRecursion IsInForm (sorted_with list entries)
forms_with list [] all more = all
forms_with list (e ∷ entries) all more =
    forms_with (insert_key by_text list e) entries (all_inserted by_text e IsInForm list more.0 all) more.1

pub sorted_in_form : (entries : List EntryView) → AllByRecursion IsInForm entries → AllByRecursion IsInForm (sorted entries)
sorted_in_form entries more = forms_with [] entries tt more

-- ---- which entries there are

-- no two in form have one line
one_line : (e f : EntryView) → IsInForm e → IsInForm f → by_text e f ≡ Equal → e ≡ f
one_line e f form other same =
    let line = exact_bytes (entry_text e) (entry_text f) same in
    let both : Some e ≡ Some f = sym (entry_again e form) ∙ ap (λ (text : List ℕ). entry_of (words text)) line ∙ entry_again f other in
    cc

still_there : (list entries : List EntryView) (y : EntryView) → Contains list y → Contains (sorted_with list entries) y
still_there list [] y found = found
still_there list (e ∷ entries) y found = still_there (insert_key by_text list e) entries y (kept_contained by_text e y list found)

now_there : (list entries : List EntryView) (y : EntryView) → AllByRecursion IsInForm list → AllByRecursion IsInForm entries →
    Contains entries y → Contains (sorted_with list entries) y
now_there list [] y all more found = still_there list [] y (absurd (omega (arith, found.1)))
now_there list (e ∷ entries) y all more found = elim (contained_cases e y entries found) [
  | inl same ↦
      subst (Contains (sorted_with (insert_key by_text list e) entries)) same
      (still_there (insert_key by_text list e) entries e (new_contained by_text IsInForm one_line e more.0 list all))
  | inr later ↦
      now_there (insert_key by_text list e) entries y (all_inserted by_text e IsInForm list more.0 all) more.1 later
]

was_there : (list entries : List EntryView) (y : EntryView) → Contains (sorted_with list entries) y → Contains list y ⊎ Contains entries y
was_there list [] y found = inl found
was_there list (e ∷ entries) y found = elim (was_there (insert_key by_text list e) entries y found) [
  | inl before ↦ elim (contained_before by_text e y list before) [
    | inl new ↦ inr (subst (Contains (e ∷ entries)) new (first_contained e entries))
    | inr old ↦ inl old
  ]
  | inr later ↦ inr (later_contained e y entries later)
]

none_there : (y : EntryView) (entries : List EntryView) → Contains [] y ⊎ Contains entries y → Contains entries y
none_there y entries found = elim found [
  | inl none ↦ absurd (omega (arith, none.1))
  | inr there ↦ there
]

pub sorted_same : (entries : List EntryView) → AllByRecursion IsInForm entries → (y : EntryView) →
    Contains (sorted entries) y ↔ Contains entries y
sorted_same entries more y =
    (λ found. none_there y entries (was_there [] entries y found), λ found. now_there [] entries y tt more found)
