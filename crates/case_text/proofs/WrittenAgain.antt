-- What is written of entries in form is read as a list of these.
use Rattle.std.proofs.Common.{◌≡◌, ℕ, suc, ◌+◌, ◌≤◌, Bool, true, false, cond, ◌&&◌, List, [], ◌∷◌, length, map}
use Rattle.std.proofs.Common.{refl, sym, ap, ◌∙◌, arith}
use Rattle.std.specs.Prelude.{Option, Some, None, Ok, nat_le, flat_map}
use Rattle.std.specs.List.{AllByRecursion, list_all}
use Rattle.std.specs.List.Sorted.{IsStrictlySortedBy}
use Rattle.std.specs.declared.cmp.Ordering.TheVariants.{Less}
use Rattle.std.proofs.lemmas.Bool.Decides.{nat_tests}
use Rattle.certificate.specs.CertificateText.{line_text}
use Rattle.case_step.specs.Entries.{EntryView}
use Rattle.case_text.specs.CasesText.{is_behind, header_at, entry_in, entries_at, cases_of, most_entries}
use Rattle.case_text.specs.WrittenCases.{entry_text, text_of, lines_of, most_text, is_writable, written, IsInForm}
use Rattle.case_text.specs.WrittenLaws.{WrittenLaw}
use Rattle.case_text.proofs.EntriesAgain.{entry_again}
use Rattle.case_text.proofs.FirstLines.{is_inside, first_again, header_text, header_inside, count_again}
use Rattle.case_text.proofs.LineMarks.{is_plain, all_pass, entry_plain}
use Rattle.case_text.proofs.LineOrder.{line_behind}
use Rattle.case_text.proofs.SortedEntries.{by_text, sorted, lines_sorted, sorted_ascends, sorted_in_form, sorted_same}

-- ---- the lines of entries

no_feed : (c : ℕ) → is_plain c ≡ true → is_inside c ≡ true
no_feed c plain = grind (arith, nat_tests)

line_inside : (e : EntryView) → IsInForm e → list_all is_inside (entry_text e) ≡ true
line_inside e form = all_pass is_plain is_inside no_feed (entry_text e) (entry_plain e form)

-- an entry is before those of a list, if there is one
abbrev IsAhead : Option EntryView → List EntryView → Type 0
IsAhead None list = Unit {0}
IsAhead (Some e) list = IsInForm e × AllByRecursion (λ f. by_text e f ≡ Less) list

abbrev last_of : Option EntryView → Option (ℕ × List ℕ)
last_of None = None
last_of (Some e) = Some (e.at, entry_text e)

behind_it : (before : Option EntryView) (e : EntryView) (list : List EntryView) → IsInForm e → IsAhead before (e ∷ list) →
    is_behind (last_of before) e.at (entry_text e) ≡ true
behind_it None e list form ahead = refl
behind_it (Some f) e list form ahead = line_behind f e ahead.0 form ahead.1.0

lines_again : (list : List EntryView) (number : ℕ) (before : Option EntryView) → AllByRecursion IsInForm list →
    IsStrictlySortedBy by_text list → IsAhead before list →
    entries_at (length list) number (last_of before) (flat_map line_text (map entry_text list)) ≡ Ok list
unfolding entries_at entry_in IsStrictlySortedBy
lines_again [] number before forms ascends ahead = refl
lines_again (e ∷ list) number before forms ascends ahead =
    let line : List ℕ = entry_text e in
    let rest : List ℕ = flat_map line_text (map entry_text list) in
    rw (
      first_again line rest (line_inside e forms.0),
      entry_again e forms.0,
      behind_it before e list forms.0 ahead,
      lines_again list (number + 1) (Some e) forms.1 ascends.1 (forms.0, ascends.0),
    ) refl

-- ---- the text

same_size : (list : List EntryView) → length (map entry_text list) ≡ length list
same_size [] = refl
same_size (e ∷ list) = ap suc (same_size list)

text_again : (list : List EntryView) → AllByRecursion IsInForm list → IsStrictlySortedBy by_text list →
    1 ≤ length list → length list ≤ 65536 → cases_of (text_of (map entry_text list)) ≡ Ok list
unfolding header_at cases_of text_of
text_again list forms ascends some few =
    let count : ℕ = length list in
    let rest : List ℕ = flat_map line_text (map entry_text list) in
    rw (same_size list, first_again (header_text count) rest (header_inside count few), count_again count some few)
    (lines_again list 2 None forms ascends tt)

-- what is written of lines that may be
passed : {A : Type 0} (test : Bool) (x y : A) → cond test (Some x) None ≡ Some y → (test ≡ true) × (x ≡ y)
passed true x y is = (refl, let same : x ≡ y = cc in same)
passed false x y is = absurd (cc)

number_of_lines : (n : ℕ) (short : Bool) → (nat_le 1 n && (nat_le n most_entries && short)) ≡ true → (1 ≤ n) × (n ≤ 65536)
number_of_lines n short passes = (grind (arith, nat_tests), grind (arith, nat_tests))

read_again : (entries : List EntryView) (text : List ℕ) → AllByRecursion IsInForm entries → written entries ≡ Some text →
    cases_of text ≡ Ok (sorted entries)
unfolding written
read_again entries text forms is =
    let lines : List (List ℕ) = lines_of entries in
    let told = passed (is_writable lines) (text_of lines) text is in
    let count = number_of_lines (length lines) (nat_le (length (text_of lines)) most_text) told.0 in
    let size : length lines ≡ length (sorted entries) = ap length (sym (lines_sorted entries)) ∙ same_size (sorted entries) in
    ap cases_of (sym told.1)
    ∙ ap (λ (ls : List (List ℕ)). cases_of (text_of ls)) (sym (lines_sorted entries))
    ∙ text_again (sorted entries) (sorted_in_form entries forms) (sorted_ascends entries) (rw size at count.0) (rw size at count.1)

pub written_law : WrittenLaw
written_law = record {
  again = λ entries text forms is. record {
    list = sorted entries;
    read = read_again entries text forms is;
    same = sorted_same entries forms;
  };
}
