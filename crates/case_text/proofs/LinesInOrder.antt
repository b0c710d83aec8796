-- Lines that are read one by one: the entries so far are in order, and the rest goes on behind the last of them.
use Rattle.std.proofs.Common.{◌≡◌, ℕ, suc, ◌+◌, ◌-◌, ◌<◌, ◌≤◌, Bool, true, false, cond, ◌==◌, ◌&&◌, ◌||◌, List, [], ◌∷◌, ◌++◌}
use Rattle.std.proofs.Common.{refl, sym, ap, ◌∙◌, arith, append_assoc, append-nil}
use Rattle.std.specs.Prelude.{Option, Some, None, option_map, Result, Ok, Err, nat_lt}
use Rattle.std.proofs.lemmas.Bool.Decides.{nat_tests}
use Rattle.text_lines.specs.ReadErrors.{SaysSeen}
use Rattle.text_lines.specs.Steps.{◌>>=◌}
use Rattle.text_lines.specs.declared.read_error.ReadError.{ReadError}
use Rattle.text_lines.specs.declared.read_error.ReadError.TheVariants.{Fault, Memory}
use Rattle.line_words.specs.Words.{words}
use Rattle.case_step.specs.Ascending.{AreBefore}
use Rattle.case_step.specs.Entries.{EntryView}
use Rattle.case_step.specs.EntryViews.{entry_view}
use Rattle.case_step.specs.declared.entry.Entry.{Entry}
use Rattle.case_text.specs.EntryWords.{entry_of}
use Rattle.case_text.specs.CasesText.{at_line, line_at, end_at, is_behind, is_text_behind, entry_by, entry_in, entries_at}
use Rattle.case_text.specs.declared.cause.CasesCause.TheVariants.{Order}
use Rattle.case_text.specs.declared.cause.CasesFault.{CasesFault}
use Rattle.case_text.specs.declared.read.Last.{Last}

-- the address and the line of the entry before
abbrev pub last_of : Option Last → Option (ℕ × List ℕ)
last_of before = option_map (λ last. (last.at, last.line.now)) before

abbrev pub with_front : List EntryView → Result (List EntryView) CasesFault → Result (List EntryView) CasesFault
with_front front (Ok es) = Ok (front ++ es)
with_front front (Err fault) = Err fault

twice : (xs ys : List EntryView) (r : Result (List EntryView) CasesFault) → with_front (xs ++ ys) r ≡ with_front xs (with_front ys r)
twice xs ys (Ok es) = ap (λ (zs : List EntryView). Ok zs) (append_assoc xs ys es)
twice xs ys (Err fault) = refl

-- ---- entries in order

-- none of these is at a later address than a line that is behind the last one
abbrev pub IsLast : Option (ℕ × List ℕ) → List EntryView → Type 0
IsLast before list = (at : ℕ) (line : List ℕ) → is_behind before at line ≡ true → AreBefore at list

no_later : (first at : ℕ) (behind : Bool) → (nat_lt first at || ((first == at) && behind)) ≡ true → first ≤ at
no_later first at behind e = grind (arith, nat_tests)

push_before : (list : List EntryView) (e : EntryView) (at : ℕ) → AreBefore e.at list → e.at ≤ at → AreBefore at (list ++ e ∷ [])
push_before [] e at before later = (later, tt)
push_before (x ∷ xs) e at before later =
    let first : x.at ≤ e.at = before.0 in
    (omega arith, push_before xs e at before.1 later)

pub last_again : (list : List EntryView) (e : EntryView) (line : List ℕ) → AreBefore e.at list → IsLast (Some (e.at, line)) (list ++ e ∷ [])
last_again list e line before = λ at other behind. push_before list e at before (no_later e.at at (is_text_behind line other) behind)

-- ---- a line

module _ (left number : ℕ) (before : Option (ℕ × List ℕ)) (rest : List ℕ) where
  pub no_line : (fault : CasesFault) → Err fault ≡ line_at number rest → entries_at (suc left) number before rest ≡ Err fault
  unfolding entries_at
  no_line fault none = rw (← none) refl

  pub no_entry : (line more : List ℕ) (fault : CasesFault) → Ok (line, more) ≡ line_at number rest →
      at_line number (entry_in before line) ≡ Err fault → entries_at (suc left) number before rest ≡ Err fault
  unfolding entries_at
  no_entry line more fault found none = rw (← found, none) refl

  pub one_entry : (line more : List ℕ) (e : EntryView) → Ok (line, more) ≡ line_at number rest → at_line number (entry_in before line) ≡ Ok e →
      entries_at (suc left) number before rest ≡ with_front (e ∷ []) (entries_at left (number + 1) (Some (e.at, line)) more)
  unfolding entries_at
  one_entry line more e found known = rw (← found, known) (by (entries_at left (number + 1) (Some (e.at, line)) more))
    where
      by : (r : Result (List EntryView) CasesFault) → (r >>= (λ others. Ok (e ∷ others))) ≡ with_front (e ∷ []) r
      by (Ok es) = refl
      by (Err fault) = refl

module _ (number : ℕ) (before : Option (ℕ × List ℕ)) (line : List ℕ) (e : EntryView) where
  in_order : (behind : Bool) (x : EntryView) → is_behind before x.at line ≡ behind → at_line number (cond behind (Ok x) (Err Order)) ≡ Ok e →
      is_behind before e.at line ≡ true
  in_order true x is h = let same : x ≡ e = cc in rw (← same) is
  in_order false x is h = absurd (cc)

  read_by : (o : Option EntryView) → at_line number (entry_by before line o) ≡ Ok e → is_behind before e.at line ≡ true
  read_by None h = absurd (cc)
  read_by (Some x) h = in_order (is_behind before x.at line) x refl h

  -- a line that is read is behind the one before
  pub is_ahead : at_line number (entry_in before line) ≡ Ok e → is_behind before e.at line ≡ true
  unfolding entry_in
  is_ahead h = read_by (entry_of (words line)) h

-- ---- a turn of the loop, and its end

module _ (count : ℕ) (text : List ℕ) (number : ℕ) (before : Option (ℕ × List ℕ)) (rest : List ℕ) (list : List EntryView)
    (same : with_front list (entries_at (count + 2 - number) number before rest) ≡ entries_at count 2 None text) where
  abbrev pub left : ℕ
  left = count + 2 - (number + 1)

  faulty : (r : Result (List EntryView) CasesFault) (fault : CasesFault) → r ≡ Err fault → with_front list r ≡ Err fault
  faulty (Ok es) fault e = absurd (cc)
  faulty (Err found) fault e = cc

  pub fails : number < count + 2 → (fault : CasesFault) → entries_at (suc left) number before rest ≡ Err fault →
      entries_at count 2 None text ≡ Err fault
  fails within fault found =
      let more : count + 2 - number ≡ suc left = omega arith in
      sym same ∙ faulty _ fault (ap (λ n. entries_at n number before rest) more ∙ found)

  pub entry_fails : number < count + 2 → (line more : List ℕ) → Ok (line, more) ≡ line_at number rest → (e : ReadError CasesFault) →
      SaysSeen {A = Entry} entry_view (Err e) (at_line number (entry_in before line)) →
      SaysSeen {A = List EntryView} (λ list. list) (Err e) (entries_at count 2 None text)
  entry_fails within line more found (Fault fault) said = fails within fault (no_entry left number before rest line more fault found said)
  entry_fails within line more found Memory said = tt

  pub goes_on : number < count + 2 → (e : EntryView) (line behind : List ℕ) →
      entries_at (suc left) number before rest ≡ with_front (e ∷ []) (entries_at left (number + 1) (Some (e.at, line)) behind) →
      with_front (list ++ e ∷ []) (entries_at (count + 2 - (number + 1)) (number + 1) (Some (e.at, line)) behind)
      ≡ entries_at count 2 None text
  goes_on within e line behind one =
      let more : suc left ≡ count + 2 - number = omega arith in
      rw (twice list (e ∷ []) (entries_at left (number + 1) (Some (e.at, line)) behind), ← one)
      (ap (λ n. with_front list (entries_at n number before rest)) more ∙ same)

  pub all_read : count + 2 ≤ number → Ok tt ≡ end_at number rest → entries_at count 2 None text ≡ Ok list
  unfolding entries_at
  all_read past ended =
      let none : count + 2 - number ≡ 0 = omega arith in
      sym same ∙ rw (none, ← ended, append-nil list) refl

  pub over : (fault : CasesFault) → count + 2 ≤ number → Err fault ≡ end_at number rest → entries_at count 2 None text ≡ Err fault
  unfolding entries_at
  over fault past more =
      let none : count + 2 - number ≡ 0 = omega arith in
      sym same ∙ rw (none, ← more) refl
