-- The one source's first pass: the labels of a module stand behind the names before it, and an ORG changes nothing.
use Rattle.std.proofs.Common.{◌≡◌, ℕ, ◌+◌, ℤ, pos, Bool, true, false, ◌||◌, List, [], ◌∷◌, ◌++◌, length, map, Option, Some, None, is_some}
use Rattle.std.proofs.Common.{Result, Ok, Err, refl, sym, ap, ◌∙◌, append_assoc, append-nil, bytes_eq, arith, add-zero}
use Rattle.std.proofs.lemmas.List.{map-append}
use Rattle.asm_text.specs.declared.answers.Token.{Token}
use Rattle.f8_asm.specs.Answers.{◌>>=◌}
use Rattle.f8_asm.specs.Names.{value_of, with_name}
use Rattle.f8_asm.specs.ParsedLines.{parsed}
use Rattle.f8_asm.specs.Statements.{statement, label_of, behind_label}
use Rattle.f8_asm.specs.Steps.{steps}
use Rattle.f8_asm.specs.declared.line.ParsedLine.{ParsedLine}
use Rattle.f8_asm.specs.declared.operands.Statement.TheVariants.{One}
use Rattle.f8_asm.specs.declared.values.Outcome.TheVariants.{Value, OutOfRange}
use Rattle.f8_asm.specs.declared.words.Single.TheVariants as single
use Rattle.f8_asm.proofs.FormulaValues.{statement_with_values}
use Rattle.f8_asm.proofs.ListedBytes.{all_open}
use Rattle.f8_link.specs.declared.lines.LineTask.{LineTask}
use Rattle.f8_link.specs.OneSource.{SourceLine, renamed_values, statement_read, label_read, source_read, has, label_list, origin_tokens}
use Rattle.f8_link.specs.OneSource.{numbered}
use Rattle.f8_link.proofs.ModuleLines.{LinesPair, no_line, export_line, statement_line, seen_after, NewLabel, LabelsNew}
use Rattle.f8_link.proofs.NameFacts.{value_behind, given, not_both, name_itself}
use Rattle.f8_link.proofs.LinesTold.{parsed_from}

-- ---- steps one behind the other

both_ways : {S X E : Type 0} (step : S → X → Result S E) (r : Result S E) (xs ys : List X)
    → ((t : S) → steps step t (xs ++ ys) ≡ (steps step t xs >>= λ u. steps step u ys))
    → (r >>= λ t. steps step t (xs ++ ys)) ≡ ((r >>= λ t. steps step t xs) >>= λ u. steps step u ys)
both_ways step (Ok t) xs ys goes = goes t
both_ways step (Err e) xs ys goes = refl

pub steps_behind : {S X E : Type 0} (step : S → X → Result S E) (s : S) (xs ys : List X)
    → steps step s (xs ++ ys) ≡ (steps step s xs >>= λ t. steps step t ys)
unfolding steps
steps_behind step s [] ys = refl
steps_behind step s (x ∷ xs) ys = both_ways step (step s x) xs ys (λ t. steps_behind step t xs ys)

-- steps that go on from where others ended
pub steps_on : {S X E : Type 0} (step : S → X → Result S E) (s t : S) (xs ys : List X) → steps step s xs ≡ Ok t
    → steps step s (xs ++ ys) ≡ steps step t ys
steps_on step s t xs ys h = steps_behind step s xs ys ∙ rw h refl

-- lines one behind the other have numbers that go on
pub numbered_behind : (number : ℕ) (xs ys : List SourceLine) → numbered number (xs ++ ys) ≡ numbered number xs ++ numbered (number + length xs) ys
unfolding numbered
numbered_behind number [] ys = rw (add-zero number) refl
numbered_behind number (l ∷ ls) ys =
    let same : (number + 1) + length ls ≡ number + length (l ∷ ls) = omega arith in
    ap (λ q. (record { rename = l.rename; number = number; tokens = l.tokens }) ∷ q) (numbered_behind (number + 1) ls ys ∙ rw same refl)

-- ---- lines of a module in the one source

-- the labels of lines, in their order
abbrev pub labels_in : List (List Token) → List (List ℕ)
labels_in [] = []
labels_in (ts ∷ tss) = label_list (label_of ts) ++ labels_in tss

-- lines of these tokens that spell names so
abbrev pub spelled_lines : (List ℕ → List ℕ) → List (List Token) → List SourceLine
spelled_lines rename tss = map (λ ts. record { rename = rename; number = 0; tokens = ts }) tss

-- names that have no value yet
abbrev pub no_values : (List ℕ → List ℕ) → List (List ℕ) → List (List ℕ × ℤ)
no_values rename xs = map (λ x. (rename x, pos 0)) xs

-- tokens that make a statement do so with any values
statement_goes : (rename : List ℕ → List ℕ) (names : List (List ℕ × ℤ)) (number : ℕ) (ts : List Token) (l : ParsedLine) → parsed number ts ≡ Ok l
    → statement_read rename names ts ≡ Ok tt
statement_goes rename names number ts l h =
    let from = parsed_from number ts l h in
    let goes = statement_with_values OutOfRange (renamed_values rename names 0) (is_some (label_of ts)) (behind_label ts) from.st from.at_st in
    rw goes refl

-- names of the module that weren't seen have no value
abbrev pub Unseen : (List ℕ → List ℕ) → (List ℕ → Bool) → List (List ℕ) → List (List ℕ × ℤ) → Type 0
Unseen rename own seen names = (x : List ℕ) → own x ≡ true → has seen x ≡ false → value_of names (rename x) ≡ None

abbrev pub Own : (List ℕ → Bool) → Option (List ℕ) → Type 0
Own own None = Unit {0}
Own own (Some x) = own x ≡ true

-- each label is the module's own
abbrev pub OwnLabels : (List ℕ → Bool) → List (List Token) → Type 0
OwnLabels own [] = Unit {0}
OwnLabels own (ts ∷ tss) = Own own (label_of ts) × OwnLabels own tss

module _ (rename : List ℕ → List ℕ) (apart : (x y : List ℕ) → bytes_eq (rename x) (rename y) ≡ bytes_eq x y) (own : List ℕ → Bool) where
  -- what a label leaves
  record Labelled (seen : List (List ℕ)) (names : List (List ℕ × ℤ)) (ts : List Token) (label : Option (List ℕ)) : Type 0 where
    after : List (List ℕ × ℤ)
    is : label_read rename names ts label ≡ Ok after
    after_is : after ≡ names ++ no_values rename (label_list label)
    unseen : Unseen rename own (seen_after seen label) after

  still : (seen : List (List ℕ)) (names : List (List ℕ × ℤ)) (x : List ℕ) → Unseen rename own seen names →
      Unseen rename own (x ∷ seen) (names ++ (rename x, pos 0) ∷ [])
  still seen names x so y is_own h = by (bytes_eq y x) refl h
    where
      by : (t : Bool) → bytes_eq y x ≡ t → (t || has seen y) ≡ false → value_of (names ++ (rename x, pos 0) ∷ []) (rename y) ≡ None
      by true is h = not_both true refl h
      by false is h = value_behind names ((rename x, pos 0) ∷ []) (rename y) (so y is_own h) ∙ rw (apart y x, is) refl

  labelled : (seen : List (List ℕ)) (names : List (List ℕ × ℤ)) (ts : List Token) (label : Option (List ℕ)) → Own own label → NewLabel seen label
      → Unseen rename own seen names → Labelled seen names ts label
  labelled seen names ts None is_own new so = record { after = names; is = refl; after_is = sym (append-nil names); unseen = so }
  labelled seen names ts (Some x) is_own new so =
      let none : value_of names (rename x) ≡ None = so x is_own new in
      let is : with_name names (rename x) (pos 0) ≡ names ++ (rename x, pos 0) ∷ [] = given names (rename x) (pos 0) none in
      record { after = names ++ (rename x, pos 0) ∷ []; is = rw (none, is) refl; after_is = refl; unseen = still seen names x so }

  line_read : (seen : List (List ℕ)) (names : List (List ℕ × ℤ)) (number : ℕ) (ts : List Token) (l : ParsedLine) → parsed l.number ts ≡ Ok l
      → (label : Labelled seen names ts (label_of ts)) → source_read names (record { rename = rename; number = number; tokens = ts }) ≡ Ok label.after
  unfolding source_read
  line_read seen names number ts l read label = rw (label.is, statement_goes rename names l.number ts l read) refl

  pub lines_read : {ls : List LineTask} {tss : List (List Token)} → LinesPair ls tss → (seen : List (List ℕ)) (names : List (List ℕ × ℤ))
      (number : ℕ) → OwnLabels own tss → LabelsNew seen tss → Unseen rename own seen names
      → steps source_read names (numbered number (spelled_lines rename tss)) ≡ Ok (names ++ no_values rename (labels_in tss))
  unfolding steps numbered
  lines_read no_line seen names number are_own new so = ap Ok (sym (append-nil names))
  lines_read (export_line rest) seen names number are_own new so = lines_read rest seen names number are_own new so
  lines_read (statement_line {l} {ts} {tss} read rest) seen names number are_own new so =
      let label = labelled seen names ts (label_of ts) are_own.0 new.0 so in
      let goes = lines_read rest (seen_after seen (label_of ts)) label.after (number + 1) are_own.1 new.1 label.unseen in
      let parts : no_values rename (labels_in (ts ∷ tss)) ≡ no_values rename (label_list (label_of ts)) ++ no_values rename (labels_in tss) =
      map-append (λ x. (rename x, pos 0)) (label_list (label_of ts)) (labels_in tss) in
      let whole : label.after ++ no_values rename (labels_in tss) ≡ names ++ no_values rename (labels_in (ts ∷ tss)) =
      ap (λ q. q ++ no_values rename (labels_in tss)) label.after_is
      ∙ append_assoc names (no_values rename (label_list (label_of ts))) (no_values rename (labels_in tss))
      ∙ ap (λ q. names ++ q) (sym parts) in
      rw (line_read seen names number ts l read label) (goes ∙ ap Ok whole)

label_own : (own : List ℕ → Bool) (label : Option (List ℕ)) (xs : List (List ℕ)) → ((x : List ℕ) → has (label_list label ++ xs) x ≡ true → own x ≡ true)
    → Own own label
label_own own None xs all = tt
label_own own (Some x) xs all = all x (rw (name_itself x) refl)

pub rest_own : (label : Option (List ℕ)) (xs : List (List ℕ)) (x : List ℕ) → has xs x ≡ true → has (label_list label ++ xs) x ≡ true
rest_own None xs x h = h
rest_own (Some y) xs x h = by (bytes_eq x y)
  where
    by : (t : Bool) → (t || has xs x) ≡ true
    by true = refl
    by false = h

own_labels : (own : List ℕ → Bool) (tss : List (List Token)) → ((x : List ℕ) → has (labels_in tss) x ≡ true → own x ≡ true) → OwnLabels own tss
own_labels own [] all = tt
own_labels own (ts ∷ tss) all =
    (label_own own (label_of ts) (labels_in tss) all, own_labels own tss (λ x h. all x (rest_own (label_of ts) (labels_in tss) x h)))

-- the lines of a module, none of whose labels has a value yet
pub module_read : (rename : List ℕ → List ℕ) → ((x y : List ℕ) → bytes_eq (rename x) (rename y) ≡ bytes_eq x y) → {ls : List LineTask}
    {tss : List (List Token)} → LinesPair ls tss → LabelsNew [] tss → (names : List (List ℕ × ℤ)) (number : ℕ)
    → ((x : List ℕ) → has (labels_in tss) x ≡ true → value_of names (rename x) ≡ None)
    → steps source_read names (numbered number (spelled_lines rename tss)) ≡ Ok (names ++ no_values rename (labels_in tss))
module_read rename apart {ls} {tss} pair new names number fresh =
    lines_read rename apart (has (labels_in tss)) pair [] names number (own_labels (has (labels_in tss)) tss (λ x h. h)) new (λ x is_own out. fresh x is_own)

-- ---- ORG

-- the statement of an ORG line
pub origin_statement : (rename : List ℕ → List ℕ) (names : List (List ℕ × ℤ)) (here address : ℕ)
    → statement (renamed_values rename names here) (is_some (label_of (origin_tokens address))) (behind_label (origin_tokens address))
    ≡ Ok (One single.Org (record { column = 6; value = Value (pos address) }))
unfolding all_open
origin_statement rename names here address = refl

pub origin_label : (address : ℕ) → label_of (origin_tokens address) ≡ None
unfolding all_open
origin_label address = refl

pub origin_read : (rename : List ℕ → List ℕ) (names : List (List ℕ × ℤ)) (number address : ℕ)
    → source_read names (record { rename = rename; number = number; tokens = origin_tokens address }) ≡ Ok names
unfolding source_read all_open
origin_read rename names number address = refl
