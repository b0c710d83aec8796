-- Lines that are put one by one into an ordered set: how many they are, how long, and when they can be no text any more.
use Rattle.std.proofs.Common.{◌≡◌, ℕ, suc, ◌+◌, ◌<◌, ◌≤◌, Bool, true, false, cond, ◌&&◌, List, [], ◌∷◌, ◌++◌, length, map, drop}
use Rattle.std.proofs.Common.{get_or, ◌⊎◌, inl, inr, refl, sym, ap, ◌∙◌, arith, add-one, drop-cons, length-append}
use Rattle.std.specs.Prelude.{nat_le, codes, decimal, flat_map}
use Rattle.std.specs.Ordering.{match_ordering, nat_cmp}
use Rattle.std.specs.Cmp.Lexicographic.{slice_cmp}
use Rattle.std.specs.BTreeSet.{insert_key}
use Rattle.std.specs.declared.cmp.Ordering.{Ordering}
use Rattle.std.specs.declared.cmp.Ordering.TheVariants.{Less, Equal, Greater}
use Rattle.std.proofs.lemmas.Bool.Decides.{nat_tests}
use Rattle.certificate.specs.CertificateText.{line_text}
use Rattle.case_step.specs.Entries.{EntryView}
use Rattle.case_text.specs.WrittenCases.{entry_text, lines_with, text_of, is_writable}
use Rattle.case_text.proofs.InsertedKeys.{map_inserted}

-- how many bytes lines have with their ends
abbrev pub size_of : List (List ℕ) → ℕ
size_of lines = length (flat_map line_text lines)

abbrev pub put : List (List ℕ) → List ℕ → List (List ℕ)
put lines line = insert_key (slice_cmp nat_cmp) lines line

line_size : (line rest : List ℕ) → length (line_text line ++ rest) ≡ length rest + (length line + 1)
line_size line rest =
    let whole = length-append (line_text line) rest in
    let end = length-append line (codes "\n") in
    omega (arith, whole, end)

-- ---- one more line, or none

-- as many lines and bytes as before, or one line more with its bytes
abbrev Grows : List (List ℕ) → List (List ℕ) → List ℕ → Type 0
Grows before after line =
    ((length after ≡ length before) × (size_of after ≡ size_of before))
    ⊎ ((length after ≡ length before + 1) × (size_of after ≡ size_of before + (length line + 1)))

put_grows : (lines : List (List ℕ)) (line : List ℕ) → Grows lines (put lines line) line
put_grows [] line = inr (refl, line_size line [])
put_grows (x ∷ lines) line = by (slice_cmp nat_cmp line x) (put_grows lines line)
  where
    by : (r : Ordering) → Grows lines (put lines line) line →
        Grows (x ∷ lines) (match_ordering r (line ∷ x ∷ lines) (x ∷ lines) (x ∷ put lines line)) line
    by Less more = inr (omega arith, line_size line (flat_map line_text (x ∷ lines)))
    by Equal more = inl (refl, refl)
    by Greater more =
        let old = line_size x (flat_map line_text lines) in
        let new = line_size x (flat_map line_text (put lines line)) in
        elim more [
          | inl same ↦ inl (let count = same.0 in omega (arith, count), let size = same.1 in omega (arith, old, new, size))
          | inr grown ↦ inr (let count = grown.0 in omega (arith, count), let size = grown.1 in omega (arith, old, new, size))
        ]

put_size : (lines : List (List ℕ)) (line : List ℕ) → length (put lines line) ≡ length lines + 1 →
    size_of (put lines line) ≡ size_of lines + (length line + 1)
put_size lines line more = elim (put_grows lines line) [
  | inl same ↦ absurd (let count = same.0 in omega (arith, count, more))
  | inr grown ↦ grown.1
]

pub same_length : {A B : Type 0} (f : A → B) (xs : List A) → length (map f xs) ≡ length xs
same_length f [] = refl
same_length f (x ∷ xs) = ap suc (same_length f xs)

-- the same of what is seen of the lines of a set
module _ {V : Type 0} (view : V → List ℕ) (before after : List V) (line : V)
    (keys : after ≡ insert_key (λ x y. slice_cmp nat_cmp (view x) (view y)) before line) where
  pub seen_put : map view after ≡ put (map view before) (view line)
  seen_put = ap (map view) keys ∙ map_inserted view (slice_cmp nat_cmp) line before

  pub seen_grown : (added : Bool) → added ≡ true → length after ≡ length before + cond added 1 0 →
      size_of (map view after) ≡ size_of (map view before) + (length (view line) + 1)
  seen_grown added is count =
      let more : length after ≡ length before + 1 = rw is at count in
      let old = same_length view before in
      let new = same_length view after in
      let put_one = ap length seen_put in
      ap size_of seen_put ∙ put_size (map view before) (view line) (omega (arith, more, old, new, put_one))

-- ---- lines are never fewer nor shorter

grows_on : (before after : List (List ℕ)) (line : List ℕ) → Grows before after line →
    (length before ≤ length after) × (size_of before ≤ size_of after)
grows_on before after line grows = elim grows [
  | inl same ↦ (let count = same.0 in omega (arith, count), let size = same.1 in omega (arith, size))
  | inr grown ↦ (let count = grown.0 in omega (arith, count), let size = grown.1 in omega (arith, size))
]

pub with_more : (lines : List (List ℕ)) (entries : List EntryView) →
    (length lines ≤ length (lines_with lines entries)) × (size_of lines ≤ size_of (lines_with lines entries))
with_more lines [] = (omega arith, omega arith)
with_more lines (e ∷ entries) =
    let line : List ℕ = entry_text e in
    let one = grows_on lines (put lines line) line (put_grows lines line) in
    let all = with_more (put lines line) entries in
    (let a = one.0 in let b = all.0 in omega (arith, a, b), let a = one.1 in let b = all.1 in omega (arith, a, b))

-- ---- the size of a text

pub text_size : (lines : List (List ℕ)) → length (text_of lines) ≡ 11 + length (decimal (length lines)) + size_of lines
unfolding text_of
text_size lines =
    let header : List ℕ = codes "F8CASES 1 " ++ decimal (length lines) in
    let whole = line_size header (flat_map line_text lines) in
    let first = length-append (codes "F8CASES 1 ") (decimal (length lines)) in
    omega (arith, whole, first)

-- lines that are too many or too long, with any others
pub too_many : (lines : List (List ℕ)) (entries : List EntryView) (size count : ℕ) (stands : Bool) →
    stands ≡ (nat_le size 67108864 && nat_le count 65536) → stands ≡ false → size ≡ size_of lines → count ≡ length lines →
    is_writable (lines_with lines entries) ≡ false
too_many lines entries size count stands test none sized counted =
    let all = with_more lines entries in
    let more = all.0 in
    let longer = all.1 in
    let text = text_size (lines_with lines entries) in
    grind (arith, nat_tests, more, longer, text)

-- ---- entries that are left

-- the line of one is put, and the others go on
pub goes_on : {E : Type 0} (view : E → EntryView) (entries : List E) (i : ℕ) (e : E) (lines more all : List (List ℕ)) (line : List ℕ) →
    i < length entries → e ≡ get_or entries i e → line ≡ entry_text (view e) → more ≡ put lines line →
    lines_with lines (map view (drop i entries)) ≡ all → lines_with more (map view (drop (i + 1) entries)) ≡ all
goes_on view entries i e lines more all line within here is new rest =
    let split : drop i entries ≡ e ∷ drop (i + 1) entries =
    rw (add-one i, drop-cons entries i e) (ap (λ x. x ∷ drop (suc i) entries) (sym here)) in
    rw (new, is) (rw split at rest)
