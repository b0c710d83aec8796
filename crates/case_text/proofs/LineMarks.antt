-- The words of a line: digits, capitals up to `F` and dashes, with single blanks between.
use Rattle.std.proofs.Common.{◌≡◌, ℕ, ◌+◌, ◌/◌, ◌%◌, ◌<◌, Bool, true, false, cond, ◌==◌, List, [], ◌∷◌, ◌++◌, map}
use Rattle.std.proofs.Common.{refl, ap, ◌∙◌, arith, append-nil}
use Rattle.std.specs.Prelude.{Option, Some, None, codes, nat_le, ◌&&◌, ◌||◌, flat_map, length}
use Rattle.std.specs.List.{AllByRecursion, list_all}
use Rattle.std.specs.Option.{ForSome}
use Rattle.std.proofs.lemmas.Bool.{and_parts}
use Rattle.std.proofs.lemmas.Bool.Decides.{nat_tests}
use Rattle.std.proofs.lemmas.List.Folds.{list_all-append, flat_map-map}
use Rattle.f8_spec.specs.Spelling.{hex_digit, hex2, hex4, octal2}
use Rattle.line_words.specs.Words.{words}
use Rattle.line_words.proofs.WordLaws.{no_blank, words_at_blank, words_alone}
use Rattle.abs_domain.specs.AbstractState.{KnownStatus}
use Rattle.certificate.specs.Parts.{bit_text, known_bit_text, known_address_text}
use Rattle.certificate.specs.Entries.{status_text}
use Rattle.case_step.specs.Entries.{EntryView}
use Rattle.case_text.specs.WrittenCases.{byte_set_text, word_set_text, numbers_text, same_text, facts_text, behind_blank, entry_text}
use Rattle.case_text.specs.WrittenCases.{AreListed, IsByteSet, IsWordSet, IsInForm}
use Rattle.case_text.proofs.NumbersAgain.{AllBelow}

-- ---- words

abbrev pub is_mark : ℕ → Bool
is_mark c = (c == 45) || ((nat_le 48 c && nat_le c 57) || (nat_le 65 c && nat_le c 70))

pub record IsWord (text : List ℕ) : Type 0 where
  pub marks : list_all is_mark text ≡ true

joined : {xs ys : List ℕ} → IsWord xs → IsWord ys → IsWord (xs ++ ys)
joined {xs} {ys} first second = record { marks = rw (list_all-append is_mark xs ys, first.marks, second.marks) refl }

module _ (text : ℕ → List ℕ) (limit : ℕ) (each : (x : ℕ) → x < limit → IsWord (text x)) where
  all_words : (xs : List ℕ) → AllBelow limit xs → IsWord (flat_map text xs)
  all_words [] small = record { marks = refl }
  all_words (x ∷ xs) small = joined (each x small.0) (all_words xs small.1)

hex_mark : (d : ℕ) → d < 16 → is_mark (hex_digit d) ≡ true
hex_mark d small = grind (arith, nat_tests)

octal_mark : (d : ℕ) → d < 8 → is_mark (48 + d) ≡ true
octal_mark d small = grind (arith, nat_tests)

hex2_word : (n : ℕ) → n < 256 → IsWord (hex2 n)
hex2_word n small =
    let high : n / 16 < 16 = omega arith in
    let low : n % 16 < 16 = omega arith in
    record { marks = rw (hex_mark (n / 16) high, hex_mark (n % 16) low) refl }

hex4_word : (n : ℕ) → n < 65536 → IsWord (hex4 n)
hex4_word n small = joined (hex2_word (n / 256) (omega arith)) (hex2_word (n % 256) (omega arith))

octal2_word : (n : ℕ) → n < 64 → IsWord (octal2 n)
octal2_word n small =
    let high : n / 8 < 8 = omega arith in
    let low : n % 8 < 8 = omega arith in
    record { marks = rw (octal_mark (n / 8) high, octal_mark (n % 8) low) refl }

-- ---- the parts of an entry

address_word : (at : Option ℕ) → ForSome at (λ a. a < 65536) → IsWord (known_address_text at)
address_word None small = record { marks = refl }
address_word (Some a) small = hex4_word a (small a refl)

byte_set_word : (set : Option (List ℕ)) → IsByteSet set → IsWord (byte_set_text set)
byte_set_word None form = record { marks = refl }
byte_set_word (Some bytes) form = all_words hex2 256 hex2_word bytes (form bytes refl).1

word_set_word : (set : Option (List ℕ)) → IsWordSet set → IsWord (word_set_text set)
word_set_word None form = record { marks = refl }
word_set_word (Some words) form = all_words hex4 65536 hex4_word words (form words refl).1

numbers_word : (numbers : List ℕ) → AreListed 64 64 numbers → IsWord (numbers_text numbers)
numbers_word numbers form = by (length numbers == 64)
  where
    by : (all : Bool) → IsWord (cond all (codes "--") (flat_map octal2 numbers))
    by true = record { marks = refl }
    by false = all_words octal2 64 octal2_word numbers form.1

same_word : (number : Option ℕ) → ForSome number (λ n. n < 64) → IsWord (same_text number)
same_word None small = record { marks = refl }
same_word (Some n) small = octal2_word n (small n refl)

bit_word : (bit : Bool) → IsWord (bit_text bit)
bit_word true = record { marks = refl }
bit_word false = record { marks = refl }

known_bit_word : (bit : Option Bool) → IsWord (known_bit_text bit)
known_bit_word None = record { marks = refl }
known_bit_word (Some bit) = bit_word bit

status_word : (status : KnownStatus) → IsWord (status_text status)
unfolding status_text
status_word status =
    joined (known_bit_word status.sign) (joined (known_bit_word status.carry) (joined (known_bit_word status.zero)
    (joined (known_bit_word status.overflow) (known_bit_word status.icb))))

facts_word : (e : EntryView) → IsWord (facts_text e)
facts_word e = joined (bit_word e.s0) (joined (bit_word e.s1) (joined (bit_word e.p0) (bit_word e.p1)))

registers_words : (sets : List (Option (List ℕ))) → AllByRecursion IsByteSet sets → AllByRecursion IsWord (map byte_set_text sets)
registers_words [] form = tt
registers_words (set ∷ sets) form = (byte_set_word set form.0, registers_words sets form.1)

-- ---- the words of a line

-- those behind the address
abbrev pub others : EntryView → List (List ℕ)
others e =
    known_address_text e.ret ∷ byte_set_text e.accumulator ∷ numbers_text e.isar ∷ status_text e.status ∷ word_set_text e.d0
    ∷ word_set_text e.d1 ∷ word_set_text e.c ∷ facts_text e ∷ same_text e.same ∷ map byte_set_text e.scratchpad

others_words : (e : EntryView) → IsInForm e → AllByRecursion IsWord (others e)
others_words e form =
    let registers = registers_words e.scratchpad form.scratchpad in
    let last : AllByRecursion IsWord (facts_text e ∷ same_text e.same ∷ map byte_set_text e.scratchpad) =
    (facts_word e, (same_word e.same form.same, registers)) in
    let sets : AllByRecursion IsWord (word_set_text e.d0 ∷ word_set_text e.d1 ∷ word_set_text e.c ∷ facts_text e
    ∷ same_text e.same ∷ map byte_set_text e.scratchpad) =
    (word_set_word e.d0 form.d0, (word_set_word e.d1 form.d1, (word_set_word e.c form.c, last))) in
    let parts : AllByRecursion IsWord (numbers_text e.isar ∷ status_text e.status ∷ word_set_text e.d0 ∷ word_set_text e.d1
    ∷ word_set_text e.c ∷ facts_text e ∷ same_text e.same ∷ map byte_set_text e.scratchpad) =
    (numbers_word e.isar form.isar, (status_word e.status, sets)) in
    (address_word e.ret form.ret, (byte_set_word e.accumulator form.accumulator, parts))

-- a line is its words with single blanks between
abbrev pub spaced : List ℕ → List (List ℕ) → List ℕ
spaced first words = first ++ flat_map behind_blank words

pub entry_spaced : (e : EntryView) → entry_text e ≡ spaced (hex4 e.at) (others e)
unfolding entry_text
entry_spaced e = rw (flat_map-map behind_blank byte_set_text e.scratchpad) refl

mark_no_blank : (c : ℕ) → is_mark c ≡ true → no_blank c ≡ true
mark_no_blank c mark = grind (arith, nat_tests)

-- characters that pass one test pass another
module _ (p q : ℕ → Bool) (each : (c : ℕ) → p c ≡ true → q c ≡ true) where
  pub all_pass : (text : List ℕ) → list_all p text ≡ true → list_all q text ≡ true
  all_pass [] pass = refl
  all_pass (c ∷ text) pass =
      let parts = and_parts (p c) (list_all p text) pass in
      rw (each c parts.0, all_pass text parts.1) refl

word_no_blank : (word : List ℕ) → IsWord word → list_all no_blank word ≡ true
word_no_blank word marks = all_pass is_mark no_blank mark_no_blank word marks.marks

spaced_words : (first : List ℕ) (more : List (List ℕ)) → IsWord first → AllByRecursion IsWord more →
    words (spaced first more) ≡ first ∷ more
spaced_words first [] word all = rw (append-nil first) (words_alone first (word_no_blank first word))
spaced_words first (second ∷ more) word all =
    words_at_blank first (spaced second more) (word_no_blank first word)
    ∙ ap (λ (ws : List (List ℕ)). first ∷ ws) (spaced_words second more all.0 all.1)

pub entry_words : (e : EntryView) → IsInForm e → words (entry_text e) ≡ hex4 e.at ∷ others e
entry_words e form =
    ap words (entry_spaced e) ∙ spaced_words (hex4 e.at) (others e) (hex4_word e.at form.at) (others_words e form)

-- ---- the characters of a line

abbrev pub is_plain : ℕ → Bool
is_plain c = (c == 32) || is_mark c

mark_plain : (c : ℕ) → is_mark c ≡ true → is_plain c ≡ true
mark_plain c mark = grind (arith, nat_tests)

word_plain : (word : List ℕ) → IsWord word → list_all is_plain word ≡ true
word_plain word marks = all_pass is_mark is_plain mark_plain word marks.marks

spaced_plain : (first : List ℕ) (more : List (List ℕ)) → IsWord first → AllByRecursion IsWord more →
    list_all is_plain (spaced first more) ≡ true
spaced_plain first [] word all = rw (append-nil first) (word_plain first word)
spaced_plain first (second ∷ more) word all =
    rw (list_all-append is_plain first (32 ∷ spaced second more), word_plain first word) (spaced_plain second more all.0 all.1)

pub entry_plain : (e : EntryView) → IsInForm e → list_all is_plain (entry_text e) ≡ true
entry_plain e form =
    ap (list_all is_plain) (entry_spaced e) ∙ spaced_plain (hex4 e.at) (others e) (hex4_word e.at form.at) (others_words e form)
