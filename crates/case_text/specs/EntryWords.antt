-- A line of a list of cases: the words of an entry, both ways.
use Rattle.std.specs.Prelude.{ℕ, zero, suc, ◌+◌, ◌-◌, ◌*◌, ◌/◌, ◌==◌, ◌&&◌, nat_le, nat_lt, Bool, true, false, if◌then◌else◌}
use Rattle.std.specs.Prelude.{List, [], ◌∷◌, length, codes, bytes_eq, Option, Some, None, option_map, option_and_then}
use Rattle.std.specs.List.{range_with_len}
use Rattle.std.specs.Result.{result_ok}
use Rattle.hex.specs.Hex.{decode_sized}
use Rattle.line_words.specs.Numbers.{address_of}
use Rattle.abs_domain.specs.AbstractState.{KnownStatus}
use Rattle.case_step.specs.Entries.{EntryView}

-- ---- lists of numbers in a word

abbrev pub is_ascending : List ℕ → Bool
is_ascending [] = true
is_ascending (x ∷ []) = true
is_ascending (x ∷ y ∷ numbers) = nat_lt x y && is_ascending (y ∷ numbers)

-- at least one number and at most so many, in ascending order
abbrev pub listed : ℕ → List ℕ → Option (List ℕ)
listed most numbers = if nat_le 1 (length numbers) && (nat_le (length numbers) most && is_ascending numbers) then Some numbers else None

-- bytes as pairs of hexadecimal digits of either case
abbrev pub bytes_of : List ℕ → Option (List ℕ)
bytes_of word = result_ok (decode_sized word (length word / 2))

-- words as fours of them, the high byte first
abbrev pub in_pairs : List ℕ → Option (List ℕ)
in_pairs [] = Some []
in_pairs (high ∷ []) = None
in_pairs (high ∷ low ∷ bytes) = option_map (λ words. (high * 256 + low) ∷ words) (in_pairs bytes)

-- registers as pairs of octal digits
abbrev pub octal_of : ℕ → Option ℕ
octal_of c = if nat_le 48 c && nat_le c 55 then Some (c - 48) else None

abbrev pub octals_of : List ℕ → Option (List ℕ)
octals_of [] = Some []
octals_of (high ∷ []) = None
octals_of (high ∷ low ∷ word) =
    option_and_then (λ h. option_and_then (λ l. option_map (λ numbers. (h * 8 + l) ∷ numbers) (octals_of word)) (octal_of low)) (octal_of high)

-- ---- parts; dashes stand for any value

abbrev pub unless_dashes : {A : Type 0} → List ℕ → A → (List ℕ → Option A) → List ℕ → Option A
unless_dashes dashes any read word = if bytes_eq word dashes then Some any else read word

-- the most bytes and the most words of a list
abbrev pub most_bytes : ℕ
most_bytes = 16

abbrev pub most_words : ℕ
most_words = 512

abbrev pub byte_set_of : List ℕ → Option (Option (List ℕ))
byte_set_of word =
    unless_dashes (codes "--") None (λ listing. option_map Some (option_and_then (listed most_bytes) (bytes_of listing))) word

abbrev pub word_set_of : List ℕ → Option (Option (List ℕ))
word_set_of word =
    unless_dashes (codes "----") None
    (λ listing. option_map Some (option_and_then (listed most_words) (option_and_then in_pairs (bytes_of listing)))) word

-- ISAR's numbers; dashes stand for all 64
abbrev pub numbers_of : List ℕ → Option (List ℕ)
numbers_of word =
    unless_dashes (codes "--") (range_with_len 0 64) (λ listing. option_and_then (listed 64) (octals_of listing)) word

abbrev pub return_of : List ℕ → Option (Option ℕ)
return_of word = unless_dashes (codes "----") None (λ known. option_map Some (address_of known)) word

-- the register that holds the accumulator's byte, as one pair of octal digits
abbrev pub one_of : List ℕ → Option (Option ℕ)
one_of [] = None
one_of (number ∷ []) = Some (Some number)
one_of (number ∷ other ∷ numbers) = None

abbrev pub same_of : List ℕ → Option (Option ℕ)
same_of word = unless_dashes (codes "--") None (λ known. option_and_then one_of (octals_of known)) word

-- `1` is true and `0` false, and of a flag `-` is either
abbrev pub fact_of : ℕ → Option Bool
fact_of c = if c == 48 then Some false else (if c == 49 then Some true else None)

abbrev pub flag_of : ℕ → Option (Option Bool)
flag_of c = if c == 45 then Some None else option_map Some (fact_of c)

abbrev pub each_of : {A : Type 0} → (ℕ → Option A) → List ℕ → Option (List A)
each_of read [] = Some []
each_of read (c ∷ word) = option_and_then (λ first. option_map (λ others. first ∷ others) (each_of read word)) (read c)

-- the five bits of the status word, from bit 0 on
abbrev pub status_by : List (Option Bool) → Option KnownStatus
status_by (sign ∷ carry ∷ nought ∷ overflow ∷ icb ∷ []) =
    Some (record { sign = sign; carry = carry; zero = nought; overflow = overflow; icb = icb })
status_by flags = None

abbrev pub status_of : List ℕ → Option KnownStatus
status_of word = option_and_then status_by (each_of flag_of word)

-- the four facts: s0, s1, p0, p1
pub record Facts : Type 0 where
  pub s0 : Bool
  pub s1 : Bool
  pub p0 : Bool
  pub p1 : Bool

abbrev pub facts_by : List Bool → Option Facts
facts_by (s0 ∷ s1 ∷ p0 ∷ p1 ∷ []) = Some (record { s0 = s0; s1 = s1; p0 = p0; p1 = p1 })
facts_by facts = None

abbrev pub facts_of : List ℕ → Option Facts
facts_of word = option_and_then facts_by (each_of fact_of word)

-- ---- an entry

infixl 10 ◌>>=◌
abbrev pub ◌>>=◌ : {A B : Type 0} → Option A → (A → Option B) → Option B
o >>= f = option_and_then f o

-- a part of the first word, and the words behind it
abbrev pub part : {A : Type 0} → (List ℕ → Option A) → List (List ℕ) → Option (A × List (List ℕ))
part read [] = None
part read (word ∷ words) = option_map (λ x. (x, words)) (read word)

-- so many registers, one word each
unfoldable pub registers_of : ℕ → List (List ℕ) → Option (List (Option (List ℕ)) × List (List ℕ))
registers_of zero words = Some ([], words)
registers_of (suc n) words = do
  first ← part byte_set_of words
  others ← registers_of n first.1
  Some (first.0 ∷ others.0, others.1)

-- nothing is left
abbrev pub ended : {A : Type 0} → A → List (List ℕ) → Option A
ended x [] = Some x
ended x (word ∷ words) = None

-- the entry of the words of a line
unfoldable pub entry_of : List (List ℕ) → Option EntryView
entry_of words = do
  at ← part address_of words
  ret ← part return_of at.1
  accumulator ← part byte_set_of ret.1
  isar ← part numbers_of accumulator.1
  status ← part status_of isar.1
  d0 ← part word_set_of status.1
  d1 ← part word_set_of d0.1
  c ← part word_set_of d1.1
  facts ← part facts_of c.1
  same ← part same_of facts.1
  scratchpad ← registers_of 64 same.1
  ended (record {
    at = at.0;
    ret = ret.0;
    accumulator = accumulator.0;
    isar = isar.0;
    status = status.0;
    d0 = d0.0;
    d1 = d1.0;
    c = c.0;
    s0 = facts.0.s0;
    s1 = facts.0.s1;
    p0 = facts.0.p0;
    p1 = facts.0.p1;
    same = same.0;
    scratchpad = scratchpad.0;
  }) scratchpad.1
