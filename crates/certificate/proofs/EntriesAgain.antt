-- A line that is written of a point and its state is read as they were.
use Rattle.std.proofs.Common.{◌≡◌, ℕ, zero, suc, ◌+◌, ◌-◌, ◌<◌, ◌≤◌, List, [], ◌∷◌, ◌++◌}
use Rattle.std.proofs.Common.{length, map, take, replicate, refl, sym, ap, ◌∙◌, arith, append_assoc, append-nil}
use Rattle.std.specs.Prelude.{Option, Some, None, codes, slice_get, slice_index_or, option_and_then}
use Rattle.std.specs.List.{AllByRecursion, range_with_len}
use Rattle.std.specs.Option.{ForSome}
use Rattle.abs_domain.specs.AbstractState.{KnownStatus, KnownRegisters, KnownCounters, AbstractState}
use Rattle.abs_domain.specs.declared.points.Point.{Point}
use Rattle.abs_step.specs.RegisterWrites.{known_register}
use Rattle.abs_step.specs.Successors.{tracked_byte, tracked_bytes}
use Rattle.abs_step.specs.CartridgeAnalysis.{FitsPoint}
use Rattle.certificate.specs.Parts.{behind, bytes_at, values_at, known_byte_text, known_address_text, known_octal_text, known_bit_text}
use Rattle.certificate.specs.Parts.{bit_text}
use Rattle.certificate.specs.Parts.{bytes_text, values_text}
use Rattle.certificate.specs.Entries.{point_at, isar_at, status_at, counters_at, entry_of, point_text, status_text, counters_text}
use Rattle.certificate.specs.Entries.{entry_text}
use Rattle.certificate.proofs.PartsAgain.{AreKnownBytes, address_again, bit_again, known_bit_again, known_octal_again, known_byte_again}
use Rattle.certificate.proofs.PartsAgain.{known_address_again, bytes_again, values_again}

-- ---- the bytes of tracked registers, and nothing past the last

module _ (f : ℕ → Option ℕ) where
  unset : (a m : ℕ) → ((k : ℕ) → a ≤ k → f k ≡ None) → map f (range_with_len a m) ≡ replicate m None
  unset a zero none = refl
  unset a (suc m) none =
      let here : f a ≡ None = none a (omega arith) in
      let later : map f (range_with_len (a + 1) m) ≡ replicate m None = unset (a + 1) m (λ k past. none k (omega arith)) in
      rw (here, later) refl

  padded : (a n m : ℕ) → n ≤ m → ((k : ℕ) → a + n ≤ k → f k ≡ None) → map f (range_with_len a m) ≡ map f (range_with_len a n) ++ replicate (m - n) None
  padded a zero m few none = let all : m - 0 ≡ m = omega arith in rw all (unset a m (λ k past. none k (omega arith)))
  padded a (suc n) zero few none = absurd (omega arith)
  padded a (suc n) (suc m) few none =
      let left : suc m - suc n ≡ m - n = omega arith in
      rw left (ap (λ (xs : List (Option ℕ)). f a ∷ xs) (padded (a + 1) n m (omega arith) (λ k past. none k (omega arith))))

  count : (a n : ℕ) → length (map f (range_with_len a n)) ≡ n
  count a zero = refl
  count a (suc n) = ap suc (count (a + 1) n)

  each : (P : Option ℕ → Type 0) (a n : ℕ) → ((k : ℕ) → P (f k)) → AllByRecursion P (map f (range_with_len a n))
  each P a zero all = tt
  each P a (suc n) all = (all a, each P (a + 1) n all)

none_past : (xs : List ℕ) (k : ℕ) → length xs ≤ k → slice_get xs k ≡ None
none_past [] k past = refl
none_past (x ∷ xs) zero past = absurd (omega arith)
none_past (x ∷ xs) (suc k) past = none_past xs k (omega arith)

front_again : (xs ys : List (Option ℕ)) → take (length xs) (xs ++ ys) ≡ xs
front_again [] ys = refl
front_again (x ∷ xs) ys = ap (λ (zs : List (Option ℕ)). x ∷ zs) (front_again xs ys)

all_known : (P : ℕ → Type 0) (xs : List (Option ℕ)) → ((k : ℕ) → ForSome (slice_index_or xs k None) P) → AllByRecursion (λ x. ForSome x P) xs
all_known P [] all = tt
all_known P (x ∷ xs) all = (all 0, all_known P xs (λ k. all (suc k)))

-- a point's bytes are so many as registers are tracked, and its other places are unset
module _ (tracked : List ℕ) (known : KnownRegisters) (few : length tracked ≤ 8) where
  abbrev values : List (Option ℕ)
  values = map (tracked_byte tracked known) (range_with_len 0 (length tracked))

  none_tracked : (place : ℕ) → 0 + length tracked ≤ place → tracked_byte tracked known place ≡ None
  none_tracked place past = ap (option_and_then (λ number. known_register number known)) (none_past tracked place (omega arith))

  pub tracked_padded : tracked_bytes tracked known ≡ values ++ replicate (8 - length tracked) None
  tracked_padded = padded (tracked_byte tracked known) 0 (length tracked) 8 few none_tracked

  tracked_front : take (length tracked) (tracked_bytes tracked known) ≡ values
  tracked_front =
      let sized : length values ≡ length tracked = count (tracked_byte tracked known) 0 (length tracked) in
      ap (take (length tracked)) tracked_padded
      ∙ ap (λ n. take n (values ++ replicate (8 - length tracked) None)) (sym sized)
      ∙ front_again values (replicate (8 - length tracked) None)

  tracked_known : ((number : ℕ) → ForSome (known_register number known) (λ b. b < 256)) → AreKnownBytes values
  tracked_known all = each (tracked_byte tracked known) (λ byte. ForSome byte (λ b. b < 256)) 0 (length tracked) (λ place. by (slice_get tracked place))
    where
      by : (o : Option ℕ) → ForSome (option_and_then (λ number. known_register number known) o) (λ b. b < 256)
      by None = λ x e. absurd (cc)
      by (Some number) = all number

-- ---- the fields of a line, with what is behind them

point_again : (tracked : List ℕ) (p : Point) (s : AbstractState) (rest : List ℕ) → length tracked ≤ 8 → FitsPoint tracked p s →
    point_at (length tracked) (point_text (length tracked) p ++ rest) ≡ Some (p, rest)
unfolding behind point_at point_text
point_again tracked p s rest few fits =
    let known = s.registers in
    let n : ℕ = length tracked in
    let shown : List (Option ℕ) = values tracked known few in
    let front : take n p.split ≡ shown = ap (take n) fits.split ∙ tracked_front tracked known few in
    let sized : length shown ≡ n = count (tracked_byte tracked known) 0 n in
    let whole : shown ++ replicate (8 - n) None ≡ p.split = sym (tracked_padded tracked known few) ∙ sym fits.split in
    let read : values_at n (values_text shown ++ rest) ≡ Some (shown, rest) =
    rw sized at (values_again shown rest (tracked_known tracked known few fits.range.scratchpad)) in
    let second : List ℕ = known_address_text p.ret ++ (codes " " ++ (values_text shown ++ rest)) in
    rw (
      front,
      append_assoc (known_address_text p.ret) (codes " " ++ values_text shown) rest,
      address_again (codes " " ++ second) p.at fits.at,
      known_address_again (codes " " ++ (values_text shown ++ rest)) p.ret fits.ret,
      read,
      whole,
    ) refl

isar_again : (high low : Option ℕ) (rest : List ℕ) → ForSome high (λ d. d < 8) → ForSome low (λ d. d < 8) →
    isar_at (known_octal_text high ++ (known_octal_text low ++ rest)) ≡ Some ((high, low), rest)
unfolding isar_at
isar_again high low rest small less =
    rw (known_octal_again (known_octal_text low ++ rest) high small, known_octal_again rest low less) refl

status_again : (status : KnownStatus) (rest : List ℕ) → status_at (status_text status ++ rest) ≡ Some (status, rest)
unfolding status_at status_text
status_again status rest =
    let four : List ℕ = known_bit_text status.icb ++ rest in
    let three : List ℕ = known_bit_text status.overflow ++ four in
    let two : List ℕ = known_bit_text status.zero ++ three in
    let one : List ℕ = known_bit_text status.carry ++ two in
    simp append_assoc (rw (
      known_bit_again one status.sign,
      known_bit_again two status.carry,
      known_bit_again three status.zero,
      known_bit_again four status.overflow,
      known_bit_again rest status.icb,
    ) refl)

counters_again : (k : KnownCounters) (rest : List ℕ) → ForSome k.d0 (λ at. at < 65536) → ForSome k.d1 (λ at. at < 65536) →
    ForSome k.c (λ at. at < 65536) → counters_at (counters_text k ++ rest) ≡ Some (k, rest)
unfolding behind counters_at counters_text
counters_again k rest d0 d1 c =
    let facts : List ℕ = bit_text k.s0 ++ (bit_text k.s1 ++ (bit_text k.p0 ++ (bit_text k.p1 ++ rest))) in
    let third : List ℕ = known_address_text k.c ++ (codes " " ++ facts) in
    let second : List ℕ = known_address_text k.d1 ++ (codes " " ++ third) in
    simp append_assoc (rw (
      known_address_again (codes " " ++ second) k.d0 d0,
      known_address_again (codes " " ++ third) k.d1 d1,
      known_address_again (codes " " ++ facts) k.c c,
      bit_again (bit_text k.s1 ++ (bit_text k.p0 ++ (bit_text k.p1 ++ rest))) k.s0,
      bit_again (bit_text k.p0 ++ (bit_text k.p1 ++ rest)) k.s1,
      bit_again (bit_text k.p1 ++ rest) k.p0,
      bit_again rest k.p1,
    ) refl)

-- ---- a line

pub entry_again : (tracked : List ℕ) (p : Point) (s : AbstractState) → length tracked ≤ 8 → FitsPoint tracked p s →
    entry_of (length tracked) (entry_text (length tracked) (p, s)) ≡ Some (p, s)
unfolding behind entry_of entry_text
entry_again tracked p s few fits =
    let n : ℕ = length tracked in
    let known = s.registers in
    let fifth : List ℕ = bytes_text (codes "") known.scratchpad in
    let fourth : List ℕ = counters_text s.counters ++ (codes " " ++ fifth) in
    let third : List ℕ = status_text known.status ++ (codes " " ++ fourth) in
    let second : List ℕ = known_octal_text known.high ++ (known_octal_text known.low ++ (codes " " ++ third)) in
    let first : List ℕ = known_byte_text known.accumulator ++ (codes " " ++ second) in
    let range = fits.range in
    let pad : bytes_at (codes "") 64 fifth ≡ Some (known.scratchpad, []) =
    rw (fits.scratchpad, append-nil fifth) at (bytes_again (codes "") known.scratchpad [] (all_known (λ b. b < 256) known.scratchpad range.scratchpad)) in
    rw (
      point_again tracked p s (codes " " ++ first) few fits,
      known_byte_again (codes " " ++ second) known.accumulator range.accumulator,
      isar_again known.high known.low (codes " " ++ third) range.high range.low,
      status_again known.status (codes " " ++ fourth),
      counters_again s.counters (codes " " ++ fifth) range.d0 range.d1 range.c,
      pad,
    ) refl
