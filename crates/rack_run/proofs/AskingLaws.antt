-- What is asked in a run, step by step.
use Rattle.std.proofs.Common.{◌≡◌, ℕ, ◌+◌, ◌*◌, ◌≤◌, List, [], ◌∷◌, ◌++◌, length, map, sym, ap, ◌∙◌, subst, arith}
use Rattle.std.specs.Prelude.{sum, sum_by}
use Rattle.std.proofs.lemmas.List.{append_assoc, append-nil, length-map}
use Rattle.std.proofs.lemmas.List.Sums.{sum-map, sum_by-cons}
use Rattle.std.proofs.lemmas.Grind.{flat_map-append}
use Rattle.console_spec.specs.Telling.{Moment}
use Rattle.data_bus.specs.Questions.{AskedAtMost}
use Rattle.data_bus.specs.Racks.{NumberedZip}
use Rattle.rack_run.specs.Asking.{AsksOn, AsksWithin, heard_codes, served_codes}

-- ---- one part after another

-- nothing is asked, and no less is left
pub asks_none : (allowed : List ℕ → ℕ) (questions : ℕ) → AsksOn allowed allowed questions questions []
asks_none allowed questions = record { whatever = λ later. omega arith }

-- nor where nothing is asked at all
pub asks_nothing : (questions : ℕ) (codes : List ℕ) → AsksOn (λ l. 0) (λ l. 0) questions questions codes
asks_nothing questions codes = record { whatever = λ later. omega arith }

-- at the end nothing comes behind
pub asks_end : (allowed left : List ℕ → ℕ) (p q : ℕ) (codes : List ℕ) → AsksOn allowed left p q codes →
    AsksWithin allowed p q codes
asks_end allowed left p q codes on =
    let whole : q + left [] ≤ p + allowed codes = rw (append-nil codes) at (on.whatever []) in
    omega (arith, whole)

-- on a rack of one size
module _ (a b c : ℕ → List ℕ → ℕ) (m n p q r : ℕ) (same : n ≡ m) where
  pub asks_then : (codes more : List ℕ) → AsksOn (a m) (b m) p q codes → AsksOn (b n) (c n) q r more →
      AsksOn (a m) (c m) p r (codes ++ more)
  asks_then codes more first next =
      let behind : AsksOn (b m) (c m) q r more = subst (λ k. AsksOn (b k) (c k) q r more) same next in
      record {
        whatever = λ later.
            let one = first.whatever (more ++ later) in
            let two = behind.whatever later in
            let both : a m ((codes ++ more) ++ later) ≡ a m (codes ++ (more ++ later)) =
            ap (a m) (append_assoc codes more later) in
            omega (arith, one, two, both);
      }

  -- events come behind
  pub asks_events : (codes : List ℕ) → AsksOn (a m) (b m) p q codes → AsksOn (b n) (c n) q r [] →
      AsksOn (a m) (c m) p r codes
  asks_events codes first next =
      subst (λ (l : List ℕ). AsksOn (a m) (c m) p r l) (append-nil codes) (asks_then codes [] first next)

  -- and then the run ends
  pub asks_last : (codes more : List ℕ) → AsksOn (a m) (b m) p q codes → AsksWithin (b n) q r more →
      AsksWithin (a m) p r (codes ++ more)
  asks_last codes more first last =
      let behind : AsksWithin (b m) q r more = subst (λ k. AsksWithin (b k) q r more) same last in
      let one = first.whatever more in
      omega (arith, one, behind)

-- ---- the codes of moments

pub heard_codes-append : (ms ns : List Moment) → heard_codes (ms ++ ns) ≡ heard_codes ms ++ heard_codes ns
heard_codes-append ms ns = flat_map-append (λ (m : Moment). served_codes m.heard) ms ns

pub heard_codes-more : (ms : List Moment) (m : Moment) →
    heard_codes (ms ++ m ∷ []) ≡ heard_codes ms ++ served_codes m.heard
heard_codes-more ms m =
    heard_codes-append ms (m ∷ [])
    ∙ ap (λ (codes : List ℕ). heard_codes ms ++ codes) (append-nil (served_codes m.heard))

-- ---- questions of all chips

-- each chip was put so many at most
asked_most : (n : ℕ) (xs ys : List ℕ) → NumberedZip (AskedAtMost 512) n xs ys → sum ys ≤ sum xs + 512 * length xs
asked_most n [] [] few = omega arith
asked_most n [] (y ∷ ys) few = absurd few
asked_most n (x ∷ xs) [] few = absurd few
asked_most n (x ∷ xs) (y ∷ ys) few =
    let one : y ≤ x + 512 = few.0 in
    let later = asked_most (n + 1) xs ys few.1 in
    let before = sum_by-cons (λ (k : ℕ). k) x xs in
    let after = sum_by-cons (λ (k : ℕ). k) y ys in
    omega (arith, one, later, before, after)

module _ {X : Type 0} (queries : X → ℕ) (xs ys : List X) where
  pub power_asks : NumberedZip (AskedAtMost 512) 0 (map queries xs) (map queries ys) →
      sum_by queries ys ≤ sum_by queries xs + 512 * length xs
  power_asks few =
      let most = asked_most 0 (map queries xs) (map queries ys) few in
      let before = sum-map queries xs in
      let after = sum-map queries ys in
      let long = length-map xs queries in
      omega (arith, most, before, after, long)

  -- none was put any
  pub none_asked : map queries ys ≡ map queries xs → sum_by queries ys ≡ sum_by queries xs
  none_asked same = sym (sum-map queries ys) ∙ ap sum same ∙ sum-map queries xs
