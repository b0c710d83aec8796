-- The questions that are put in loops over the chips of a rack, which change nothing but their count.
use Rattle.std.proofs.Common.{◌≡◌, ℕ, zero, suc, ◌+◌, ◌<◌, ◌≤◌, Bool, true, false, List, [], ◌∷◌, length, get_or, map, refl, sym, ap, ◌∙◌}
use Rattle.std.proofs.Common.{subst}
use Rattle.std.proofs.Common.{arith, add-one, eqb-true, take, drop, ◌++◌}
use Rattle.std.specs.Prelude.{◌==◌, if◌then◌else◌, Option, Some, None, slice_get, sum, sum_by}
use Rattle.std.proofs.Math.ListN.{set, get_or-map}
use Rattle.std.proofs.Math.Seq.{map-set_same}
use Rattle.std.proofs.lemmas.List.{length-map}
use Rattle.std.proofs.lemmas.List.Sums.{sum-map, sum_by-set}
use Rattle.std.proofs.lemmas.Option.{slice_get-get_or}
use Rattle.f8_spec.specs.BusArbitration.{is_first}
use Rattle.f8_spec.specs.declared.bus.BusRule.{BusRule}
use Rattle.f8_spec.specs.declared.bus.BusRule.TheVariants.{Read, Store, PortRead, PortWrite, Vector, NoChip}
use Rattle.data_bus.specs.Allowances.{questions_at, allowance_by}
use Rattle.data_bus.specs.KnownPlaces.{goes_by_counter}
use Rattle.data_bus.specs.Questions.{AskedAtMost, AskedBy}
use Rattle.data_bus.specs.Racks.{NumberedZip}
use Rattle.data_bus.proofs.Racks.{whole_again}

-- what is put to the chips below a socket, by what is put to each
pub total : (ℕ → ℕ) → ℕ → ℕ
total most zero = 0
total most (suc n) = total most n + most n

-- where all chips are what they were, so is the one at hand
pub kept-at : {X A : Type 0} (V : X → A) (i : ℕ) (xs ys : List X) (x : X) → i < length xs → length ys ≡ length xs → map V ys ≡ map V xs →
    slice_get (map V xs) i ≡ Some (V (get_or ys i x))
kept-at V i xs ys x b long stays =
    let within : i < length (map V ys) = omega (arith, length-map ys V) in
    ap (λ vs. slice_get vs i) (sym stays) ∙ slice_get-get_or (map V ys) i (V x) within
    ∙ ap Some (get_or-map V ys i x)

-- V is what a chip is, and Q how many questions were put to it
module _ {X A : Type 0} (V : X → A) (Q : X → ℕ) (most : ℕ → ℕ) where
  -- each chip below a socket was put so many questions at most
  pub record AskedBelow (i : ℕ) (xs ys : List X) : Type 0 where
    pub stays : map V ys ≡ map V xs
    pub asked : sum_by Q ys ≤ sum_by Q xs + total most i

  -- no chip was
  pub asked-none : (xs : List X) → AskedBelow 0 xs xs
  unfolding total
  asked-none xs = record { stays = refl; asked = omega arith }

  -- the chip at hand is what it was at first
  pub asked-at : (i : ℕ) (xs ys : List X) (x : X) → i < length xs → length ys ≡ length xs → AskedBelow i xs ys →
      slice_get (map V xs) i ≡ Some (V (get_or ys i x))
  asked-at i xs ys x b long asked = kept-at V i xs ys x b long asked.stays

  -- one more is asked
  pub asked-more : (i : ℕ) (xs ys : List X) (x y : X) → i < length xs → length ys ≡ length xs → AskedBelow i xs ys →
      V y ≡ V (get_or ys i x) → Q y ≤ Q (get_or ys i x) + most i → AskedBelow (i + 1) xs (set ys i y)
  unfolding total
  asked-more i xs ys x y b long asked same few =
      let within : i < length ys = omega arith in
      let moved = sum_by-set Q ys i y x within in
      let before = asked.asked in
      record {
        stays = map-set_same V ys i y x same ∙ asked.stays;
        asked = rw add-one (omega (arith, moved, before, few));
      }

  -- every chip of a rack that is written back
  pub asked-written : (xs ys : List X) (n i : ℕ) → length xs ≡ n → length ys ≡ length xs → length xs ≤ i → i ≤ length xs → AskedBelow i xs ys →
      AskedBelow (length xs) xs (take n (ys ++ drop (length ys) xs))
  asked-written xs ys n i count long past within asked =
      let same : i ≡ length xs = omega arith in
      rw (whole_again n xs ys count long) (subst (λ k. AskedBelow k xs ys) same asked)

-- racks with the same counts have the same sum
pub sums_alike : {X : Type 0} (Q : X → ℕ) (xs ys : List X) → map Q ys ≡ map Q xs → sum_by Q ys ≡ sum_by Q xs
sums_alike Q xs ys same = sym (sum-map Q ys) ∙ ap sum same ∙ sum-map Q xs

-- ---- how many questions a step puts that asks every chip

-- a chip past those that are asked isn't named
named_past : (k n : ℕ) → n ≤ k → total (λ j. if k == j then 1 else 0) n ≡ 0
unfolding total
named_past k zero past = refl
named_past k (suc n) past =
    let before = named_past k n (omega arith) in
    let other : (k == n) ≡ false = grind arith in
    rw (other, before) refl

-- at most one chip is named
named_more : (k n : ℕ) (b : Bool) → (k == n) ≡ b → total (λ j. if k == j then 1 else 0) n ≤ 1 →
    total (λ j. if k == j then 1 else 0) n + (if k == n then 1 else 0) ≤ 1
named_more k n true e before =
    let here : k ≡ n = eqb-true k n e in
    let nothing = named_past k n (omega arith) in
    rw (e, nothing) (omega arith)
named_more k n false e before = rw e (omega (arith, before))

named_once : (k n : ℕ) → total (λ j. if k == j then 1 else 0) n ≤ 1
unfolding total
named_once k zero = omega arith
named_once k (suc n) = named_more k n (k == n) refl (named_once k n)

-- they are within its allowance
pub total_few : (rule : BusRule) (first : Option ℕ) (n : ℕ) →
    total (λ k. questions_at rule (is_first first k)) n ≤ allowance_by rule false n
unfolding total
total_few Read first zero = omega arith
total_few Read first (suc n) = let before = total_few Read first n in omega (arith, before)
total_few Store first zero = omega arith
total_few Store first (suc n) = let before = total_few Store first n in omega (arith, before)
total_few PortRead first zero = omega arith
total_few PortRead first (suc n) = let before = total_few PortRead first n in omega (arith, before)
total_few PortWrite first zero = omega arith
total_few PortWrite first (suc n) = let before = total_few PortWrite first n in omega (arith, before)
total_few Vector None zero = omega arith
total_few Vector None (suc n) = let before = total_few Vector None n in omega (arith, before)
total_few Vector (Some k) n = named_once k n
total_few NoChip first zero = omega arith
total_few NoChip first (suc n) = let before = total_few NoChip first n in omega (arith, before)

-- ---- how many it puts to each

-- no chip was asked
pub asked_nobody : (rule : BusRule) (first : Option ℕ) (n : ℕ) (counts : List ℕ) → NumberedZip (AskedBy rule first) n counts counts
asked_nobody rule first n [] = tt
asked_nobody rule first n (count ∷ counts) = (omega arith, asked_nobody rule first (n + 1) counts)

-- no more afterwards
pub asked_then : (rule : BusRule) (first : Option ℕ) (n : ℕ) (xs ys zs : List ℕ) → NumberedZip (AskedBy rule first) n xs ys → zs ≡ ys →
    NumberedZip (AskedBy rule first) n xs zs
asked_then rule first n xs ys zs asked same = subst (λ l. NumberedZip (AskedBy rule first) n xs l) (sym same) asked

-- no more before
pub asked_since : (rule : BusRule) (first : Option ℕ) (n : ℕ) (xs ys zs : List ℕ) → ys ≡ xs → NumberedZip (AskedBy rule first) n ys zs →
    NumberedZip (AskedBy rule first) n xs zs
asked_since rule first n xs ys zs same asked = subst (λ l. NumberedZip (AskedBy rule first) n l zs) same asked

unasked_each : (n : ℕ) (counts : List ℕ) → NumberedZip (AskedAtMost 1) n counts counts
unasked_each n [] = tt
unasked_each n (count ∷ counts) = (omega arith, unasked_each (n + 1) counts)

-- one chip was put one question
pub asked_one : {X : Type 0} (Q : X → ℕ) (n i : ℕ) (xs : List X) (y d : X) → Q y ≤ Q (get_or xs i d) + 1 →
    NumberedZip (AskedAtMost 1) n (map Q xs) (map Q (set xs i y))
asked_one Q n i [] y d few = tt
asked_one Q n zero (x ∷ xs) y d few = (few, unasked_each (n + 1) (map Q xs))
asked_one Q n (suc i) (x ∷ xs) y d few = (omega arith, asked_one Q (n + 1) i xs y d few)

-- which is within a step that goes by a counter
pub one_allowed : (rule : BusRule) (first : Option ℕ) (n : ℕ) (xs ys : List ℕ) → goes_by_counter rule ≡ true → NumberedZip (AskedAtMost 1) n xs ys →
    NumberedZip (AskedBy rule first) n xs ys
one_allowed Read first n [] [] by asked = tt
one_allowed Read first n [] (y ∷ ys) by asked = absurd asked
one_allowed Read first n (x ∷ xs) [] by asked = absurd asked
one_allowed Read first n (x ∷ xs) (y ∷ ys) by asked = let here = asked.0 in (omega (arith, here), one_allowed Read first (n + 1) xs ys by asked.1)
one_allowed Store first n [] [] by asked = tt
one_allowed Store first n [] (y ∷ ys) by asked = absurd asked
one_allowed Store first n (x ∷ xs) [] by asked = absurd asked
one_allowed Store first n (x ∷ xs) (y ∷ ys) by asked = let here = asked.0 in (omega (arith, here), one_allowed Store first (n + 1) xs ys by asked.1)
one_allowed PortRead first n xs ys by asked = cc
one_allowed PortWrite first n xs ys by asked = cc
one_allowed Vector first n xs ys by asked = cc
one_allowed NoChip first n xs ys by asked = cc
