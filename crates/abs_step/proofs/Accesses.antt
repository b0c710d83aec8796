-- Accesses to the bus over chips in their places: whoever takes part is where the flat machine is, and at most one chip would there.
use Rattle.std.proofs.Common.{◌≡◌, ℕ, ◌+◌, Bool, true, false, ◌&&◌, List, [], ◌∷◌, refl, ap, inl, inr, arith}
use Rattle.std.specs.Prelude.{Option, Some, None, not, ◌==◌}
use Rattle.std.specs.List.{AllByRecursion, enumerate_from}
use Rattle.std.proofs.lemmas.Bool.Decides.{nat_tests}
use Rattle.f8_spec.specs.BusArbitration.{PlacedSeat, answers, would_answer, parties, bystanders, lowest}
use Rattle.f8_spec.specs.BusArbitration.{Ruling, Served, Undriven, one_party, read_ruling, store_ruling}
use Rattle.f8_spec.specs.declared.bus.BusRule.{BusRule}
use Rattle.f8_spec.specs.declared.bus.BusRule.TheVariants.{Read, Store}
use Rattle.f8_spec.specs.declared.bus.Party.{Party}
use Rattle.abs_step.proofs.Members.{SomeOf}

-- ---- what is said of the chips, by the rule of an access and the flat machine's place

-- whoever takes part is there
abbrev pub IsThere : BusRule → ℕ → PlacedSeat → Type 0
IsThere rule reference x = answers rule x ≡ true → x.at ≡ reference

-- whoever would take part there is there
abbrev pub WouldBeThere : BusRule → ℕ → PlacedSeat → Type 0
WouldBeThere rule reference x = would_answer rule x.seat reference ≡ true → x.at ≡ reference

abbrev pub WouldNot : BusRule → ℕ → PlacedSeat → Type 0
WouldNot rule reference x = would_answer rule x.seat reference ≡ false

-- one chip at most would take part there
abbrev pub AtMostOne : BusRule → ℕ → List PlacedSeat → Type 0
AtMostOne rule reference [] = Unit {0}
AtMostOne rule reference (x ∷ xs) =
    (would_answer rule x.seat reference ≡ true → AllByRecursion (WouldNot rule reference) xs) × AtMostOne rule reference xs

-- At the flat machine's place a chip takes part where it would there. It is so of the rules that go by a counter.
abbrev pub GoesByPlace : BusRule → Type 0
GoesByPlace rule = (x : PlacedSeat) → answers rule x ≡ would_answer rule x.seat x.at

pub read_by_place : GoesByPlace Read
read_by_place x = refl

pub store_by_place : GoesByPlace Store
store_by_place x = refl

-- ---- who takes part and who stands by

module _ (rule : BusRule) (by_place : GoesByPlace rule) (reference : ℕ) where
  -- where nobody would, nobody does, nor stands by
  answers_not : (x : PlacedSeat) → IsThere rule reference x → WouldNot rule reference x → answers rule x ≡ false
  answers_not x there not_would = by (answers rule x) refl
    where
      by : (b : Bool) → answers rule x ≡ b → b ≡ false
      by true e =
          let at : x.at ≡ reference = there e in
          let moved : would_answer rule x.seat x.at ≡ would_answer rule x.seat reference = ap (would_answer rule x.seat) at in
          let place = by_place x in
          cc
      by false e = refl

  silent_parties : (n : ℕ) (xs : List PlacedSeat) → AllByRecursion (IsThere rule reference) xs →
      AllByRecursion (WouldNot rule reference) xs →
      parties rule (enumerate_from n xs) ≡ []
  silent_parties n [] there none = refl
  silent_parties n (x ∷ xs) there none =
      rw (answers_not x there.0 none.0, silent_parties (n + 1) xs there.1 none.1) refl

  stands_not : (takes : Bool) → (not takes && false) ≡ false
  stands_not true = refl
  stands_not false = refl

  silent_bystanders : (n : ℕ) (xs : List PlacedSeat) → AllByRecursion (WouldNot rule reference) xs →
      bystanders rule reference (enumerate_from n xs) ≡ []
  silent_bystanders n [] none = refl
  silent_bystanders n (x ∷ xs) none = rw (none.0, stands_not (answers rule x), silent_bystanders (n + 1) xs none.1) refl

  -- one chip takes part, at the flat machine's place, and nobody stands by; or nobody takes part
  pub data Taking (ps bs : List Party) : Type 0 where
    OneTakes : (p : Party) → ps ≡ p ∷ [] → p.at ≡ reference → bs ≡ [] → Taking ps bs
    NobodyTakes : ps ≡ [] → Taking ps bs

  taking_more : (n : ℕ) (x : PlacedSeat) (xs : List PlacedSeat) (takes would : Bool) → answers rule x ≡ takes →
      would_answer rule x.seat reference ≡ would → AllByRecursion (IsThere rule reference) (x ∷ xs) →
      (would_answer rule x.seat reference ≡ true → AllByRecursion (WouldNot rule reference) xs) →
      Taking (parties rule (enumerate_from (n + 1) xs)) (bystanders rule reference (enumerate_from (n + 1) xs)) →
      Taking (parties rule (enumerate_from n (x ∷ xs))) (bystanders rule reference (enumerate_from n (x ∷ xs)))
  taking_more n x xs true would a w there alone later =
      let at : x.at ≡ reference = there.0 a in
      let moved : would_answer rule x.seat x.at ≡ would_answer rule x.seat reference = ap (would_answer rule x.seat) at in
      let place = by_place x in
      let here : would_answer rule x.seat reference ≡ true = cc in
      OneTakes (record { socket = n; at = x.at }) (rw (a, silent_parties (n + 1) xs there.1 (alone here)) refl) at
      (rw (a, silent_bystanders (n + 1) xs (alone here)) refl)
  taking_more n x xs false true a w there alone later =
      NobodyTakes (rw (a, silent_parties (n + 1) xs there.1 (alone w)) refl)
  taking_more n x xs false false a w there alone later = rw (a, w) later

  pub taking : (n : ℕ) (xs : List PlacedSeat) → AllByRecursion (IsThere rule reference) xs → AtMostOne rule reference xs →
      Taking (parties rule (enumerate_from n xs)) (bystanders rule reference (enumerate_from n xs))
  taking n [] there most = NobodyTakes refl
  taking n (x ∷ xs) there most =
      taking_more n x xs (answers rule x) (would_answer rule x.seat reference) refl refl there most.0 (taking (n + 1) xs there.1 most.1)

  -- where all who would take part are there, nobody stands by
  pub nobody_stands : (n : ℕ) (xs : List PlacedSeat) → AllByRecursion (WouldBeThere rule reference) xs →
      bystanders rule reference (enumerate_from n xs) ≡ []
  nobody_stands n [] there = refl
  nobody_stands n (x ∷ xs) there =
      rw (by (would_answer rule x.seat reference) refl, nobody_stands (n + 1) xs there.1) refl
    where
      by : (w : Bool) → would_answer rule x.seat reference ≡ w → (not (answers rule x) && would_answer rule x.seat reference) ≡ false
      by true e =
          let moved : would_answer rule x.seat x.at ≡ would_answer rule x.seat reference = ap (would_answer rule x.seat) (there.0 e) in
          let place = by_place x in
          let takes : answers rule x ≡ true = cc in
          rw (takes) refl
      by false e = rw (e, stands_not (answers rule x)) refl

  -- where some chip takes part, it is not nobody
  pub some_take : (n : ℕ) (xs : List PlacedSeat) → SomeOf (λ x. answers rule x ≡ true) xs → parties rule (enumerate_from n xs) ≡ [] → ⊥
  some_take n [] some none = absurd some
  some_take n (x ∷ xs) (inl here) none = absurd (cc (rw here at none))
  some_take n (x ∷ xs) (inr later) none = by (answers rule x) refl (some_take (n + 1) xs later) none
    where
      by : (b : Bool) → answers rule x ≡ b → (parties rule (enumerate_from (n + 1) xs) ≡ [] → ⊥) →
          parties rule (enumerate_from n (x ∷ xs)) ≡ [] → ⊥
      by true e rest none = absurd (cc (rw e at none))
      by false e rest none = rest (rw e at none)

-- ---- reads

-- a read is served, or no chip answers it where the flat machine is
pub data ReadOutcome (reference : ℕ) (v : Ruling) : Type 0 where
  IsServed : (socket : Option ℕ) → v ≡ Served socket → ReadOutcome reference v
  IsUndriven : v ≡ Undriven reference → ReadOutcome reference v

at_itself : (n : ℕ) → (n == n) ≡ true
at_itself n = grind (arith, nat_tests)

one_is_served : (reference : ℕ) (p : Party) → p.at ≡ reference → one_party reference p None ≡ Served (Some p.socket)
one_is_served reference p at = rw (at, at_itself reference) refl

read_by : (reference : ℕ) (ps bs : List Party) → Taking Read read_by_place reference ps bs →
    ReadOutcome reference (read_ruling reference ps (lowest bs))
read_by reference ps bs (OneTakes p is at none) = IsServed (Some p.socket) (rw (is, none) (one_is_served reference p at))
read_by reference ps bs (NobodyTakes none) = IsUndriven (rw none refl)

pub read_outcome : (reference n : ℕ) (xs : List PlacedSeat) → AllByRecursion (IsThere Read reference) xs → AtMostOne Read reference xs →
    ReadOutcome reference
    (read_ruling reference (parties Read (enumerate_from n xs)) (lowest (bystanders Read reference (enumerate_from n xs))))
read_outcome reference n xs there most = read_by reference _ _ (taking Read read_by_place reference n xs there most)

served_by : (reference : ℕ) (ps bs : List Party) → Taking Read read_by_place reference ps bs → (ps ≡ [] → ⊥) →
    (socket : Option ℕ) × (read_ruling reference ps (lowest bs) ≡ Served socket)
served_by reference ps bs (OneTakes p is at none) some = (Some p.socket, rw (is, none) (one_is_served reference p at))
served_by reference ps bs (NobodyTakes none) some = absurd (some none)

-- where some chip takes part it is served
pub read_served : (reference n : ℕ) (xs : List PlacedSeat) → AllByRecursion (IsThere Read reference) xs → AtMostOne Read reference xs →
    SomeOf (λ x. answers Read x ≡ true) xs → (socket : Option ℕ)
    × (read_ruling reference (parties Read (enumerate_from n xs)) (lowest (bystanders Read reference (enumerate_from n xs)))
    ≡ Served socket)
read_served reference n xs there most some =
    served_by reference _ _ (taking Read read_by_place reference n xs there most) (some_take Read read_by_place reference n xs some)

-- ---- stores

store_by : (reference : ℕ) (ps bs : List Party) → Taking Store store_by_place reference ps bs → bs ≡ [] →
    (socket : Option ℕ) × (store_ruling reference ps (lowest bs) ≡ Served socket)
store_by reference ps bs (OneTakes p is at none) stands = (Some p.socket, rw (is, none) (one_is_served reference p at))
store_by reference ps bs (NobodyTakes none) stands = (None, rw (none, stands) refl)

-- a store is served where all chips with RAM at the flat machine's place are there
pub store_served : (reference n : ℕ) (xs : List PlacedSeat) → AllByRecursion (IsThere Store reference) xs →
    AllByRecursion (WouldBeThere Store reference) xs → AtMostOne Store reference xs → (socket : Option ℕ)
    × (store_ruling reference (parties Store (enumerate_from n xs)) (lowest (bystanders Store reference (enumerate_from n xs)))
    ≡ Served socket)
store_served reference n xs there would most =
    store_by reference _ _ (taking Store store_by_place reference n xs there most) (nobody_stands Store store_by_place reference n xs would)
