-- The order law of bus arbitration, proved over the definitions.
use Rattle.std.proofs.Common.{◌≡◌, ℕ, Bool, true, false, not, ◌&&◌, ◌==◌, List, [], ◌∷◌, map, refl, sym, ap, subst, ◌∙◌, inl, inr, arith}
use Rattle.std.proofs.Common.{eqb-true, eq-eqb}
use Rattle.std.specs.Prelude.{if◌then◌else◌, Option, Some, None, option_map, filter_map, IsPermutation}
use Rattle.std.proofs.lemmas.List.Sorted.{IsPermutation-map, length_permutation}
use Rattle.f8_spec.specs.BusCodes.{driver_of}
use Rattle.f8_spec.specs.ChipState.{ChipView, offered}
use Rattle.f8_spec.specs.BusArbitration.{PlacedSeat, Ruling, Conflict, Astray, rule_of, answers, would_answer}
use Rattle.f8_spec.specs.BusArbitration.{party_if, party_of, bystander_of, lowest, unless_bystander, one_party}
use Rattle.f8_spec.specs.BusArbitration.{read_ruling, store_ruling, port_read_ruling, port_write_ruling, judged}
use Rattle.f8_spec.specs.BusArbitration.{is_first, offer_of, offers, only_byte, byte_by, named_placed}
use Rattle.f8_spec.specs.OrderLaw.{renamed, renamed_party, Agree, OrderLaw}
use Rattle.f8_spec.specs.declared.bus.BusRule.{BusRule}
use Rattle.f8_spec.specs.declared.bus.BusRule.TheVariants.{Read, Store, PortRead, PortWrite, Vector, NoChip}
use Rattle.f8_spec.specs.declared.bus.Party.{Party}
use Rattle.f8_spec.specs.declared.chips.Offer.{Offer}
use Rattle.f8_spec.proofs.Permutations.{filter_map-IsPermutation, filter_map-follows, filter_map-unmoved, none_left, one_left}

module _ (name : ℕ → ℕ) where
  -- a chip's part in a step has its socket's new name
  party_if-renamed : (test : Bool) (socket at : ℕ) → party_if test (name socket) at ≡ option_map (renamed_party name) (party_if test socket at)
  party_if-renamed true socket at = refl
  party_if-renamed false socket at = refl

  -- what a partial function gives of rearranged and renamed chips, where it follows the new names
  given : {Y : Type 0} (h : ℕ × PlacedSeat → Option Y) (k : Y → Y) (romc : ℕ) →
      ((x : ℕ × ChipView) → h (named_placed romc (renamed name x)) ≡ option_map k (h (named_placed romc x))) →
      (xs ys : List (ℕ × ChipView)) → IsPermutation (map (renamed name) xs) ys →
      IsPermutation (map k (filter_map h (map (named_placed romc) xs))) (filter_map h (map (named_placed romc) ys))
  given {Y} h k romc follows xs ys p =
      let moved : IsPermutation (map (named_placed romc) (map (renamed name) xs)) (map (named_placed romc) ys) = IsPermutation-map (named_placed romc) _ _ p in
      let kept : IsPermutation (filter_map h (map (named_placed romc) (map (renamed name) xs))) (filter_map h (map (named_placed romc) ys)) =
      filter_map-IsPermutation h _ _ moved in
      subst (λ (l : List Y). IsPermutation l (filter_map h (map (named_placed romc) ys)))
      (filter_map-follows h (named_placed romc) (renamed name) k follows xs) kept

  -- the first of those that stand by
  unless-renamed : (reference : ℕ) (socket : Option ℕ) (bs cs : List Party) → IsPermutation (map (renamed_party name) bs) cs →
      Agree name bs cs (unless_bystander reference socket (lowest bs)) (unless_bystander reference (option_map name socket) (lowest cs))
  unless-renamed reference socket [] [] p = refl
  unless-renamed reference socket [] (c ∷ cs) p = absurd (let e = length_permutation _ _ p in omega arith)
  unless-renamed reference socket (b ∷ bs) [] p = absurd (let e = length_permutation _ _ p in omega arith)
  unless-renamed reference socket (b ∷ bs) (c ∷ cs) p = (refl, inr (record { one = (bs, refl); other = (cs, refl); same = p }))

  -- one chip that drives or takes
  one-renamed : (reference : ℕ) (party : Party) (bs cs : List Party) → IsPermutation (map (renamed_party name) bs) cs →
      Agree name bs cs (one_party reference party (lowest bs)) (one_party reference (renamed_party name party) (lowest cs))
  one-renamed reference party bs cs p = by_test (party.at == reference)
    where
      by_test : (test : Bool) → Agree name bs cs
          (if test then unless_bystander reference (Some party.socket) (lowest bs) else Astray party.socket party.at reference)
          (if test then unless_bystander reference (Some (name party.socket)) (lowest cs) else Astray (name party.socket) party.at reference)
      by_test true = unless-renamed reference (Some party.socket) bs cs p
      by_test false = (refl, inl (refl, refl))

  -- several chips that drive or take
  conflict-renamed : (judge : List Party → Ruling) → ((c d : Party) (rest : List Party) → judge (c ∷ (d ∷ rest)) ≡ Conflict (c ∷ (d ∷ rest))) →
      (x y : Party) (ps qs bs cs : List Party) → IsPermutation (map (renamed_party name) (x ∷ (y ∷ ps))) qs →
      Agree name bs cs (Conflict (x ∷ (y ∷ ps))) (judge qs)
  conflict-renamed judge is x y ps [] bs cs p = absurd (let e = length_permutation _ _ p in omega arith)
  conflict-renamed judge is x y ps (c ∷ []) bs cs p = absurd (let e = length_permutation _ _ p in omega arith)
  conflict-renamed judge is x y ps (c ∷ (d ∷ qs)) bs cs p = rw (is c d qs) p

  -- the ruling by those that take part and those that stand by
  judged-renamed : (rule : BusRule) (first : Option ℕ) (reference : ℕ) (ps qs bs cs : List Party) →
      IsPermutation (map (renamed_party name) ps) qs → IsPermutation (map (renamed_party name) bs) cs →
      Agree name bs cs (judged rule first reference ps (lowest bs)) (judged rule (option_map name first) reference qs (lowest cs))
  judged-renamed Read first reference [] qs bs cs p b = rw (none_left qs p) refl
  judged-renamed Read first reference (x ∷ []) qs bs cs p b = rw (one_left (renamed_party name x) qs p) (one-renamed reference x bs cs b)
  judged-renamed Read first reference (x ∷ (y ∷ ps)) qs bs cs p b =
      conflict-renamed (λ l. read_ruling reference l (lowest cs)) (λ c d rest. refl) x y ps qs bs cs p
  judged-renamed Store first reference [] qs bs cs p b = rw (none_left qs p) (unless-renamed reference None bs cs b)
  judged-renamed Store first reference (x ∷ []) qs bs cs p b = rw (one_left (renamed_party name x) qs p) (one-renamed reference x bs cs b)
  judged-renamed Store first reference (x ∷ (y ∷ ps)) qs bs cs p b =
      conflict-renamed (λ l. store_ruling reference l (lowest cs)) (λ c d rest. refl) x y ps qs bs cs p
  judged-renamed PortRead first reference [] qs bs cs p b = rw (none_left qs p) refl
  judged-renamed PortRead first reference (x ∷ []) qs bs cs p b = rw (one_left (renamed_party name x) qs p) refl
  judged-renamed PortRead first reference (x ∷ (y ∷ ps)) qs bs cs p b = conflict-renamed (port_read_ruling reference) (λ c d rest. refl) x y ps qs bs cs p
  judged-renamed PortWrite first reference [] qs bs cs p b = rw (none_left qs p) refl
  judged-renamed PortWrite first reference (x ∷ []) qs bs cs p b = rw (one_left (renamed_party name x) qs p) refl
  judged-renamed PortWrite first reference (x ∷ (y ∷ ps)) qs bs cs p b = conflict-renamed port_write_ruling (λ c d rest. refl) x y ps qs bs cs p
  judged-renamed Vector first reference ps qs bs cs p b = refl
  judged-renamed NoChip first reference ps qs bs cs p b = refl

  -- the acknowledged chip stays the acknowledged one
  is_first-renamed : ((a b : ℕ) → name a ≡ name b → a ≡ b) → (first : Option ℕ) (socket : ℕ) →
      is_first (option_map name first) (name socket) ≡ is_first first socket
  is_first-renamed distinct None socket = refl
  is_first-renamed distinct (Some chosen) socket = by_test (name chosen == name socket) refl (chosen == socket) refl
    where
      by_test : (renamed_test : Bool) → (name chosen == name socket) ≡ renamed_test → (test : Bool) → (chosen == socket) ≡ test → renamed_test ≡ test
      by_test true e true f = refl
      by_test false e false f = refl
      by_test true e false f = sym (eq-eqb chosen socket (distinct chosen socket (eqb-true (name chosen) (name socket) e))) ∙ f
      by_test false e true f = sym e ∙ eq-eqb (name chosen) (name socket) (ap name (eqb-true chosen socket f))

-- the byte of the only chip that drives
only_byte-permuted : (os ps : List Offer) → IsPermutation os ps → only_byte ps ≡ only_byte os
only_byte-permuted [] ps p = rw (none_left ps p) refl
only_byte-permuted (o ∷ []) ps p = rw (one_left o ps p) refl
only_byte-permuted (o ∷ (n ∷ os)) [] p = absurd (let e = length_permutation _ _ p in omega arith)
only_byte-permuted (o ∷ (n ∷ os)) (q ∷ []) p = absurd (let e = length_permutation _ _ p in omega arith)
only_byte-permuted (o ∷ (n ∷ os)) (q ∷ (r ∷ ps)) p = refl

-- what the chips offer, rearranged with them
offers-permuted : (name : ℕ → ℕ) → ((a b : ℕ) → name a ≡ name b → a ≡ b) → (romc : ℕ) (first : Option ℕ) (xs ys : List (ℕ × ChipView)) →
    IsPermutation (map (renamed name) xs) ys → IsPermutation (offers romc first xs) (offers romc (option_map name first) ys)
offers-permuted name distinct romc first xs ys p =
    let kept : IsPermutation (filter_map (offer_of romc (option_map name first)) (map (renamed name) xs)) (offers romc (option_map name first) ys) =
    filter_map-IsPermutation (offer_of romc (option_map name first)) _ _ p in
    let unmoved : filter_map (offer_of romc (option_map name first)) (map (renamed name) xs) ≡ offers romc first xs =
    filter_map-unmoved (offer_of romc first) (offer_of romc (option_map name first)) (renamed name)
    (λ x. ap (λ mark. offered romc mark x.1) (is_first-renamed name distinct first x.0)) xs in
    subst (λ (l : List Offer). IsPermutation l (offers romc (option_map name first) ys)) unmoved kept

-- the law
pub order_law : OrderLaw
order_law name distinct xs ys p romc first reference byte =
    let rule : BusRule = rule_of romc in
    record {
      bytes = ap (byte_by (driver_of romc) byte) (only_byte-permuted _ _ (offers-permuted name distinct romc first xs ys p));
      rulings = judged-renamed name rule first reference _ _ _ _
          (given name (party_of rule) (renamed_party name) romc
          (λ x. party_if-renamed name (answers rule (named_placed romc x).1) x.0 (named_placed romc x).1.at) xs ys
          p)
          (given name (bystander_of rule reference) (renamed_party name) romc
          (λ x. party_if-renamed name (not (answers rule (named_placed romc x).1) && would_answer rule
          (named_placed romc x).1.seat reference) x.0 (named_placed romc x).1.at) xs ys p);
    }
