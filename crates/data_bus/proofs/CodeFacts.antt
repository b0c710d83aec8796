-- What a chip offers in a step is what the bus rule reads of it: for each code by itself.
use Rattle.std.proofs.Common.{◌≡◌, ℕ, zero, suc, ◌<◌, Bool, true, false, inl, inr, refl, sym, subst, arith}
use Rattle.std.specs.Prelude.{if◌then◌else◌, Option, Some, None, option_map, is_some}
use Rattle.std.proofs.lemmas.Bool.{cases_eq}
use Rattle.f8_spec.specs.BusCodes.{counter_of}
use Rattle.f8_spec.specs.ChipState.{ChipView, byte_offer, offered, told_counters}
use Rattle.f8_spec.specs.BusArbitration.{answers, place_in, placed, rule_of}
use Rattle.f8_spec.specs.declared.bus.BusRule.{BusRule}
use Rattle.f8_spec.specs.declared.bus.BusRule.TheVariants.{Read, Store, PortRead, PortWrite, Vector, NoChip}
use Rattle.f8_spec.specs.declared.chips.Offer.{Offer}
use Rattle.f8_spec.specs.declared.bus.Counter.{Counter}
use Rattle.f8_spec.specs.declared.bus.Counter.TheVariants.{Pc0, Pc1, Dc0, NoCounter}
use Rattle.data_bus.specs.KnownPlaces.{goes_by_counter}
use Rattle.data_bus.specs.Polling.{told_place}

-- a place, where the chip answers there
abbrev pub place_if : Bool → ℕ → Option ℕ
place_if test at = if test then Some at else None

-- the place of what a chip offers
abbrev pub place_of_offer : Option Offer → Option ℕ
place_of_offer o = option_map (λ offer. offer.at) o

-- In a step in which chips drive or take: it offers exactly where it does, at its own place, and its counter tells that place.
pub record IsRead (rule : BusRule) (romc : ℕ) (mark : Bool) (v : ChipView) : Type 0 where
  pub offers : place_of_offer (offered romc mark v) ≡ place_if (answers rule (placed romc v)) (place_in romc v.counters v.last)
  pub tells : told_place (counter_of romc) (told_counters v) ≡ place_in romc v.counters v.last

-- in a port step the place is the last byte, which no counter tells
abbrev pub OffersOwnPort : BusRule → ℕ → Bool → ChipView → Type 0
OffersOwnPort rule romc mark v = place_of_offer (offered romc mark v) ≡ place_if (answers rule (placed romc v)) (place_in romc v.counters v.last)

abbrev pub FactsBy : BusRule → ℕ → Bool → ChipView → Type 0
FactsBy Read romc mark v = IsRead Read romc mark v
FactsBy Store romc mark v = IsRead Store romc mark v
FactsBy PortRead romc mark v = OffersOwnPort PortRead romc mark v
FactsBy PortWrite romc mark v = OffersOwnPort PortWrite romc mark v
FactsBy Vector romc mark v = offered romc false v ≡ None
FactsBy NoChip romc mark v = offered romc mark v ≡ None

abbrev pub CodeFacts : ℕ → Type 0
CodeFacts romc = (mark : Bool) (v : ChipView) → FactsBy (rule_of romc) romc mark v

-- a byte of memory
memory : (at : ℕ) (f : ℕ → ℕ) (page : Option ℕ) → place_of_offer (option_map (byte_offer at) (option_map f page)) ≡ place_if (is_some page) at
memory at f None = refl
memory at f (Some place) = refl

-- a byte of a counter, or a store
offer_where : (at byte : ℕ) (test : Bool) → place_of_offer (if test then Some (byte_offer at byte) else None) ≡ place_if test at
offer_where at byte true = refl
offer_where at byte false = refl

-- a port
port : {A : Type 0} (last : ℕ) (f : A → ℕ) (role : Option A) → place_of_offer (option_map (λ r. byte_offer last (f r)) role) ≡ place_if (is_some role) last
port last f None = refl
port last f (Some role) = refl

AllBelow : (ℕ → Type 0) → ℕ → Type 0
AllBelow P zero = Unit {0}
AllBelow P (suc n) = AllBelow P n × P n

at_below : (P : ℕ → Type 0) (n k : ℕ) → AllBelow P n → k < n → P k
unfolding AllBelow
at_below P zero k all below = absurd (omega arith)
at_below P (suc n) k all below = elim (cases_eq k n) [ inl last ↦ subst P (sym last) all.1 | inr earlier ↦ at_below P n k all.0 (omega arith) ]

-- each of the 32 codes
all_codes : AllBelow CodeFacts 32
unfolding AllBelow
all_codes = (
  (
    (
      (
        (
          (
            (
              (
                (
                  (
                    (
                      (
                        (
                          (
                            (
                              (
                                (
                                  (
                                    (
                                      (
                                        (
                                          (
                                            (
                                              (
                                                (
                                                  (
                                                    (
                                                      (
                                                        (
                                                          (
                                                            (
                                                              (
                                                                tt,
                                                                (λ mark v. record { offers = memory _ _ _; tells = refl }),
                                                              ),
                                                              (λ mark v. record { offers = memory _ _ _; tells = refl }),
                                                            ),
                                                            (λ mark v. record { offers = memory _ _ _; tells = refl }),
                                                          ),
                                                          (λ mark v. record { offers = memory _ _ _; tells = refl }),
                                                        ),
                                                        (λ mark v. refl),
                                                      ),
                                                      (λ mark v. record { offers = offer_where _ _ _; tells = refl }),
                                                    ),
                                                    (λ mark v. record { offers = offer_where _ _ _; tells = refl }),
                                                  ),
                                                  (λ mark v. record { offers = offer_where _ _ _; tells = refl }),
                                                ),
                                                (λ mark v. refl),
                                              ),
                                              (λ mark v. record { offers = offer_where _ _ _; tells = refl }),
                                            ),
                                            (λ mark v. refl),
                                          ),
                                          (λ mark v. record { offers = offer_where _ _ _; tells = refl }),
                                        ),
                                        (λ mark v. record { offers = memory _ _ _; tells = refl }),
                                      ),
                                      (λ mark v. refl),
                                    ),
                                    (λ mark v. record { offers = memory _ _ _; tells = refl }),
                                  ),
                                  (λ mark v. refl),
                                ),
                                (λ mark v. refl),
                              ),
                              (λ mark v. record { offers = memory _ _ _; tells = refl }),
                            ),
                            (λ mark v. refl),
                          ),
                          (λ mark v. refl),
                        ),
                        (λ mark v. refl),
                      ),
                      (λ mark v. refl),
                    ),
                    (λ mark v. refl),
                  ),
                  (λ mark v. refl),
                ),
                (λ mark v. refl),
              ),
              (λ mark v. refl),
            ),
            (λ mark v. port _ _ _),
          ),
          (λ mark v. port _ _ _),
        ),
        (λ mark v. refl),
      ),
      (λ mark v. refl),
    ),
    (λ mark v. record { offers = offer_where _ _ _; tells = refl }),
  ),
  (λ mark v. record { offers = offer_where _ _ _; tells = refl }),
)

-- each code that there is
pub code_facts : (romc : ℕ) → romc < 32 → CodeFacts romc
code_facts romc below = at_below CodeFacts 32 romc all_codes below

-- ---- the codes that go by a counter

abbrev pub is_counter : Counter → Bool
is_counter Pc0 = true
is_counter Pc1 = true
is_counter Dc0 = true
is_counter NoCounter = false

-- a step with a counter is one in which chips drive or take at it
abbrev GoesByCounter : ℕ → Type 0
GoesByCounter romc = is_counter (counter_of romc) ≡ true → goes_by_counter (rule_of romc) ≡ true

-- each of the 32 codes
all_counters : AllBelow GoesByCounter 32
unfolding AllBelow
all_counters = (
  (
    (
      (
        (
          (
            (
              (
                (
                  (
                    (
                      (
                        (
                          (
                            (
                              (
                                (
                                  (
                                    (
                                      (
                                        (
                                          (
                                            (
                                              (
                                                (
                                                  (((((((tt, (λ is. refl)), (λ is. refl)), (λ is. refl)), (λ is. refl)), (λ is. cc)), (λ is. refl)), (λ is. refl)),
                                                  (λ is. refl),
                                                ),
                                                (λ is. cc),
                                              ),
                                              (λ is. refl),
                                            ),
                                            (λ is. cc),
                                          ),
                                          (λ is. refl),
                                        ),
                                        (λ is. refl),
                                      ),
                                      (λ is. cc),
                                    ),
                                    (λ is. refl),
                                  ),
                                  (λ is. cc),
                                ),
                                (λ is. cc),
                              ),
                              (λ is. refl),
                            ),
                            (λ is. cc),
                          ),
                          (λ is. cc),
                        ),
                        (λ is. cc),
                      ),
                      (λ is. cc),
                    ),
                    (λ is. cc),
                  ),
                  (λ is. cc),
                ),
                (λ is. cc),
              ),
              (λ is. cc),
            ),
            (λ is. cc),
          ),
          (λ is. cc),
        ),
        (λ is. cc),
      ),
      (λ is. cc),
    ),
    (λ is. refl),
  ),
  (λ is. refl),
)

pub counter_codes : (romc : ℕ) → romc < 32 → is_counter (counter_of romc) ≡ true → goes_by_counter (rule_of romc) ≡ true
counter_codes romc below = at_below GoesByCounter 32 romc all_counters below
