-- A served read: the byte on the bus is the flat machine's at the probe's place, by the chips' own memory or by that place itself.
use Rattle.std.proofs.Common.{◌≡◌, ℕ, ◌+◌, ◌*◌, ◌/◌, ◌%◌, ◌<◌, Bool, true, false, ◌||◌, List, [], ◌∷◌, refl, sym, ap}
use Rattle.std.proofs.Common.{subst, ◌∙◌, ⊎_elim, eqb-true}
use Rattle.std.specs.Prelude.{◌==◌, if◌then◌else◌, Option, Some, None, option_map, is_some, slice_get, slice_index}
use Rattle.std.specs.List.{enumerate_from}
use Rattle.std.proofs.lemmas.Bool.{cases_eq, or_cases}
use Rattle.f8_spec.specs.BusCodes.{driver_of}
use Rattle.f8_spec.specs.ChipState.{ChipView, byte_offer, counter_byte, held_byte, holds, offered, offered_at, place_of}
use Rattle.f8_spec.specs.BusArbitration.{Served, place_in, parties, bystanders, lowest, read_ruling, judged, rule_by}
use Rattle.f8_spec.specs.BusArbitration.{rule_of, offer_of, offers, bus_byte, view_ruling}
use Rattle.f8_spec.specs.declared.bus.BusRule.TheVariants.{Read, Store, PortWrite}
use Rattle.f8_spec.specs.declared.bus.Driver.{Driver}
use Rattle.f8_spec.specs.declared.bus.Driver.TheVariants.{Memory, CounterByte, Vector, Port, Cpu, Nobody}
use Rattle.f8_spec.specs.declared.chips.Offer.{Offer}
use Rattle.console_spec.specs.AddressSpace.{byte_at}
use Rattle.f8_machine.specs.RackViews.{HeldOnce, HoldsFlat}
use Rattle.f8_machine.proofs.Kept.{keeps_one, slice_get-enumerate_from, Comes, comes}
use Rattle.f8_machine.proofs.ServedSteps.{Agrees, OneAnswers, named_seats, one_answers, agrees_one, read_served}

-- the byte of a read at the flat machine's address, by the driver, the code, the memory and the address
abbrev pub read_value : Driver → ℕ → List ℕ → ℕ → ℕ
read_value Memory romc memory at = byte_at memory at
read_value CounterByte romc memory at = counter_byte romc at
read_value driver romc memory at = 0

-- ---- which codes read

-- the code is one of some, or what is told before holds
abbrev is_told_or : Bool → ℕ → List ℕ → Bool
is_told_or told romc [] = told
is_told_or told romc (k ∷ ks) = is_told_or (told || romc == k) romc ks

-- the code is one of some
abbrev is_one_of : ℕ → List ℕ → Bool
is_one_of romc [] = false
is_one_of romc (k ∷ ks) = is_told_or (romc == k) romc ks

-- each of some codes
abbrev AllOf : (ℕ → Type 0) → List ℕ → Type 0
AllOf P [] = Unit {0}
AllOf P (k ∷ ks) = P k × AllOf P ks

-- what holds of each of some codes, and where what is told before does, holds where either does
told_or : (P : ℕ → Type 0) (told : Bool) (romc : ℕ) (ks : List ℕ) → is_told_or told romc ks ≡ true →
    (told ≡ true → P romc) → AllOf P ks → P romc
told_or P told romc [] is before all = before is
told_or P told romc (k ∷ ks) is before all =
    told_or P (told || romc == k) romc ks is (λ now. ⊎_elim before (λ here. subst P (sym (eqb-true romc k here)) all.0)
    (or_cases told (romc == k) now)) all.1

-- what holds of each of some codes holds of a code that is one of them
one_of : (P : ℕ → Type 0) (romc : ℕ) (ks : List ℕ) → is_one_of romc ks ≡ true → AllOf P ks → P romc
one_of P romc [] is all = cc
one_of P romc (k ∷ ks) is all = told_or P (romc == k) romc ks is
    (λ here. subst P (sym (eqb-true romc k here)) all.0) all.1

-- the codes whose byte memory drives
memory_codes : List ℕ
memory_codes = 0x00 ∷ 0x01 ∷ 0x02 ∷ 0x03 ∷ 0x0C ∷ 0x0E ∷ 0x11 ∷ []

-- those whose byte a counter drives
counter_codes : List ℕ
counter_codes = 0x06 ∷ 0x07 ∷ 0x09 ∷ 0x0B ∷ 0x1E ∷ 0x1F ∷ []

-- in a step with the code each chip offers what the driver says at the chip's own place
abbrev OffersOwnPlace : Driver → ℕ → Type 0
OffersOwnPlace driver romc = (v : ChipView) →
    offered romc false v ≡ offered_at driver romc v (place_in romc v.counters v.last)

-- a byte of memory
offers_memory : (romc : ℕ) → is_one_of romc memory_codes ≡ true → OffersOwnPlace Memory romc
unfolding memory_codes
offers_memory romc is = one_of (OffersOwnPlace Memory) romc memory_codes is
    (λ v. refl, (λ v. refl, (λ v. refl, (λ v. refl, (λ v. refl, (λ v. refl, (λ v. refl, tt)))))))

-- a byte of the counter
offers_counter : (romc : ℕ) → is_one_of romc counter_codes ≡ true → OffersOwnPlace CounterByte romc
unfolding counter_codes
offers_counter romc is = one_of (OffersOwnPlace CounterByte) romc counter_codes is
    (λ v. refl, (λ v. refl, (λ v. refl, (λ v. refl, (λ v. refl, (λ v. refl, tt))))))

-- a code whose byte a chip reads: its driver is one of two
pub data ReadBy (romc : ℕ) : Type 0 where
  ByMemory : driver_of romc ≡ Memory → OffersOwnPlace Memory romc → ReadBy romc
  ByCounter : driver_of romc ≡ CounterByte → OffersOwnPlace CounterByte romc → ReadBy romc

-- the driver of a code that is none of them
abbrev other_driver : Bool → Bool → Bool → Driver
other_driver vector port nobody = if vector then Vector else if port then Port else if nobody then Nobody else Cpu

-- whose byte is not read
not_read : (vector port nobody : Bool) → rule_by (other_driver vector port nobody) ≡ Read → ⊥
not_read true port nobody e = cc
not_read false true nobody e = cc
not_read false false true e = cc
not_read false false false e = cc

-- a read is by one of the two
read_by : (romc : ℕ) → rule_of romc ≡ Read → ReadBy romc
unfolding memory_codes counter_codes
read_by romc reads =
    step (romc == 0x05) (romc == 0x1A) (is_one_of romc memory_codes)
    (is_one_of romc counter_codes) _ refl refl refl reads
    (not_read (romc == 0x0F || romc == 0x13) (romc == 0x1B)
    (romc == 0x04 || romc == 0x0D || romc == 0x10 || romc == 0x1D))
  where
    step : (store write memory counter : Bool) (rest : Driver) → is_one_of romc memory_codes ≡ memory →
        is_one_of romc counter_codes ≡ counter →
        driver_of romc ≡ (if memory then Memory else if counter then CounterByte else rest) →
        (if store then Store else if write then PortWrite else rule_by
        (if memory then Memory else if counter then CounterByte else rest)) ≡ Read →
        (rule_by rest ≡ Read → ⊥) → ReadBy romc
    step true write memory counter rest m c driven reads other = cc
    step false true memory counter rest m c driven reads other = cc
    step false false true counter rest m c driven reads other = ByMemory driven (offers_memory romc m)
    step false false false true rest m c driven reads other = ByCounter driven (offers_counter romc c)
    step false false false false rest m c driven reads other = absurd (other reads)

-- ---- what chips offer

-- a chip away from what it holds offers nothing
memory_unheld : (v : ChipView) (romc at : ℕ) → holds v at ≡ false → offered_at Memory romc v at ≡ None
memory_unheld v romc at unheld = step (place_of v.pages (at / 256)) unheld
  where
    step : (o : Option ℕ) → is_some o ≡ false →
        option_map (byte_offer at) (option_map (λ place. slice_index v.bytes (place * 256 + at % 256)) o) ≡ None
    step None unheld = refl
    step (Some place) unheld = cc

-- nor a byte of its counter
counter_unheld : (v : ChipView) (romc at : ℕ) → holds v at ≡ false → offered_at CounterByte romc v at ≡ None
counter_unheld v romc at unheld = rw unheld refl

-- the one chip that drives a read is the only one that holds the probe's place
pub record Driven (romc reference : ℕ) (vs : List ChipView) : Type 0 where
  pub place : ℕ
  pub chip : ChipView
  pub lies : slice_get vs place ≡ Some chip
  pub there : place_in romc chip.counters chip.last ≡ reference
  pub held : holds chip reference ≡ true
  pub once : HeldOnce vs reference place
  pub others : (j : ℕ) (w : ChipView) → slice_get vs j ≡ Some w → (j ≡ place → ⊥) →
      holds w (place_in romc w.counters w.last) ≡ false

-- that is so where the chips agree with the probe and one answers
driven_by : (romc reference : ℕ) (vs : List ChipView) → Agrees Read romc reference vs → OneAnswers Read romc vs →
    Driven romc reference vs
driven_by romc reference vs agrees one =
    let there : place_in romc one.chip.counters one.chip.last ≡ reference =
    agrees.there one.place one.chip one.lies one.answers_it in
    record {
      place = one.place;
      chip = one.chip;
      lies = one.lies;
      there = there;
      held = subst (λ at. holds one.chip at ≡ true) there one.answers_it;
      once = once;
      others = one.others;
    }
  where
    once : HeldOnce vs reference one.place
    once j w lies held = ⊎_elim (λ same. same) (λ other. absurd (no other)) (cases_eq j one.place)
      where
        no : (j ≡ one.place → ⊥) → ⊥
        no other =
            let answers_it = agrees.takes j w lies held in
            let silent = one.others j w lies other in
            cc

-- and so in a served read
pub driven_read : (romc reference : ℕ) (socket : Option ℕ) (vs : List ChipView) → rule_of romc ≡ Read →
    view_ruling romc None reference (enumerate_from 0 vs) ≡ Served socket → Driven romc reference vs
driven_read romc reference socket vs reads served =
    let by_rule : read_ruling reference (parties Read (named_seats romc vs))
    (lowest (bystanders Read reference (named_seats romc vs))) ≡ Served socket =
    subst (λ r. judged r None reference (parties r (named_seats romc vs))
    (lowest (bystanders r reference (named_seats romc vs))) ≡ Served socket) reads served in
    let one = read_served reference socket (parties Read (named_seats romc vs))
    (lowest (bystanders Read reference (named_seats romc vs))) by_rule in
    driven_by romc reference vs (agrees_one Read romc reference vs one)
    (one_answers Read romc reference vs one.party one.only)

-- ---- the byte

module _ (romc reference : ℕ) (vs : List ChipView) (driven : Driven romc reference vs) where
  -- its offer is the only one
  only_offer : (driver : Driver) → OffersOwnPlace driver romc →
      ((v : ChipView) (at : ℕ) → holds v at ≡ false → offered_at driver romc v at ≡ None) → (o : Offer) →
      offered_at driver romc driven.chip reference ≡ Some o → offers romc None (enumerate_from 0 vs) ≡ o ∷ []
  only_offer driver own silent o says = keeps_one (offer_of romc None) (enumerate_from 0 vs) driven.place
      (driven.place, driven.chip) o
      (slice_get-enumerate_from vs driven.place ∙ ap (option_map (λ v. (driven.place, v))) driven.lies)
      (own driven.chip ∙ rw driven.there says) others
    where
      others : (j : ℕ) (x : ℕ × ChipView) → slice_get (enumerate_from 0 vs) j ≡ Some x → (j ≡ driven.place → ⊥) →
          offer_of romc None x ≡ None
      others j x lies other =
          let chip : Comes (λ (w : ChipView). (j, w)) (slice_get vs j) x =
          comes (λ w. (j, w)) (slice_get vs j) x (sym (slice_get-enumerate_from vs j) ∙ lies) in
          let unheld = driven.others j chip.from chip.is other in
          ap (offer_of romc None) chip.gives ∙ own chip.from
          ∙ silent chip.from (place_in romc chip.from.counters chip.from.last) unheld

-- the byte of a served read is the flat machine's
pub served_read : (romc byte reference : ℕ) (socket : Option ℕ) (vs : List ChipView) (memory : List ℕ) →
    rule_of romc ≡ Read → reference < 65536 →
    HoldsFlat memory vs → view_ruling romc None reference (enumerate_from 0 vs) ≡ Served socket →
    bus_byte romc None byte (enumerate_from 0 vs) ≡ read_value (driver_of romc) romc memory reference
served_read romc byte reference socket vs memory reads small flat served = step (read_by romc reads)
  where
    driven : Driven romc reference vs
    driven = driven_read romc reference socket vs reads served

    step : ReadBy romc → bus_byte romc None byte (enumerate_from 0 vs)
        ≡ read_value (driver_of romc) romc memory reference
    step (ByMemory is own) =
        let held : held_byte driven.chip reference ≡ Some (byte_at memory reference) =
        flat driven.place driven.chip reference small driven.lies driven.held driven.once in
        rw (
          is,
          only_offer romc reference vs driven Memory own (λ v at. memory_unheld v romc at)
              (byte_offer reference (byte_at memory reference)) (ap (option_map (byte_offer reference)) held),
        ) refl
    step (ByCounter is own) =
        rw (
          is,
          only_offer romc reference vs driven CounterByte own (λ v at. counter_unheld v romc at)
              (byte_offer reference (counter_byte romc reference)) (rw driven.held refl),
        ) refl
