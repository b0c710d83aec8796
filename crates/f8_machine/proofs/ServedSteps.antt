-- What a served step says of the chips: those that drive or take stand at the probe's place, and those that could there do.
use Rattle.std.proofs.Common.{◌≡◌, ℕ, Bool, true, false, not, ◌&&◌, List, [], ◌∷◌, map, refl, sym, ap, ◌∙◌, eqb-true}
use Rattle.std.specs.Prelude.{◌==◌, if◌then◌else◌, Option, Some, None, option_map, slice_get}
use Rattle.std.specs.List.{enumerate_from}
use Rattle.std.proofs.lemmas.Option.{slice_get-map}
use Rattle.f8_spec.specs.ChipState.{ChipView}
use Rattle.f8_spec.specs.BusArbitration.{PlacedSeat, Served, Astray, place_in, placed, seat_of, answers, would_answer}
use Rattle.f8_spec.specs.BusArbitration.{party_if, party_of, bystander_of, parties, bystanders, lowest}
use Rattle.f8_spec.specs.BusArbitration.{unless_bystander, one_party, read_ruling, store_ruling, named_placed}
use Rattle.f8_spec.specs.declared.bus.BusRule.{BusRule}
use Rattle.f8_spec.specs.declared.bus.Party.{Party}
use Rattle.f8_machine.proofs.Kept.{OneKept, none_kept, one_kept, kept_is, slice_get-enumerate_from, Comes, comes}

-- ---- rulings

-- one chip drives or takes, at the probe's place, and none stands by
pub record OneParty (reference : ℕ) (ps : List Party) (bystander : Option Party) : Type 0 where
  pub party : Party
  pub only : ps ≡ party ∷ []
  pub there : party.at ≡ reference
  pub none_by : bystander ≡ None

-- where the step is served, none stands by
none_stands : (reference : ℕ) (named socket : Option ℕ) (bystander : Option Party) →
    unless_bystander reference named bystander ≡ Served socket → bystander ≡ None
none_stands reference named socket None e = refl
none_stands reference named socket (Some q) e = cc

-- one party that is served
one_served : (reference : ℕ) (socket : Option ℕ) (p : Party) (bystander : Option Party) →
    one_party reference p bystander ≡ Served socket → OneParty reference (p ∷ []) bystander
one_served reference socket p bystander e = step (p.at == reference) refl e
  where
    step : (there : Bool) → (p.at == reference) ≡ there →
        (if there then unless_bystander reference (Some p.socket) bystander else Astray p.socket p.at reference)
        ≡ Served socket → OneParty reference (p ∷ []) bystander
    step true there e = record {
      party = p;
      only = refl;
      there = eqb-true p.at reference there;
      none_by = none_stands reference (Some p.socket) socket bystander e;
    }
    step false there e = cc

-- a served read has one party
pub read_served : (reference : ℕ) (socket : Option ℕ) (ps : List Party) (bystander : Option Party) →
    read_ruling reference ps bystander ≡ Served socket →
    OneParty reference ps bystander
read_served reference socket [] bystander e = cc
read_served reference socket (p ∷ []) bystander e = one_served reference socket p bystander e
read_served reference socket (p ∷ (q ∷ ps)) bystander e = cc

-- a served store has one, or none
pub data StoreParties (reference : ℕ) (ps : List Party) (bystander : Option Party) : Type 0 where
  Taken : OneParty reference ps bystander → StoreParties reference ps bystander
  Lost : ps ≡ [] → bystander ≡ None → StoreParties reference ps bystander

pub store_served : (reference : ℕ) (socket : Option ℕ) (ps : List Party) (bystander : Option Party) →
    store_ruling reference ps bystander ≡ Served socket →
    StoreParties reference ps bystander
store_served reference socket [] bystander e = Lost refl (none_stands reference None socket bystander e)
store_served reference socket (p ∷ []) bystander e = Taken (one_served reference socket p bystander e)
store_served reference socket (p ∷ (q ∷ ps)) bystander e = cc

-- where there is no lowest, there is none
pub lowest-none : (ps : List Party) → lowest ps ≡ None → ps ≡ []
lowest-none [] e = refl
lowest-none (p ∷ ps) e = cc

-- ---- the part of one chip

-- a chip that takes no part
party_if-none : (test : Bool) (socket at : ℕ) → party_if test socket at ≡ None → test ≡ false
party_if-none true socket at e = cc
party_if-none false socket at e = refl

-- the chip takes part, at its own place
pub record TakesPart (test : Bool) (at : ℕ) (p : Party) : Type 0 where
  pub takes : test ≡ true
  pub own : at ≡ p.at

-- a chip that does
party_if-some : (test : Bool) (socket at : ℕ) (p : Party) → party_if test socket at ≡ Some p → TakesPart test at p
party_if-some true socket at p e =
    let same : record { socket = socket; at = at } ≡ p = cc in
    record { takes = refl; own = ap (λ (q : Party). q.at) same }
party_if-some false socket at p e = cc

-- one that stands not by, and would answer, takes part
takes_there : (takes would : Bool) → (not takes && would) ≡ false → would ≡ true → takes ≡ true
takes_there true would e is = refl
takes_there false true e is = cc
takes_there false false e is = cc

-- ---- the chips of a rack in a step

-- each chip that drives or takes is at the probe's place, and each that would there does
pub record Agrees (rule : BusRule) (romc reference : ℕ) (vs : List ChipView) : Type 0 where
  pub there : (j : ℕ) (w : ChipView) → slice_get vs j ≡ Some w → answers rule (placed romc w) ≡ true →
      place_in romc w.counters w.last ≡ reference
  pub takes : (j : ℕ) (w : ChipView) → slice_get vs j ≡ Some w → would_answer rule (seat_of w) reference ≡ true →
      answers rule (placed romc w) ≡ true

-- one chip drives or takes
pub record OneAnswers (rule : BusRule) (romc : ℕ) (vs : List ChipView) : Type 0 where
  pub place : ℕ
  pub chip : ChipView
  pub lies : slice_get vs place ≡ Some chip
  pub answers_it : answers rule (placed romc chip) ≡ true
  pub others : (j : ℕ) (w : ChipView) → slice_get vs j ≡ Some w → (j ≡ place → ⊥) → answers rule (placed romc w) ≡ false

-- the chips as the bus rule reads them
abbrev pub named_seats : ℕ → List ChipView → List (ℕ × PlacedSeat)
named_seats romc vs = map (named_placed romc) (enumerate_from 0 vs)

-- a chip by its place
named_list : (romc : ℕ) (vs : List ChipView) (j : ℕ) →
    slice_get (named_seats romc vs) j ≡ option_map (λ w. (j, placed romc w)) (slice_get vs j)
named_list romc vs j =
    slice_get-map (named_placed romc) (enumerate_from 0 vs) j
    ∙ ap (option_map (named_placed romc)) (slice_get-enumerate_from vs j) ∙ named (slice_get vs j)
  where
    named : (o : Option ChipView) → option_map (named_placed romc) (option_map (λ w. (j, w)) o)
        ≡ option_map (λ w. (j, placed romc w)) o
    named None = refl
    named (Some w) = refl

module _ (rule : BusRule) (romc reference : ℕ) (vs : List ChipView) where
  -- a chip that lies at a place
  named_at : (j : ℕ) (w : ChipView) → slice_get vs j ≡ Some w →
      slice_get (named_seats romc vs) j ≡ Some (j, placed romc w)
  named_at j w lies = named_list romc vs j ∙ ap (option_map (λ v. (j, placed romc v))) lies

  -- where none stands by, a chip that would answer does
  none_by : bystanders rule reference (named_seats romc vs) ≡ [] → (j : ℕ) (w : ChipView) → slice_get vs j ≡ Some w →
      would_answer rule (seat_of w) reference ≡ true → answers rule (placed romc w) ≡ true
  none_by none j w lies would =
      let idle = none_kept (bystander_of rule reference) (named_seats romc vs) none j (j, placed romc w)
      (named_at j w lies) in
      takes_there (answers rule (placed romc w)) (would_answer rule (seat_of w) reference)
      (party_if-none (not (answers rule (placed romc w)) && would_answer rule (seat_of w) reference) j
      (placed romc w).at idle) would

  -- where no chip takes part, none answers
  none_takes : parties rule (named_seats romc vs) ≡ [] → (j : ℕ) (w : ChipView) → slice_get vs j ≡ Some w →
      answers rule (placed romc w) ≡ false
  none_takes none j w lies =
      party_if-none (answers rule (placed romc w)) j (placed romc w).at
      (none_kept (party_of rule) (named_seats romc vs) none j (j, placed romc w) (named_at j w lies))

  -- where one chip takes part, it is one of the list
  pub one_answers : (p : Party) → parties rule (named_seats romc vs) ≡ p ∷ [] → OneAnswers rule romc vs
  one_answers p only =
      let kept : OneKept (party_of rule) (named_seats romc vs) p =
      one_kept (party_of rule) (named_seats romc vs) p only in
      let chip : Comes (λ (w : ChipView). (kept.place, placed romc w)) (slice_get vs kept.place) kept.element =
      comes (λ w. (kept.place, placed romc w)) (slice_get vs kept.place) kept.element
      (sym (named_list romc vs kept.place) ∙ kept.lies) in
      record {
        place = kept.place;
        chip = chip.from;
        lies = chip.is;
        answers_it = (party_if-some (answers rule (placed romc chip.from)) kept.place (placed romc chip.from).at p
            (ap (party_of rule) (sym chip.gives) ∙ kept.kept)).takes;
        others = λ j w lies other.
            party_if-none (answers rule (placed romc w)) j (placed romc w).at
            (kept.others j (j, placed romc w) (named_at j w lies) other);
      }

  -- each chip that takes part is at the one party's place
  there_of : (p : Party) → parties rule (named_seats romc vs) ≡ p ∷ [] → p.at ≡ reference → (j : ℕ) (w : ChipView) →
      slice_get vs j ≡ Some w →
      answers rule (placed romc w) ≡ true → place_in romc w.counters w.last ≡ reference
  there_of p only at j w lies answers_it =
      let own : Party = record { socket = j; at = (placed romc w).at } in
      let takes_part : party_of rule (j, placed romc w) ≡ Some own =
      ap (λ test. party_if test j (placed romc w).at) answers_it in
      let same : own ≡ p = kept_is (party_of rule) (named_seats romc vs) p
      (one_kept (party_of rule) (named_seats romc vs) p only) j (j, placed romc w) own
      (named_at j w lies) takes_part in
      ap (λ (q : Party). q.at) same ∙ at

  -- in a step with one party the chips agree with the probe
  pub agrees_one : OneParty reference (parties rule (named_seats romc vs))
      (lowest (bystanders rule reference (named_seats romc vs))) → Agrees rule romc reference vs
  agrees_one one = record {
    there = there_of one.party one.only one.there;
    takes = none_by (lowest-none (bystanders rule reference (named_seats romc vs)) one.none_by);
  }

  -- and in one with none
  pub agrees_none : parties rule (named_seats romc vs) ≡ [] →
      lowest (bystanders rule reference (named_seats romc vs)) ≡ None → Agrees rule romc reference vs
  agrees_none none none_stand = record {
    there = λ j w lies answers_it. let no = none_takes none j w lies in cc;
    takes = none_by (lowest-none (bystanders rule reference (named_seats romc vs)) none_stand);
  }
