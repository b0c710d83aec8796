-- What an index that stands for a rack tells of a step.
use Rattle.std.proofs.Common.{◌≡◌, ℕ, ◌+◌, ◌*◌, ◌/◌, ◌<◌, Bool, true, List, [], ◌∷◌, refl, arith}
use Rattle.f8_spec.specs.BusCodes.{Count, counter_of}
use Rattle.f8_spec.specs.ChipState.{ChipView, ChipState, has_second_counter}
use Rattle.f8_spec.specs.BusArbitration.{Seat, place_by, place_in, rule_of, would_answer}
use Rattle.f8_spec.specs.declared.bus.BusRule.{BusRule}
use Rattle.f8_spec.specs.declared.bus.BusRule.TheVariants.{Read, Store, PortRead, PortWrite, Vector, NoChip}
use Rattle.f8_spec.specs.declared.bus.Counter.{Counter}
use Rattle.f8_spec.specs.declared.bus.Counter.TheVariants.{Pc0, Pc1, Dc0, NoCounter}
use Rattle.data_bus.specs.KnownAgreement.{AllAddresses, AllAgree, AreAddresses, CountAgrees, knows}
use Rattle.probe.specs.ProbeState.{ProbeState}
use Rattle.data_bus.specs.Steps.{probe_place}
use Rattle.data_bus.specs.KnownPlaces.{AllAt, goes_by_counter}
use Rattle.data_bus.specs.PageIndex.{StandsFor, holding}
use Rattle.data_bus.specs.Racks.{views}
use Rattle.data_bus.specs.declared.index.Index.{Index}
use Rattle.data_bus.specs.declared.marks.Marks.{Marks}
use Rattle.data_bus.proofs.Agreements.{same_address}
use Rattle.data_bus.proofs.CodeFacts.{counter_codes, is_counter}

-- ---- pages

-- what is held at an address is held at its page's first
holding-page : (rule : BusRule) (at n : ℕ) (these : List Seat) → holding rule (at / 256 * 256) n these ≡ holding rule at n these
holding-page rule at n [] = refl
holding-page rule at n (s ∷ these) =
    rw (same rule, holding-page rule at (n + 1) these) refl
  where
    page : at / 256 * 256 / 256 ≡ at / 256
    page = omega arith

    same : (rule : BusRule) → would_answer rule s (at / 256 * 256) ≡ would_answer rule s at
    same Read = rw page refl
    same Store = rw page refl
    same PortRead = refl
    same PortWrite = refl
    same Vector = refl
    same NoChip = refl

-- ---- places

known-place : (counter : Counter) (marks : Marks) (reference own : Count) (last heard : ℕ) (second : Bool) → knows counter marks ≡ true →
    CountAgrees marks reference second own → place_by counter own last ≡ place_by counter reference heard
known-place Pc0 marks reference own last heard second known agrees = same_address marks.pc0 reference.pc0 own.pc0 known agrees.pc0
known-place Pc1 marks reference own last heard second known agrees = same_address marks.pc1 reference.pc1 own.pc1 known agrees.pc1
known-place Dc0 marks reference own last heard second known agrees = same_address marks.dc0 reference.dc0 own.dc0 known agrees.dc0
known-place NoCounter marks reference own last heard second known agrees = cc

small-place : (counter : Counter) (marks : Marks) (own : Count) (last : ℕ) → knows counter marks ≡ true → AreAddresses own →
    place_by counter own last < 65536
small-place Pc0 marks own last known are = are.pc0
small-place Pc1 marks own last known are = are.pc1
small-place Dc0 marks own last known are = are.dc0
small-place NoCounter marks own last known are = cc

all-at : (romc : ℕ) (marks : Marks) (reference : Count) (heard : ℕ) (vs : List ChipView) → knows (counter_of romc) marks ≡ true →
    AllAgree marks reference vs → AllAddresses vs → AllAt romc (place_in romc reference heard) vs
all-at romc marks reference heard [] known agree are = tt
all-at romc marks reference heard (v ∷ vs) known agree are = (
  record {
    address = small-place (counter_of romc) marks v.counters v.last known are.0.addresses;
    same = λ held. known-place (counter_of romc) marks reference v.counters v.last heard (has_second_counter v.kind) known (agree.0 held);
  },
  all-at romc marks reference heard vs known agree.1 are.1,
)

-- where both halves of the step's counter are known, every chip is at the reference
pub places-known : (index : Index) (romc : ℕ) (probe : ProbeState) (states : List ChipState) → StandsFor index probe states →
    knows (counter_of romc) index.marks ≡ true → AllAt romc (probe_place romc probe) (views states)
places-known index romc probe states stands known =
    all-at romc index.marks probe.count probe.last (views states) known stands.marks stands.addresses

-- and the step goes by a counter
counted : (counter : Counter) (marks : Marks) → knows counter marks ≡ true → is_counter counter ≡ true
counted Pc0 marks known = refl
counted Pc1 marks known = refl
counted Dc0 marks known = refl
counted NoCounter marks known = known

pub rule-known : (romc : ℕ) (marks : Marks) → romc < 32 → knows (counter_of romc) marks ≡ true → goes_by_counter (rule_of romc) ≡ true
rule-known romc marks below known = counter_codes romc below (counted (counter_of romc) marks known)
