-- A machine and its rack go on fitting each other, and the questions that are put are within the allowances of the steps.
use Rattle.std.proofs.Common.{◌≡◌, ℕ, ◌+◌, ◌<◌, ◌≤◌, Bool, true, false, List, [], ◌∷◌, refl, sym, ap, subst, ◌∙◌, arith}
use Rattle.std.specs.Prelude.{◌==◌, if◌then◌else◌, Option, Some, None}
use Rattle.std.specs.List.{list_any}
use Rattle.f8_spec.specs.BusCodes.{Count, count_at}
use Rattle.f8_spec.specs.ChipState.{ChipView, ChipState, TakesKeys, data_port, has_counters, has_second_counter, keyed_at}
use Rattle.f8_spec.specs.ChipState.{admits_pulses}
use Rattle.f8_spec.specs.Powers.{ArePowers}
use Rattle.f8_spec.specs.BusArbitration.{Seat, seat_of}
use Rattle.f8_spec.specs.declared.chips.PowerOn.{PowerOn}
use Rattle.console_spec.specs.Powering.{fill_in, start_in}
use Rattle.probe.specs.ProbeState.{ProbeState}
use Rattle.data_bus.specs.KnownAgreement.{AllAddresses, AreAddresses, ChipAgrees, CountAgrees, IsCounted, has_page, parts}
use Rattle.data_bus.specs.PageIndex.{IsIndexOf, StandsFor, seats}
use Rattle.data_bus.specs.Racks.{NumberedZip, views}
use Rattle.data_bus.proofs.Zipped.{zip_alike, zip_all, zip_as}
use Rattle.data_bus.specs.declared.fault.BusFault.{BusFault}
use Rattle.data_bus.specs.declared.index.Index.{Index}
use Rattle.data_bus.specs.declared.marks.Marks.{Marks}
use Rattle.f8_machine.specs.Fitting.{tried, tried_in}
use Rattle.f8_machine.specs.Keying.{KeysInSocket}
use Rattle.f8_machine.specs.MachineState.{IsReset, MachineState}
use Rattle.f8_machine.specs.Questions.{Counted, CountedTried, CountsOn, CountsOnTried, allowances}
use Rattle.f8_machine.specs.RequestsHeld.{PulsesIf, PulsesInSocket, RackPulsed}
use Rattle.f8_machine.specs.Rounds.{PowersInSocket, RackPowers}
use Rattle.f8_machine.specs.declared.heard.Heard.{Heard}
use Rattle.f8_machine.specs.declared.outcome.Mode.{Mode}
use Rattle.f8_machine.specs.declared.outcome.Mode.TheVariants.{Powered, Running, Stopped}
use Rattle.f8_machine.specs.declared.outcome.Outcome.{Outcome}
use Rattle.f8_machine.specs.declared.outcome.StoppedBy.{StoppedBy}
use Rattle.f8_machine.proofs.Counting.{counted_none}
use Rattle.f8_machine.proofs.FirstViews.{seat_of-powered}
use Rattle.console_spec.proofs.PowerLaws.{start_small}

-- ---- power-on

start_addresses : (has : Bool) (start : ℕ) → start < 65536 → AreAddresses (if has then count_at start else count_at 0)
start_addresses true start small = record { pc0 = small; pc1 = small; dc0 = small; dc1 = small }
start_addresses false start small = record { pc0 = omega arith; pc1 = omega arith; dc0 = omega arith; dc1 = omega arith }

counted_powered : (fill start : ℕ → ℕ) (n : ℕ) (olds news : List ChipState) → ((socket : ℕ) → start socket < 65536) →
    NumberedZip (PowersInSocket fill start) n olds news → AllAddresses (views news)
counted_powered fill start n [] [] small on = tt
counted_powered fill start n [] (new ∷ news) small on = absurd on
counted_powered fill start n (old ∷ olds) [] small on = absurd on
counted_powered fill start n (old ∷ olds) (new ∷ news) small on = (
  record {
    addresses = subst (λ (v : ChipView). AreAddresses v.counters) (sym on.0.view)
        (start_addresses (has_counters old.view.kind) (start n) (small n));
    of_its_kind = on.0.of_its_kind;
  },
  counted_powered fill start (n + 1) olds news small on.1,
)

pub powered_addresses : (fill : ℕ) (chain : List ℕ) (powers : List PowerOn) (olds news : List ChipState) → ArePowers powers →
    RackPowers fill chain powers olds news → AllAddresses (views news)
powered_addresses fill chain powers olds news are on =
    counted_powered (fill_in fill chain powers) (start_in fill chain powers) 0 olds news (start_small fill chain powers are) on

powered_seats : (fill start : ℕ → ℕ) (n : ℕ) (olds news : List ChipState) → NumberedZip (PowersInSocket fill start) n olds news →
    seats news ≡ seats olds
powered_seats fill start n olds news on =
    zip_alike (PowersInSocket fill start) (λ (s : ChipState). s.view) (λ (s : ChipState). s.view) seat_of seat_of
    (λ k old new one. ap seat_of one.view ∙ seat_of-powered (fill k) (start k) old.view) n olds news on

-- whether a chip parts from the probe at an exchange, as before power-on
pub power_parted : (fill : ℕ) (chain : List ℕ) (powers : List PowerOn) (index : Index) (olds mids : List ChipState) →
    IsIndexOf index (seats mids) → RackPowers fill chain powers olds mids → index.is_parted ≡ list_any parts (seats olds)
power_parted fill chain powers index olds mids lists on =
    lists.parted ∙ ap (λ (l : List Seat). list_any parts l)
    (powered_seats (fill_in fill chain powers) (start_in fill chain powers) 0 olds mids on)

-- ---- what changes neither a chip's seat nor its counters

record IsAlike (old new : ChipState) : Type 0 where
  pub seat : seat_of new.view ≡ seat_of old.view
  pub counters : new.view.counters ≡ old.view.counters

alike_seats : (n : ℕ) (olds news : List ChipState) → NumberedZip (λ k. IsAlike) n olds news → seats news ≡ seats olds
alike_seats n olds news alike =
    zip_alike (λ (k : ℕ). IsAlike) (λ (s : ChipState). s.view) (λ (s : ChipState). s.view) seat_of seat_of
    (λ k old new one. one.seat) n olds news alike

AgreesBy : Marks → Count → Seat → Count → Type 0
AgreesBy marks reference s own = has_page s.pages ≡ true → CountAgrees marks reference (has_second_counter s.kind) own

agrees_alike : (marks : Marks) (reference : Count) (old new : ChipState) → IsAlike old new → ChipAgrees marks reference old.view →
    ChipAgrees marks reference new.view
unfolding AgreesBy
agrees_alike marks reference old new alike agrees =
    let before : AgreesBy marks reference (seat_of old.view) old.view.counters = agrees in
    let after : AgreesBy marks reference (seat_of new.view) new.view.counters =
    subst (λ (s : Seat). AgreesBy marks reference s new.view.counters) (sym alike.seat)
    (subst (λ (c : Count). AgreesBy marks reference (seat_of old.view) c) (sym alike.counters) before) in
    after

alike_counted : (old new : ChipState) → IsAlike old new → IsCounted old.view → IsCounted new.view
alike_counted old new alike is =
    let kind : new.view.kind ≡ old.view.kind = ap (λ (s : Seat). s.kind) alike.seat in
    record {
      addresses = subst AreAddresses (sym alike.counters) is.addresses;
      of_its_kind = record {
        pages = λ none. ap (λ (s : Seat). s.pages) alike.seat ∙ is.of_its_kind.pages (sym (ap has_counters kind) ∙ none);
      };
    }

stands_alike : (index : Index) (probe : ProbeState) (olds news : List ChipState) → NumberedZip (λ k. IsAlike) 0 olds news →
    StandsFor index probe olds → StandsFor index probe news
stands_alike index probe olds news alike stands = record {
  lists = subst (λ these. IsIndexOf index these) (sym (alike_seats 0 olds news alike)) stands.lists;
  marks = zip_all (λ (k : ℕ). IsAlike) (λ (s : ChipState). s.view) (λ (s : ChipState). s.view) (ChipAgrees index.marks probe.count)
      (ChipAgrees index.marks probe.count) (λ k old new one. agrees_alike index.marks probe.count old new one) 0 olds news alike stands.marks;
  addresses = zip_all (λ (k : ℕ). IsAlike) (λ (s : ChipState). s.view) (λ (s : ChipState). s.view) IsCounted IsCounted
      (λ k old new one. alike_counted old new one) 0 olds news alike stands.addresses;
}

-- a key byte
keyed_alike : (port byte : ℕ) (old new : ChipState) → TakesKeys port byte old new → IsAlike old new
keyed_alike port byte old new takes = by (data_port old.view port) takes.view
  where
    by : (place : Option ℕ) → new.view ≡ keyed_at place byte old.view → IsAlike old new
    by None e = record { seat = ap seat_of e; counters = ap (λ (v : ChipView). v.counters) e }
    by (Some place) e = record { seat = ap seat_of e; counters = ap (λ (v : ChipView). v.counters) e }

pub keyed_fits : (port byte : ℕ) (index : Index) (probe : ProbeState) (olds news : List ChipState) →
    NumberedZip (KeysInSocket port byte) 0 olds news → StandsFor index probe olds → StandsFor index probe news
keyed_fits port byte index probe olds news keys stands =
    stands_alike index probe olds news (zip_as (KeysInSocket port byte) (λ (k : ℕ). IsAlike) (λ k old new one. keyed_alike port byte old new one)
    0 olds news keys) stands

-- a pulse
pulsed_alike : (b : Bool) (old new : ChipState) → PulsesIf b old new → IsAlike old new
pulsed_alike true old new takes = by (admits_pulses old.view.control) takes.view
  where
    by : (b : Bool) → new.view ≡ (if b then record old.view { request = true } else old.view) → IsAlike old new
    by true e = record { seat = ap seat_of e; counters = ap (λ (v : ChipView). v.counters) e }
    by false e = record { seat = ap seat_of e; counters = ap (λ (v : ChipView). v.counters) e }
pulsed_alike false old new same = record {
  seat = ap (λ (s : ChipState). seat_of s.view) same;
  counters = ap (λ (s : ChipState). s.view.counters) same;
}

pub pulsed_fits : (found : Option ℕ) (index : Index) (probe : ProbeState) (olds news : List ChipState) → RackPulsed found olds news →
    StandsFor index probe olds → StandsFor index probe news
pulsed_fits None index probe olds news same stands = subst (λ (states : List ChipState). StandsFor index probe states) (sym same) stands
pulsed_fits (Some chosen) index probe olds news pulses stands =
    stands_alike index probe olds news (zip_as (PulsesInSocket chosen) (λ (k : ℕ). IsAlike) (λ k old new one. pulsed_alike (chosen == k) old new one)
    0 olds news pulses) stands

-- ---- the questions, from the beginning of a call

pub counted_whole : (size : ℕ) (known after : Index) (asked more : ℕ) (earlier now : List Heard) → earlier ≡ [] →
    CountsOn size (record { index = known; questions = asked; steps = earlier }) (record { index = after; questions = more; steps = now }) →
    Counted size known asked (record { index = after; questions = more; steps = now })
counted_whole size known after asked more earlier now none counts = counts.on size known asked refl (counted_none size known asked earlier none)

pub tried_whole : (size : ℕ) (fault : BusFault) (known after : Index) (asked more : ℕ) (earlier now : List Heard) → earlier ≡ [] →
    CountsOnTried size fault (record { index = known; questions = asked; steps = earlier }) (record { index = after; questions = more; steps = now }) →
    CountedTried size known asked fault (record { index = after; questions = more; steps = now })
tried_whole size fault known after asked more earlier now none counts = counts.on size known asked refl (counted_none size known asked earlier none)

-- of a machine whose state is read before it is changed
pub asked_from : (m k : MachineState) → k ≡ m → (size asked more : ℕ) (codes : List ℕ) → more ≤ asked + allowances size k.index codes →
    more ≤ asked + allowances size m.index codes
asked_from m k same size asked more codes few = subst (λ (y : MachineState). more ≤ asked + allowances size y.index codes) same few

-- of one that isn't stopped
pub asked_powered : (m k : MachineState) → k ≡ m → m.mode ≡ Powered → (outcome : Outcome) (size asked more : ℕ) →
    more ≤ asked + allowances size k.index (tried_in outcome) → more ≤ asked + allowances size m.index (tried m.mode outcome)
asked_powered m k same mode outcome size asked more few = rw mode (asked_from m k same size asked more (tried_in outcome) few)

pub asked_running : (m k : MachineState) → k ≡ m → IsReset m.mode → ((why : StoppedBy) → k.mode ≡ Stopped why → ⊥) → (outcome : Outcome)
    (size asked more : ℕ) → more ≤ asked + allowances size m.index (tried_in outcome) →
    more ≤ asked + allowances size m.index (tried m.mode outcome)
asked_running m k same reset running outcome size asked more few = by m.mode refl reset
  where
    by : (mode : Mode) → m.mode ≡ mode → IsReset m.mode → more ≤ asked + allowances size m.index (tried m.mode outcome)
    by Powered e r = absurd (rw e at r)
    by Running e r = rw e few
    by (Stopped why) e r = absurd (running why (ap (λ (y : MachineState). y.mode) same ∙ e))
