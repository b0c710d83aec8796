-- A rack over a served step: its seats stay, what is known of its counters follows the marks, and its counters stay addresses.
use Rattle.std.proofs.Common.{◌≡◌, ℕ, ◌+◌, ◌<◌, Bool, true, false, List, [], ◌∷◌, map, refl, sym, ap, subst, ◌∙◌}
use Rattle.std.specs.Prelude.{Option, if◌then◌else◌}
use Rattle.std.specs.List.{list_any}
use Rattle.std.proofs.lemmas.Bool.{and_from, or_left, or_right, not_from_false}
use Rattle.f8_spec.specs.BusCodes.{Count, moved_by}
use Rattle.f8_spec.specs.ChipState.{ChipView, ChipState, IsOfItsKind, has_counters, has_second_counter}
use Rattle.f8_spec.specs.declared.chips.ChipKind.{ChipKind}
use Rattle.f8_spec.specs.BusArbitration.{Seat, seat_of}
use Rattle.probe.specs.ProbeState.{ProbeState, probe_after}
use Rattle.data_bus.specs.declared.marks.Marks.{Marks}
use Rattle.data_bus.specs.Racks.{NumberedZip, SettlesStep, RackSettles, views}
use Rattle.data_bus.specs.KnownAgreement.{marks_after, CountAgrees, ChipAgrees, AllAgree, AreAddresses, AllAddresses, IsCounted, has_page}
use Rattle.data_bus.specs.KnownAgreement.{parts}
use Rattle.data_bus.proofs.Agreements.{keeps}
use Rattle.data_bus.proofs.CounterRanges.{moved_small}
use Rattle.data_bus.proofs.SteppedChips.{StepsAlong, own_moved, steps_along}
use Rattle.data_bus.proofs.Zipped.{zip_alike, zip_all}

-- ---- one chip

kind_stays : (old new : ChipView) → seat_of new ≡ seat_of old → new.kind ≡ old.kind
kind_stays old new seat = ap (λ (s : Seat). s.kind) seat

pages_stay : (old new : ChipView) → seat_of new ≡ seat_of old → new.pages ≡ old.pages
pages_stay old new seat = ap (λ (s : Seat). s.pages) seat

-- a chip that holds a page has counters
counted : (v : ChipView) → IsOfItsKind v → has_page v.pages ≡ true → has_counters v.kind ≡ true
counted v of_its_kind page = by (has_counters v.kind) refl
  where
    by : (b : Bool) → has_counters v.kind ≡ b → has_counters v.kind ≡ true
    by true has = has
    by false none = let no_page : false ≡ true = sym (ap has_page (of_its_kind.pages none)) ∙ page in absurd (cc)

-- so that they move
moved : (romc byte : ℕ) (kind : ChipKind) (own : Count) → has_counters kind ≡ true →
    own_moved romc byte kind own ≡ moved_by romc byte (has_second_counter kind) own
moved romc byte kind own has = ap (λ b. if b then moved_by romc byte (has_second_counter kind) own else own) has

chip_agrees : (is_parted : Bool) (romc byte : ℕ) (marks : Marks) (reference : Count) (old new : ChipView) →
    (parts (seat_of old) ≡ true → is_parted ≡ true) → StepsAlong romc byte old new → IsOfItsKind old → ChipAgrees marks reference old →
    ChipAgrees (marks_after is_parted romc marks) (moved_by romc byte true reference) new
chip_agrees is_parted romc byte marks reference old new parted along of_its_kind agrees page =
    let kind = kind_stays old new along.seat in
    let here : has_page old.pages ≡ true = sym (ap has_page (pages_stay old new along.seat)) ∙ page in
    let alone : has_second_counter old.kind ≡ false → is_parted ≡ true =
    λ none. parted (and_from _ _ here (not_from_false _ none)) in
    let kept = keeps is_parted romc byte marks reference old.counters (has_second_counter old.kind) alone (agrees here) in
    subst (λ k. CountAgrees (marks_after is_parted romc marks) (moved_by romc byte true reference) (has_second_counter k) new.counters) (sym kind)
    (subst (λ own. CountAgrees (marks_after is_parted romc marks) (moved_by romc byte true reference) (has_second_counter old.kind) own)
    (sym (along.counters ∙ moved romc byte old.kind old.counters (counted old of_its_kind here))) kept)

-- ---- a rack, from a socket on

-- no chip's kind, pages, ports or fixed vector change
pub seats_stay : (romc : ℕ) (long : Bool) (first : Option ℕ) (byte n : ℕ) (olds news : List ChipState) →
    NumberedZip (SettlesStep romc long first byte) n olds news → map seat_of (views news) ≡ map seat_of (views olds)
seats_stay romc long first byte n olds news settled =
    zip_alike (SettlesStep romc long first byte) (λ (s : ChipState). s.view) (λ (s : ChipState). s.view) seat_of seat_of
    (λ k old new one. (steps_along romc long first byte k old new one).seat) n olds news settled

agreement_from : (is_parted : Bool) (romc : ℕ) (long : Bool) (first : Option ℕ) (byte n : ℕ) (marks : Marks) (reference : Count)
    (olds news : List ChipState) → (list_any parts (map seat_of (views olds)) ≡ true → is_parted ≡ true) →
    NumberedZip (SettlesStep romc long first byte) n olds news → AllAddresses (views olds) → AllAgree marks reference (views olds) →
    AllAgree (marks_after is_parted romc marks) (moved_by romc byte true reference) (views news)
agreement_from is_parted romc long first byte n marks reference [] [] parted settled are agree = tt
agreement_from is_parted romc long first byte n marks reference [] (new ∷ news) parted settled are agree = absurd settled
agreement_from is_parted romc long first byte n marks reference (old ∷ olds) [] parted settled are agree = absurd settled
agreement_from is_parted romc long first byte n marks reference (old ∷ olds) (new ∷ news) parted settled are agree = (
  chip_agrees is_parted romc byte marks reference old.view new.view (λ here. parted (or_left _ _ here))
      (steps_along romc long first byte n old new settled.0) are.0.of_its_kind agree.0,
  agreement_from is_parted romc long first byte (n + 1) marks reference olds news (λ later. parted (or_right _ _ later)) settled.1 are.1 agree.1,
)

own_small : (romc byte : ℕ) (kind : ChipKind) (own : Count) → byte < 256 → AreAddresses own → AreAddresses (own_moved romc byte kind own)
own_small romc byte kind own below are = by (has_counters kind)
  where
    by : (b : Bool) → AreAddresses (if b then moved_by romc byte (has_second_counter kind) own else own)
    by true = moved_small romc byte (has_second_counter kind) own below are
    by false = are

kind_kept : (old new : ChipView) → seat_of new ≡ seat_of old → IsOfItsKind old → IsOfItsKind new
kind_kept old new seat is = record {
  pages = λ none. pages_stay old new seat ∙ is.pages (sym (ap has_counters (kind_stays old new seat)) ∙ none);
}

counted_after : (romc : ℕ) (long : Bool) (first : Option ℕ) (byte socket : ℕ) (old new : ChipState) → byte < 256 →
    SettlesStep romc long first byte socket old new → IsCounted old.view → IsCounted new.view
counted_after romc long first byte socket old new below settled is =
    let along = steps_along romc long first byte socket old new settled in
    record {
      addresses = subst AreAddresses (sym along.counters) (own_small romc byte old.view.kind old.view.counters below is.addresses);
      of_its_kind = kind_kept old.view new.view along.seat is.of_its_kind;
    }

-- ---- a whole rack

-- the marks stay true of the rack and the probe, where a chip that parts at an exchange is told
pub agreement_kept : (is_parted : Bool) (romc : ℕ) (long : Bool) (first : Option ℕ) (byte : ℕ) (marks : Marks) (probe : ProbeState)
    (olds news : List ChipState) → (list_any parts (map seat_of (views olds)) ≡ true → is_parted ≡ true) →
    RackSettles romc long first byte olds news → AllAddresses (views olds) → AllAgree marks probe.count (views olds) →
    AllAgree (marks_after is_parted romc marks) (probe_after romc byte probe).count (views news)
agreement_kept is_parted romc long first byte marks probe olds news parted settled are agree =
    agreement_from is_parted romc long first byte 0 marks probe.count olds news parted settled are agree

-- the counters stay addresses
pub addresses_kept : (romc : ℕ) (long : Bool) (first : Option ℕ) (byte : ℕ) (olds news : List ChipState) → byte < 256 →
    RackSettles romc long first byte olds news → AllAddresses (views olds) → AllAddresses (views news)
addresses_kept romc long first byte olds news below settled are =
    zip_all (SettlesStep romc long first byte) (λ (s : ChipState). s.view) (λ (s : ChipState). s.view) IsCounted IsCounted
    (λ k old new one is. counted_after romc long first byte k old new below one is) 0 olds news settled are
