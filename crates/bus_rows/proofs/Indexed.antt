-- An index stands for a rack that is just powered on, and goes on doing so when a chip takes a pulse.
use Rattle.std.proofs.Common.{◌≡◌, ℕ, zero, suc, ◌+◌, ◌<◌, Bool, true, false, List, [], ◌∷◌, length, get_or, map, refl, sym, ap, subst, ◌∙◌}
use Rattle.std.proofs.Common.{arith}
use Rattle.std.specs.Prelude.{if◌then◌else◌, Option, Some, None}
use Rattle.std.proofs.Math.ListN.{set, get_or-map}
use Rattle.std.proofs.lemmas.List.{map-set, length-map}
use Rattle.f8_spec.specs.BusCodes.{Count, count_at}
use Rattle.f8_spec.specs.BusArbitration.{Seat, seat_of}
use Rattle.f8_spec.specs.ChipState.{ChipView, ChipState, PowersOn, TakesPulse, admits_pulses, has_counters, has_second_counter}
use Rattle.probe.specs.ProbeState.{ProbeState}
use Rattle.data_bus.specs.declared.index.Index.{Index}
use Rattle.data_bus.specs.declared.marks.Marks.{Marks}
use Rattle.data_bus.specs.KnownAgreement.{AllAddresses, AllAgree, AreAddresses, ChipAgrees, CountAgrees, HalvesAgree, IsCounted, no_halves}
use Rattle.data_bus.specs.KnownAgreement.{no_marks}
use Rattle.data_bus.specs.PageIndex.{IsIndexOf, StandsFor, seats}
use Rattle.data_bus.specs.Racks.{NumberedZip, views}
use Rattle.bus_rows.specs.Indexed.{FitsIndexed, HasAddresses}

-- ---- after power-on

pub powered_counted : (start : ℕ) (old new : ChipState) → start < 65536 → PowersOn 0 start old new → IsCounted new.view
powered_counted start old new small powers = record {
  addresses = subst (λ (v : ChipView). AreAddresses v.counters) (sym powers.view) (by (has_counters old.view.kind));
  of_its_kind = powers.of_its_kind;
}
  where
    by : (b : Bool) → AreAddresses (if b then count_at start else count_at 0)
    by true = record { pc0 = small; pc1 = small; dc0 = small; dc1 = small }
    by false = record { pc0 = omega arith; pc1 = omega arith; dc0 = omega arith; dc1 = omega arith }

addresses_of : (n : ℕ) (olds news : List ChipState) → NumberedZip HasAddresses n olds news → AllAddresses (views news)
addresses_of n [] [] all = tt
addresses_of n [] (new ∷ news) all = absurd all
addresses_of n (old ∷ olds) [] all = absurd all
addresses_of n (old ∷ olds) (new ∷ news) all = (all.0, addresses_of (n + 1) olds news all.1)

-- where nothing is marked, nothing is said
nothing_half : (reference own : ℕ) → HalvesAgree no_halves reference own
nothing_half reference own = record { low = λ e. absurd cc; high = λ e. absurd cc }

nothing_agrees : (reference own : Count) (second : Bool) → CountAgrees no_marks reference second own
nothing_agrees reference own second =
    record { pc0 = nothing_half _ _; pc1 = nothing_half _ _; dc0 = nothing_half _ _; dc1 = λ some. nothing_half _ _ }

nothing_known : (marks : Marks) (reference : Count) (vs : List ChipView) → marks ≡ no_marks → AllAgree marks reference vs
nothing_known marks reference [] none = tt
nothing_known marks reference (v ∷ vs) none = (
  (λ page. subst (λ m. CountAgrees m reference (has_second_counter v.kind) v.counters) (sym none) (nothing_agrees reference v.counters _)),
  nothing_known marks reference vs none,
)

pub fits_powered : (index : Index) (probe : ProbeState) (olds mids news : List ChipState) → NumberedZip HasAddresses 0 olds mids →
    IsIndexOf index (seats mids) → index.marks ≡ no_marks → news ≡ mids → StandsFor index probe news
fits_powered index probe olds mids news powered lists none same =
    subst (λ (l : List ChipState). StandsFor index probe l) (sym same) (record {
      lists = lists;
      marks = nothing_known index.marks probe.count (views mids) none;
      addresses = addresses_of 0 olds mids powered;
    })

-- ---- after a pulse

-- what an index reads of a chip, it leaves
record Same (old new : ChipView) : Type 0 where
  seat : seat_of new ≡ seat_of old
  counters : new.counters ≡ old.counters

same_if : (test : Bool) (v : ChipView) → Same v (if test then record v { request = true } else v)
same_if true v = record { seat = refl; counters = refl }
same_if false v = record { seat = refl; counters = refl }

same_pulsed : (old new : ChipState) → TakesPulse old new → Same old.view new.view
same_pulsed old new takes = subst (λ v. Same old.view v) (sym takes.view) (same_if (admits_pulses old.view.control) old.view)

counted_same : (old new : ChipView) → Same old new → IsCounted old → IsCounted new
counted_same old new same counted =
    let pages = ap (λ (s : Seat). s.pages) same.seat in
    let kind = ap (λ (s : Seat). s.kind) same.seat in
    record {
      addresses = subst (λ (c : Count). AreAddresses c) (sym same.counters) counted.addresses;
      of_its_kind = record { pages = λ none. pages ∙ counted.of_its_kind.pages (sym (ap has_counters kind) ∙ none) };
    }

agrees_same : (marks : Marks) (reference : Count) (old new : ChipView) → Same old new → ChipAgrees marks reference old → ChipAgrees marks reference new
agrees_same marks reference old new same agrees page =
    let pages = ap (λ (s : Seat). s.pages) same.seat in
    let kind = ap (λ (s : Seat). s.kind) same.seat in
    let here = agrees (rw pages at page) in
    rw (kind, same.counters) here

seats_set : (states : List ChipState) (i : ℕ) (d new : ChipState) → i < length states → Same (get_or states i d).view new.view →
    seats (set states i new) ≡ seats states
seats_set [] i d new within same = absurd (omega arith)
seats_set (s ∷ states) zero d new within same = ap (λ seat. seat ∷ seats states) same.seat
seats_set (s ∷ states) (suc i) d new within same = ap (λ rest. seat_of s.view ∷ rest) (seats_set states i d new (omega arith) same)

agree_set : (marks : Marks) (reference : Count) (states : List ChipState) (i : ℕ) (d new : ChipState) → i < length states →
    Same (get_or states i d).view new.view → AllAgree marks reference (views states) → AllAgree marks reference (views (set states i new))
agree_set marks reference [] i d new within same all = absurd (omega arith)
agree_set marks reference (s ∷ states) zero d new within same all = (agrees_same marks reference s.view new.view same all.0, all.1)
agree_set marks reference (s ∷ states) (suc i) d new within same all = (all.0, agree_set marks reference states i d new (omega arith) same all.1)

addresses_set : (states : List ChipState) (i : ℕ) (d new : ChipState) → i < length states → Same (get_or states i d).view new.view →
    AllAddresses (views states) → AllAddresses (views (set states i new))
addresses_set [] i d new within same all = absurd (omega arith)
addresses_set (s ∷ states) zero d new within same all = (counted_same s.view new.view same all.0, all.1)
addresses_set (s ∷ states) (suc i) d new within same all = (all.0, addresses_set states i d new (omega arith) same all.1)

stands_set : (index : Index) (probe : ProbeState) (states : List ChipState) (i : ℕ) (d new : ChipState) → i < length states →
    TakesPulse (get_or states i d) new → StandsFor index probe states → StandsFor index probe (set states i new)
stands_set index probe states i d new within takes stands =
    let same = same_pulsed (get_or states i d) new takes in
    record {
      lists = subst (λ these. IsIndexOf index these) (sym (seats_set states i d new within same)) stands.lists;
      marks = agree_set index.marks probe.count states i d new within same stands.marks;
      addresses = addresses_set states i d new within same stands.addresses;
    }

fits_by : (index : Option Index) (probe : ProbeState) (states : List ChipState) (i : ℕ) (d new : ChipState) → i < length states →
    TakesPulse (get_or states i d) new → FitsIndexed index probe states → FitsIndexed index probe (set states i new)
fits_by None probe states i d new within takes fits = tt
fits_by (Some index) probe states i d new within takes fits = stands_set index probe states i d new within takes fits

pub fits_pulsed : {X : Type 0} (V : X → ChipState) (index : Option Index) (probe : ProbeState) (xs : List X) (i : ℕ) (x y : X) → i < length xs →
    TakesPulse (V (get_or xs i x)) (V y) → FitsIndexed index probe (map V xs) → FitsIndexed index probe (map V (set xs i y))
fits_pulsed V index probe xs i x y within takes fits =
    let inside : i < length (map V xs) = omega (arith, length-map xs V) in
    rw (map-set V xs i y) (fits_by index probe (map V xs) i (V x) (V y) inside
    (subst (λ (s : ChipState). TakesPulse s (V y)) (sym (get_or-map V xs i x)) takes) fits)
