-- What is right of the chips of a description is right of the sockets in which they sit.
use Rattle.std.proofs.Common.{◌≡◌, ℕ, ◌/◌, Bool, true, false, ◌&&◌, List, [], ◌∷◌, ◌++◌, refl, sym, ◌∙◌}
use Rattle.std.specs.Prelude.{Option, None}
use Rattle.std.specs.List.{AllByRecursion}
use Rattle.f8_spec.specs.ChipState.{same_kind}
use Rattle.f8_spec.specs.BusArbitration.{Seat, seat_of, seat_has_port, seat_has_data_port}
use Rattle.f8_spec.specs.declared.chips.ChipKind.{ChipKind}
use Rattle.chip_face.specs.Fitting.{fitted}
use Rattle.chip_face.specs.declared.specification.ChipSpec.{ChipSpec}
use Rattle.chip_face.specs.declared.specification.ChipSpec.TheVariants.{Blank, Psu, Smi, Pio}
use Rattle.memory_map.specs.MapKinds.{has_kind_and_page, has_kind_and_pages}
use Rattle.abs_step.specs.MapView.{MapView, IsViewOf, HasOwnRam, HasVectorAmong, HoldsByCounters, is_seat_written}
use Rattle.abs_step.specs.RackSeats.{IsBlank, AreSeated, none_left, blank, chip, SeatedViewLaw}
use Rattle.abs_step.proofs.SeatSums.{same_some, same_count, same_sort}

-- ---- a blank chip passes no test

and_false : (b : Bool) → (b && false) ≡ false
and_false true = refl
and_false false = refl

no_page : (kind : ChipKind) (number : ℕ) (s : Seat) → IsBlank s → has_kind_and_page kind number s ≡ false
no_page kind number s is = rw is.pages (and_false (same_kind kind s.kind))

no_pages : (kind : ChipKind) (s : Seat) → IsBlank s → has_kind_and_pages kind s ≡ false
no_pages kind s is = rw is.pages (and_false (same_kind kind s.kind))

no_data_port : (port : ℕ) (s : Seat) → IsBlank s → seat_has_data_port s port ≡ false
no_data_port port s is = rw is.ports refl

no_port : (port : ℕ) (s : Seat) → IsBlank s → seat_has_port s port ≡ false
no_port port s is = rw is.ports refl

-- ---- RAM and counters

own_ram_of_blank : (s : Seat) → IsBlank s → HasOwnRam s
own_ram_of_blank s is = λ at ram. absurd (cc (rw is.pages at ram))

counters_of_blank : (s : Seat) → IsBlank s → HoldsByCounters s
counters_of_blank s is = λ at holds. absurd (cc (rw is.pages at holds))

-- ---- interrupts

vector_of_blank : (vectors : List ℕ) (s : Seat) → IsBlank s → HasVectorAmong vectors s
vector_of_blank vectors s is = λ wired fixed. absurd (cc (rw is.wired at wired))

unwritten : (s : Seat) → IsBlank s → is_seat_written s ≡ false
unwritten s is = rw is.wired refl

-- ---- the chips of a rack

all_but : (P : Seat → Type 0) (before : List Seat) (s : Seat) (after : List Seat) → AllByRecursion P (before ++ s ∷ after) →
    P s × AllByRecursion P (before ++ after)
all_but P [] s after all = all
all_but P (b ∷ before) s after all = let rest = all_but P before s after all.1 in (rest.0, (all.0, rest.1))

all_seated : (P : Seat → Type 0) → ((s : Seat) → IsBlank s → P s) → {chips sockets : List Seat} → AreSeated chips sockets →
    AllByRecursion P chips → AllByRecursion P sockets
all_seated P of none_left all = all
all_seated P of (blank {chips} {sockets} {s} is later) all = (of s is, all_seated P of later all)
all_seated P of (chip before after {sockets} {s} later) all =
    let parts = all_but P before s after all in
    (parts.0, all_seated P of later parts.1)

-- ---- the view

seated_view : (m : MapView) (chips sockets : List Seat) → AreSeated chips sockets → IsViewOf m chips → IsViewOf m sockets
seated_view m chips sockets seated h = record {
  sort = λ at small. h.sort at small ∙ sym (same_sort at seated);
  stays = λ at byte small is. rw (same_sort at seated) (h.stays at byte small is);
  told = h.told;
  held = λ at small kind. h.held at small kind ∙ sym (same_some (has_kind_and_page kind (at / 256)) (no_page kind (at / 256)) seated);
  readers = λ port small. h.readers port small ∙ sym (same_count (λ s. seat_has_data_port s port) (no_data_port port) seated);
  takers = λ port small. h.takers port small ∙ sym (same_count (λ s. seat_has_port s port) (no_port port) seated);
  any = λ kind. h.any kind ∙ sym (same_some (has_kind_and_pages kind) (no_pages kind) seated);
  overlaps = λ at small shared. h.overlaps at small (sym (same_sort at seated) ∙ shared);
  vectors = all_seated (HasVectorAmong m.vectors) (vector_of_blank m.vectors) seated h.vectors;
  written = h.written ∙ sym (same_some is_seat_written unwritten seated);
  ram = all_seated HasOwnRam own_ram_of_blank seated h.ram;
  counted = all_seated HoldsByCounters counters_of_blank seated h.counted;
}

-- ---- fitted chips

blank_seat : (patch : Option (ℕ × ℕ)) (kind : ChipKind) → IsBlank (seat_of (fitted patch (Blank kind)))
blank_seat patch kind = record { pages = refl; ports = refl; wired = refl }

same_seat : (patch : Option (ℕ × ℕ)) (spec : ChipSpec) → seat_of (fitted patch spec) ≡ seat_of (fitted None spec)
same_seat patch (Blank kind) = refl
same_seat patch (Psu base rom ports vector wired) = refl
same_seat patch (Smi pages rom wired) = refl
same_seat patch (Pio ports vector wired) = refl

pub seated_views : SeatedViewLaw
seated_views = record { view = seated_view; blank_is = blank_seat; patched = same_seat }
