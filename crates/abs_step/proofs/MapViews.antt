-- The view of the map of some chips is right of them, and so is what is known of them, which is the same.
use Rattle.std.proofs.Common.{◌≡◌, ℕ, zero, suc, ◌/◌, ◌<◌, ◌≤◌, Bool, true, false, ◌||◌}
use Rattle.std.proofs.Common.{List, [], ◌∷◌, length, map, refl, ap, sym, ◌∙◌, subst, arith, inl, inr}
use Rattle.std.specs.Prelude.{Option, Some, None, is_some, slice_get, option_map, option_and_then, if◌then◌else◌, nat_lt, ◌&&◌, slice_index}
use Rattle.std.proofs.lemmas.Bool.{ltb-true, ltb-false, lt-ltb}
use Rattle.std.proofs.lemmas.List.{get_or_past}
use Rattle.std.specs.List.{AllByRecursion, cons_option, list_any}
use Rattle.f8_spec.specs.ChipState.{ChipView, has_fixed_vector, is_ram, is_sort_at, place_of}
use Rattle.f8_spec.specs.BusArbitration.{seat_of}
use Rattle.f8_spec.specs.declared.chips.ChipKind.{ChipKind}
use Rattle.f8_spec.specs.declared.chips.ChipKind.TheVariants.{Psu as PsuKind, Smi as SmiKind, Pio as PioKind}
use Rattle.f8_spec.specs.declared.chips.Page.{Page}
use Rattle.f8_spec.specs.declared.chips.PageSort.TheVariants.{Rom as RomPage}
use Rattle.console_spec.specs.FlatMemory.{is_ram_sort, fixed_byte, fixed_byte_by, sort_of}
use Rattle.console_spec.specs.Writes.{readers, takers}
use Rattle.console_spec.specs.declared.Sort.{Sort}
use Rattle.console_spec.specs.declared.Sort.TheVariants.{Rom, Ram, Void, Nothing, Shared}
use Rattle.chip_face.specs.Fitting.{fitted, psu_pages}
use Rattle.chip_face.specs.declared.specification.ChipSpec.{ChipSpec}
use Rattle.chip_face.specs.declared.specification.ChipSpec.TheVariants.{Blank, Psu, Smi, Pio}
use Rattle.memory_map.specs.MapKinds.{is_held_once, is_written, kind_holds, some_written, told_vectors}
use Rattle.memory_map.specs.MapOf.{MapTable, mapped_sort, mapped_byte, mapped_held, mapped_readers, mapped_takers, mapped_overlaps}
use Rattle.memory_map.specs.MapOf.{views_of, seats_of, IsMapOf, IsWholeMap, sort_by, entry_at, kind_pages}
use Rattle.memory_map.specs.declared.entry.Entry.TheVariants.{Nothing as NoChip}
use Rattle.abs_step.specs.MapView.{IsViewOf, HasOwnRam, HasVectorAmong, HoldsByCounters, is_seat_written, view_of, has_shared_page}
use Rattle.abs_step.specs.MapView.{chips_view, MapViewLaw}
use Rattle.abs_step.proofs.ChipPages.{byte_of_one, page_of_shared, shared_of_page}
use Rattle.abs_step.proofs.Members.{IsIn, contains_of_in, same_tests}

-- ---- bytes

not_ram : (s : Sort) (o : Option ℕ) (byte : ℕ) → fixed_byte_by s o ≡ Some byte → is_ram_sort s ≡ false
not_ram Rom o byte e = refl
not_ram Ram o byte e = absurd (cc)
not_ram Void o byte e = refl
not_ram Nothing o byte e = absurd (cc)
not_ram Shared o byte e = absurd (cc)

told_by : (s : Sort) (byte : ℕ) → is_held_once s ≡ true → is_ram_sort s ≡ false → is_some (fixed_byte_by s (Some byte)) ≡ true
told_by Rom byte once stays = refl
told_by Ram byte once stays = absurd (cc)
told_by Void byte once stays = refl
told_by Nothing byte once stays = absurd (cc)
told_by Shared byte once stays = absurd (cc)

byte_stays : (m : MapTable) (at byte : ℕ) → mapped_byte m at ≡ Some byte → is_ram_sort (mapped_sort m at) ≡ false
unfolding mapped_byte mapped_sort
byte_stays m at byte e = not_ram (sort_by (entry_at m at)) _ byte e

pub byte_told : (m : MapTable) (at : ℕ) → is_held_once (mapped_sort m at) ≡ true → is_ram_sort (mapped_sort m at) ≡ false →
    is_some (mapped_byte m at) ≡ true
unfolding mapped_byte mapped_sort
byte_told m at once stays = told_by (sort_by (entry_at m at)) _ once stays

-- ---- RAM

abbrev IsRom : Page → Type 0
IsRom p = p.sort ≡ RomPage

rom_at : (pages : List Page) (place : ℕ) → AllByRecursion IsRom pages →
    is_some (option_and_then (λ sort. if is_ram sort then Some sort else None) (option_map (λ (p : Page). p.sort) (slice_get pages place)))
    ≡ false
rom_at [] place all = refl
rom_at (p ∷ ps) zero all = rw all.0 refl
rom_at (p ∷ ps) (suc place) all = rom_at ps place all.1

no_ram : (pages : List Page) (at : ℕ) → AllByRecursion IsRom pages → is_sort_at is_ram pages at ≡ false
no_ram pages at all = by (place_of pages (at / 256))
  where
    by : (o : Option ℕ) → is_some (option_and_then (λ sort. if is_ram sort then Some sort else None)
        (option_and_then (λ place. option_map (λ (p : Page). p.sort) (slice_get pages place)) o)) ≡ false
    by None = refl
    by (Some place) = rom_at pages place all

own_ram : (c : ChipSpec) → HasOwnRam (seat_of (fitted None c))
own_ram (Blank kind) = λ at ram. absurd (cc)
own_ram (Psu base rom ports vector wired) = λ at ram. absurd (cc (no_ram (psu_pages base) at (refl, (refl, (refl, (refl, tt))))))
own_ram (Smi pages rom wired) = λ at ram. refl
own_ram (Pio ports vector wired) = λ at ram. absurd (cc)

all_own_ram : (cs : List ChipSpec) → AllByRecursion HasOwnRam (seats_of cs)
all_own_ram [] = tt
all_own_ram (c ∷ cs) = (own_ram c, all_own_ram cs)

-- ---- counters

by_counters : (c : ChipSpec) → HoldsByCounters (seat_of (fitted None c))
by_counters (Blank kind) = λ at holds. absurd (cc)
by_counters (Psu base rom ports vector wired) = λ at holds. refl
by_counters (Smi pages rom wired) = λ at holds. refl
by_counters (Pio ports vector wired) = λ at holds. absurd (cc)

all_by_counters : (cs : List ChipSpec) → AllByRecursion HoldsByCounters (seats_of cs)
all_by_counters [] = tt
all_by_counters (c ∷ cs) = (by_counters c, all_by_counters cs)

-- ---- interrupts

written_seats : (vs : List ChipView) → some_written vs ≡ list_any is_seat_written (map seat_of vs)
written_seats [] = refl
written_seats (v ∷ vs) = ap (λ (b : Bool). is_written v || b) (written_seats vs)

-- a vector that is told stays so where more chips come before it, or behind it
module _ (vs : List ChipView) where
  told_behind : (v : ChipView) (vector : ℕ) → IsIn vector (told_vectors vs) → IsIn vector (told_vectors (v ∷ vs))
  told_behind v vector is = by (v.wired && has_fixed_vector v.kind)
    where
      by : (b : Bool) → IsIn vector (cons_option (if b then Some v.vector else None) (told_vectors vs))
      by true = inr is
      by false = is

  told_first : (v : ChipView) → v.wired ≡ true → (fixed : Bool) → has_fixed_vector v.kind ≡ fixed → fixed ≡ true →
      IsIn (if fixed then v.vector else 0) (told_vectors (v ∷ vs))
  told_first v wired true kind fixed = rw (wired, kind) (inl refl)
  told_first v wired false kind fixed = absurd (cc)

all_told : (all vs : List ChipView) → ((vector : ℕ) → IsIn vector (told_vectors vs) → IsIn vector (told_vectors all)) →
    AllByRecursion (HasVectorAmong (told_vectors all)) (map seat_of vs)
all_told all [] within = tt
all_told all (v ∷ vs) within = (
  λ wired fixed. contains_of_in (told_vectors all) (seat_of v).vector
      (within (seat_of v).vector (told_first vs v wired (has_fixed_vector v.kind) refl fixed)),
  all_told all vs (λ vector is. within vector (told_behind vs v vector is)),
)

told_seats : (vs : List ChipView) → AllByRecursion (HasVectorAmong (told_vectors vs)) (map seat_of vs)
told_seats vs = all_told vs vs (λ vector is. is)

-- ---- the view

pub view_is : (m : MapTable) (chips : List ChipSpec) → IsMapOf m chips → IsViewOf (view_of m) (seats_of chips)
view_is m chips h = record {
  sort = λ at small. (h.tells at small).sort;
  stays = λ at byte small is. let s = (h.tells at small).sort in rw s at (byte_stays m at byte is);
  told = λ at small once stays. byte_told m at once stays;
  held = λ at small kind. (h.tells at small).held kind;
  readers = λ port small. (h.ports port small).readers;
  takers = λ port small. (h.ports port small).takers;
  any = h.all.any;
  overlaps = λ at small shared. h.all.overlaps.1 (at, small, shared);
  vectors = subst (λ (vectors : List ℕ). AllByRecursion (HasVectorAmong vectors) (seats_of chips)) (sym h.all.vectors)
      (told_seats (views_of chips));
  written = h.all.written ∙ written_seats (views_of chips);
  ram = all_own_ram chips;
  counted = all_by_counters chips;
}

-- ---- what is known of the chips

told_if : (s : Sort) (o : Option ℕ) → is_held_once s ≡ true → is_ram_sort s ≡ false → is_some o ≡ true → is_some (fixed_byte_by s o) ≡ true
told_if Rom o once stays some = some
told_if Ram o once stays some = absurd (cc)
told_if Void o once stays some = some
told_if Nothing o once stays some = absurd (cc)
told_if Shared o once stays some = absurd (cc)

pub right_is : (chips : List ChipSpec) → IsViewOf (chips_view chips) (seats_of chips)
unfolding chips_view
right_is chips = record {
  sort = λ at small. rw (lt-ltb at 65536 small) refl;
  stays = λ at byte small is. not_ram (sort_of (seats_of chips) at) _ byte (rw (lt-ltb at 65536 small) at is);
  told = λ at small once stays.
      let one : is_held_once (sort_of (seats_of chips) at) ≡ true = rw (lt-ltb at 65536 small) at once in
      let kept : is_ram_sort (sort_of (seats_of chips) at) ≡ false = rw (lt-ltb at 65536 small) at stays in
      rw (lt-ltb at 65536 small) (told_if (sort_of (seats_of chips) at) _ one kept (byte_of_one at (views_of chips) one));
  held = λ at small kind. rw (lt-ltb at 65536 small) refl;
  readers = λ port small. rw (lt-ltb port 256 small) refl;
  takers = λ port small. rw (lt-ltb port 256 small) refl;
  any = λ kind. refl;
  overlaps = λ at small shared. page_of_shared (seats_of chips) at small shared;
  vectors = told_seats (views_of chips);
  written = written_seats (views_of chips);
  ram = all_own_ram chips;
  counted = all_by_counters chips;
}

-- ---- each map tells just that

-- what is told below a bound, and is nothing from it on
below_alone : {X : Type 0} (f g : ℕ → X) (none : X) (size : ℕ) → ((at : ℕ) → at < size → f at ≡ g at) →
    ((at : ℕ) → size ≤ at → f at ≡ none) →
    (at : ℕ) → f at ≡ (if nat_lt at size then g at else none)
below_alone f g none size below past at = by (nat_lt at size) refl
  where
    by : (b : Bool) → nat_lt at size ≡ b → f at ≡ (if b then g at else none)
    by true small = below at (ltb-true at size small)
    by false large = past at (ltb-false at size large)

both_or_false : (b c : Bool) → (if b then c else false) ≡ (b && c)
both_or_false true c = refl
both_or_false false c = refl

module _ (m : MapTable) (chips : List ChipSpec) (h : IsMapOf m chips) (whole : IsWholeMap m) where
  no_entry : (at : ℕ) → 65536 ≤ at → entry_at m at ≡ NoChip
  no_entry at large = let size = whole.pages in get_or_past m.pages (at / 256) NoChip (omega (arith, size, large))

  sort_told : (at : ℕ) → mapped_sort m at ≡ (if nat_lt at 65536 then sort_of (seats_of chips) at else Nothing)
  unfolding mapped_sort
  sort_told = below_alone (mapped_sort m) (sort_of (seats_of chips)) Nothing 65536 (λ at small. (h.tells at small).sort)
      (λ at large. ap sort_by (no_entry at large))

  byte_as_told : (at : ℕ) → mapped_byte m at ≡ (if nat_lt at 65536 then fixed_byte (views_of chips) at else None)
  unfolding mapped_byte
  byte_as_told = below_alone (mapped_byte m) (fixed_byte (views_of chips)) None 65536 (λ at small. (h.tells at small).byte)
      (λ at large. ap (λ e. fixed_byte_by (sort_by e) (Some (slice_index m.bytes at))) (no_entry at large))

  held_size : (kind : ChipKind) → length (kind_pages kind m).held ≡ 256
  held_size PsuKind = whole.psu
  held_size SmiKind = whole.smi
  held_size PioKind = whole.pio

  held_told : (at : ℕ) (kind : ChipKind) → mapped_held m at kind ≡ (nat_lt at 65536 && kind_holds kind (seats_of chips) at)
  unfolding mapped_held
  held_told at kind =
      below_alone (λ x. mapped_held m x kind) (kind_holds kind (seats_of chips)) false 65536 (λ x small. (h.tells x small).held kind)
      (λ x large. let size = held_size kind in get_or_past (kind_pages kind m).held (x / 256) false (omega (arith, size, large))) at
      ∙ both_or_false (nat_lt at 65536) _

  readers_told : (port : ℕ) → mapped_readers m port ≡ (if nat_lt port 256 then readers port (seats_of chips) else 0)
  unfolding mapped_readers
  readers_told = below_alone (mapped_readers m) (λ port. readers port (seats_of chips)) 0 256 (λ port small. (h.ports port small).readers)
      (λ port large. let size = whole.readers in get_or_past m.readers port 0 (omega (arith, size, large)))

  takers_told : (port : ℕ) → mapped_takers m port ≡ (if nat_lt port 256 then takers port (seats_of chips) else 0)
  unfolding mapped_takers
  takers_told = below_alone (mapped_takers m) (λ port. takers port (seats_of chips)) 0 256 (λ port small. (h.ports port small).takers)
      (λ port large. let size = whole.takers in get_or_past m.takers port 0 (omega (arith, size, large)))

  overlaps_told : mapped_overlaps m ≡ has_shared_page (seats_of chips)
  overlaps_told = same_tests (mapped_overlaps m) (has_shared_page (seats_of chips))
      (λ some. let overlap = h.all.overlaps.0 some in page_of_shared (seats_of chips) overlap.0 overlap.1 overlap.2)
      (λ some. h.all.overlaps.1 (shared_of_page (seats_of chips) some))

  pub told_is : view_of m ≡ chips_view chips
  unfolding chips_view
  told_is = λ i. record {
    sort = λ at. sort_told at i;
    byte = λ at. byte_as_told at i;
    held = λ at kind. held_told at kind i;
    readers = λ port. readers_told port i;
    takers = λ port. takers_told port i;
    any = λ kind. h.all.any kind i;
    overlaps = overlaps_told i;
    vectors = h.all.vectors i;
    written = h.all.written i;
  }

pub map_view : MapViewLaw
map_view = record { view = view_is; right = right_is; told = told_is }
