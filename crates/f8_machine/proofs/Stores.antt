-- Steps keep what the chips hold of the flat memory: a served store changes both alike, and no other step changes a byte.
use Rattle.std.proofs.Common.{◌≡◌, ℕ, ◌<◌, Bool, true, false, List, [], ◌∷◌, map, length, refl, sym, ap, subst, ◌∙◌}
use Rattle.std.proofs.Common.{⊎_elim, arith, length-set}
use Rattle.std.specs.Prelude.{◌==◌, if◌then◌else◌, Option, Some, None, is_some, slice_get, slice_set}
use Rattle.std.specs.List.{enumerate_from}
use Rattle.std.proofs.lemmas.Bool.{both_ways, cases_eq, cases_lt}
use Rattle.std.proofs.lemmas.List.{get_or-set_same, get_or-set_other, set_past}
use Rattle.f8_spec.specs.ChipState.{ChipView, after_step, byte_in, bytes_with, has_ram_at, held_byte, holds, is_ram}
use Rattle.f8_spec.specs.ChipState.{sort_at}
use Rattle.f8_spec.specs.BusArbitration.{Seat, Served, seat_of, parties, bystanders, lowest, view_ruling}
use Rattle.f8_spec.specs.declared.bus.BusRule.TheVariants.{Store}
use Rattle.f8_spec.specs.declared.chips.PageSort.{PageSort}
use Rattle.f8_spec.specs.declared.chips.PageSort.TheVariants.{Rom, Ram, Void}
use Rattle.console_spec.specs.AddressSpace.{byte_at}
use Rattle.console_spec.specs.FlatMemory.{sort_among, sort_of, is_ram_sort, stored_at}
use Rattle.f8_spec.specs.ChipState.{IsFilled}
use Rattle.f8_machine.specs.RackViews.{HeldOnce, HoldsFlat}
use Rattle.f8_machine.proofs.ServedSteps.{Agrees, StoreParties, Taken, Lost, store_served, named_seats, agrees_one}
use Rattle.f8_machine.proofs.ServedSteps.{agrees_none}
use Rattle.f8_machine.proofs.Slots.{plain_step, bytes-after, bytes-stored, seats-after, comes_after}
use Rattle.f8_machine.proofs.Holding.{Held, held_in, byte_in-bytes_with_same, byte_in-bytes_with_other, sort_of-once}
use Rattle.f8_machine.proofs.Holding.{holds_flat_by}

-- ---- the flat memory

-- a store leaves the memory as long
pub stored_long : (seats : List Seat) (at byte : ℕ) (memory : List ℕ) →
    length (stored_at seats at byte memory) ≡ length memory
stored_long seats at byte memory = step (is_ram_sort (sort_of seats at))
  where
    step : (ram : Bool) → length (if ram then slice_set memory at byte else memory) ≡ length memory
    step true = length-set memory at byte
    step false = refl

-- the byte at another address stays
byte_at-stored_other : (seats : List Seat) (at byte other : ℕ) (memory : List ℕ) → (other ≡ at → ⊥) →
    byte_at (stored_at seats at byte memory) other ≡ byte_at memory other
byte_at-stored_other seats at byte other memory apart = step (is_ram_sort (sort_of seats at))
  where
    step : (ram : Bool) → byte_at (if ram then slice_set memory at byte else memory) other ≡ byte_at memory other
    step true = get_or-set_other memory at other byte 255 apart
    step false = refl

-- its bytes stay below 256
pub stored_bytes : (seats : List Seat) (at byte : ℕ) (memory : List ℕ) → byte < 256 →
    ((other : ℕ) → byte_at memory other < 256) →
    (other : ℕ) → byte_at (stored_at seats at byte memory) other < 256
stored_bytes seats at byte memory small bytes other = step (is_ram_sort (sort_of seats at))
  where
    set_at : byte_at (slice_set memory at byte) at < 256
    set_at = ⊎_elim
        (λ within. subst (λ b. b < 256) (sym (get_or-set_same memory at byte 255 within)) small)
        (λ past. subst (λ bs. byte_at bs at < 256) (sym (set_past memory at byte past)) (bytes at))
        (cases_lt at (length memory))

    step : (ram : Bool) → byte_at (if ram then slice_set memory at byte else memory) other < 256
    step true = ⊎_elim
        (λ same. subst (λ n. byte_at (slice_set memory at byte) n < 256) (sym same) set_at)
        (λ apart. subst (λ b. b < 256) (sym (get_or-set_other memory at other byte 255 apart)) (bytes other))
        (cases_eq other at)
    step false = bytes other

-- ---- a step that is no store

-- it changes no byte of a chip
pub keeps_flat : (romc byte clocks : ℕ) (vs : List ChipView) (memory : List ℕ) → (romc == 0x05) ≡ false →
    HoldsFlat memory vs →
    HoldsFlat memory (map (after_step (plain_step romc byte clocks)) vs)
keeps_flat romc byte clocks vs memory other flat =
    holds_flat_by vs (map (after_step (plain_step romc byte clocks)) vs) (seats-after romc byte clocks vs) memory
    (λ place v w at small lies lies_after held once.
    let same : w.bytes ≡ v.bytes = ap (λ (u : ChipView). u.bytes)
    (sym (comes_after romc byte clocks vs place v w lies lies_after)) ∙ bytes-after romc byte clocks v other in
    ap (λ bytes. byte_in v.pages bytes at) same ∙ flat place v at small lies held once)

-- ---- a store

-- a served store: each chip that takes is at the probe's place, and each with RAM there takes
store_agrees : (reference : ℕ) (socket : Option ℕ) (vs : List ChipView) →
    view_ruling 0x05 None reference (enumerate_from 0 vs) ≡ Served socket → Agrees Store 0x05 reference vs
store_agrees reference socket vs served =
    by (store_served reference socket (parties Store (named_seats 0x05 vs))
    (lowest (bystanders Store reference (named_seats 0x05 vs))) served)
  where
    by : StoreParties reference (parties Store (named_seats 0x05 vs))
        (lowest (bystanders Store reference (named_seats 0x05 vs))) → Agrees Store 0x05 reference vs
    by (Taken one) = agrees_one Store 0x05 reference vs one
    by (Lost none none_stand) = agrees_none Store 0x05 reference vs none none_stand

-- whether an address is RAM is told by the sort of its page, for the chip
has_ram-sorted : (v : ChipView) (at : ℕ) (sort : PageSort) → sort_at v.pages at ≡ Some sort →
    has_ram_at v at ≡ is_ram sort
has_ram-sorted v at sort sorted = rw sorted (step sort)
  where
    step : (s : PageSort) → is_some (if is_ram s then Some s else None) ≡ is_ram s
    step Rom = refl
    step Ram = refl
    step Void = refl

-- and for the flat memory
ram_sort : (sort : PageSort) → is_ram_sort (sort_among (sort ∷ [])) ≡ is_ram sort
ram_sort Rom = refl
ram_sort Ram = refl
ram_sort Void = refl

module _ (byte clocks reference : ℕ) (vs : List ChipView) (memory : List ℕ) (long : length memory ≡ 65536)
    (agrees : Agrees Store 0x05 reference vs) where
  -- a chip after the store
  abbrev storing : ChipView → ChipView
  storing v = after_step (plain_step 0x05 byte clocks) v

  -- the flat memory after it
  abbrev memory_after : List ℕ
  memory_after = stored_at (map seat_of vs) reference byte memory

  -- a chip that takes a byte takes it at the probe's place, and one that takes none keeps its bytes
  byte-stored : (place : ℕ) (v : ChipView) (at : ℕ) → slice_get vs place ≡ Some v → (P : Option ℕ → Type 0) →
      (has_ram_at v v.counters.dc0 ≡ true → P (byte_in v.pages (bytes_with v.pages v.bytes reference byte) at)) →
      (has_ram_at v v.counters.dc0 ≡ false → P (held_byte v at)) →
      P (byte_in v.pages (storing v).bytes at)
  byte-stored place v at lies P takes keeps = rw (bytes-stored byte clocks v) (step (has_ram_at v v.counters.dc0) refl)
    where
      step : (ram : Bool) → has_ram_at v v.counters.dc0 ≡ ram →
          P (byte_in v.pages (if ram then bytes_with v.pages v.bytes v.counters.dc0 byte else v.bytes) at)
      step true is = subst (λ n. P (byte_in v.pages (bytes_with v.pages v.bytes n byte) at))
          (sym (agrees.there place v lies is)) (takes is)
      step false is = keeps is

  -- at the probe's place
  store_there : (place : ℕ) (v : ChipView) → reference < 65536 → IsFilled v → slice_get vs place ≡ Some v →
      Held v.pages reference → HeldOnce vs reference place →
      held_byte v reference ≡ Some (byte_at memory reference) →
      byte_in v.pages (storing v).bytes reference ≡ Some (byte_at memory_after reference)
  store_there place v small filled lies held once before = step (is_ram held.page.sort) refl
    where
      step : (ram : Bool) → is_ram held.page.sort ≡ ram →
          byte_in v.pages (storing v).bytes reference ≡ Some (byte_at memory_after reference)
      step ram is =
          let has : has_ram_at v reference ≡ ram = has_ram-sorted v reference held.page.sort held.sorted ∙ is in
          let flat : is_ram_sort (sort_of (map seat_of vs) reference) ≡ ram =
          ap is_ram_sort (sort_of-once vs reference place v lies once held.page.sort held.sorted)
          ∙ ram_sort held.page.sort ∙ is in
          rw flat (by ram has)
        where
          by : (r : Bool) → has_ram_at v reference ≡ r →
              byte_in v.pages (storing v).bytes reference
              ≡ Some (byte_at (if r then slice_set memory reference byte else memory) reference)
          by true has =
              let within : reference < length memory = omega arith in
              rw (get_or-set_same memory reference byte 255 within) (
              byte-stored place v reference lies (λ o. o ≡ Some byte)
              (λ takes. byte_in-bytes_with_same v.pages v.bytes reference byte filled held)
              (λ keeps. absurd (both_ways (has_ram_at v v.counters.dc0) keeps (agrees.takes place v lies has))))
          by false has = byte-stored place v reference lies (λ o. o ≡ Some (byte_at memory reference))
              (λ takes. absurd (both_ways (has_ram_at v reference) has
              (subst (λ n. has_ram_at v n ≡ true) (agrees.there place v lies takes) takes)))
              (λ keeps. before)

  -- at another address
  store_elsewhere : (place : ℕ) (v : ChipView) (at : ℕ) → (at ≡ reference → ⊥) → slice_get vs place ≡ Some v →
      held_byte v at ≡ Some (byte_at memory at) →
      byte_in v.pages (storing v).bytes at ≡ Some (byte_at memory_after at)
  store_elsewhere place v at apart lies before =
      rw (byte_at-stored_other (map seat_of vs) reference byte at memory apart)
      (byte-stored place v at lies (λ o. o ≡ Some (byte_at memory at))
      (λ takes. byte_in-bytes_with_other v.pages v.bytes reference byte at apart ∙ before) (λ keeps. before))

  -- at each address that the chip holds alone
  store_at : (place : ℕ) (v : ChipView) (at : ℕ) → at < 65536 → IsFilled v → slice_get vs place ≡ Some v →
      holds v at ≡ true → HeldOnce vs at place →
      held_byte v at ≡ Some (byte_at memory at) →
      byte_in v.pages (storing v).bytes at ≡ Some (byte_at memory_after at)
  store_at place v at small filled lies held once before =
      ⊎_elim here (λ apart. store_elsewhere place v at apart lies before) (cases_eq at reference)
    where
      here : at ≡ reference →
          byte_in v.pages (storing v).bytes at ≡ Some (byte_at memory_after at)
      here same = rw same (store_there place v (subst (λ n. n < 65536) same small) filled lies
          (held_in v.pages reference (subst (λ n. holds v n ≡ true) same held))
          (subst (λ n. HeldOnce vs n place) same once)
          (subst (λ n. held_byte v n ≡ Some (byte_at memory n)) same before))

-- a served store changes what the chips hold as it changes the flat memory
pub store_keeps_flat : (byte clocks reference : ℕ) (socket : Option ℕ) (vs : List ChipView) (memory : List ℕ) →
    length memory ≡ 65536 →
    ((k : ℕ) (v : ChipView) → slice_get vs k ≡ Some v → IsFilled v) → HoldsFlat memory vs →
    view_ruling 0x05 None reference (enumerate_from 0 vs) ≡ Served socket →
    HoldsFlat (stored_at (map seat_of vs) reference byte memory) (map (after_step (plain_step 0x05 byte clocks)) vs)
store_keeps_flat byte clocks reference socket vs memory long filled flat served =
    holds_flat_by vs (map (after_step (plain_step 0x05 byte clocks)) vs) (seats-after 0x05 byte clocks vs)
    (stored_at (map seat_of vs) reference byte memory)
    (λ place v w at small lies lies_after held once.
    ap (λ (u : ChipView). byte_in v.pages u.bytes at) (sym (comes_after 0x05 byte clocks vs place v w lies lies_after))
    ∙ store_at byte clocks reference vs memory long (store_agrees reference socket vs served) place v at small
    (filled place v lies) lies held once (flat place v at small lies held once))
