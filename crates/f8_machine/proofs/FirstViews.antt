-- Power-on: the chips of a rack hold the first memory of the flat machine.
use Rattle.std.proofs.Common.{◌≡◌, ℕ, zero, suc, ◌+◌, ◌*◌, ◌/◌, ◌%◌, ◌<◌, ◌≤◌, Bool, true, false, List, [], ◌∷◌, ◌++◌}
use Rattle.std.proofs.Common.{map, length, get_or, take, drop, refl, sym, ap, ap₂, subst, ◌∙◌, ⊎_elim, arith}
use Rattle.std.proofs.Common.{length-append, length-drop}
use Rattle.std.specs.Prelude.{if◌then◌else◌, Option, Some, None, option_map, is_some, filter_map, replicate, slice_get}
use Rattle.std.specs.Prelude.{slice_index}
use Rattle.std.specs.List.{enumerate_from}
use Rattle.std.proofs.lemmas.Bool.{cases_lt}
use Rattle.std.proofs.lemmas.List.{get_or_past, get_or-replicate, get_or-take, get_or-drop, get_or-append-add}
use Rattle.std.proofs.lemmas.List.{length-replicate, length-take-le}
use Rattle.std.proofs.lemmas.List.FromFn.{length-map-range_with_len, get_or-map-range_with_len}
use Rattle.std.proofs.lemmas.Option.{slice_get-map}
use Rattle.f8_spec.specs.ChipState.{ChipView, ChipState, byte_in, held_byte, holds, place_of, filled_bytes, is_ram}
use Rattle.f8_spec.specs.ChipState.{powered, has_fixed_vector}
use Rattle.f8_spec.specs.BusArbitration.{Seat, seat_of}
use Rattle.f8_spec.specs.declared.chips.Page.{Page}
use Rattle.f8_spec.specs.declared.chips.PageSort.{PageSort}
use Rattle.f8_spec.specs.declared.chips.PageSort.TheVariants.{Rom, Ram, Void}
use Rattle.data_bus.specs.Racks.{NumberedZip}
use Rattle.data_bus.proofs.Zipped.{zip_numbered}
use Rattle.console_spec.specs.declared.Sort.{Sort}
use Rattle.console_spec.specs.declared.Sort.TheVariants.{Rom as RomSort, Ram as RamSort, Void as VoidSort, Nothing}
use Rattle.console_spec.specs.declared.Sort.TheVariants.{Shared}
use Rattle.console_spec.specs.AddressSpace.{byte_at}
use Rattle.console_spec.specs.FlatMemory.{sort_among, sort_of, only_of, holding, owner_of, fixed_byte_by, fixed_byte}
use Rattle.console_spec.specs.FlatMemory.{first_byte_by, fill_of_owner, first_byte, first_memory}
use Rattle.f8_spec.specs.ChipState.{IsFilled}
use Rattle.f8_machine.specs.Rounds.{PowersInSocket}
use Rattle.f8_machine.specs.RackViews.{HeldOnce, HoldsFlat}
use Rattle.f8_machine.proofs.Kept.{OneKept, one_kept, keeps_one, slice_get-enumerate_from, Comes, comes}
use Rattle.f8_machine.proofs.Holding.{Held, held_in, not_held, sort_of-once, holds_flat_by}

-- ---- the RAM of one chip

-- a page at power-on has as many bytes
length-own : (ram : Bool) (fill : ℕ) (bytes : List ℕ) → 256 ≤ length bytes →
    length (if ram then replicate 256 fill else take 256 bytes) ≡ 256
length-own true fill bytes whole = length-replicate 256 fill
length-own false fill bytes whole = length-take-le 256 bytes whole

-- its bytes are the power byte in RAM, and stay elsewhere
get_or-own : (ram : Bool) (fill : ℕ) (bytes : List ℕ) (i : ℕ) → i < 256 →
    get_or (if ram then replicate 256 fill else take 256 bytes) i 0 ≡ (if ram then fill else get_or bytes i 0)
get_or-own true fill bytes i below = get_or-replicate 256 i fill 0 below
get_or-own false fill bytes i below = get_or-take 256 bytes i 0 below

-- an element of the first of two lists
get_or-append_left : (xs ys : List ℕ) (i : ℕ) → i < length xs → get_or (xs ++ ys) i 0 ≡ get_or xs i 0
get_or-append_left [] ys i below = absurd (omega arith)
get_or-append_left (x ∷ xs) ys zero below = refl
get_or-append_left (x ∷ xs) ys (suc i) below = get_or-append_left xs ys i (omega arith)

-- the bytes at power-on are as many
pub length-filled_bytes : (fill : ℕ) (pages : List Page) (bytes : List ℕ) → length bytes ≡ length pages * 256 →
    length (filled_bytes fill pages bytes) ≡ length pages * 256
length-filled_bytes fill [] bytes size = size
length-filled_bytes fill (p ∷ ps) bytes size =
    let whole : 256 ≤ length bytes = omega arith in
    let rest : length (filled_bytes fill ps (drop 256 bytes)) ≡ length ps * 256 =
    length-filled_bytes fill ps (drop 256 bytes) (omega (arith, length-drop 256 bytes)) in
    length-append (if is_ram p.sort then replicate 256 fill else take 256 bytes) (filled_bytes fill ps (drop 256 bytes))
    ∙ ap₂ (λ m n. m + n) (length-own (is_ram p.sort) fill bytes whole) rest
    ∙ omega arith

-- a byte of the first page at power-on
filled_first : (fill : ℕ) (q : Page) (ps : List Page) (bytes : List ℕ) → 256 ≤ length bytes → (n : ℕ) → n < 256 →
    get_or (filled_bytes fill (q ∷ ps) bytes) n 0 ≡ (if is_ram q.sort then fill else get_or bytes n 0)
filled_first fill q ps bytes whole n below =
    let within : n < length (if is_ram q.sort then replicate 256 fill else take 256 bytes) =
    omega (arith, length-own (is_ram q.sort) fill bytes whole) in
    get_or-append_left (if is_ram q.sort then replicate 256 fill else take 256 bytes)
    (filled_bytes fill ps (drop 256 bytes)) n within
    ∙ get_or-own (is_ram q.sort) fill bytes n below

-- a byte at power-on, by the page that it lies in
filled_at : (fill : ℕ) (pages : List Page) (bytes : List ℕ) → length bytes ≡ length pages * 256 →
    (place : ℕ) (p : Page) (i n : ℕ) →
    slice_get pages place ≡ Some p → i < 256 → n ≡ place * 256 + i →
    get_or (filled_bytes fill pages bytes) n 0 ≡ (if is_ram p.sort then fill else get_or bytes n 0)
filled_at fill [] bytes size place p i n lies below e = cc
filled_at fill (q ∷ ps) bytes size zero p i n lies below e =
    let same : q ≡ p = cc in
    filled_first fill q ps bytes (omega arith) n (omega arith)
    ∙ ap (λ (r : Page). if is_ram r.sort then fill else get_or bytes n 0) same
filled_at fill (q ∷ ps) bytes size (suc place) p i n lies below e =
    let own : List ℕ = if is_ram q.sort then replicate 256 fill else take 256 bytes in
    let long : length own ≡ 256 = length-own (is_ram q.sort) fill bytes (omega arith) in
    let here : n ≡ length own + (place * 256 + i) = omega arith in
    let there : 256 + (place * 256 + i) ≡ n = omega arith in
    ap (λ k. get_or (filled_bytes fill (q ∷ ps) bytes) k 0) here
    ∙ get_or-append-add own (filled_bytes fill ps (drop 256 bytes)) (place * 256 + i) 0
    ∙ filled_at fill ps (drop 256 bytes) (omega (arith, length-drop 256 bytes)) place p i
    (place * 256 + i) lies below refl
    ∙ ap (λ b. if is_ram p.sort then fill else b)
    (get_or-drop 256 bytes (place * 256 + i) 0 ∙ ap (λ k. get_or bytes k 0) there)

-- what the chip holds at an address at power-on
powered_byte : (fill : ℕ) (v : ChipView) (at : ℕ) → IsFilled v → (held : Held v.pages at) (b : ℕ) →
    held_byte v at ≡ Some b →
    byte_in v.pages (filled_bytes fill v.pages v.bytes) at ≡ Some (if is_ram held.page.sort then fill else b)
powered_byte fill v at filled held b before =
    let byte : Some (slice_index v.bytes (held.place * 256 + at % 256)) ≡ Some b = rw held.placed at before in
    let same : slice_index v.bytes (held.place * 256 + at % 256) ≡ b = cc in
    rw held.placed (ap Some (
    filled_at fill v.pages v.bytes filled held.place held.page (at % 256) (held.place * 256 + at % 256) held.lies
    (omega arith) refl
    ∙ ap (λ x. if is_ram held.page.sort then fill else x) same))

-- ---- the first memory

-- it has 65,536 bytes
pub length-first_memory : (vs : List ChipView) (fill : ℕ → ℕ) → length (first_memory vs fill) ≡ 65536
unfolding first_memory
length-first_memory vs fill = length-map-range_with_len (first_byte vs fill) 0 65536

-- each by its address
pub byte_at-first_memory : (vs : List ChipView) (fill : ℕ → ℕ) (at : ℕ) → at < 65536 →
    byte_at (first_memory vs fill) at ≡ first_byte vs fill at
unfolding first_memory
byte_at-first_memory vs fill at small = get_or-map-range_with_len (first_byte vs fill) 0 65536 at at 255 small
    (omega arith)

-- an address that a chip doesn't hold has no byte there
unheld_byteless : (v : ChipView) (at : ℕ) → holds v at ≡ false → held_byte v at ≡ None
unheld_byteless v at unheld = step (place_of v.pages (at / 256)) unheld
  where
    step : (o : Option ℕ) → is_some o ≡ false →
        option_map (λ place. slice_index v.bytes (place * 256 + at % 256)) o ≡ None
    step None unheld = refl
    step (Some place) unheld = cc

-- where one chip alone holds an address, its place is the owner's
owner_of-once : (vs : List ChipView) (at place : ℕ) (v : ChipView) → slice_get vs place ≡ Some v → HeldOnce vs at place →
    holds v at ≡ true → owner_of (map seat_of vs) at ≡ Some place
owner_of-once vs at place v lies once held =
    ap only_of (keeps_one (holding at) (enumerate_from 0 (map seat_of vs)) place (place, seat_of v) place
    (numbered place ∙ ap (option_map (λ (s : Seat). (place, s))) (ap (option_map seat_of) lies)) (rw held refl) others)
  where
    numbered : (j : ℕ) → slice_get (enumerate_from 0 (map seat_of vs)) j
        ≡ option_map (λ (s : Seat). (j, s)) (option_map seat_of (slice_get vs j))
    numbered j = slice_get-enumerate_from (map seat_of vs) j
        ∙ ap (option_map (λ (s : Seat). (j, s))) (slice_get-map seat_of vs j)

    others : (j : ℕ) (x : ℕ × Seat) → slice_get (enumerate_from 0 (map seat_of vs)) j ≡ Some x → (j ≡ place → ⊥) → holding at x ≡ None
    others j x there apart = by (slice_get vs j) refl (sym (numbered j) ∙ there)
      where
        by : (o : Option ChipView) → slice_get vs j ≡ o → option_map (λ (s : Seat). (j, s)) (option_map seat_of o) ≡ Some x →
            holding at x ≡ None
        by None lies_other e = cc
        by (Some w) lies_other e =
            let same : (j, seat_of w) ≡ x = cc in
            subst (λ (y : ℕ × Seat). holding at y ≡ None) same (rw (not_held vs at place once j w lies_other apart) refl)

-- at an address that one chip holds alone it is the byte that fills the chip's RAM, and elsewhere the chip's
first_byte-once : (vs : List ChipView) (fill : ℕ → ℕ) (at place : ℕ) (v : ChipView) → slice_get vs place ≡ Some v →
    HeldOnce vs at place → holds v at ≡ true → (held : Held v.pages at) (b : ℕ) →
    held_byte v at ≡ Some b → first_byte vs fill at ≡ (if is_ram held.page.sort then fill place else b)
first_byte-once vs fill at place v lies once holding_it held b before =
    let sort : sort_of (map seat_of vs) at ≡ sort_among (held.page.sort ∷ []) =
    sort_of-once vs at place v lies once held.page.sort held.sorted in
    let bytes : filter_map (λ w. held_byte w at) vs ≡ b ∷ [] = keeps_one (λ w. held_byte w at) vs place v b lies before
    (λ j w lies_other other. unheld_byteless w at (not_held vs at place once j w lies_other other)) in
    ap (λ o. first_byte_by (sort_of (map seat_of vs) at) (fill_of_owner fill o) (fixed_byte vs at))
    (owner_of-once vs at place v lies once holding_it)
    ∙ ap₂ (λ s o. first_byte_by s (fill place) (fixed_byte_by s o)) sort (ap only_of bytes) ∙ by held.page.sort
  where
    by : (sort : PageSort) → first_byte_by (sort_among (sort ∷ [])) (fill place)
        (fixed_byte_by (sort_among (sort ∷ [])) (Some b)) ≡ (if is_ram sort then fill place else b)
    by Rom = refl
    by Ram = refl
    by Void = refl

-- its bytes are below 256, where those that fill RAM and those of the chips are
pub first_bytes : (vs : List ChipView) (fill : ℕ → ℕ) → ((socket : ℕ) → fill socket < 256) →
    ((k : ℕ) (v : ChipView) → slice_get vs k ≡ Some v → (i : ℕ) → slice_index v.bytes i < 256) →
    (at : ℕ) → byte_at (first_memory vs fill) at < 256
first_bytes vs fill small bytes at = ⊎_elim within past (cases_lt at 65536)
  where
    -- the byte of a chip
    of_chip : (v : ChipView) → ((i : ℕ) → slice_index v.bytes i < 256) → (o : Option ℕ) (b : ℕ) →
        option_map (λ place. slice_index v.bytes (place * 256 + at % 256)) o ≡ Some b → b < 256
    of_chip v below None b e = cc
    of_chip v below (Some place) b e =
        let same : slice_index v.bytes (place * 256 + at % 256) ≡ b = cc in
        subst (λ n. n < 256) same (below (place * 256 + at % 256))

    only_below : (xs : List ℕ) (b : ℕ) → filter_map (λ v. held_byte v at) vs ≡ xs → only_of xs ≡ Some b → b < 256
    only_below [] b is e = cc
    only_below (x ∷ []) b is e =
        let one : OneKept (λ (v : ChipView). held_byte v at) vs x = one_kept (λ v. held_byte v at) vs x is in
        let same : x ≡ b = cc in
        subst (λ n. n < 256) same (of_chip one.element (bytes one.place one.element one.lies)
        (place_of one.element.pages (at / 256)) x one.kept)
    only_below (x ∷ (y ∷ xs)) b is e = cc

    owned : (owner : Option ℕ) → fill_of_owner fill owner < 256
    owned None = omega arith
    owned (Some place) = small place

    by : (sort : Sort) (only : Option ℕ) → ((b : ℕ) → only ≡ Some b → b < 256) →
        first_byte_by sort (fill_of_owner fill (owner_of (map seat_of vs) at)) (fixed_byte_by sort only) < 256
    by RamSort only below = owned (owner_of (map seat_of vs) at)
    by RomSort None below = omega arith
    by RomSort (Some b) below = below b refl
    by VoidSort None below = omega arith
    by VoidSort (Some b) below = below b refl
    by Nothing only below = omega arith
    by Shared only below = omega arith

    within : at < 65536 → byte_at (first_memory vs fill) at < 256
    within low = subst (λ b. b < 256) (sym (byte_at-first_memory vs fill at low))
        (by (sort_of (map seat_of vs) at) (only_of (filter_map (λ v. held_byte v at) vs))
        (λ b e. only_below (filter_map (λ v. held_byte v at) vs) b refl e))

    past : 65536 ≤ at → byte_at (first_memory vs fill) at < 256
    past high =
        let none : byte_at (first_memory vs fill) at ≡ 255 =
        get_or_past (first_memory vs fill) at 255 (omega (arith, length-first_memory vs fill)) in
        omega arith

-- ---- the rack

-- the chips of a rack at power-on: the RAM of each is filled, and its counters stand at an address, by its socket
abbrev pub powered_views : (ℕ → ℕ) → (ℕ → ℕ) → List ChipView → List ChipView
powered_views fill start vs = map (λ x. powered (fill x.0) (start x.0) x.1) (enumerate_from 0 vs)

-- a chip by its place
pub slice_get-powered_views : (fill start : ℕ → ℕ) (vs : List ChipView) (k : ℕ) →
    slice_get (powered_views fill start vs) k ≡ option_map (powered (fill k) (start k)) (slice_get vs k)
slice_get-powered_views fill start vs k =
    let power : ℕ × ChipView → ChipView = λ x. powered (fill x.0) (start x.0) x.1 in
    slice_get-map power (enumerate_from 0 vs) k ∙ ap (option_map power) (slice_get-enumerate_from vs k)
    ∙ numbered (slice_get vs k)
  where
    numbered : (o : Option ChipView) → option_map (λ (x : ℕ × ChipView). powered (fill x.0) (start x.0) x.1)
        (option_map (λ v. (k, v)) o) ≡ option_map (powered (fill k) (start k)) o
    numbered None = refl
    numbered (Some v) = refl

-- a chip of them comes of the chip at its place
pub powered_comes : (fill start : ℕ → ℕ) (vs : List ChipView) (k : ℕ) (w : ChipView) →
    slice_get (powered_views fill start vs) k ≡ Some w → Comes (powered (fill k) (start k)) (slice_get vs k) w
powered_comes fill start vs k w lies =
    comes (powered (fill k) (start k)) (slice_get vs k) w (sym (slice_get-powered_views fill start vs k) ∙ lies)

-- power-on leaves the seat of a chip
fixed_twice : (is_fixed : Bool) (vector : ℕ) →
    (if is_fixed then (if is_fixed then vector else 0) else 0) ≡ (if is_fixed then vector else 0)
fixed_twice true vector = refl
fixed_twice false vector = refl

pub seat_of-powered : (fill start : ℕ) (v : ChipView) → seat_of (powered fill start v) ≡ seat_of v
seat_of-powered fill start v =
    ap (λ (n : ℕ). record (seat_of v) { vector = n }) (fixed_twice (has_fixed_vector v.kind) v.vector)

-- their seats, from a socket on
seats_from : (fill start : ℕ → ℕ) (n : ℕ) (vs : List ChipView) →
    map seat_of (map (λ x. powered (fill x.0) (start x.0) x.1) (enumerate_from n vs)) ≡ map seat_of vs
seats_from fill start n [] = refl
seats_from fill start n (v ∷ vs) =
    ap₂ (λ s ss. s ∷ ss) (seat_of-powered (fill n) (start n) v) (seats_from fill start (n + 1) vs)

-- their seats are the same
pub seats-powered_views : (fill start : ℕ → ℕ) (vs : List ChipView) → map seat_of (powered_views fill start vs) ≡ map seat_of vs
seats-powered_views fill start vs = seats_from fill start 0 vs

-- they hold the first memory
pub first_flat : (fill start : ℕ → ℕ) (vs : List ChipView) → ((k : ℕ) (v : ChipView) → slice_get vs k ≡ Some v → IsFilled v) →
    HoldsFlat (first_memory vs fill) (powered_views fill start vs)
first_flat fill start vs filled = holds_flat_by vs (powered_views fill start vs) (seats-powered_views fill start vs)
    (first_memory vs fill) at_chip
  where
    at_chip : (place : ℕ) (v w : ChipView) (at : ℕ) → at < 65536 → slice_get vs place ≡ Some v →
        slice_get (powered_views fill start vs) place ≡ Some w →
        holds v at ≡ true → HeldOnce vs at place → byte_in v.pages w.bytes at ≡ Some (byte_at (first_memory vs fill) at)
    at_chip place v w at small lies lies_after held once =
        let chip : Comes (powered (fill place) (start place)) (slice_get vs place) w =
        powered_comes fill start vs place w lies_after in
        let both : Some chip.from ≡ Some v = sym chip.is ∙ lies in
        let same : chip.from ≡ v = cc in
        let here : Held v.pages at = held_in v.pages at held in
        let byte : held_byte v at ≡ Some (slice_index v.bytes (here.place * 256 + at % 256)) = rw here.placed refl in
        ap (λ (u : ChipView). byte_in v.pages u.bytes at) chip.gives
        ∙ ap (λ (u : ChipView). byte_in v.pages (filled_bytes (fill place) u.pages u.bytes) at) same
        ∙ powered_byte (fill place) v at (filled place v lies) here (slice_index v.bytes (here.place * 256 + at % 256)) byte
        ∙ ap Some (sym (byte_at-first_memory vs fill at small
        ∙ first_byte-once vs fill at place v lies once held here
        (slice_index v.bytes (here.place * 256 + at % 256)) byte))

-- the views from a socket on
-- the views of a rack whose chips were powered
pub views_powered : (fill start : ℕ → ℕ) (olds news : List ChipState) → NumberedZip (PowersInSocket fill start) 0 olds news →
    map (λ s. s.view) news ≡ powered_views fill start (map (λ s. s.view) olds)
views_powered fill start olds news all =
    zip_numbered (PowersInSocket fill start) (λ (s : ChipState). s.view) (λ (s : ChipState). s.view)
    (λ (k : ℕ) (v : ChipView). powered (fill k) (start k) v) (λ k old new one. one.view) 0 olds news all
