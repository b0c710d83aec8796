-- What a bus step makes of a chip, and of a rack: its seat stays, its counters move by the code, and only a store changes its bytes.
use Rattle.std.proofs.Common.{◌≡◌, ℕ, ◌+◌, ◌*◌, ◌/◌, ◌%◌, Bool, true, false, List, [], ◌∷◌, map, length, refl, sym, ap}
use Rattle.std.proofs.Common.{ap₂, subst, ◌∙◌, eqb-true, length-set}
use Rattle.std.specs.Prelude.{◌==◌, if◌then◌else◌, Option, Some, None, option_map, option_and_then, slice_get}
use Rattle.std.proofs.lemmas.Option.{slice_get-map}
use Rattle.f8_spec.specs.BusCodes.{Count, moved_by}
use Rattle.f8_spec.specs.ChipState.{ChipView, ChipState, HeardStep, PortRole, DataPort, VectorHigh, VectorLow}
use Rattle.f8_spec.specs.ChipState.{ControlPort, TimerPort, has_counters, has_second_counter, has_ram_at, place_of}
use Rattle.f8_spec.specs.ChipState.{bytes_with_at, bytes_with, stored, port_role, port_written, port_written_if, effect}
use Rattle.f8_spec.specs.ChipState.{after_step, timer_passed, has_fixed_vector, role_at, offset_from}
use Rattle.f8_spec.specs.BusArbitration.{Seat, seat_of}
use Rattle.f8_spec.specs.Instructions.{step_clocks}
use Rattle.f8_spec.specs.declared.chips.ChipKind.{ChipKind}
use Rattle.f8_spec.specs.declared.chips.ChipKind.TheVariants.{Psu, Smi, Pio}
use Rattle.f8_spec.specs.declared.chips.Page.{Page}
use Rattle.data_bus.specs.Racks.{NumberedZip, SettlesStep, Stays, RackSettles, RackStays}
use Rattle.data_bus.proofs.Zipped.{zip_mapped}
use Rattle.f8_spec.specs.ChipState.{IsFilled}

-- the step as a chip hears it whose interrupt is not acknowledged
abbrev pub plain_step : ℕ → ℕ → ℕ → HeardStep
plain_step romc byte clocks = record { romc = romc; byte = byte; clocks = clocks; first = false }

-- ---- the effect of a code on one chip

-- what every effect leaves, and what every one but a store does
pub record Leaves (old new : ChipView) : Type 0 where
  pub seat : seat_of new ≡ seat_of old
  pub counters : new.counters ≡ old.counters

pub record LeavesBytes (old new : ChipView) : Type 0 where
  pub rest : Leaves old new
  pub bytes : new.bytes ≡ old.bytes

-- what stays as it is
leaves_all : (v : ChipView) → LeavesBytes v v
leaves_all v = record { rest = record { seat = refl; counters = refl }; bytes = refl }

-- only a chip whose vector ports write has a port for a half of it
abbrev pub FitsRole : ChipKind → PortRole → Type 0
FitsRole kind (DataPort place) = Unit {0}
FitsRole kind VectorHigh = has_fixed_vector kind ≡ false
FitsRole kind VectorLow = has_fixed_vector kind ≡ false
FitsRole kind ControlPort = Unit {0}
FitsRole kind TimerPort = Unit {0}

-- a port of a chip with data ports
data_fits : (kind : ChipKind) (offset : ℕ) (control timer : Bool) →
    FitsRole kind (if control then ControlPort else if timer then TimerPort else DataPort offset)
data_fits kind offset true timer = tt
data_fits kind offset false true = tt
data_fits kind offset false false = tt

pub role_fits : (kind : ChipKind) (offset : ℕ) → FitsRole kind (role_at kind offset)
role_fits Psu offset = data_fits Psu offset (offset == 2) (offset == 3)
role_fits Pio offset = data_fits Pio offset (offset == 2) (offset == 3)
role_fits Smi offset = by (offset == 2) (offset == 3) (offset == 0)
  where
    by : (control timer high : Bool) → FitsRole Smi (if control then ControlPort else if timer then TimerPort else
        if high then VectorHigh else VectorLow)
    by true timer high = tt
    by false true high = tt
    by false false true = refl
    by false false false = refl

-- a port write
written_leaves : (role : PortRole) (byte : ℕ) (v : ChipView) → FitsRole v.kind role →
    LeavesBytes v (port_written role byte v)
written_leaves (DataPort place) byte v fits = record { rest = record { seat = refl; counters = refl }; bytes = refl }
written_leaves VectorHigh byte v fits = record { rest = record { seat = rw fits refl; counters = refl }; bytes = refl }
written_leaves VectorLow byte v fits = record { rest = record { seat = rw fits refl; counters = refl }; bytes = refl }
written_leaves ControlPort byte v fits = record { rest = record { seat = refl; counters = refl }; bytes = refl }
written_leaves TimerPort byte v fits = record { rest = record { seat = refl; counters = refl }; bytes = refl }

-- a port write, where the chip has the port
written_if_leaves : (offset : Option ℕ) (byte : ℕ) (v : ChipView) →
    LeavesBytes v (port_written_if (option_map (role_at v.kind) offset) byte v)
written_if_leaves None byte v = leaves_all v
written_if_leaves (Some offset) byte v = written_leaves (role_at v.kind offset) byte v (role_fits v.kind offset)

-- a store
stored_leaves : (at byte : ℕ) (v : ChipView) → Leaves v (stored at byte v)
stored_leaves at byte v = step (has_ram_at v at)
  where
    step : (ram : Bool) → Leaves v (if ram then record v { bytes = bytes_with v.pages v.bytes at byte } else v)
    step true = record { seat = refl; counters = refl }
    step false = record { seat = refl; counters = refl }

-- an acknowledgement of another chip
ended_leaves : (v : ChipView) → LeavesBytes v (record v { request = v.request })
ended_leaves v = record { rest = record { seat = refl; counters = refl }; bytes = refl }

-- any code
effect_leaves : (romc byte : ℕ) (v : ChipView) → Leaves v (effect romc byte false v)
effect_leaves romc byte v = step (romc == 0x05) (romc == 0x13) (romc == 0x1A)
  where
    step : (store ends write : Bool) → Leaves v (
        if store then stored v.counters.dc0 byte v else if ends then record v { request = v.request } else
        if write then port_written_if (port_role v v.last) byte v else v)
    step true ends write = stored_leaves v.counters.dc0 byte v
    step false true write = (ended_leaves v).rest
    step false false true = (written_if_leaves (option_and_then (offset_from v.last) v.ports) byte v).rest
    step false false false = (leaves_all v).rest

-- any code but a store's
effect_bytes : (romc byte : ℕ) (v : ChipView) → (romc == 0x05) ≡ false → (effect romc byte false v).bytes ≡ v.bytes
effect_bytes romc byte v other = rw other (step (romc == 0x13) (romc == 0x1A)).bytes
  where
    step : (ends write : Bool) → LeavesBytes v (if ends then record v { request = v.request } else
        if write then port_written_if (port_role v v.last) byte v else v)
    step true write = ended_leaves v
    step false true = written_if_leaves (option_and_then (offset_from v.last) v.ports) byte v
    step false false = leaves_all v

-- ---- the step on one chip

-- the seat stays: the kind, the pages and the first port
pub seat_of-after : (romc byte clocks : ℕ) (v : ChipView) →
    seat_of (after_step (plain_step romc byte clocks) v) ≡ seat_of v
seat_of-after romc byte clocks v = (effect_leaves romc byte (timer_passed clocks v)).seat

-- the pages
pub pages-after : (romc byte clocks : ℕ) (v : ChipView) → (after_step (plain_step romc byte clocks) v).pages ≡ v.pages
pages-after romc byte clocks v = ap (λ (s : Seat). s.pages) (seat_of-after romc byte clocks v)

-- the counters move by the code, where the chip has any
pub counters-after : (romc byte clocks : ℕ) (v : ChipView) → (after_step (plain_step romc byte clocks) v).counters
    ≡ (if has_counters v.kind then moved_by romc byte (has_second_counter v.kind) v.counters else v.counters)
counters-after romc byte clocks v =
    let timed : ChipView = timer_passed clocks v in
    let left : Leaves timed (effect romc byte false timed) = effect_leaves romc byte timed in
    ap₂ (λ (s : Seat) (c : Count). if has_counters s.kind then moved_by romc byte (has_second_counter s.kind) c else c)
    left.seat left.counters

-- only a store changes bytes
pub bytes-after : (romc byte clocks : ℕ) (v : ChipView) → (romc == 0x05) ≡ false →
    (after_step (plain_step romc byte clocks) v).bytes ≡ v.bytes
bytes-after romc byte clocks v other = effect_bytes romc byte (timer_passed clocks v) other

-- a store changes the byte at the chip's own data counter, where the chip has RAM there
pub bytes-stored : (byte clocks : ℕ) (v : ChipView) → (after_step (plain_step 0x05 byte clocks) v).bytes
    ≡ (if has_ram_at v v.counters.dc0 then bytes_with v.pages v.bytes v.counters.dc0 byte else v.bytes)
bytes-stored byte clocks v = step (has_ram_at v v.counters.dc0)
  where
    step : (ram : Bool) → (if ram then record (timer_passed clocks v) {
      bytes = bytes_with v.pages v.bytes v.counters.dc0 byte;
    } else timer_passed clocks v).bytes
        ≡ (if ram then bytes_with v.pages v.bytes v.counters.dc0 byte else v.bytes)
    step true = refl
    step false = refl

-- the bytes stay as many
pub length-bytes_with : (pages : List Page) (bytes : List ℕ) (at byte : ℕ) →
    length (bytes_with pages bytes at byte) ≡ length bytes
length-bytes_with pages bytes at byte = step (place_of pages (at / 256))
  where
    step : (place : Option ℕ) → length (bytes_with_at bytes at byte place) ≡ length bytes
    step None = refl
    step (Some place) = length-set bytes (place * 256 + at % 256) byte

-- after a store
length-stored : (byte clocks : ℕ) (v : ChipView) →
    length (after_step (plain_step 0x05 byte clocks) v).bytes ≡ length v.bytes
length-stored byte clocks v = ap length (bytes-stored byte clocks v) ∙ step (has_ram_at v v.counters.dc0)
  where
    step : (ram : Bool) → length (if ram then bytes_with v.pages v.bytes v.counters.dc0 byte else v.bytes)
        ≡ length v.bytes
    step true = length-bytes_with v.pages v.bytes v.counters.dc0 byte
    step false = refl

-- after any code
length-after : (romc byte clocks : ℕ) (v : ChipView) →
    length (after_step (plain_step romc byte clocks) v).bytes ≡ length v.bytes
length-after romc byte clocks v = step (romc == 0x05) refl
  where
    step : (store : Bool) → (romc == 0x05) ≡ store →
        length (after_step (plain_step romc byte clocks) v).bytes ≡ length v.bytes
    step true is = subst (λ code. length (after_step (plain_step code byte clocks) v).bytes ≡ length v.bytes)
        (sym (eqb-true romc 0x05 is)) (length-stored byte clocks v)
    step false is = ap length (bytes-after romc byte clocks v is)

-- so a chip has 256 for each page
pub filled-after : (romc byte clocks : ℕ) (v : ChipView) → IsFilled v →
    IsFilled (after_step (plain_step romc byte clocks) v)
filled-after romc byte clocks v filled =
    length-after romc byte clocks v ∙ filled ∙ ap (λ pages. length pages * 256) (sym (pages-after romc byte clocks v))

-- ---- the step on a rack

-- the seats of a list of chips stay
pub seats-after : (romc byte clocks : ℕ) (vs : List ChipView) →
    map seat_of (map (after_step (plain_step romc byte clocks)) vs) ≡ map seat_of vs
seats-after romc byte clocks [] = refl
seats-after romc byte clocks (v ∷ vs) = ap₂ (λ s ss. s ∷ ss) (seat_of-after romc byte clocks v)
    (seats-after romc byte clocks vs)

-- a chip after a step comes of the chip at its place
pub comes_after : (romc byte clocks : ℕ) (vs : List ChipView) (place : ℕ) (v w : ChipView) →
    slice_get vs place ≡ Some v →
    slice_get (map (after_step (plain_step romc byte clocks)) vs) place ≡ Some w →
    after_step (plain_step romc byte clocks) v ≡ w
comes_after romc byte clocks vs place v w lies lies_after =
    let step : ChipView → ChipView = after_step (plain_step romc byte clocks) in
    let both : Some (step v) ≡ Some w = ap (option_map step) (sym lies) ∙ sym (slice_get-map step vs place)
    ∙ lies_after in
    cc

-- the views of a rack that heard a step
pub views_settled : (romc : ℕ) (long : Bool) (byte : ℕ) (olds news : List ChipState) →
    RackSettles romc long None byte olds news →
    map (λ s. s.view) news ≡ map (after_step (plain_step romc byte (step_clocks long))) (map (λ s. s.view) olds)
views_settled romc long byte olds news all =
    zip_mapped (SettlesStep romc long None byte) (λ (s : ChipState). s.view) (λ (s : ChipState). s.view)
    (after_step (plain_step romc byte (step_clocks long))) (λ k old new one. one.view) 0 olds news all

-- the chips from a socket on
stays_from : (n : ℕ) (olds news : List ChipState) → NumberedZip Stays n olds news → news ≡ olds
stays_from n [] [] all = refl
stays_from n [] (new ∷ news) all = absurd all
stays_from n (old ∷ olds) [] all = absurd all
stays_from n (old ∷ olds) (new ∷ news) all = ap₂ (λ s ss. s ∷ ss) all.0 (stays_from (n + 1) olds news all.1)

-- a rack that heard nothing
pub rack_stays_same : (olds news : List ChipState) → RackStays olds news → news ≡ olds
rack_stays_same olds news all = stays_from 0 olds news all
