-- After power-on, the events of frame 0 and reset a run by a script is at a free start.
use Rattle.std.proofs.Common.{◌≡◌, ℕ, zero, suc, ◌+◌, ◌<◌, ◌≤◌, List, [], ◌∷◌, map, replicate, refl, ap, ◌∙◌, arith}
use Rattle.std.specs.Prelude.{Option, Some, None, slice_get, Bool, true, false, if◌then◌else◌, ◌==◌}
use Rattle.std.specs.List.{AllByRecursion, enumerate_from, range_with_len}
use Rattle.std.proofs.lemmas.List.FromFn.{get_or-map-range_with_len}
use Rattle.f8_spec.specs.ChipState.{ChipView}
use Rattle.f8_spec.specs.Powers.{ArePowers}
use Rattle.f8_spec.specs.declared.chips.PowerOn.{PowerOn}
use Rattle.f8_spec.specs.BusArbitration.{Seat, seat_of}
use Rattle.console_spec.specs.AddressSpace.{byte_at}
use Rattle.console_spec.specs.FlatMemory.{sort_of, owner_of, fixed_byte, fixed_byte_by}
use Rattle.console_spec.specs.FlatMemory.{fill_of_owner, first_byte, first_byte_by, first_memory}
use Rattle.console_spec.specs.Powering.{fill_in, start_in}
use Rattle.console_spec.specs.CounterCopies.{Copy, reset_copy}
use Rattle.console_spec.specs.Run.{Position, seats_of, pulse_in, power_position, position_after_reset}
use Rattle.console_spec.specs.Scripts.{Script, events_at}
use Rattle.console_spec.specs.Telling.{with_event, with_events, begun}
use Rattle.console_spec.specs.declared.At.{At}
use Rattle.console_spec.specs.declared.Event.{Event}
use Rattle.console_spec.specs.declared.Event.TheVariants.{Keys, Pulse}
use Rattle.console_spec.specs.declared.Sort.{Sort}
use Rattle.console_spec.specs.declared.Sort.TheVariants.{Rom, Ram, Void, Nothing, Shared}
use Rattle.console_spec.specs.FreeRuns.{AreBytes, AreAddresses, IsFreeStart, HasByte}
use Rattle.abs_step.specs.ScriptRuns.{IsScriptFor}
use Rattle.console_spec.proofs.PowerLaws.{fill_small, start_small}
use Rattle.abs_step.proofs.Ranges.{set_bytes}

-- ---- memory at power-on

first_fixed : (s : Sort) (fill byte : ℕ) (o : Option ℕ) → fixed_byte_by s o ≡ Some byte → first_byte_by s fill (fixed_byte_by s o) ≡ byte
first_fixed Rom fill byte o e = rw e refl
first_fixed Ram fill byte o e = absurd (cc)
first_fixed Void fill byte o e = rw e refl
first_fixed Nothing fill byte o e = absurd (cc)
first_fixed Shared fill byte o e = absurd (cc)

first_small : (s : Sort) (fill : ℕ) (o : Option ℕ) → fill < 256 → ((byte : ℕ) → o ≡ Some byte → byte < 256) → first_byte_by s fill o < 256
first_small Ram fill o small each = small
first_small Rom fill (Some byte) small each = each byte refl
first_small Void fill (Some byte) small each = each byte refl
first_small Nothing fill (Some byte) small each = each byte refl
first_small Shared fill (Some byte) small each = each byte refl
first_small Rom fill None small each = omega arith
first_small Void fill None small each = omega arith
first_small Nothing fill None small each = omega arith
first_small Shared fill None small each = omega arith

owner_small : (fill : ℕ → ℕ) (owner : Option ℕ) → ((socket : ℕ) → fill socket < 256) → fill_of_owner fill owner < 256
owner_small fill None each = omega arith
owner_small fill (Some socket) each = each socket

all_small : (f : ℕ → ℕ) (a n at : ℕ) → ((x : ℕ) → a ≤ x → x < a + n → f x < 256) → byte_at (map f (range_with_len a n)) at < 256
all_small f a zero at each = omega arith
all_small f a (suc n) zero each = each a (omega arith) (omega arith)
all_small f a (suc n) (suc at) each = all_small f (a + 1) n at (λ x from small. each x (omega (arith, from)) (omega (arith, small)))

memory_small : (vs : List ChipView) (fill : ℕ → ℕ) (at : ℕ) → ((x : ℕ) → x < 65536 → first_byte vs fill x < 256) →
    byte_at (first_memory vs fill) at < 256
unfolding first_memory
memory_small vs fill at each = all_small (first_byte vs fill) 0 65536 at (λ x from small. each x (omega (arith, small)))

memory_fixed : (vs : List ChipView) (fill : ℕ → ℕ) (at : ℕ) → at < 65536 → byte_at (first_memory vs fill) at ≡ first_byte vs fill at
unfolding first_memory
memory_fixed vs fill at small = get_or-map-range_with_len (first_byte vs fill) 0 65536 at at 255 small (omega arith)

-- ---- copies at power-on

module _ (start : ℕ → ℕ) where
  copies_seats : (n : ℕ) (ss : List Seat) → seats_of (map (reset_copy start) (enumerate_from n ss)) ≡ ss
  copies_seats n [] = refl
  copies_seats n (s ∷ ss) = ap (λ (rest : List Seat). s ∷ rest) (copies_seats (n + 1) ss)

  copies_begin : (n : ℕ) (ss : List Seat) → AllByRecursion (λ (c : Copy). c.flow.p ≡ 0) (map (reset_copy start) (enumerate_from n ss))
  copies_begin n [] = tt
  copies_begin n (s ∷ ss) = (refl, copies_begin (n + 1) ss)

  copies_small : (n : ℕ) (ss : List Seat) → ((socket : ℕ) → start socket < 65536) →
      AllByRecursion (λ (c : Copy). AreAddresses c.flow) (map (reset_copy start) (enumerate_from n ss))
  copies_small n [] each = tt
  copies_small n (s ∷ ss) each = (record { p = omega arith; p1 = each n; d0 = each n; d1 = each n }, copies_small (n + 1) ss each)

same_bytes : (n byte : ℕ) → byte < 256 → AreBytes (replicate n byte)
same_bytes zero byte small place = omega arith
same_bytes (suc n) byte small zero = small
same_bytes (suc n) byte small (suc place) = same_bytes n byte small place

module _ (bytes : ℕ → Option ℕ) (vs : List ChipView) (chain : List ℕ) (powers : List PowerOn) (script : Script) (are : ArePowers powers)
    (for : IsScriptFor bytes vs script) where
  abbrev fills : ℕ → ℕ
  fills = fill_in script.power chain powers

  abbrev starts : ℕ → ℕ
  starts = start_in script.power chain powers

  owned : (at : ℕ) → fill_of_owner fills (owner_of (map seat_of vs) at) < 256
  owned at = owner_small fills (owner_of (map seat_of vs) at) (fill_small script.power chain powers for.power are)

  power_free : IsFreeStart bytes (map seat_of vs) (power_position vs chain powers script.power)
  power_free = record {
    counters = refl;
    status = refl;
    writes = refl;
    acknowledged = refl;
    chips = copies_seats starts 0 (map seat_of vs);
    fixed = λ at byte small is. memory_fixed vs fills at small
        ∙ first_fixed (sort_of (map seat_of vs) at) (fill_of_owner fills (owner_of (map seat_of vs) at)) byte _
        (for.fixed at byte small is);
    copies = copies_begin starts 0 (map seat_of vs);
    range = record {
      registers = record {
        accumulator = for.power;
        isar = omega arith;
        size = refl;
        scratchpad = same_bytes 64 script.power for.power;
      };
      keys = same_bytes 256 0 (omega arith);
      writes = tt;
      memory = λ at. memory_small vs fills at
          (λ x small. first_small (sort_of (map seat_of vs) x) (fill_of_owner fills (owner_of (map seat_of vs) x)) (fixed_byte vs x)
          (owned x)
          (λ byte is. for.held x byte small is));
      counters = record { p = omega arith; p1 = omega arith; d0 = omega arith; d1 = omega arith };
      copies = copies_small starts 0 (map seat_of vs) (start_small script.power chain powers are);
    };
  }

-- ---- events and reset

pulse_free : (bytes : ℕ → Option ℕ) (seats : List Seat) (o : Option ℕ) (here : Position) → IsFreeStart bytes seats here →
    IsFreeStart bytes seats (pulse_in o here)
pulse_free bytes seats None here h = h
pulse_free bytes seats (Some socket) here h = record {
  counters = h.counters;
  status = h.status;
  writes = h.writes;
  acknowledged = h.acknowledged;
  chips = h.chips;
  fixed = h.fixed;
  copies = h.copies;
  range = record {
    registers = h.range.registers;
    keys = h.range.keys;
    writes = h.range.writes;
    memory = h.range.memory;
    counters = h.range.counters;
    copies = h.range.copies;
  };
}

event_free : (bytes : ℕ → Option ℕ) (seats : List Seat) (e : Event) (here : Position) → HasByte e → IsFreeStart bytes seats here →
    IsFreeStart bytes seats (with_event e here)
event_free bytes seats (Keys port byte) here small h = record {
  counters = h.counters;
  status = h.status;
  writes = h.writes;
  acknowledged = h.acknowledged;
  chips = h.chips;
  fixed = h.fixed;
  copies = h.copies;
  range = record {
    registers = h.range.registers;
    keys = set_bytes here.flat.state.keys port byte h.range.keys small;
    writes = h.range.writes;
    memory = h.range.memory;
    counters = h.range.counters;
    copies = h.range.copies;
  };
}
event_free bytes seats (Pulse chip) here small h = pulse_free bytes seats (slice_get here.chain chip) here h

events_free : (bytes : ℕ → Option ℕ) (seats : List Seat) (es : List Event) (here : Position) → AllByRecursion HasByte es →
    IsFreeStart bytes seats here → IsFreeStart bytes seats (with_events es here)
events_free bytes seats [] here small h = h
events_free bytes seats (e ∷ es) here small h =
    events_free bytes seats es (with_event e here) small.1 (event_free bytes seats e here small.0 h)

-- the events of a frame have bytes where all have
pub events_small : (frame : ℕ) (events : List At) → AllByRecursion (λ (a : At). HasByte a.event) events →
    AllByRecursion HasByte (events_at frame events)
events_small frame [] h = tt
events_small frame (a ∷ later) h = by (a.frame == frame) (events_small frame later h.1)
  where
    by : (b : Bool) → AllByRecursion HasByte (events_at frame later) →
        AllByRecursion HasByte (if b then a.event ∷ events_at frame later else events_at frame later)
    by true rest = (h.0, rest)
    by false rest = rest

pub begun_free : (bytes : ℕ → Option ℕ) (vs : List ChipView) (chain : List ℕ) (powers : List PowerOn) (script : Script) → ArePowers powers →
    IsScriptFor bytes vs script → IsFreeStart bytes (map seat_of vs) (begun vs chain powers script)
begun_free bytes vs chain powers script are for =
    events_free bytes (map seat_of vs) (events_at 0 script.events) (power_position vs chain powers script.power)
    (events_small 0 script.events for.events)
    (power_free bytes vs chain powers script are for)

pub reset_free : (bytes : ℕ → Option ℕ) (seats : List Seat) (here : Position) → IsFreeStart bytes seats here →
    IsFreeStart bytes seats (position_after_reset here)
reset_free bytes seats here h = record {
  counters = h.counters;
  status = h.status;
  writes = h.writes;
  acknowledged = h.acknowledged;
  chips = h.chips;
  fixed = h.fixed;
  copies = h.copies;
  range = record {
    registers = h.range.registers;
    keys = h.range.keys;
    writes = h.range.writes;
    memory = h.range.memory;
    counters = h.range.counters;
    copies = h.range.copies;
  };
}
