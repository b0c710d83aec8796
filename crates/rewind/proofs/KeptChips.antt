-- What happens to a chip leaves its seat, and leaves it whole: bus steps, power-on, key bytes and pulses.
use Rattle.std.proofs.Common.{◌≡◌, ℕ, ◌+◌, ◌*◌, ◌/◌, ◌%◌, ◌<◌, Bool, true, false, List, [], ◌∷◌, refl, ap, ◌∙◌}
use Rattle.std.proofs.Common.{subst, sym}
use Rattle.std.specs.Prelude.{◌==◌, ◌&&◌, not, if◌then◌else◌, Option, Some, None, option_map, option_and_then}
use Rattle.f8_spec.specs.BusArbitration.{seat_of}
use Rattle.f8_spec.specs.ChipState.{ChipView, ChipState, HeardStep, IsWhole, PortRole, DataPort, VectorHigh, VectorLow}
use Rattle.f8_spec.specs.ChipState.{ControlPort, TimerPort, after_step, admits_pulses, bytes_with}
use Rattle.f8_spec.specs.ChipState.{bytes_with_at, data_port, effect, has_ram_at, keyed_at, offset_from}
use Rattle.f8_spec.specs.ChipState.{place_of, port_role, port_written, port_written_if, powered, pulsed, role_at, stored}
use Rattle.f8_spec.specs.ChipState.{timer_passed}
use Rattle.f8_machine.proofs.FirstViews.{length-filled_bytes, seat_of-powered}
use Rattle.f8_machine.proofs.Slots.{FitsRole, length-bytes_with, role_fits}
use Rattle.f8_machine.specs.HeardSteps.{HaveBytes}
use Rattle.f8_machine.specs.Keying.{KeysInSocket}
use Rattle.f8_machine.specs.RequestsHeld.{PulsesIf, PulsesInSocket}
use Rattle.f8_machine.specs.Rounds.{Runs, PowersInSocket, after_steps, heard_in}
use Rattle.f8_machine.specs.declared.heard.Heard.{Heard}
use Rattle.rewind.proofs.KeptBytes.{AreBytes, set_bytes, filled_are_bytes}

-- the seat stays, and a chip that was whole is whole
pub record Keeps (old new : ChipView) : Type 0 where
  pub seat : seat_of new ≡ seat_of old
  pub whole : IsWhole old → IsWhole new

keeps_then : (a b c : ChipView) → Keeps a b → Keeps b c → Keeps a c
keeps_then a b c first second = record {
  seat = second.seat ∙ first.seat;
  whole = λ whole. second.whole (first.whole whole);
}

keeps_all : (v : ChipView) → Keeps v v
keeps_all v = record { seat = refl; whole = λ whole. whole }

-- ---- a bus step

written_keeps : (role : PortRole) (byte : ℕ) (v : ChipView) → FitsRole v.kind role → Keeps v (port_written role byte v)
written_keeps (DataPort place) byte v fits =
    record { seat = refl; whole = λ whole. record { filled = whole.filled; bytes = whole.bytes } }
written_keeps VectorHigh byte v fits =
    record { seat = rw fits refl; whole = λ whole. record { filled = whole.filled; bytes = whole.bytes } }
written_keeps VectorLow byte v fits =
    record { seat = rw fits refl; whole = λ whole. record { filled = whole.filled; bytes = whole.bytes } }
written_keeps ControlPort byte v fits =
    record { seat = refl; whole = λ whole. record { filled = whole.filled; bytes = whole.bytes } }
written_keeps TimerPort byte v fits =
    record { seat = refl; whole = λ whole. record { filled = whole.filled; bytes = whole.bytes } }

written_if_keeps : (offset : Option ℕ) (byte : ℕ) (v : ChipView) →
    Keeps v (port_written_if (option_map (role_at v.kind) offset) byte v)
written_if_keeps None byte v = keeps_all v
written_if_keeps (Some offset) byte v = written_keeps (role_at v.kind offset) byte v (role_fits v.kind offset)

with_at_bytes : (bytes : List ℕ) (at byte : ℕ) (place : Option ℕ) → byte < 256 → AreBytes bytes →
    AreBytes (bytes_with_at bytes at byte place)
with_at_bytes bytes at byte None small are = are
with_at_bytes bytes at byte (Some place) small are = set_bytes bytes (place * 256 + at % 256) byte small are

stored_keeps : (at byte : ℕ) (v : ChipView) → byte < 256 → Keeps v (stored at byte v)
stored_keeps at byte v small = step (has_ram_at v at)
  where
    step : (ram : Bool) → Keeps v (if ram then record v { bytes = bytes_with v.pages v.bytes at byte } else v)
    step true = record {
      seat = refl;
      whole = λ whole. record {
        filled = length-bytes_with v.pages v.bytes at byte ∙ whole.filled;
        bytes = with_at_bytes v.bytes at byte (place_of v.pages (at / 256)) small whole.bytes;
      };
    }
    step false = keeps_all v

requesting_keeps : (request : Bool) (v : ChipView) → Keeps v (record v { request = request })
requesting_keeps request v =
    record { seat = refl; whole = λ whole. record { filled = whole.filled; bytes = whole.bytes } }

effect_keeps : (romc byte : ℕ) (first : Bool) (v : ChipView) → byte < 256 → Keeps v (effect romc byte first v)
effect_keeps romc byte first v small = step (romc == 0x05) (romc == 0x13) (romc == 0x1A)
  where
    step : (store ends write : Bool) → Keeps v (
        if store then stored v.counters.dc0 byte v else if ends then record v { request = not first && v.request } else
        if write then port_written_if (port_role v v.last) byte v else v)
    step true ends write = stored_keeps v.counters.dc0 byte v small
    step false true write = requesting_keeps (not first && v.request) v
    step false false true = written_if_keeps (option_and_then (offset_from v.last) v.ports) byte v
    step false false false = keeps_all v

timed_keeps : (clocks : ℕ) (v : ChipView) → Keeps v (timer_passed clocks v)
timed_keeps clocks v =
    record { seat = refl; whole = λ whole. record { filled = whole.filled; bytes = whole.bytes } }

step_keeps : (step : HeardStep) (v : ChipView) → step.byte < 256 → Keeps v (after_step step v)
step_keeps step v small =
    let timed : ChipView = timer_passed step.clocks v in
    let kept : Keeps v (effect step.romc step.byte step.first timed) =
    keeps_then v timed (effect step.romc step.byte step.first timed) (timed_keeps step.clocks v)
    (effect_keeps step.romc step.byte step.first timed small) in
    record {
      seat = kept.seat;
      whole = λ whole. record { filled = (kept.whole whole).filled; bytes = (kept.whole whole).bytes };
    }

steps_keep : (socket : ℕ) (steps : List Heard) (v : ChipView) → HaveBytes steps → Keeps v (after_steps socket steps v)
steps_keep socket [] v bytes = keeps_all v
steps_keep socket (h ∷ steps) v bytes =
    let next : ChipView = after_step (heard_in socket h) v in
    keeps_then v next (after_steps socket steps next) (step_keeps (heard_in socket h) v bytes.0)
    (steps_keep socket steps next bytes.1)

-- ---- what comes to a chip in a socket

keeps_as : (old new made : ChipView) → new ≡ made → Keeps old made → Keeps old new
keeps_as old new made is keeps = subst (λ v. Keeps old v) (sym is) keeps

pub runs_keeps : (steps : List Heard) → HaveBytes steps → (socket : ℕ) (old new : ChipState) →
    Runs steps socket old new → Keeps old.view new.view
runs_keeps steps bytes socket old new ran =
    keeps_as old.view new.view (after_steps socket steps old.view) ran.view (steps_keep socket steps old.view bytes)

pub powers_keeps : (fill start : ℕ → ℕ) → ((socket : ℕ) → fill socket < 256) → (socket : ℕ) (old new : ChipState) →
    PowersInSocket fill start socket old new → Keeps old.view new.view
powers_keeps fill start small socket old new powers =
    let v : ChipView = old.view in
    keeps_as v new.view (powered (fill socket) (start socket) v) powers.view (record {
      seat = seat_of-powered (fill socket) (start socket) v;
      whole = λ whole. record {
        filled = length-filled_bytes (fill socket) v.pages v.bytes whole.filled;
        bytes = filled_are_bytes (fill socket) v.pages v.bytes (small socket) whole.bytes;
      };
    })

keyed_keeps : (place : Option ℕ) (byte : ℕ) (v : ChipView) → Keeps v (keyed_at place byte v)
keyed_keeps None byte v = keeps_all v
keyed_keeps (Some place) byte v =
    record { seat = refl; whole = λ whole. record { filled = whole.filled; bytes = whole.bytes } }

pub keys_keeps : (port byte socket : ℕ) (old new : ChipState) → KeysInSocket port byte socket old new →
    Keeps old.view new.view
keys_keeps port byte socket old new keys =
    keeps_as old.view new.view (keyed_at (data_port old.view port) byte old.view) keys.view
    (keyed_keeps (data_port old.view port) byte old.view)

pulsed_keeps : (v : ChipView) → Keeps v (pulsed v)
pulsed_keeps v = step (admits_pulses v.control)
  where
    step : (admits : Bool) → Keeps v (if admits then record v { request = true } else v)
    step true = requesting_keeps true v
    step false = keeps_all v

pub pulses_keeps : (chosen socket : ℕ) (old new : ChipState) → PulsesInSocket chosen socket old new →
    Keeps old.view new.view
pulses_keeps chosen socket old new pulses = step (chosen == socket) pulses
  where
    step : (here : Bool) → PulsesIf here old new → Keeps old.view new.view
    step true takes = keeps_as old.view new.view (pulsed old.view) takes.view (pulsed_keeps old.view)
    step false same = keeps_as old.view new.view old.view (ap (λ (s : ChipState). s.view) same) (keeps_all old.view)
