-- Power-on makes of a chip what it made of it before a bus step, a key byte, a pulse or another power-on.
use Rattle.std.proofs.Common.{◌≡◌, ℕ, ◌*◌, Bool, true, false, List, length, refl, sym, ap, ◌∙◌}
use Rattle.std.specs.Prelude.{◌==◌, ◌&&◌, not, if◌then◌else◌, Option, Some, None, option_map, option_and_then}
use Rattle.f8_spec.specs.BusCodes.{count_at}
use Rattle.f8_spec.specs.BusArbitration.{Seat, seat_of}
use Rattle.f8_spec.specs.ChipState.{ChipView, HeardStep, IsFilled, PortRole, DataPort, VectorHigh, VectorLow, ControlPort, TimerPort}
use Rattle.f8_spec.specs.ChipState.{admits_pulses, after_step, bytes_with, clear_data_ports, data_port, effect, filled_bytes}
use Rattle.f8_spec.specs.ChipState.{has_counters, has_ram_at, keyed, keyed_at, offset_from, port_role, port_written}
use Rattle.f8_spec.specs.ChipState.{port_written_if, powered, pulsed, role_at, stored, timer_passed}
use Rattle.f8_machine.proofs.FirstViews.{length-filled_bytes, seat_of-powered}
use Rattle.f8_machine.proofs.Slots.{FitsRole, length-bytes_with, role_fits}
use Rattle.rewind.specs.Forgetting.{ChipsForget, IsForgotten}
use Rattle.rewind.proofs.FilledAgain.{filled_again, filled_stored}

-- The seat stays, and the bytes are as many and differ in RAM alone.
record Lives (old new : ChipView) : Type 0 where
  seat : seat_of new ≡ seat_of old
  size : length new.bytes ≡ length old.bytes
  bytes : (fill : ℕ) → filled_bytes fill old.pages new.bytes ≡ filled_bytes fill old.pages old.bytes

-- what power-on makes of a chip goes by its seat and by its bytes
made : ℕ → Seat → List ℕ → ChipView
made start s bytes = record {
  kind = s.kind;
  pages = s.pages;
  bytes = bytes;
  counters = if has_counters s.kind then count_at start else count_at 0;
  latches = clear_data_ports s.kind;
  key_bytes = clear_data_ports s.kind;
  control = 0;
  timer = 255;
  phase = 0;
  vector = s.vector;
  ports = s.ports;
  wired = s.wired;
  request = false;
  last = 0;
}

powered_made : (fill start : ℕ) (v : ChipView) →
    powered fill start v ≡ made start (seat_of v) (filled_bytes fill (seat_of v).pages v.bytes)
unfolding made
powered_made fill start v = refl

forgotten : (old new : ChipView) → Lives old new → IsForgotten old new
forgotten old new lives = record {
  alike = λ fill start. powered_made fill start new
      ∙ ap (λ (s : Seat). made start s (filled_bytes fill s.pages new.bytes)) lives.seat
      ∙ ap (made start (seat_of old)) (lives.bytes fill)
      ∙ sym (powered_made fill start old);
  filled = λ filled. lives.size ∙ filled ∙ ap (λ (s : Seat). length s.pages * 256) (sym lives.seat);
}

lives_then : (a b c : ChipView) → Lives a b → Lives b c → Lives a c
lives_then a b c first second = record {
  seat = second.seat ∙ first.seat;
  size = second.size ∙ first.size;
  bytes = λ fill. ap (λ (s : Seat). filled_bytes fill s.pages c.bytes) (sym first.seat) ∙ second.bytes fill
      ∙ ap (λ (s : Seat). filled_bytes fill s.pages b.bytes) first.seat ∙ first.bytes fill;
}

lives_on : (v : ChipView) → Lives v v
lives_on v = record { seat = refl; size = refl; bytes = λ fill. refl }

-- ---- a bus step

written_lives : (role : PortRole) (byte : ℕ) (v : ChipView) → FitsRole v.kind role → Lives v (port_written role byte v)
written_lives (DataPort place) byte v fits = record { seat = refl; size = refl; bytes = λ fill. refl }
written_lives VectorHigh byte v fits = record { seat = rw fits refl; size = refl; bytes = λ fill. refl }
written_lives VectorLow byte v fits = record { seat = rw fits refl; size = refl; bytes = λ fill. refl }
written_lives ControlPort byte v fits = record { seat = refl; size = refl; bytes = λ fill. refl }
written_lives TimerPort byte v fits = record { seat = refl; size = refl; bytes = λ fill. refl }

written_if_lives : (offset : Option ℕ) (byte : ℕ) (v : ChipView) →
    Lives v (port_written_if (option_map (role_at v.kind) offset) byte v)
written_if_lives None byte v = lives_on v
written_if_lives (Some offset) byte v = written_lives (role_at v.kind offset) byte v (role_fits v.kind offset)

stored_lives : (at byte : ℕ) (v : ChipView) → Lives v (stored at byte v)
stored_lives at byte v = step (has_ram_at v at) refl
  where
    step : (ram : Bool) → has_ram_at v at ≡ ram → Lives v (if ram then record v { bytes = bytes_with v.pages v.bytes at byte } else v)
    step true is = record {
      seat = refl;
      size = length-bytes_with v.pages v.bytes at byte;
      bytes = λ fill. filled_stored fill v.pages v.bytes at byte is;
    }
    step false is = lives_on v

asking_lives : (request : Bool) (v : ChipView) → Lives v (record v { request = request })
asking_lives request v = record { seat = refl; size = refl; bytes = λ fill. refl }

effect_lives : (romc byte : ℕ) (first : Bool) (v : ChipView) → Lives v (effect romc byte first v)
effect_lives romc byte first v = step (romc == 0x05) (romc == 0x13) (romc == 0x1A)
  where
    step : (store ends write : Bool) → Lives v (
        if store then stored v.counters.dc0 byte v else if ends then record v { request = not first && v.request } else
        if write then port_written_if (port_role v v.last) byte v else v)
    step true ends write = stored_lives v.counters.dc0 byte v
    step false true write = asking_lives (not first && v.request) v
    step false false true = written_if_lives (option_and_then (offset_from v.last) v.ports) byte v
    step false false false = lives_on v

timed_lives : (clocks : ℕ) (v : ChipView) → Lives v (timer_passed clocks v)
timed_lives clocks v = record { seat = refl; size = refl; bytes = λ fill. refl }

step_lives : (step : HeardStep) (v : ChipView) → Lives v (after_step step v)
step_lives step v =
    let timed : ChipView = timer_passed step.clocks v in
    let lives : Lives v (effect step.romc step.byte step.first timed) =
    lives_then v timed (effect step.romc step.byte step.first timed) (timed_lives step.clocks v)
    (effect_lives step.romc step.byte step.first timed) in
    record { seat = lives.seat; size = lives.size; bytes = λ fill. lives.bytes fill }

-- ---- what comes from outside

keyed_lives : (place : Option ℕ) (byte : ℕ) (v : ChipView) → Lives v (keyed_at place byte v)
keyed_lives None byte v = lives_on v
keyed_lives (Some place) byte v = record { seat = refl; size = refl; bytes = λ fill. refl }

pulsed_lives : (v : ChipView) → Lives v (pulsed v)
pulsed_lives v = step (admits_pulses v.control)
  where
    step : (admits : Bool) → Lives v (if admits then record v { request = true } else v)
    step true = asking_lives true v
    step false = lives_on v

powered_lives : (fill start : ℕ) (v : ChipView) → IsFilled v → Lives v (powered fill start v)
powered_lives fill start v filled = record {
  seat = seat_of-powered fill start v;
  size = length-filled_bytes fill v.pages v.bytes filled ∙ sym filled;
  bytes = λ again. filled_again again fill v.pages v.bytes filled;
}

pub chips_forget : ChipsForget
chips_forget = record {
  step = λ step v. forgotten v (after_step step v) (step_lives step v);
  keys = λ port byte v. forgotten v (keyed port byte v) (keyed_lives (data_port v port) byte v);
  pulse = λ v. forgotten v (pulsed v) (pulsed_lives v);
  power = λ fill start v filled. forgotten v (powered fill start v) (powered_lives fill start v filled);
}
