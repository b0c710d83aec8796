-- Requests worked out by hand, computed from the definitions.
use Rattle.std.proofs.Common.{◌≡◌, ℕ, true, false, List, [], ◌∷◌, refl}
use Rattle.f8_spec.specs.ShiftTimer.{steps_to_expiry}
use Rattle.console_spec.specs.InterruptRequests.{History, has_request}
use Rattle.console_spec.specs.declared.PortWrite.{PortWrite}

-- a chip in socket 0 with ports 4 to 7: control 3 at 30 Φ, and its timer loaded with 7F at 56 Φ
abbrev two_writes : List PortWrite
two_writes = record { phi = 60; port = 7; byte = 0x7F } ∷ record { phi = 34; port = 6; byte = 3 } ∷ []

abbrev unacknowledged : History
unacknowledged = record { writes = two_writes; acknowledged = []; pulses = [] }

-- 31 Φ after the load the timer expires
none_yet : has_request 4 0 unacknowledged 86 ≡ false
unfolding steps_to_expiry
none_yet = refl

at_the_expiry : has_request 4 0 unacknowledged 87 ≡ true
unfolding steps_to_expiry
at_the_expiry = refl

stays_latched : has_request 4 0 unacknowledged 7000 ≡ true
unfolding steps_to_expiry
stays_latched = refl

-- another acknowledgement than its own ends nothing
abbrev acknowledged_at : ℕ → ℕ → History
acknowledged_at chip phi = record unacknowledged { acknowledged = record { chip = chip; phi = phi } ∷ [] }

of_another_chip : has_request 4 0 (acknowledged_at 1 118) 118 ≡ true
unfolding steps_to_expiry
of_another_chip = refl

-- from its own on, the next expiry counts, 255 steps after the first
ended : has_request 4 0 (acknowledged_at 0 118) 118 ≡ false
unfolding steps_to_expiry
ended = refl

before_the_second : has_request 4 0 (acknowledged_at 0 118) 7991 ≡ false
unfolding steps_to_expiry
before_the_second = refl

at_the_second : has_request 4 0 (acknowledged_at 0 118) 7992 ≡ true
unfolding steps_to_expiry
at_the_second = refl

-- a load after the expiry ends no request, and FF never expires
abbrev loaded_at_96 : List PortWrite → History
loaded_at_96 before = record unacknowledged { writes = record { phi = 100; port = 7; byte = 0xFF } ∷ before }

load_ends_none : has_request 4 0 (loaded_at_96 two_writes) 200 ≡ true
unfolding steps_to_expiry
load_ends_none = refl

-- 3 written over 3 ends it
control_ends : has_request 4 0 (loaded_at_96 (record { phi = 96; port = 6; byte = 3 } ∷ two_writes)) 20000 ≡ false
unfolding steps_to_expiry
control_ends = refl

-- a pulse counts under control 1 where it comes after that was written
abbrev pulse_at : ℕ → ℕ → History
pulse_at control phi = record {
  writes = record { phi = 34; port = 6; byte = control } ∷ [];
  acknowledged = [];
  pulses = record { chip = 0; phi = phi } ∷ [];
}

pulse_counts : has_request 4 0 (pulse_at 1 34) 34 ≡ true
pulse_counts = refl

pulse_too_early : has_request 4 0 (pulse_at 1 30) 34 ≡ false
pulse_too_early = refl

pulse_not_let_in : has_request 4 0 (pulse_at 3 34) 34 ≡ false
pulse_not_let_in = refl

-- the low two bits of control count, and the others don't: 07 admits expiries, FD pulses, and 00 and 02 neither
abbrev expired_under : ℕ → History
expired_under control = record {
  writes = record { phi = 60; port = 7; byte = 0x7F } ∷ record { phi = 34; port = 6; byte = control } ∷ [];
  acknowledged = [];
  pulses = record { chip = 0; phi = 87 } ∷ [];
}

expiry_under_07 : has_request 4 0 (expired_under 0x07) 87 ≡ true
unfolding steps_to_expiry
expiry_under_07 = refl

pulse_under_FD : has_request 4 0 (expired_under 0xFD) 87 ≡ true
pulse_under_FD = refl

nothing_under_00 : has_request 4 0 (expired_under 0x00) 87 ≡ false
nothing_under_00 = refl

nothing_under_02 : has_request 4 0 (expired_under 0x02) 87 ≡ false
nothing_under_02 = refl

-- an expiry at 87 Φ, and at the same time a control write, an acknowledgement or another load: the first two end it, the last doesn't
ended_by_control_at_once : has_request 4 0 (record unacknowledged { writes = record { phi = 91; port = 6; byte = 3 } ∷ two_writes }) 7000 ≡ false
unfolding steps_to_expiry
ended_by_control_at_once = refl

ended_by_acknowledgement_at_once : has_request 4 0 (acknowledged_at 0 87) 7000 ≡ false
unfolding steps_to_expiry
ended_by_acknowledgement_at_once = refl

kept_by_load_at_once : has_request 4 0 (record unacknowledged { writes = record { phi = 91; port = 7; byte = 0xFF } ∷ two_writes }) 7000 ≡ true
unfolding steps_to_expiry
kept_by_load_at_once = refl
