-- What the chips of worked runs are after the bus steps of the record, with their timers and requests, computed from the definitions.
use Rattle.std.proofs.Common.{◌≡◌, ℕ, Bool, true, false, List, [], ◌∷◌, ◌++◌, map, replicate, refl}
use Rattle.std.specs.Prelude.{take}
use Rattle.f8_spec.specs.ChipState.{ChipView, powered, pulsed}
use Rattle.f8_spec.specs.declared.instructions.Op.TheVariants.{Bf}
use Rattle.console_spec.specs.BusTrace.{TracedStep}
use Rattle.console_spec.specs.Powering.{power_start}
use Rattle.console_spec.specs.Run.{Position, with_pulse_at, instruction_course}
use Rattle.console_spec.proofs.Played.{played, played_record, running}
use Rattle.console_spec.proofs.WorkedRacks.{psu}
use Rattle.f8_machine.specs.Requests.{Device, device_of}
use Rattle.f8_machine.specs.Rounds.{after_steps, heard_of}

abbrev wired_psu : ℕ → ℕ → ℕ → List ℕ → ChipView
wired_psu base ports vector bytes = record (psu base ports bytes) { wired = true; vector = vector }

-- the chip in a socket after power-on with 00 and these steps
abbrev lived : ℕ → List TracedStep → ChipView → ChipView
lived socket steps v = after_steps socket (map heard_of steps) (powered 0 (power_start 0 socket) v)

abbrev device : ℕ → ℕ → ℕ → Bool → Device
device control timer phase request = record { control = control; timer = timer; phase = phase; request = request }

-- ---- Control 3, the timer loaded with 7F, NOPs, and an interrupt behind EI and a NOP.

abbrev timer_chip : ChipView
timer_chip = wired_psu 0 4 0x180 (0x73 ∷ 0xB6 ∷ 0x20 ∷ 0x7F ∷ 0xB7 ∷ replicate 7 0x2B ++ 0x1B ∷ 0x2B ∷ [])

-- after so many bus steps, those of reset counted
abbrev after : ℕ → ChipView
after n = lived 0 (take n (played_record (timer_chip ∷ []) 0 13)) timer_chip

-- at 30 Φ the control port has its byte, and at 56 the timer is loaded
controlled : device_of (after 6) ≡ device 3 0xFF 30 false
unfolding running
controlled = refl

loaded : device_of (after 11) ≡ device 3 0x7F 0 false
unfolding running
loaded = refl

-- from 84 to 88 Φ it expires, at 87: the request is latched at 88
before_expiry : device_of (after 18) ≡ device 3 0x7F 28 false
unfolding running
before_expiry = refl

latched : device_of (after 19) ≡ device 3 0xFE 1 true
unfolding running
latched = refl

-- the request stands up to the step 13, which ends it at 118
vector_low_given : device_of (after 24) ≡ device 3 0xFE 25 true
unfolding running
vector_low_given = refl

ended : device_of (after 25) ≡ device 3 0xFD 0 false
unfolding running
ended = refl

-- the counters at the end of the run, and the last byte
end_counters : (after 26).counters ≡ record { pc0 = 0x101; pc1 = 0x0E; dc0 = 0; dc1 = 0 }
unfolding running
end_counters = refl

end_last : (after 26).last ≡ 0xFF
unfolding running
end_last = refl

-- ---- Two chips with control 1 and a pulse each, and a branch with the interrupt of the first

abbrev first_chip : ChipView
first_chip = wired_psu 0 4 0x100 (0x71 ∷ 0xB6 ∷ 0xBA ∷ 0x1B ∷ 0x90 ∷ 0xFF ∷ [])

abbrev second_chip : ChipView
second_chip = wired_psu 0x400 8 0x200 []

abbrev two_chips : List ChipView
two_chips = first_chip ∷ second_chip ∷ []

abbrev both_pulsed : Position
both_pulsed = with_pulse_at 0 (with_pulse_at 1 (played two_chips 0 4).position)

-- before the branch, and behind it
abbrev before_branch : ℕ → ChipView → ChipView
before_branch socket v = pulsed (lived socket (played_record two_chips 0 4) v)

abbrev behind_branch : ℕ → ChipView → ChipView
behind_branch socket v = after_steps socket (map heard_of (instruction_course (Bf 0) both_pulsed).steps) (before_branch socket v)

first_asks : device_of (before_branch 0 first_chip) ≡ device 1 0xFF 27 true
unfolding running
first_asks = refl

second_asks : device_of (before_branch 1 second_chip) ≡ device 1 0xFF 27 true
unfolding running
second_asks = refl

-- the first is acknowledged, and the other goes on asking
first_ended : device_of (behind_branch 0 first_chip) ≡ device 1 0xFF 1 false
unfolding running
first_ended = refl

second_waits : device_of (behind_branch 1 second_chip) ≡ device 1 0xFF 1 true
unfolding running
second_waits = refl

-- each went to the vector, and keeps data counters of its own
second_counters : (behind_branch 1 second_chip).counters ≡ record { pc0 = 0x181; pc1 = 4; dc0 = 1; dc1 = 1 }
unfolding running
second_counters = refl
