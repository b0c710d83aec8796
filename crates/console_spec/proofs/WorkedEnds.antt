-- Interrupts at the ends of single instructions worked out by hand, computed from the definitions.
use Rattle.std.proofs.Common.{◌≡◌, ◌==◌, ℕ, ◌-◌, Bool, true, false, List, [], ◌∷◌, ◌++◌, map, replicate, refl}
use Rattle.std.specs.Prelude.{filter, if◌then◌else◌, None, Option, Some}
use Rattle.std.specs.List.{range_with_len}
use Rattle.f8_spec.specs.Flags.{clear_status}
use Rattle.f8_spec.specs.Instructions.{decoded, is_shielding}
use Rattle.f8_spec.specs.ChipState.{ChipView}
use Rattle.f8_spec.specs.declared.instructions.Op.{Op}
use Rattle.f8_spec.specs.declared.instructions.Op.TheVariants.{Bf, Bt, Di, Ds, Ins, LrJW, LrWJ, Nop, Outs, Pop, St}
use Rattle.console_spec.specs.BusTrace.{TracedStep}
use Rattle.console_spec.specs.CounterCopies.{Copy}
use Rattle.console_spec.specs.InterruptRequests.{Mark}
use Rattle.console_spec.specs.Processor.{Flow, State}
use Rattle.console_spec.specs.Run.{Position, power_position, position_after, instruction_course, instruction_fault, with_pulse_at}
use Rattle.console_spec.specs.Services.{Undriven}
use Rattle.console_spec.specs.declared.PortWrite.{PortWrite}
use Rattle.console_spec.specs.declared.Who.{Who}
use Rattle.console_spec.specs.declared.Who.TheVariants.{Cpu, Nobody, Socket}
use Rattle.console_spec.proofs.Played.{running}
use Rattle.console_spec.proofs.WorkedRacks.{psu, ram_smi}

-- ---- chips that ask at 100 Φ

-- a 3851 at 0 with the ports 4 to 7 that can interrupt
abbrev wired_psu : ℕ → List ℕ → ChipView
wired_psu vector bytes = record (psu 0 4 bytes) { wired = true; vector = vector }

-- chips after 100 Φ with the interrupt control bit set, with these port writes and pulses, on a chain
abbrev standing : List ChipView → List ℕ → List PortWrite → List Mark → Position
standing vs chain writes pulses =
    let x = power_position vs chain [] 0 in
    record x {
      flat = record x.flat {
        state = record x.flat.state {
          registers = record x.flat.state.registers { status = record clear_status { icb = true } };
          writes = writes;
          pulses = pulses;
          phi = 100;
        };
      };
    }

abbrev wrote : ℕ → ℕ → ℕ → PortWrite
wrote phi port byte = record { phi = phi; port = port; byte = byte }

abbrev pulse : ℕ → ℕ → Mark
pulse chip phi = record { chip = chip; phi = phi }

-- one chip with control 1 and a pulse at 100 Φ, with a vector and bytes from 0 on
abbrev pulsed : ℕ → List ℕ → Position
pulsed vector bytes = standing (wired_psu vector bytes ∷ []) (0 ∷ []) (wrote 34 6 1 ∷ []) (pulse 0 100 ∷ [])

abbrev state_behind : Op → Position → State
state_behind op x = (position_after op x).flat.state

abbrev flow_of : ℕ → ℕ → Flow
flow_of p p1 = record { p = p; p1 = p1; d0 = 0; d1 = 0 }

abbrev step : ℕ → Bool → ℕ → Who → TracedStep
step romc long byte who = record { romc = romc; long = long; byte = byte; who = who; taker = None }

-- the steps of the interrupt of the chip in socket 0, by the bytes of its vector
abbrev acknowledged_by : ℕ → ℕ → List TracedStep
acknowledged_by low high =
    step 0x10 true 0 Nobody ∷ step 0x1C false 0 Nobody ∷ step 0x0F true low (Socket 0) ∷ step 0x13 true high (Socket 0) ∷ []

-- ---- which instructions shield their ends: PK, EI, POP, LR W,J, OUT, PI, JMP, and OUTS of the ports 4 to 15

abbrev shields : Option Op → Bool
shields None = false
shields (Some op) = is_shielding op

shielding_opcodes : filter (λ code. shields (decoded code)) (range_with_len 0 256) ≡
    0x0C ∷ 0x1B ∷ 0x1C ∷ 0x1D ∷ 0x27 ∷ 0x28 ∷ 0x29
    ∷ 0xB4 ∷ 0xB5 ∷ 0xB6 ∷ 0xB7 ∷ 0xB8 ∷ 0xB9 ∷ 0xBA ∷ 0xBB ∷ 0xBC ∷ 0xBD ∷ 0xBE ∷ 0xBF ∷ []
unfolding decoded
shielding_opcodes = refl

-- ---- in place of the last fetch

-- NOP is sampled at its beginning, and the interrupt takes 26 Φ in place of its 4
idle_flow : (state_behind Nop (pulsed 0x0100 (0x2B ∷ []))).flow ≡ flow_of 0x180 1
unfolding running
idle_flow = refl

idle_clocks : (state_behind Nop (pulsed 0x0100 (0x2B ∷ []))).phi ≡ 126
unfolding running
idle_clocks = refl

idle_acknowledged : (state_behind Nop (pulsed 0x0100 (0x2B ∷ []))).acknowledged ≡ pulse 0 122 ∷ []
unfolding running
idle_acknowledged = refl

idle_status : (state_behind Nop (pulsed 0x0100 (0x2B ∷ []))).registers.status ≡ clear_status
unfolding running
idle_status = refl

-- the last fetch of DS is a long one, so that it is sampled at its beginning too; the fetch at the vector is short
decrement_clocks : (state_behind (Ds 1) (pulsed 0x0100 (0x31 ∷ []))).phi ≡ 126
unfolding running
decrement_clocks = refl

decrement_course : instruction_course (Ds 1) (pulsed 0x0100 (0x31 ∷ [])) ≡
    record { steps = acknowledged_by 0x80 0x01 ++ step 0x00 false 0xFF (Socket 0) ∷ []; fault = None }
unfolding running
decrement_course = refl

-- where nobody holds the vector the fetch there isn't served: the four steps before it are
decrement_into_nothing : instruction_course (Ds 1) (pulsed 0x4000 (0x31 ∷ [])) ≡
    record { steps = acknowledged_by 0x80 0x40; fault = Some (Undriven 0 0x4080, false) }
unfolding running
decrement_into_nothing = refl

nothing_at_the_vector : instruction_fault (Ds 1) (pulsed 0x4000 (0x31 ∷ [])) ≡ Some (Undriven 0 0x4080)
unfolding running
nothing_at_the_vector = refl

-- behind INS 4 the step 1C of the interrupt carries no port
port_read_course : instruction_course (Ins 4) (pulsed 0x0100 (0xA4 ∷ [])) ≡
    record {
      steps =
          step 0x1C true 0x04 Cpu ∷ step 0x1B true 0x00 (Socket 0) ∷ acknowledged_by 0x80 0x01
          ++ step 0x00 false 0xFF (Socket 0) ∷ [];
      fault = None;
    }
unfolding running
port_read_course = refl

port_read_clocks : (state_behind (Ins 4) (pulsed 0x0100 (0xA4 ∷ []))).phi ≡ 138
unfolding running
port_read_clocks = refl

-- the write of an own port has the clocks at the end of the interrupt
own_port_writes : (state_behind (Outs 0) (pulsed 0x0100 (0xB0 ∷ []))).writes ≡ wrote 130 0 0 ∷ wrote 34 6 1 ∷ []
unfolding running
own_port_writes = refl

-- a branch leads into the stack register, by whether it is taken, and so do its clocks
branch_taken : (state_behind (Bf 0) (pulsed 0x0100 (0x90 ∷ 0x05 ∷ []))).flow ≡ flow_of 0x180 6
unfolding running
branch_taken = refl

branch_taken_clocks : (state_behind (Bf 0) (pulsed 0x0100 (0x90 ∷ 0x05 ∷ []))).phi ≡ 136
unfolding running
branch_taken_clocks = refl

branch_passed : (state_behind (Bt 1) (pulsed 0x0100 (0x81 ∷ 0x05 ∷ []))).flow ≡ flow_of 0x180 2
unfolding running
branch_passed = refl

branch_passed_clocks : (state_behind (Bt 1) (pulsed 0x0100 (0x81 ∷ 0x05 ∷ []))).phi ≡ 134
unfolding running
branch_passed_clocks = refl

-- ---- the interrupt control bit after the instruction

-- LR J,W keeps the bit as it was before the interrupt, which then clears it
status_kept : (state_behind LrJW (pulsed 0x0100 (0x1E ∷ []))).registers.scratchpad ≡ replicate 9 0 ++ 0x10 ∷ replicate 54 0
unfolding running
status_kept = refl

status_kept_flow : (state_behind LrJW (pulsed 0x0100 (0x1E ∷ []))).flow ≡ flow_of 0x180 1
unfolding running
status_kept_flow = refl

status_kept_cleared : (state_behind LrJW (pulsed 0x0100 (0x1E ∷ []))).registers.status ≡ clear_status
unfolding running
status_kept_cleared = refl

-- DI clears the bit before its end; LR W,J and POP shield theirs
disabled_flow : (state_behind Di (pulsed 0x0100 (0x1A ∷ []))).flow ≡ flow_of 1 0
unfolding running
disabled_flow = refl

disabled_clocks : (state_behind Di (pulsed 0x0100 (0x1A ∷ []))).phi ≡ 108
unfolding running
disabled_clocks = refl

status_loaded_flow : (state_behind LrWJ (pulsed 0x0100 (0x1D ∷ []))).flow ≡ flow_of 1 0
unfolding running
status_loaded_flow = refl

returned_flow : (state_behind Pop (pulsed 0x0100 (0x1C ∷ []))).flow ≡ flow_of 0 0
unfolding running
returned_flow = refl

-- ---- an expiry before and after the sample of a NOP from 100 Φ on

-- control 3, and the timer loaded with 7F 31 Φ before it expires at a time
abbrev expiring_at : ℕ → Position
expiring_at time = standing (wired_psu 0x0180 (0x2B ∷ 0x2B ∷ []) ∷ []) (0 ∷ []) (wrote (time - 27) 7 0x7F ∷ wrote 34 6 3 ∷ []) []

-- at the time of the sample it counts, and bit 7 of the vector is clear
expiry_at_the_sample : (state_behind Nop (expiring_at 100)).flow ≡ flow_of 0x100 1
unfolding running
expiry_at_the_sample = refl

-- in the last fetch it waits for the end of the next instruction
expiry_in_the_fetch : (state_behind Nop (expiring_at 101)).flow ≡ flow_of 1 0
unfolding running
expiry_in_the_fetch = refl

expiry_waits : (state_behind Nop (position_after Nop (expiring_at 101))).flow ≡ flow_of 0x100 2
unfolding running
expiry_waits = refl

expiry_waits_clocks : (state_behind Nop (position_after Nop (expiring_at 101))).phi ≡ 130
unfolding running
expiry_waits_clocks = refl

-- ---- a 3853, whose vector ports write

-- Both chips have control 1 and a pulse, or the 3853 has control 3 and its timer has expired. 12B4 was written as its vector.
abbrev both : ChipView → List ℕ → ℕ → Position
both smi chain control =
    standing (wired_psu 0x0100 (0x2B ∷ []) ∷ smi ∷ []) chain
    (wrote 88 15 0x7F ∷ wrote 80 14 control ∷ wrote 70 13 0xB4 ∷ wrote 60 12 0x12 ∷ wrote 34 6 1 ∷ [])
    (pulse 1 100 ∷ pulse 0 100 ∷ [])

abbrev wired_smi : ChipView
wired_smi = record (ram_smi 0x28) { wired = true }

-- described first, it goes before the 3851 in the lower socket
described_first : (state_behind Nop (both wired_smi (1 ∷ 0 ∷ []) 1)).flow ≡ flow_of 0x12B4 1
unfolding running
described_first = refl

described_first_acknowledged : (state_behind Nop (both wired_smi (1 ∷ 0 ∷ []) 1)).acknowledged ≡ pulse 1 122 ∷ []
unfolding running
described_first_acknowledged = refl

described_last : (state_behind Nop (both wired_smi (0 ∷ 1 ∷ []) 1)).flow ≡ flow_of 0x180 1
unfolding running
described_last = refl

-- by its timer, loaded at 84 Φ, it asks from 115 Φ on, which the pulses don't wait for
by_its_timer_late : (state_behind Nop (both wired_smi (1 ∷ 0 ∷ []) 3)).flow ≡ flow_of 0x180 1
unfolding running
by_its_timer_late = refl

by_its_timer : (state_behind Nop (record (both wired_smi (1 ∷ []) 3) {
  flat = record (both wired_smi (1 ∷ []) 3).flat { state = record (both wired_smi (1 ∷ []) 3).flat.state { phi = 116 } };
})).flow ≡ flow_of 0x1234 1
unfolding running
by_its_timer = refl

-- one that can't interrupt is passed over
unwired_first : (state_behind Nop (both (ram_smi 0x28) (1 ∷ 0 ∷ []) 1)).flow ≡ flow_of 0x180 1
unfolding running
unwired_first = refl

-- a pulse behind the last chip described is none
no_such_chip : with_pulse_at 2 (both wired_smi (1 ∷ 0 ∷ []) 1) ≡ both wired_smi (1 ∷ 0 ∷ []) 1
no_such_chip = refl

-- ---- copies and memory

-- Each chip's own next address goes into its own stack register, and the vector is the next address of all. The second chip is away.
abbrev gone_by : Copy → Copy
gone_by c = record c { flow = record c.flow { p = if c.flow.p1 == 0 then 0 else 0x407 } }

abbrev parted : Position
parted =
    let x = standing (wired_psu 0x0100 (0x2B ∷ []) ∷ psu 0x400 8 [] ∷ []) (0 ∷ 1 ∷ []) (wrote 34 6 1 ∷ []) (pulse 0 100 ∷ []) in
    record x { copies = map gone_by x.copies }

copies_interrupted : map (λ c. c.flow.p) (position_after Nop parted).copies ≡ 0x180 ∷ 0x180 ∷ []
unfolding running
copies_interrupted = refl

copies_stacked : map (λ c. c.flow.p1) (position_after Nop parted).copies ≡ 1 ∷ 0x408 ∷ []
unfolding running
copies_stacked = refl

-- ST stores 2B in RAM at the vector, 2880, and the fetch there gets it.
abbrev at_the_vector : Copy → Copy
at_the_vector c = record c { flow = record c.flow { d0 = 0x2880 } }

abbrev storing : Position
storing =
    let x = standing (wired_psu 0x2800 (0x17 ∷ []) ∷ ram_smi 0x28 ∷ []) (0 ∷ 1 ∷ []) (wrote 34 6 1 ∷ []) (pulse 0 100 ∷ []) in
    record x {
      flat = record x.flat {
        state = record x.flat.state {
          flow = record x.flat.state.flow { d0 = 0x2880 };
          registers = record x.flat.state.registers { accumulator = 0x2B };
        };
      };
      copies = map at_the_vector x.copies;
    }

stored_and_fetched : instruction_course St storing ≡
    record {
      steps =
          record { romc = 0x05; long = true; byte = 0x2B; who = Cpu; taker = Some 1 } ∷ acknowledged_by 0x80 0x28
          ++ step 0x00 false 0x2B (Socket 1) ∷ [];
      fault = None;
    }
unfolding running
stored_and_fetched = refl
