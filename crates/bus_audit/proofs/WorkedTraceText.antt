-- Traces read by hand, computed from the definitions.
use Rattle.std.proofs.Common.{◌≡◌, ℕ, false, true, List, [], ◌∷◌, Some, None, Ok, Err, refl}
use Rattle.std.specs.Prelude.{codes}
use Rattle.console_spec.specs.declared.Who.TheVariants.{Cpu, Socket, Nobody}
use Rattle.bus_audit.specs.declared.step.TraceWhat.TheVariants.{Byte, Fault}
use Rattle.bus_audit.specs.TraceText.{byte_of, code_of, is_long, read_in, step_of, trace_of, what_of, who_of}

-- the lines of four printed steps among others, of which one has the word `bus` and nothing behind it
four_steps : trace_of (codes "verdict whole\nbus 1C S 00 -\nbus\nbus 08 L 00 cpu\n\nbus 00 S 71 0\r\nbus 1B L -- fault")
    ≡ Ok (record {
      told =
          record { line = 2; step = record { romc = 0x1C; long = false; what = Byte 0 Nobody } }
          ∷ record { line = 4; step = record { romc = 0x08; long = true; what = Byte 0 Cpu } }
          ∷ record { line = 6; step = record { romc = 0x00; long = false; what = Byte 0x71 (Socket 0) } }
          ∷ record { line = 7; step = record { romc = 0x1B; long = true; what = Fault } }
          ∷ [];
      after = 8;
    })
unfolding byte_of code_of is_long what_of who_of step_of trace_of
four_steps = refl

no_text : trace_of [] ≡ Ok (record { told = []; after = 1 })
unfolding trace_of
no_text = refl

-- there is no code 20
code_20 : trace_of (codes "bus 20 S 00 -\n") ≡ Err (record { line = 1 })
unfolding byte_of code_of is_long what_of who_of step_of trace_of
code_20 = refl

-- the line of a fault is counted among all lines, and the first fault counts
second_line : trace_of (codes "stop done\nbus 00 S 71\nbus 20 S 00 -\n") ≡ Err (record { line = 2 })
unfolding byte_of code_of is_long what_of who_of step_of trace_of
second_line = refl

last_socket : read_in (codes "bus 00 S FF 15") ≡ Some (Some (record { romc = 0; long = false; what = Byte 0xFF (Socket 15) }))
unfolding byte_of code_of is_long what_of who_of step_of
last_socket = refl

-- not of the form: a small letter, a socket too large, a zero in front of a number, two blanks, a blank behind, and a fault that has a byte
abbrev Refused : List ℕ → Type 0
Refused line = read_in line ≡ Some None

small_letter : Refused (codes "bus 0a S 00 -")
unfolding byte_of code_of is_long what_of who_of step_of
small_letter = refl

no_socket_16 : Refused (codes "bus 00 S 00 16")
unfolding byte_of code_of is_long what_of who_of step_of
no_socket_16 = refl

socket_00 : Refused (codes "bus 00 S 00 00")
unfolding byte_of code_of is_long what_of who_of step_of
socket_00 = refl

two_blanks : Refused (codes "bus 00  S 00 0")
unfolding byte_of code_of is_long what_of who_of step_of
two_blanks = refl

blank_behind : Refused (codes "bus 00 S 00 0 ")
unfolding byte_of code_of is_long what_of who_of step_of
blank_behind = refl

fault_with_byte : Refused (codes "bus 00 S 00 fault")
unfolding byte_of code_of is_long what_of who_of step_of
fault_with_byte = refl
