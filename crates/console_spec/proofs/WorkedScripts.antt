-- Runs by scripts worked out by hand, computed from the definitions.
use Rattle.std.proofs.Common.{◌≡◌, ℕ, true, false, List, [], ◌∷◌, length, refl}
use Rattle.f8_spec.specs.Flags.{status_byte}
use Rattle.console_spec.specs.Services.{Undriven}
use Rattle.console_spec.specs.Run.{Position, Unserved, power_position}
use Rattle.console_spec.specs.Scripts.{Script}
use Rattle.console_spec.specs.declared.Event.TheVariants.{Keys}
use Rattle.console_spec.specs.declared.Who.TheVariants.{Socket}
use Rattle.console_spec.specs.declared.End.TheVariants.{Steps, Frames}
use Rattle.console_spec.specs.Telling.{Traced, TracedFault, Wrote, Shown, telling, told_in, on_rack}
use Rattle.std.specs.Prelude.{flat_map, codes, slice_index, None}
use Rattle.console_spec.specs.RunText.{text_of, lines_of}
use Rattle.console_spec.proofs.Played.{steps_alone, played, played_alone, referred, played_in_order, printing, running}
use Rattle.console_spec.proofs.WorkedRacks.{psu}

-- a key byte is read, written back, and then a port is read that no chip has as a data port
abbrev keyed : List ℕ
keyed = 0x20 ∷ 0x0F ∷ 0xB4 ∷ 0xA4 ∷ 0x26 ∷ 0x02 ∷ []

abbrev keys_then_missing : Script
keys_then_missing = record { power = 0; end = Steps 4; events = record { frame = 0; event = Keys 4 0x30 } ∷ []; shows = [] }

key_told : told_in (played_in_order (psu 0 4 keyed ∷ []) false keys_then_missing).moments ≡ Wrote (record { phi = 40; port = 4; byte = 0x0F }) ∷ []
unfolding running
key_told = refl

key_stop : (played_in_order (psu 0 4 keyed ∷ []) false keys_then_missing).ending.stop ≡ Unserved (Undriven 0x1B 2)
unfolding running
key_stop = refl

key_read : (played_in_order (psu 0 4 keyed ∷ []) false keys_then_missing).ending.position.flat.state.registers.accumulator ≡ 0x3F
unfolding running
key_read = refl

key_clocks : (played_in_order (psu 0 4 keyed ∷ []) false keys_then_missing).ending.position.flat.state.phi ≡ 56
unfolding running
key_clocks = refl

key_place : (played_in_order (psu 0 4 keyed ∷ []) false keys_then_missing).ending.position.flat.state.flow.p ≡ 4
unfolding running
key_place = refl

key_status : status_byte (played_in_order (psu 0 4 keyed ∷ []) false keys_then_missing).ending.position.flat.state.registers.status ≡ 0x01
unfolding running
key_status = refl

-- a branch to itself, with its steps told: eight, those of reset counted
abbrev branch : List ℕ
branch = 0x71 ∷ 0x2B ∷ 0x90 ∷ 0xFE ∷ []

traced_count : length (told_in (played_in_order (psu 0 4 branch ∷ []) true (steps_alone 0 3)).moments) ≡ 8
unfolding running
traced_count = refl

-- the lines of that trace
traced_lines : text_of (flat_map lines_of (told_in (played_in_order (psu 0 4 branch ∷ []) true (steps_alone 0 3)).moments))
    ≡ codes "bus 1C S 00 -\nbus 08 L 00 cpu\nbus 00 S 71 0\nbus 00 S 2B 0\nbus 00 S 90 0\nbus 1C S 00 -\nbus 01 L FE 0\nbus 00 S 2B 0\n"
unfolding running printing
traced_lines = refl

-- a strobe and a fall, up to the first frame, with its clocks and its one drawn row
abbrev drawn : List ℕ
drawn = 0x20 ∷ 0x20 ∷ 0xB0 ∷ 0x20 ∷ 0x81 ∷ 0xB4 ∷ 0x20 ∷ 0x20 ∷ 0xB0 ∷ 0x70 ∷ 0xB0 ∷ 0x20 ∷ 0x82 ∷ 0xB4 ∷ 0x20 ∷ 0x20 ∷ 0xB0 ∷ 0x90 ∷ 0xFF ∷ []

drawn_outs : text_of (flat_map lines_of (told_in (played_alone (psu 0 4 drawn ∷ []) 0 12).moments))
    ≡ codes "out 32 00 20\nout 58 04 81\nout 76 00 20\nout 88 00 00\nout 114 04 82\nout 132 00 20\n"
unfolding running printing
drawn_outs = refl

-- ---- frames, from a few clocks before the first one

-- two bytes as a program, with so many clocks behind it
abbrev shortly_before : ℕ → List ℕ → Position
shortly_before phi rom =
    let x = power_position (psu 0 4 rom ∷ []) (0 ∷ []) [] 0 in
    record x { flat = record x.flat { state = record x.flat.state { phi = phi } } }

-- at 29,826 a NOP of 4 clocks comes to the frame, and at 29,825 the second one does
abbrev two_frames : Script
two_frames = record { power = 0; end = Steps 2; events = record { frame = 1; event = Keys 4 0x30 } ∷ []; shows = 1 ∷ 1 ∷ 2 ∷ [] }

frame_falls : told_in (telling (on_rack false) two_frames 2 (shortly_before 29826 (0x2B ∷ 0x2B ∷ []))).moments ≡ Shown 1 29830 [] ∷ []
unfolding running
frame_falls = refl

frame_falls_later : told_in (telling (on_rack false) two_frames 2 (shortly_before 29825 (0x2B ∷ 0x2B ∷ []))).moments ≡ Shown 1 29833 [] ∷ []
unfolding running
frame_falls_later = refl

-- the key of that frame is read by the next instruction, but it doesn't come where the run ends
frame_key : (telling (on_rack false) two_frames 2 (shortly_before 29826 (0x2B ∷ 0xA4 ∷ []))).ending.position.flat.state.registers.accumulator ≡ 0x30
unfolding running
frame_key = refl

no_key_at_end : slice_index (telling (on_rack false) (record two_frames { end = Frames 1 }) 9
    (shortly_before 29826 (0x2B ∷ 0x2B ∷ []))).ending.position.flat.state.keys 4 ≡ 0
unfolding running
no_key_at_end = refl

-- ---- ports that no chip has

-- behind the operand nobody drives the byte, which the trace tells; the flat instruction set reads 255
unread_traced : told_in (telling (on_rack true) (steps_alone 0 1) 1 (shortly_before 0 (0x26 ∷ 0x02 ∷ []))).moments
    ≡ Traced (record { romc = 3; long = true; byte = 2; who = Socket 0; taker = None }) ∷ TracedFault 0x1B true ∷ []
unfolding running
unread_traced = refl

unread_stop : (played (psu 0 4 (0x26 ∷ 0x02 ∷ []) ∷ []) 0 1).stop ≡ Unserved (Undriven 0x1B 2)
unfolding running
unread_stop = refl

unread_clocks : (played (psu 0 4 (0x26 ∷ 0x02 ∷ []) ∷ []) 0 1).position.flat.state.phi ≡ 14
unfolding running
unread_clocks = refl

unread_count : (played (psu 0 4 (0x26 ∷ 0x02 ∷ []) ∷ []) 0 1).position.flat.state.count ≡ 0
unfolding running
unread_count = refl

unread_place : (played (psu 0 4 (0x26 ∷ 0x02 ∷ []) ∷ []) 0 1).position.flat.state.flow.p ≡ 0
unfolding running
unread_place = refl

unread_flat : (referred (psu 0 4 (0x26 ∷ 0x02 ∷ []) ∷ []) 0 1).position.flat.state.registers.accumulator ≡ 255
unfolding running
unread_flat = refl
