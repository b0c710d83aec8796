-- Runs on racks with a 3861, and chips that are powered on in their own ways, worked out by hand and computed from the definitions.
use Rattle.std.proofs.Common.{◌≡◌, ℕ, true, false, List, [], ◌∷◌, ◌++◌, replicate, refl}
use Rattle.std.specs.Prelude.{codes, Some, None}
use Rattle.f8_spec.specs.ChipState.{ChipView, blank_view}
use Rattle.f8_spec.specs.Powers.{usual_power}
use Rattle.f8_spec.specs.declared.chips.ChipKind.TheVariants.{Psu, Smi, Pio}
use Rattle.f8_spec.specs.declared.chips.PageSort.TheVariants.{Rom, Ram, Void}
use Rattle.f8_spec.specs.declared.chips.PowerOn.{PowerOn}
use Rattle.f8_spec.specs.declared.instructions.Op.TheVariants.{Bf}
use Rattle.console_spec.specs.Powering.{fill_in, start_in}
use Rattle.console_spec.specs.Run.{Ending, Done, Unserved, Position, position_after, with_pulse_at}
use Rattle.console_spec.specs.RunText.{text_of, telling_lines}
use Rattle.console_spec.specs.Scripts.{Script}
use Rattle.console_spec.specs.Services.{Conflict}
use Rattle.console_spec.specs.Telling.{played_by, referred_by}
use Rattle.console_spec.specs.declared.End.TheVariants.{Steps}
use Rattle.console_spec.specs.declared.Event.TheVariants.{Keys}
use Rattle.console_spec.specs.declared.VerdictWord.TheVariants.{Whole, NoVerdict}
use Rattle.console_spec.proofs.Played.{running, printing, steps_alone}
use Rattle.console_spec.proofs.WorkedRacks.{psu}
use Rattle.console_spec.proofs.WorkedMore.{no_scratch}

-- ---- a 3861

-- one with these ports, that can't interrupt
abbrev pio : ℕ → ChipView
pio ports = record (blank_view Pio) { ports = Some ports }

-- a 3851 in socket 0, and a 3861 in the first socket behind twelve for 3851s and two for 3853s
abbrev with_pio : ChipView → ChipView → List ChipView
with_pio first pio = first ∷ replicate 11 (blank_view Psu) ++ replicate 2 (blank_view Smi) ++ pio ∷ []

-- LI 0F, OUTS 8, INS 8, and a branch to itself
abbrev echo : ℕ → ChipView
echo ports = psu 0 ports (0x20 ∷ 0x0F ∷ 0xB8 ∷ 0xA8 ∷ 0x90 ∷ 0xFF ∷ [])

-- three instructions, with a key byte at port 8
abbrev keyed_once : Script
keyed_once = record { power = 0; end = Steps 3; events = record { frame = 0; event = Keys 8 0x30 } ∷ []; shows = [] }

-- the latch of a 3861 and its key byte
pio_echoes : text_of (telling_lines Whole (played_by (with_pio (echo 4) (pio 8)) (0 ∷ 14 ∷ []) [] false keyed_once)) ≡
    codes "verdict whole\nout 40 08 0F\nstop done\nregs P=0004 P1=0000 D0=0000 D1=0000 A=3F IS=00 W=01\n" ++ no_scratch
    ++ codes "total 3 instructions 56 phi\n"
unfolding running printing
pio_echoes = refl

-- a port of two chips
pio_conflict : text_of (telling_lines NoVerdict (played_by (with_pio (echo 8) (pio 8)) (0 ∷ 14 ∷ []) [] false keyed_once)) ≡
    codes "verdict none\nstop conflict romc 1A socket 0 at 0008 socket 14 at 0008\nregs P=0002 P1=0000 D0=0000 D1=0000 A=0F IS=00 W=00\n"
    ++ no_scratch ++ codes "total 1 instructions 24 phi\n"
unfolding running printing
pio_conflict = refl

-- ---- its interrupt

-- control 1 at the 3861, interrupts let in, and a branch to itself
abbrev asking_pio : List ChipView
asking_pio =
    with_pio (psu 0 4 (0x71 ∷ 0xBA ∷ 0x1B ∷ 0x90 ∷ 0xFF ∷ [])) (record (pio 8) { vector = 0x0100; wired = true })

-- the branch, with a pulse at the 3861, which is described first
abbrev after_pulse : Position
after_pulse = position_after (Bf 0) (with_pulse_at 0 (played_by asking_pio (14 ∷ 0 ∷ []) [] false (steps_alone 0 3)).ending.position)

pio_interrupts : after_pulse.flat.state.flow ≡ record { p = 0x0180; p1 = 3; d0 = 0; d1 = 0 }
unfolding running
pio_interrupts = refl

pio_acknowledged : after_pulse.flat.state.acknowledged ≡ record { chip = 14; phi = 74 } ∷ []
unfolding running
pio_acknowledged = refl

-- ---- power-on by chip

-- a 3853 with two pages of RAM, and one with the second of them
abbrev two_pages : ChipView
two_pages = record (blank_view Smi) {
  pages = record { number = 0x28; sort = Ram } ∷ record { number = 0x29; sort = Ram } ∷ [];
  bytes = replicate 512 0;
  ports = Some 0x0C;
}

abbrev shared_page : ChipView
shared_page = record (blank_view Smi) { pages = record { number = 0x29; sort = Ram } ∷ []; bytes = replicate 256 0; ports = Some 0x0C }

-- reads at 2800, and at 2900, which both have
abbrev reader : ChipView
reader = psu 0 4 (0x2A ∷ 0x28 ∷ 0x00 ∷ 0x16 ∷ 0x2A ∷ 0x29 ∷ 0x00 ∷ 0x16 ∷ 0x90 ∷ 0xFF ∷ [])

abbrev two_fills : List PowerOn
two_fills = usual_power ∷ record { fill = Some 0x11; start = None } ∷ record { fill = Some 0x22; start = None } ∷ []

abbrev filled : Ending
filled =
    (played_by (reader ∷ replicate 11 (blank_view Psu) ++ two_pages ∷ shared_page ∷ []) (0 ∷ 12 ∷ 13 ∷ []) two_fills false (steps_alone 0x5A 9)).ending

filled_stop : filled.stop ≡ Unserved (Conflict 2 (record { socket = 12; at = 0x2900 } ∷ record { socket = 13; at = 0x2900 } ∷ []))
unfolding running
filled_stop = refl

filled_place : filled.position.flat.state.flow ≡ record { p = 7; p1 = 0; d0 = 0x2900; d1 = 0 }
unfolding running
filled_place = refl

filled_byte : filled.position.flat.state.registers.accumulator ≡ 0x11
unfolding running
filled_byte = refl

-- on the flat instruction set the shared address is nobody's
abbrev referred_fill : Ending
referred_fill = (referred_by (reader ∷ two_pages ∷ shared_page ∷ []) two_fills (steps_alone 0x5A 9)).ending

referred_stop : referred_fill.stop ≡ Done
unfolding running
referred_stop = refl

referred_place : referred_fill.position.flat.state.flow ≡ record { p = 8; p1 = 0; d0 = 0x2901; d1 = 0 }
unfolding running
referred_place = refl

referred_byte : referred_fill.position.flat.state.registers.accumulator ≡ 0xFF
unfolding running
referred_byte = refl

-- ---- by the description, and not by the socket

-- a 3853 that is described first, in socket 12, and two 3851s in the sockets 0 and 1
abbrev said_chain : List ℕ
said_chain = 12 ∷ 0 ∷ 1 ∷ []

abbrev said : List PowerOn
said = record { fill = Some 0x33; start = Some 0x1111 } ∷ record { fill = None; start = Some 0x2222 } ∷ usual_power ∷ []

said_starts : (start_in 0x5A said_chain said 0 ∷ start_in 0x5A said_chain said 1 ∷ start_in 0x5A said_chain said 12 ∷ []) ≡ 0x2222 ∷ 0x5A5B ∷ 0x1111 ∷ []
said_starts = refl

-- also in a socket of no chip that is described
said_fills : (fill_in 0x5A said_chain said 12 ∷ fill_in 0x5A said_chain said 0 ∷ fill_in 0x5A said_chain said 13 ∷ []) ≡ 0x33 ∷ 0x5A ∷ 0x5A ∷ []
said_fills = refl

-- its pages are ROM, RAM and two void ones
abbrev described_first : ChipView
described_first = record (blank_view Smi) {
  pages =
      record { number = 0x20; sort = Rom } ∷ record { number = 0x28; sort = Ram } ∷ record { number = 0x30; sort = Void }
      ∷ record { number = 0x31; sort = Void } ∷ [];
  bytes = 0xAA ∷ replicate 255 255 ++ replicate 256 0 ++ replicate 512 255;
  ports = Some 0x0C;
}

-- reads of two bytes of its RAM
abbrev twice : ChipView
twice = psu 0 4 (0x2A ∷ 0x28 ∷ 0x00 ∷ 0x16 ∷ 0x2A ∷ 0x28 ∷ 0x01 ∷ 0x16 ∷ 0x2B ∷ 0x90 ∷ 0xFE ∷ [])

abbrev said_run : Ending
said_run =
    (played_by (twice ∷ psu 0x400 8 [] ∷ replicate 10 (blank_view Psu) ++ described_first ∷ []) said_chain said false (steps_alone 0x5A 4)).ending

said_stop : said_run.stop ≡ Done
unfolding running
said_stop = refl

said_place : said_run.position.flat.state.flow ≡ record { p = 8; p1 = 0; d0 = 0x2802; d1 = 0 }
unfolding running
said_place = refl

said_byte : said_run.position.flat.state.registers.accumulator ≡ 0x33
unfolding running
said_byte = refl

said_clocks : said_run.position.flat.state.phi ≡ 82
unfolding running
said_clocks = refl
