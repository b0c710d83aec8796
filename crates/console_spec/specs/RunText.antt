-- The lines that a run writes, as bytes. Every line ends with a line feed.
use Rattle.std.specs.Prelude.{ℕ, ◌+◌, ◌*◌, Bool, true, false, List, [], ◌∷◌, ◌++◌, codes, decimal, map, take, drop, flat_map}
use Rattle.std.specs.List.{range_with_len}
use Rattle.f8_spec.specs.Spelling.{hex2, hex4, octal2}
use Rattle.f8_spec.specs.declared.bus.Party.{Party}
use Rattle.console_spec.specs.Processor.{told_regs}
use Rattle.console_spec.specs.Services.{Fault, Conflict, Undriven, Astray}
use Rattle.console_spec.specs.Run.{Stop, Done, Unserved, Reserved, Ending}
use Rattle.console_spec.specs.declared.PortWrite.{PortWrite}
use Rattle.console_spec.specs.Display.{palette_of, tone_of, row_of_pixels}
use Rattle.console_spec.specs.BusTrace.{TracedStep}
use Rattle.console_spec.specs.Telling.{Told, Traced, TracedFault, Wrote, Shown, Telling, told_in}
use Rattle.console_spec.specs.declared.Regs.{Regs}
use Rattle.console_spec.specs.declared.VerdictWord.{VerdictWord}
use Rattle.console_spec.specs.declared.VerdictWord.TheVariants.{Whole, Agreed, NoVerdict}
use Rattle.console_spec.specs.declared.Who.{Who}
use Rattle.console_spec.specs.declared.Who.TheVariants.{Cpu, Socket, Nobody}

-- what was found beforehand
abbrev pub verdict_text : VerdictWord → List ℕ
verdict_text Whole = codes "whole"
verdict_text Agreed = codes "agreed"
verdict_text NoVerdict = codes "none"

unfoldable pub verdict_line : VerdictWord → List ℕ
verdict_line word = codes "verdict " ++ verdict_text word ++ codes "\n"

-- a chip of a conflict, with its own address or the port
abbrev pub party_text : Party → List ℕ
party_text p = codes " socket " ++ decimal p.socket ++ codes " at " ++ hex4 p.at

unfoldable pub fault_line : Fault → List ℕ
fault_line (Conflict romc parties) = codes "stop conflict romc " ++ hex2 romc ++ flat_map party_text parties ++ codes "\n"
fault_line (Undriven romc at) = codes "stop undriven romc " ++ hex2 romc ++ codes " at " ++ hex4 at ++ codes "\n"
fault_line (Astray romc socket at reference) =
    codes "stop astray romc " ++ hex2 romc ++ codes " socket " ++ decimal socket ++ codes " at " ++ hex4 at
    ++ codes " reference " ++ hex4 reference ++ codes "\n"

unfoldable pub stop_line : Stop → List ℕ
stop_line Done = codes "stop done\n"
stop_line (Unserved fault) = fault_line fault
stop_line (Reserved at code) = codes "stop reserved " ++ hex2 code ++ codes " at " ++ hex4 at ++ codes "\n"

unfoldable pub regs_line : Regs → List ℕ
regs_line r =
    codes "regs P=" ++ hex4 r.p ++ codes " P1=" ++ hex4 r.p1 ++ codes " D0=" ++ hex4 r.d0 ++ codes " D1=" ++ hex4 r.d1
    ++ codes " A=" ++ hex2 r.a ++ codes " IS=" ++ octal2 r.isar ++ codes " W=" ++ hex2 r.w ++ codes "\n"

-- a blank and two digits
abbrev pub blank_hex2 : ℕ → List ℕ
blank_hex2 byte = 32 ∷ hex2 byte

-- a row of 16 bytes of the scratchpad, by its number from 0 to 3
unfoldable pub scratch_line : Regs → ℕ → List ℕ
scratch_line r row =
    codes "s" ++ (48 + row) ∷ codes "0" ++ flat_map blank_hex2 (take 16 (drop (16 * row) r.scratch)) ++ codes "\n"

unfoldable pub total_line : ℕ → ℕ → List ℕ
total_line count phi = codes "total " ++ decimal count ++ codes " instructions " ++ decimal phi ++ codes " phi\n"

-- the lines of a run from its stop line on, by why it stops, the registers, the instructions done and their clocks
abbrev pub told_lines : Stop → Regs → ℕ → ℕ → List (List ℕ)
told_lines stop regs count phi =
    stop_line stop
    ∷ regs_line regs
    ∷ scratch_line regs 0
    ∷ scratch_line regs 1
    ∷ scratch_line regs 2
    ∷ scratch_line regs 3
    ∷ total_line count phi
    ∷ []

abbrev pub ending_lines : Ending → List (List ℕ)
ending_lines e =
    let state = e.position.flat.state in
    told_lines e.stop (told_regs state) state.count state.phi

-- lines one after another
unfoldable pub text_of : List (List ℕ) → List ℕ
text_of lines = flat_map (λ l. l) lines

-- ---- what is told as a run goes

abbrev pub length_text : Bool → List ℕ
length_text true = codes "L"
length_text false = codes "S"

abbrev pub who_text : Who → List ℕ
who_text Cpu = codes "cpu"
who_text (Socket socket) = decimal socket
who_text Nobody = codes "-"

-- a bus step that is served, and one that is not
unfoldable pub bus_line : TracedStep → List ℕ
bus_line s =
    codes "bus " ++ hex2 s.romc ++ codes " " ++ length_text s.long ++ codes " " ++ hex2 s.byte ++ codes " " ++ who_text s.who ++ codes "\n"

unfoldable pub bus_fault_line : ℕ → Bool → List ℕ
bus_fault_line romc long = codes "bus " ++ hex2 romc ++ codes " " ++ length_text long ++ codes " -- fault\n"

unfoldable pub out_line : PortWrite → List ℕ
out_line w = codes "out " ++ decimal w.phi ++ codes " " ++ hex2 w.port ++ codes " " ++ hex2 w.byte ++ codes "\n"

unfoldable pub frame_line : ℕ → ℕ → ℕ → List ℕ
frame_line frame phi tone = codes "frame " ++ decimal frame ++ codes " phi " ++ decimal phi ++ codes " tone " ++ decimal tone ++ codes "\n"

-- the digit of the palette, a blank, and a digit for each pixel
unfoldable pub picture_row : ℕ → List PortWrite → List ℕ
picture_row y writes = (48 + palette_of y writes) ∷ 32 ∷ map (λ colour. 48 + colour) (row_of_pixels y writes) ++ codes "\n"

abbrev pub frame_lines : ℕ → ℕ → List PortWrite → List (List ℕ)
frame_lines frame phi writes = frame_line frame phi (tone_of writes) ∷ map (λ y. picture_row y writes) (range_with_len 0 64)

abbrev pub lines_of : Told → List (List ℕ)
lines_of (Traced s) = bus_line s ∷ []
lines_of (TracedFault romc long) = bus_fault_line romc long ∷ []
lines_of (Wrote w) = out_line w ∷ []
lines_of (Shown frame phi writes) = frame_lines frame phi writes

-- the lines of a whole run on the flat instruction set alone, and of one on a rack, which has the verdict on its chips
abbrev pub flat_telling_lines : Telling → List (List ℕ)
flat_telling_lines t = flat_map lines_of (told_in t.moments) ++ ending_lines t.ending

abbrev pub telling_lines : VerdictWord → Telling → List (List ℕ)
telling_lines verdict t = verdict_line verdict ∷ flat_telling_lines t
