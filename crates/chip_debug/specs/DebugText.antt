-- The lines that a session tells, as bytes (this project's own). Every line ends with a line feed.
use Rattle.std.specs.Prelude.{ℕ, List, [], ◌∷◌, ◌++◌, codes, decimal, flat_map, Option, Some, None}
use Rattle.f8_spec.specs.Spelling.{hex2, hex4}
use Rattle.f8_spec.specs.declared.bus.Counters.{Counters}
use Rattle.f8_spec.specs.declared.chips.ChipKind.{ChipKind}
use Rattle.report.specs.ErrorLines.{kind_text}

-- power-on and reset are done
unfoldable pub ready_line : List ℕ
ready_line = codes "ready\n"

-- so many instructions were done
unfoldable pub ran_line : ℕ → List ℕ
ran_line ran = codes "ran " ++ decimal ran ++ codes "\n"

-- the last of them met a break
unfoldable pub break_line : List ℕ
break_line = codes "break\n"

-- the session went back to this instruction
unfoldable pub at_line : ℕ → List ℕ
at_line n = codes "at " ++ decimal n ++ codes "\n"

-- this instruction stored last, or none did
abbrev pub stored_text : Option ℕ → List ℕ
stored_text None = codes "none"
stored_text (Some n) = decimal n

unfoldable pub stored_line : Option ℕ → List ℕ
stored_line n = codes "stored " ++ stored_text n ++ codes "\n"

-- a second data counter, where there is one
abbrev pub second_text : Option ℕ → List ℕ
second_text None = []
second_text (Some at) = codes " DC1=" ++ hex4 at

abbrev pub counters_text : Counters → List ℕ
counters_text c =
    codes " PC0=" ++ hex4 c.pc0 ++ codes " PC1=" ++ hex4 c.pc1 ++ codes " DC0=" ++ hex4 c.dc0 ++ second_text c.dc1

-- the counters of a chip, where it has any
abbrev pub own_text : Option Counters → List ℕ
own_text None = []
own_text (Some c) = counters_text c

-- a chip, by its socket, its kind and its own counters
unfoldable pub chip_line : ℕ → ChipKind → Option Counters → List ℕ
chip_line socket kind counters =
    codes "chip " ++ decimal socket ++ codes " " ++ kind_text kind ++ own_text counters ++ codes "\n"

-- the counters of the probe
unfoldable pub probe_line : Counters → List ℕ
probe_line counters = codes "probe" ++ counters_text counters ++ codes "\n"

-- a byte, or dashes where none is told
abbrev pub byte_text : Option ℕ → List ℕ
byte_text None = codes " --"
byte_text (Some byte) = 32 ∷ hex2 byte

-- the bytes from an address on
unfoldable pub mem_line : ℕ → List (Option ℕ) → List ℕ
mem_line at bytes = codes "mem " ++ hex4 at ++ flat_map byte_text bytes ++ codes "\n"
