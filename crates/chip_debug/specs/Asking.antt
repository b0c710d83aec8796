-- How many questions a session may put to the chips of its rack: from each power-on on by the codes of the bus steps that were tried, as a
-- run may, and besides what its commands themselves ask. It is this project's own.
use Rattle.std.specs.Prelude.{ℕ, ◌+◌, ◌-◌, ◌*◌, Bool, true, false, ◌&&◌, if◌then◌else◌, List, [], ◌∷◌, length}
use Rattle.rewind.specs.Asking.{allowed_since_power}
use Rattle.chip_debug.specs.declared.breaks.Breaks.{Breaks}
use Rattle.chip_debug.specs.declared.command.Command.{Command}
use Rattle.chip_debug.specs.declared.command.Command.TheVariants.{Power, Keys, Pulse, Step, Run, BreakAt, BreakRomc}
use Rattle.chip_debug.specs.declared.command.Command.TheVariants.{BreakChip, BreakApart, Clear, ShowRegs, ShowChips, Mem}
use Rattle.chip_debug.specs.declared.command.Command.TheVariants.{Back, BackRun, Stored}
use Rattle.chip_debug.specs.Carried.{restarted, scene_after}
use Rattle.chip_debug.specs.Scenes.{Scene, done_in, going, reached}
use Rattle.chip_debug.specs.Stepping.{back_by, back_to_break, gone_to}

-- ---- bus steps

-- what the bus steps ask from one scene to a later one, where no power-on lies between them
abbrev pub allowed_between : Scene → Scene → ℕ
allowed_between first last = allowed_since_power (reached last) - allowed_since_power (reached first)

-- ---- what commands themselves ask

-- Behind an instruction that is done each chip described is asked for its counters, where these are a break that is heeded.
abbrev pub behind_allowed : Bool → Breaks → List ℕ → ℕ
behind_allowed heeds breaks chain = if heeds && breaks.apart then length chain else 0

abbrev pub going_allowed : Bool → ℕ → Scene → ℕ
going_allowed heeds count s =
    allowed_between s (going heeds count s).scene
    + (going heeds count s).ran * behind_allowed heeds s.breaks s.chain

-- Going to an instruction, from power-on on, asks as often as the bus steps up to it did.
abbrev pub replay_allowed : ℕ → Scene → ℕ
replay_allowed n s = allowed_since_power (reached (gone_to n s))

-- and looking for a break on the way asks behind each instruction
abbrev pub search_allowed : ℕ → Scene → ℕ
search_allowed n s = replay_allowed n s + n * behind_allowed true s.breaks s.chain

-- Each chip may be asked once for its counters where the chips are shown, and once for each byte of memory that is told.
abbrev pub command_allowed : Command → Scene → ℕ
command_allowed (Power fill) s = allowed_since_power (reached (restarted fill s))
command_allowed (Keys port byte) s = 0
command_allowed (Pulse chip) s = 0
command_allowed (Step count) s = going_allowed false count s
command_allowed (Run count) s = going_allowed true count s
command_allowed (BreakAt at) s = 0
command_allowed (BreakRomc romc) s = 0
command_allowed (BreakChip socket) s = 0
command_allowed BreakApart s = 0
command_allowed Clear s = 0
command_allowed ShowRegs s = 0
command_allowed ShowChips s = length (reached s).chips
command_allowed (Mem at count) s = count * length (reached s).chips
command_allowed (Back count) s = replay_allowed (back_by count s) s
command_allowed (BackRun count) s = search_allowed (done_in s - 1) s + replay_allowed (back_to_break count s) s
command_allowed (Stored at) s = allowed_since_power (reached s)

-- ---- a session

abbrev pub commands_allowed : List Command → Scene → ℕ
commands_allowed [] s = 0
commands_allowed (command ∷ commands) s = command_allowed command s + commands_allowed commands (scene_after command s)

-- a whole one, from the scene at which it begins, behind power-on and reset
abbrev pub session_allowed : List Command → Scene → ℕ
session_allowed commands s = allowed_since_power (reached s) + commands_allowed commands s
