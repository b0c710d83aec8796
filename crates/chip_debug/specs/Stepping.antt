-- Stepping back: which entries stay, and which instruction is looked for (this project's own).
use Rattle.std.specs.Prelude.{ℕ, zero, suc, ◌-◌, ◌==◌, ◌&&◌, nat_le, Bool, false, if◌then◌else◌, List, [], ◌∷◌}
use Rattle.std.specs.Prelude.{slice_get, Option, Some, None, is_some}
use Rattle.std.specs.List.{list_any}
use Rattle.f8_machine.specs.declared.heard.Heard.{Heard}
use Rattle.rewind.specs.Reached.{Reached, entered as entered_by, next_steps, turned}
use Rattle.rewind.specs.declared.entry.Entry.{Entry}
use Rattle.rewind.specs.declared.entry.Entry.TheVariants.{Happens, Instruction}
use Rattle.chip_debug.specs.Scenes.{Scene, begun, done_in, meets_break}

-- ---- entries

-- some entries up to and with the last of so many instructions
abbrev pub upto : ℕ → List Entry → List Entry
upto zero entries = []
upto (suc n) [] = []
upto (suc n) (Happens event ∷ later) = Happens event ∷ upto (suc n) later
upto (suc n) (Instruction ∷ later) = Instruction ∷ upto n later

-- a session goes back to the end of an instruction, counted from 1, or to 0; what came later is dropped, and a stop
abbrev pub gone_to : ℕ → Scene → Scene
gone_to n s = record s { entries = upto n s.entries; stopped = false }

-- ---- instructions that are done

-- where the machine and its chips were before each of the instructions among some entries
abbrev pub places : List Entry → Reached → List Reached
places [] r = []
places (Happens event ∷ later) r = places later (entered_by (Happens event) r)
places (Instruction ∷ later) r = r ∷ places later (turned r)

abbrev pub is_so : (Reached → Bool) → Option Reached → Bool
is_so test None = false
is_so test (Some r) = test r

-- an instruction that is done, counted from 1, passes a test
abbrev pub passes : (Reached → Bool) → Scene → ℕ → Bool
passes test s n = is_so test (slice_get (places s.entries (begun s)) (n - 1))

-- the last of so many numbers from 1 on that passes a test
abbrev pub latest : (ℕ → Bool) → ℕ → Option ℕ
latest test zero = None
latest test (suc n) = if test (suc n) then Some (suc n) else latest test n

-- ---- what is looked for

-- an instruction before the last one, of so many at most, that met a break: the breaks are those of now
abbrev pub met_before : ℕ → Scene → Option ℕ
met_before count s =
    latest (λ n. nat_le (done_in s - count) n && passes (meets_break s.breaks s.chain) s n) (done_in s - 1)

-- a bus step is a store that a socket took
abbrev pub is_store : Heard → Bool
is_store step = (step.romc == 5) && is_some step.taker

-- the next instruction stores at an address
abbrev pub stores_at : ℕ → Reached → Bool
stores_at at r = (r.position.flat.state.flow.d0 == at) && list_any is_store (next_steps r)

-- the last instruction that stored there
abbrev pub stored_by : ℕ → Scene → Option ℕ
stored_by at s = latest (passes (stores_at at) s) (done_in s)

-- ---- where it goes back to

abbrev pub found_or : ℕ → Option ℕ → ℕ
found_or otherwise None = otherwise
found_or otherwise (Some n) = n

-- by so many instructions, or to 0
abbrev pub back_by : ℕ → Scene → ℕ
back_by count s = done_in s - count

-- to the last of these, but for the last one that is done, that met a break, and by all of them where none did
abbrev pub back_to_break : ℕ → Scene → ℕ
back_to_break count s = found_or (back_by count s) (met_before count s)
