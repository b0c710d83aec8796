-- How many questions worked runs may put to the chips, computed from the definitions: 512 to each, by which the pages are found, and then
-- the allowances of the steps that were tried.
use Rattle.std.proofs.Common.{◌≡◌, ℕ, ◌+◌, ◌*◌, true, List, [], ◌∷◌, ◌++◌, map, replicate, None, refl}
use Rattle.f8_spec.specs.ChipState.{ChipView, ChipState}
use Rattle.console_spec.proofs.Played.{played_alone, running}
use Rattle.console_spec.proofs.WorkedRacks.{psu, pop_at_once, exchange_alone, psu_and_ram, rom_and_ram}
use Rattle.rack_run.specs.Asking.{run_allowed, tried_codes}

abbrev fitted : ChipView → ChipState
fitted v = record { view = v; heard_steps = None; patch = None }

-- the codes that a run of so many instructions tries, powered with a byte, and what it may ask
abbrev codes_in : List ChipView → ℕ → ℕ → List ℕ
codes_in vs fill n = tried_codes (played_alone vs fill n)

abbrev allowed_in : List ChipView → ℕ → ℕ → ℕ
allowed_in vs fill n = run_allowed (map fitted vs) (codes_in vs fill n)

-- LIS 1, NOP, and a branch to the NOP: one for reset, one each for LIS and NOP, and two for the branch
abbrev loop : List ChipView
loop = psu 0 4 (0x71 ∷ 0x2B ∷ 0x90 ∷ 0xFE ∷ []) ∷ []

loop_codes : codes_in loop 0 3 ≡ 0x1C ∷ 0x08 ∷ 0x00 ∷ 0x00 ∷ 0x00 ∷ 0x1C ∷ 0x01 ∷ 0x00 ∷ []
unfolding running
loop_codes = refl

loop_allowed : allowed_in loop 0 3 ≡ 512 + 5
unfolding running
loop_allowed = refl

-- without chips reset's fetch is tried, and may ask one question of nobody
nobody_allowed : allowed_in [] 0 1 ≡ 1
unfolding running
nobody_allowed = refl

-- DCI and LM: a loaded data counter is known, so that its read asks one chip
abbrev loaded_read : List ChipView
loaded_read = psu 0 4 (0x2A ∷ 0x00 ∷ 0x00 ∷ 0x16 ∷ []) ∷ psu 0x400 8 [] ∷ []

loaded_read_allowed : allowed_in loaded_read 0 2 ≡ 512 * 2 + (1 + 5 + 2)
unfolding running
loaded_read_allowed = refl

-- LM right after reset: nothing is known of the data counter, so that its read may ask four questions of each chip
abbrev first_read : List ChipView
first_read = psu 0 4 (0x16 ∷ []) ∷ []

first_read_allowed : allowed_in first_read 0 1 ≡ 512 + (1 + (4 + 1))
unfolding running
first_read_allowed = refl

-- an exchange that a 3851 passes by leaves nothing known of the data counter; the read that isn't served is counted too
parted_codes : codes_in exchange_alone 0 9 ≡
    0x1C ∷ 0x08 ∷ 0x00 ∷ 0x11 ∷ 0x03 ∷ 0x0E ∷ 0x03 ∷ 0x00 ∷ 0x1D ∷ 0x00 ∷ 0x02 ∷ []
unfolding running
parted_codes = refl

parted_allowed : allowed_in exchange_alone 0 9 ≡ 512 + (1 + 5 + 1 + 4)
unfolding running
parted_allowed = refl

both_answer_allowed : allowed_in (psu_and_ram rom_and_ram) 0 9 ≡ 512 * 13 + (1 + 5 + 1 + 5 + 1 + 4 * 13)
unfolding running
both_answer_allowed = refl

-- POP brings the program counter to the stack register, of which nothing is known: from then on a fetch may ask each chip
pop_allowed : allowed_in pop_at_once 0 3 ≡ 512 * 2 + (1 + 3 * (4 * 2))
unfolding running
pop_allowed = refl

-- ports: a write may ask each chip once; and an interrupt asks its chip twice, and one chip for the fetch at its vector
abbrev timer_cart : List ChipView
timer_cart = record (psu 0 4 (0x73 ∷ 0xB6 ∷ 0x20 ∷ 0x7F ∷ 0xB7 ∷ replicate 7 0x2B ++ 0x1B ∷ 0x2B ∷ [])) { wired = true; vector = 0x180 } ∷ []

timer_allowed : allowed_in timer_cart 0 13 ≡ 512 + (1 + 1 + 2 + 2 + 2 + 7 + 1 + 3)
unfolding running
timer_allowed = refl
