-- The lines that sum up the run of a generated cartridge, as bytes (this project's own). Every line ends with a line feed, and numbers are
-- decimal.
use Rattle.std.specs.Prelude.{ℕ, List, ◌++◌, codes, decimal}

-- the seed of the cartridge
unfoldable pub gen_line : ℕ → List ℕ
gen_line seed = codes "gen " ++ decimal seed ++ codes "\n"

-- how many bytes were written to ports, and their sum
unfoldable pub writes_line : ℕ → ℕ → List ℕ
writes_line count total = codes "writes " ++ decimal count ++ codes " sum " ++ decimal total ++ codes "\n"

-- the sum of the bytes of the scratchpad
unfoldable pub scratch_sum_line : ℕ → List ℕ
scratch_sum_line total = codes "scratch " ++ decimal total ++ codes "\n"
