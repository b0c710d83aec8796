-- How many questions a step may put, code by code: for any index and any number of chips, computed from the definitions.
use Rattle.std.proofs.Common.{◌≡◌, ℕ, ◌*◌, List, [], ◌∷◌, map, refl}
use Rattle.std.specs.Prelude.{◌&&◌, if◌then◌else◌}
use Rattle.data_bus.specs.declared.index.Index.{Index}
use Rattle.data_bus.specs.declared.marks.Halves.{Halves}
use Rattle.data_bus.specs.PageIndex.{allowance}

-- by a counter: one question where both halves are known, and else four to each chip
abbrev by : Halves → ℕ → ℕ
by halves n = if halves.low && halves.high then 1 else 4 * n

-- each code of the table, from 00 on, eight in a line
abbrev codes : List ℕ
codes =
    0x00 ∷ 0x01 ∷ 0x02 ∷ 0x03 ∷ 0x04 ∷ 0x05 ∷ 0x06 ∷ 0x07 ∷
    0x08 ∷ 0x09 ∷ 0x0A ∷ 0x0B ∷ 0x0C ∷ 0x0D ∷ 0x0E ∷ 0x0F ∷
    0x10 ∷ 0x11 ∷ 0x12 ∷ 0x13 ∷ 0x14 ∷ 0x15 ∷ 0x16 ∷ 0x17 ∷
    0x18 ∷ 0x19 ∷ 0x1A ∷ 0x1B ∷ 0x1C ∷ 0x1D ∷ 0x1E ∷ 0x1F ∷ []

abbrev table : Halves → Halves → Halves → ℕ → List ℕ
table pc0 pc1 dc0 n =
    by pc0 n ∷ by pc0 n ∷ by dc0 n ∷ by pc0 n ∷ 0 ∷ by dc0 n ∷ by dc0 n ∷ by pc1 n ∷
    0 ∷ by dc0 n ∷ 0 ∷ by pc1 n ∷ by pc0 n ∷ 0 ∷ by pc0 n ∷ 1 ∷
    0 ∷ by pc0 n ∷ 0 ∷ 1 ∷ 0 ∷ 0 ∷ 0 ∷ 0 ∷
    0 ∷ 0 ∷ n ∷ n ∷ 0 ∷ 0 ∷ by pc0 n ∷ by pc0 n ∷ []

allowances : (x : Index) (n : ℕ) → map (λ romc. allowance romc x n) codes ≡ table x.marks.pc0 x.marks.pc1 x.marks.dc0 n
allowances x n = refl
