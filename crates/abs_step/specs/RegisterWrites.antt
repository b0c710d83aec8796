-- Reads and writes of the scratchpad where the register, or the byte, may be unknown.
use Rattle.std.specs.Prelude.{ℕ, ◌+◌, ◌*◌, ◌/◌, ◌%◌, Bool, true, ◌&&◌, ◌==◌, nat_lt, if◌then◌else◌, List, [], ◌∷◌}
use Rattle.std.specs.Prelude.{slice_index_or, Option, Some, None, is_some, option_and_then}
use Rattle.abs_domain.specs.Lattice.{common, same_number}
use Rattle.abs_domain.specs.AbstractState.{KnownRegisters}
use Rattle.abs_step.specs.Known.{lift2}
use Rattle.f8_spec.specs.RegisterNumbers.{pointed_field}

-- ---- registers

abbrev pub known_register : ℕ → KnownRegisters → Option ℕ
known_register number k = slice_index_or k.scratchpad number None

-- a register by its two octal digits, each known or not
pub record Target : Type 0 where
  pub high : Option ℕ
  pub low : Option ℕ

abbrev pub exactly : ℕ → Target
exactly number = record { high = Some (number / 8); low = Some (number % 8) }

-- the register that a field names: from 12 on the one that ISAR points to
abbrev pub target_of : ℕ → KnownRegisters → Target
target_of field k = if nat_lt field pointed_field then exactly field else record { high = k.high; low = k.low }

-- the number of a register whose digits are both known
abbrev pub target_number : Target → Option ℕ
target_number t = lift2 (λ high low. high * 8 + low) t.high t.low

-- a read needs both digits
abbrev pub read_target : Target → List (Option ℕ) → Option ℕ
read_target t scratchpad = option_and_then (λ number. slice_index_or scratchpad number None) (target_number t)

abbrev pub known_field : ℕ → KnownRegisters → Option ℕ
known_field field k = read_target (target_of field k) k.scratchpad

-- ---- writes

-- a byte, known or not, that is written to a register
pub record RegisterWrite : Type 0 where
  pub target : Target
  pub value : Option ℕ

abbrev pub digit_allows : Option ℕ → ℕ → Bool
digit_allows None digit = true
digit_allows (Some known) digit = known == digit

-- the target may be this register, and it is known which one it is
abbrev pub target_allows : Target → ℕ → Bool
target_allows t number = digit_allows t.high (number / 8) && digit_allows t.low (number % 8)

abbrev pub is_exact : Target → Bool
is_exact t = is_some t.high && is_some t.low

-- What is known of a register after a write. One that is only perhaps written has its old byte or the new one.
abbrev pub written_to : RegisterWrite → ℕ → Option ℕ → Option ℕ
written_to w number old =
    if target_allows w.target number then (if is_exact w.target then w.value else common same_number w.value old) else old

-- registers from a number on, after a write
abbrev pub written_from : ℕ → RegisterWrite → List (Option ℕ) → List (Option ℕ)
written_from number w [] = []
written_from number w (x ∷ xs) = written_to w number x ∷ written_from (number + 1) w xs

-- the scratchpad after some writes, the first one first
abbrev pub written_all : List RegisterWrite → List (Option ℕ) → List (Option ℕ)
written_all [] xs = xs
written_all (w ∷ ws) xs = written_all ws (written_from 0 w xs)
