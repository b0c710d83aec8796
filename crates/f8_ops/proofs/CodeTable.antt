-- The table over all opcodes, computed at each of the 256.
use Rattle.std.proofs.Common.{◌≡◌, ◌==◌, ◌&&◌, ◌||◌, ℕ, ◌<◌, Bool, true, refl, rules}
use Rattle.std.proofs.lemmas.Bool.{and_parts, eqb-true}
use Rattle.std.specs.Prelude.{Option, Some, None, MatchOption, nat_lt, nat_le}
use Rattle.f8_spec.specs.Instructions.{InRange, IsReserved, encoded, decoded}
use Rattle.f8_spec.specs.declared.instructions.Op.{Op}
use Rattle.f8_spec.specs.declared.instructions.Op.TheVariants.{Ds, LrAR, LrRA, Lisu, Lisl, Lis, Bt, Bf, Ins, Outs, As, Asd, Xs, Ns}
use Rattle.f8_spec.proofs.ValuesBelow.{values_below, same_below}

-- the opcode is reserved, as a test
abbrev is_reserved : ℕ → Bool
is_reserved code =
    code == 0x2D || code == 0x2E || code == 0x2F || code == 0x3F || code == 0x4F || code == 0x5F || code == 0xA2 || code == 0xA3
    || code == 0xB2 || code == 0xB3 || code == 0xCF || code == 0xDF || code == 0xEF || code == 0xFF

-- the fields of the instruction lie in their ranges, as a test
abbrev is_in_range : Op → Bool
is_in_range (Ds r) = nat_lt r 15
is_in_range (LrAR r) = nat_lt r 15
is_in_range (LrRA r) = nat_lt r 15
is_in_range (Lisu n) = nat_lt n 8
is_in_range (Lisl n) = nat_lt n 8
is_in_range (Lis n) = nat_lt n 16
is_in_range (Bt t) = nat_lt t 8
is_in_range (Bf t) = nat_lt t 16
is_in_range (As r) = nat_lt r 15
is_in_range (Asd r) = nat_lt r 15
is_in_range (Xs r) = nat_lt r 15
is_in_range (Ns r) = nat_lt r 15
is_in_range (Ins n) = nat_lt n 2 || (nat_le 4 n && nat_lt n 16)
is_in_range (Outs n) = nat_lt n 2 || (nat_le 4 n && nat_lt n 16)
is_in_range op = true

-- what an opcode is decoded to says that very opcode
abbrev is_right : ℕ → Option Op → Bool
is_right code None = is_reserved code
is_right code (Some op) = is_in_range op && encoded op == code

-- the table passes at every byte
all_right : values_below (λ code. is_right code (decoded code)) 256 ≡ values_below (λ _. true) 256
unfolding values_below decoded
all_right = refl

-- where the test of the opcode passes, it is reserved
IsReserved-is_reserved : (code : ℕ) → is_reserved code ≡ true → IsReserved code
IsReserved-is_reserved code test = search rules

-- where the test of the fields passes, they lie in their ranges
InRange-is_in_range : (op : Op) → is_in_range op ≡ true → InRange op
InRange-is_in_range (Ds r) test = search rules
InRange-is_in_range (LrAR r) test = search rules
InRange-is_in_range (LrRA r) test = search rules
InRange-is_in_range (Lisu n) test = search rules
InRange-is_in_range (Lisl n) test = search rules
InRange-is_in_range (Lis n) test = search rules
InRange-is_in_range (Bt t) test = search rules
InRange-is_in_range (Bf t) test = search rules
InRange-is_in_range (As r) test = search rules
InRange-is_in_range (Asd r) test = search rules
InRange-is_in_range (Xs r) test = search rules
InRange-is_in_range (Ns r) test = search rules
InRange-is_in_range (Ins n) test = search rules
InRange-is_in_range (Outs n) test = search rules
InRange-is_in_range op test = tt

-- where the test passes for what an opcode is decoded to, the opcode is reserved or that of the instruction
right_of_test : (code : ℕ) (found : Option Op) → is_right code found ≡ true → MatchOption found (IsReserved code) (λ op. InRange op × (encoded op ≡ code))
right_of_test code None test = IsReserved-is_reserved code test
right_of_test code (Some op) test =
    let parts = and_parts (is_in_range op) (encoded op == code) test in
    (InRange-is_in_range op parts.0, eqb-true (encoded op) code parts.1)

-- every byte is a reserved opcode or the opcode of an instruction in range, and it is decoded to that instruction
pub decoded_is_right : (code : ℕ) → code < 256 → MatchOption (decoded code) (IsReserved code) (λ op. InRange op × (encoded op ≡ code))
decoded_is_right code is_byte =
    right_of_test code (decoded code) (same_below (λ code. is_right code (decoded code)) (λ _. true) 256 code all_right is_byte)
