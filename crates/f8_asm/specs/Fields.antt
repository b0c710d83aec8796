-- Instructions with one small field: how large it may be, and the instruction with it.
use Rattle.std.specs.Prelude.{ℕ, ℤ, pos, negsuc, ◌-◌, ◌||◌, ◌==◌, nat_le, Option, Some, None, if◌then◌else◌}
use Rattle.f8_spec.specs.declared.instructions.Op.{Op}
use Rattle.f8_spec.specs.declared.instructions.Op.TheVariants as op
use Rattle.f8_asm.specs.declared.fields.Field.{Field}
use Rattle.f8_asm.specs.declared.fields.Field.TheVariants as field

-- the greatest number that an expression may give; 12 to 14 have words alone
abbrev pub last_of : Field → ℕ
last_of field.Sr = 4
last_of field.Sl = 4
last_of field.Lisu = 7
last_of field.Lisl = 7
last_of field.Lis = 15
last_of field.Ins = 15
last_of field.Outs = 15
last_of field.Bt = 7
last_of field.Bf = 15
last_of register = 11

-- the numbers that an instruction can have in its field, words counted
abbrev pub limit_of : Field → ℕ
limit_of field.Sr = 5
limit_of field.Sl = 5
limit_of field.Lisu = 8
limit_of field.Lisl = 8
limit_of field.Lis = 16
limit_of field.Ins = 16
limit_of field.Outs = 16
limit_of field.Bt = 8
limit_of field.Bf = 16
limit_of register = 15

-- a shift by 1 or by 4
abbrev pub shift : Op → Op → ℕ → Option Op
shift one four n = if n == 1 then Some one else (if n == 4 then Some four else None)

-- a port that has an instruction of its own: 0, 1, or 4 to 15
abbrev pub port : (ℕ → Op) → ℕ → Option Op
port with n = if (n == 2) || (n == 3) then None else Some (with n)

-- the instruction with this number in its field
abbrev pub op_with : Field → ℕ → Option Op
op_with field.Sr n = shift op.Sr1 op.Sr4 n
op_with field.Sl n = shift op.Sl1 op.Sl4 n
op_with field.Lisu n = Some (op.Lisu n)
op_with field.Lisl n = Some (op.Lisl n)
op_with field.Lis n = Some (op.Lis n)
op_with field.Ins n = port (λ p. op.Ins p) n
op_with field.Outs n = port (λ p. op.Outs p) n
op_with field.Bt n = Some (op.Bt n)
op_with field.Bf n = Some (op.Bf n)
op_with field.LrAR n = Some (op.LrAR n)
op_with field.LrRA n = Some (op.LrRA n)
op_with field.Ds n = Some (op.Ds n)
op_with field.As n = Some (op.As n)
op_with field.Asd n = Some (op.Asd n)
op_with field.Xs n = Some (op.Xs n)
op_with field.Ns n = Some (op.Ns n)

-- a value from 0 to `last`
abbrev pub small : ℕ → ℤ → Option ℕ
small last (pos n) = if nat_le n last then Some n else None
small last (negsuc n) = None

-- a value from -128 to `last` as a byte, in two's complement where it is negative
abbrev pub octet : ℕ → ℤ → Option ℕ
octet last (pos n) = if nat_le n last then Some n else None
octet last (negsuc n) = if nat_le n 127 then Some (255 - n) else None
