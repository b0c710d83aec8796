-- The fields of an instruction whose opcode is a byte lie in their ranges.
use Rattle.std.proofs.Common.{◌≡◌, ℕ, ◌<◌, ◌≤◌, Bool, true, false, ◌&&◌, ◌||◌, refl, ◌⊎◌, inl, inr, arith}
use Rattle.std.specs.Prelude.{Option, Some, None, nat_lt, nat_le}
use Rattle.std.proofs.lemmas.Bool.Decides.{nat_tests}
use Rattle.f8_spec.specs.Instructions.{InRange, decoded}
use Rattle.f8_spec.specs.declared.instructions.Op.{Op}
use Rattle.f8_spec.specs.declared.instructions.Op.TheVariants.{Ds, LrAR, LrRA, Lisu, Lisl, Lis, Bt, Bf, Ins, Outs, As, Asd, Xs, Ns}
use Rattle.f8_spec.proofs.ValuesBelow.{values_below, same_below}
use Rattle.abs_step.proofs.Knowing.{left_of, right_of}

-- the ranges as a test
abbrev is_port : ℕ → Bool
is_port n = nat_lt n 2 || (nat_le 4 n && nat_lt n 16)

abbrev is_in_range : Op → Bool
is_in_range (Ds r) = nat_lt r 15
is_in_range (LrAR r) = nat_lt r 15
is_in_range (LrRA r) = nat_lt r 15
is_in_range (Lisu n) = nat_lt n 8
is_in_range (Lisl n) = nat_lt n 8
is_in_range (Lis n) = nat_lt n 16
is_in_range (Bt t) = nat_lt t 8
is_in_range (Bf t) = nat_lt t 16
is_in_range (As r) = nat_lt r 15
is_in_range (Asd r) = nat_lt r 15
is_in_range (Xs r) = nat_lt r 15
is_in_range (Ns r) = nat_lt r 15
is_in_range (Ins n) = is_port n
is_in_range (Outs n) = is_port n
is_in_range op = true

abbrev fits : Option Op → Bool
fits None = true
fits (Some op) = is_in_range op

decoded_fits : (code : ℕ) → code < 256 → fits (decoded code) ≡ true
unfolding decoded values_below
decoded_fits code small = same_below (λ c. fits (decoded c)) (λ c. true) 256 code refl small

below : (n bound : ℕ) → nat_lt n bound ≡ true → n < bound
below n bound e = grind (arith, nat_tests)

port_by : (n : ℕ) (b : Bool) → nat_lt n 2 ≡ b → (b || (nat_le 4 n && nat_lt n 16)) ≡ true → (n < 2) ⊎ ((4 ≤ n) × (n < 16))
port_by n true low e = inl (below n 2 low)
port_by n false low e =
    let from : nat_le 4 n ≡ true = left_of (nat_le 4 n) (nat_lt n 16) e in
    let least : 4 ≤ n = grind (arith, nat_tests) in
    inr (least, below n 16 (right_of (nat_le 4 n) (nat_lt n 16) e))

port_below : (n : ℕ) → is_port n ≡ true → (n < 2) ⊎ ((4 ≤ n) × (n < 16))
port_below n e = port_by n (nat_lt n 2) refl e

tested_in_range : (op : Op) → is_in_range op ≡ true → InRange op
tested_in_range (Ds r) e = below r 15 e
tested_in_range (LrAR r) e = below r 15 e
tested_in_range (LrRA r) e = below r 15 e
tested_in_range (Lisu n) e = below n 8 e
tested_in_range (Lisl n) e = below n 8 e
tested_in_range (Lis n) e = below n 16 e
tested_in_range (Bt t) e = below t 8 e
tested_in_range (Bf t) e = below t 16 e
tested_in_range (As r) e = below r 15 e
tested_in_range (Asd r) e = below r 15 e
tested_in_range (Xs r) e = below r 15 e
tested_in_range (Ns r) e = below r 15 e
tested_in_range (Ins n) e = port_below n e
tested_in_range (Outs n) e = port_below n e
tested_in_range op e = tt

pub decoded_in_range : (code : ℕ) (op : Op) → code < 256 → decoded code ≡ Some op → InRange op
decoded_in_range code op small is =
    let test : fits (decoded code) ≡ true = decoded_fits code small in
    tested_in_range op (rw is at test)
