-- The table of opcodes, read both ways.
use Rattle.std.proofs.Common.{◌≡◌, ℕ, ◌+◌, ◌-◌, ◌<◌, ◌≤◌, inl, inr, refl, subst, ap, ◌∙◌, arith}
use Rattle.std.specs.Prelude.{Some, None}
use Rattle.f8_spec.specs.Instructions.{InRange, IsReserved, encoded, decoded}
use Rattle.f8_spec.specs.declared.instructions.Op.{Op}
use Rattle.f8_spec.specs.declared.instructions.Op.TheVariants.{Ds, LrAR, LrRA, Lisu, Lisl, Lis, Bt, Bf, Ins, Outs, As, Asd, Xs, Ns}
use Rattle.f8_spec.proofs.ValuesBelow.{values_below, same_below}

-- a port from 4 on, by its distance from 4
from_four : (form : ℕ → Op) (code n : ℕ) → ((k : ℕ) → k < 12 → decoded (code + (4 + k)) ≡ Some (form (4 + k))) → 4 ≤ n →
    n < 16 → decoded (code + n) ≡ Some (form n)
from_four form code n each low high =
    let same_port : 4 + (n - 4) ≡ n = omega arith in
    subst (λ (port : ℕ). decoded (code + port) ≡ Some (form port)) same_port (each (n - 4) (omega arith))

-- the opcode of an instruction is decoded to that instruction
pub decoded-encoded : (op : Op) → InRange op → decoded (encoded op) ≡ Some op
unfolding decoded values_below
decoded-encoded (Ds r) in_range = same_below (λ r. decoded (0x30 + r)) (λ r. Some (Ds r)) 15 r refl in_range
decoded-encoded (LrAR r) in_range = same_below (λ r. decoded (0x40 + r)) (λ r. Some (LrAR r)) 15 r refl in_range
decoded-encoded (LrRA r) in_range = same_below (λ r. decoded (0x50 + r)) (λ r. Some (LrRA r)) 15 r refl in_range
decoded-encoded (Lisu n) in_range = same_below (λ n. decoded (0x60 + n)) (λ n. Some (Lisu n)) 8 n refl in_range
decoded-encoded (Lisl n) in_range = same_below (λ n. decoded (0x68 + n)) (λ n. Some (Lisl n)) 8 n refl in_range
decoded-encoded (Lis n) in_range = same_below (λ n. decoded (0x70 + n)) (λ n. Some (Lis n)) 16 n refl in_range
decoded-encoded (Bt t) in_range = same_below (λ t. decoded (0x80 + t)) (λ t. Some (Bt t)) 8 t refl in_range
decoded-encoded (Bf t) in_range = same_below (λ t. decoded (0x90 + t)) (λ t. Some (Bf t)) 16 t refl in_range
decoded-encoded (Ins n) (inl low) = same_below (λ n. decoded (0xA0 + n)) (λ n. Some (Ins n)) 2 n refl low
decoded-encoded (Ins n) (inr (from, below)) =
    from_four Ins 0xA0 n (λ k. same_below (λ k. decoded (0xA0 + (4 + k))) (λ k. Some (Ins (4 + k))) 12 k refl) from below
decoded-encoded (Outs n) (inl low) = same_below (λ n. decoded (0xB0 + n)) (λ n. Some (Outs n)) 2 n refl low
decoded-encoded (Outs n) (inr (from, below)) =
    from_four Outs 0xB0 n (λ k. same_below (λ k. decoded (0xB0 + (4 + k))) (λ k. Some (Outs (4 + k))) 12 k refl) from below
decoded-encoded (As r) in_range = same_below (λ r. decoded (0xC0 + r)) (λ r. Some (As r)) 15 r refl in_range
decoded-encoded (Asd r) in_range = same_below (λ r. decoded (0xD0 + r)) (λ r. Some (Asd r)) 15 r refl in_range
decoded-encoded (Xs r) in_range = same_below (λ r. decoded (0xE0 + r)) (λ r. Some (Xs r)) 15 r refl in_range
decoded-encoded (Ns r) in_range = same_below (λ r. decoded (0xF0 + r)) (λ r. Some (Ns r)) 15 r refl in_range
decoded-encoded op in_range = refl

-- an opcode that equals one with no instruction has none
none_along : (code reserved : ℕ) → decoded reserved ≡ None → code ≡ reserved → decoded code ≡ None
none_along code reserved is_none same = ap decoded same ∙ is_none

-- no instruction has a reserved opcode
pub decoded-reserved : (code : ℕ) → IsReserved code → decoded code ≡ None
unfolding decoded
decoded-reserved code (inl same) = none_along code 0x2D refl same
decoded-reserved code (inr (inl same)) = none_along code 0x2E refl same
decoded-reserved code (inr (inr (inl same))) = none_along code 0x2F refl same
decoded-reserved code (inr (inr (inr (inl same)))) = none_along code 0x3F refl same
decoded-reserved code (inr (inr (inr (inr (inl same))))) = none_along code 0x4F refl same
decoded-reserved code (inr (inr (inr (inr (inr (inl same)))))) = none_along code 0x5F refl same
decoded-reserved code (inr (inr (inr (inr (inr (inr (inl same))))))) = none_along code 0xA2 refl same
decoded-reserved code (inr (inr (inr (inr (inr (inr (inr (inl same)))))))) = none_along code 0xA3 refl same
decoded-reserved code (inr (inr (inr (inr (inr (inr (inr (inr (inl same))))))))) = none_along code 0xB2 refl same
decoded-reserved code (inr (inr (inr (inr (inr (inr (inr (inr (inr (inl same)))))))))) = none_along code 0xB3 refl same
decoded-reserved code (inr (inr (inr (inr (inr (inr (inr (inr (inr (inr (inl same))))))))))) = none_along code 0xCF refl same
decoded-reserved code (inr (inr (inr (inr (inr (inr (inr (inr (inr (inr (inr (inl same)))))))))))) = none_along code 0xDF refl same
decoded-reserved code (inr (inr (inr (inr (inr (inr (inr (inr (inr (inr (inr (inr (inl same))))))))))))) = none_along code 0xEF refl same
decoded-reserved code (inr (inr (inr (inr (inr (inr (inr (inr (inr (inr (inr (inr (inr same))))))))))))) = none_along code 0xFF refl same

-- what the opcode of an instruction and a reserved opcode are decoded to
pub ruleset opcode_laws = (decoded-encoded, decoded-reserved)
