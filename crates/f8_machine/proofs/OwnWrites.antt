-- Only an `OUTS` writes a port of the processor's own.
use Rattle.std.proofs.Common.{◌≡◌, ℕ, ◌+◌, ◌<◌, ◌≤◌, List, Option, Some, None, inl, inr, refl, arith}
use Rattle.std.specs.Prelude.{◌⊎◌, MatchOption}
use Rattle.f8_spec.specs.Instructions.{InRange, IsReserved, decoded, encoded}
use Rattle.f8_spec.specs.declared.instructions.Op.{Op}
use Rattle.f8_spec.specs.declared.instructions.Op.TheVariants.{Outs}
use Rattle.f8_ops.proofs.CodeTable.{decoded_is_right}
use Rattle.f8_machine.specs.PortWrites.{chip_write, done_write}
use Rattle.f8_machine.specs.declared.heard.Heard.{Heard}

-- the port of an `OUTS` is below 16
below_16 : (n : ℕ) → (n < 2) ⊎ ((4 ≤ n) × (n < 16)) → n < 16
below_16 n (inl low) = omega (arith, low)
below_16 n (inr high) = high.1

-- an opcode that lies beside those of `OUTS` has the write that a chip took
pub write_of_others : (code phi : ℕ) (latches : List ℕ) (steps : List Heard) → code < 256 →
    (code < 0xB0) ⊎ ((0xB0 ≤ code) × (0xBF < code)) →
    done_write (decoded code) phi latches steps ≡ chip_write phi steps
write_of_others code phi latches steps byte beside = by (decoded code) (decoded_is_right code byte)
  where
    past : (n : ℕ) → (n < 2) ⊎ ((4 ≤ n) × (n < 16)) → 0xB0 + n ≡ code →
        (code < 0xB0) ⊎ ((0xB0 ≤ code) × (0xBF < code)) → ⊥
    past n range is (inl low) = omega (arith, is, low)
    past n range is (inr high) = omega (arith, is, high.1, below_16 n range)

    by : (found : Option Op) → MatchOption found (IsReserved code) (λ op. InRange op × (encoded op ≡ code)) →
        done_write found phi latches steps ≡ chip_write phi steps
    by None reserved = refl
    by (Some (Outs n)) right = absurd (past n right.0 right.1 beside)
    by (Some op) right = refl
