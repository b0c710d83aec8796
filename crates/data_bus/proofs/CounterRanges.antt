-- Counters that hold addresses hold addresses after a move by a byte.
use Rattle.std.proofs.Common.{ℕ, ◌<◌, Bool, true, false, arith, ℤ, pos, negsuc}
use Rattle.std.specs.Prelude.{◌||◌, ◌==◌, if◌then◌else◌}
use Rattle.std.specs.Int.{w8, cast_signed}
use Rattle.f8_spec.specs.Words.{with_high, with_low, places_on, wrapped, displaced}
use Rattle.f8_spec.specs.BusCodes.{Count, moved_by}
use Rattle.data_bus.specs.KnownAgreement.{AreAddresses}

-- by a test of the code
addresses_if : (code : Bool) {moved own : Count} → AreAddresses moved → AreAddresses own → AreAddresses (if code then moved else own)
addresses_if true moved own = moved
addresses_if false moved own = own

-- what each move gives is an address
wrapped_small : (at : ℕ) (by : ℤ) → wrapped at by < 65536
wrapped_small at (pos n) = omega arith
wrapped_small at (negsuc n) = omega arith

displaced_small : (at byte : ℕ) → displaced at byte < 65536
displaced_small at byte = wrapped_small at (cast_signed w8 byte)

low_small : (at byte : ℕ) → at < 65536 → byte < 256 → with_low at byte < 65536
low_small at byte small below = omega arith

high_small : (at byte : ℕ) → byte < 256 → with_high at byte < 65536
high_small at byte below = omega arith

next_small : (at : ℕ) → places_on at 1 < 65536
next_small at = omega arith

-- each code, in the order of its tests
pub moved_small : (romc byte : ℕ) (second : Bool) (own : Count) → byte < 256 → AreAddresses own → AreAddresses (moved_by romc byte second own)
moved_small romc byte second own below are =
    addresses_if (romc == 0x00 || romc == 0x03) (record { pc0 = next_small _; pc1 = are.pc1; dc0 = are.dc0; dc1 = are.dc1 })
    (addresses_if (romc == 0x01) (record { pc0 = displaced_small _ _; pc1 = are.pc1; dc0 = are.dc0; dc1 = are.dc1 })
    (addresses_if (romc == 0x02 || romc == 0x05) (record { pc0 = are.pc0; pc1 = are.pc1; dc0 = next_small _; dc1 = are.dc1 })
    (addresses_if (romc == 0x04) (record { pc0 = are.pc1; pc1 = are.pc1; dc0 = are.dc0; dc1 = are.dc1 })
    (addresses_if (romc == 0x08) (record { pc0 = omega arith; pc1 = are.pc0; dc0 = are.dc0; dc1 = are.dc1 })
    (addresses_if (romc == 0x0A) (record { pc0 = are.pc0; pc1 = are.pc1; dc0 = displaced_small _ _; dc1 = are.dc1 })
    (addresses_if (romc == 0x0C || romc == 0x17) (record { pc0 = low_small _ _ are.pc0 below; pc1 = are.pc1; dc0 = are.dc0; dc1 = are.dc1 })
    (addresses_if (romc == 0x0D) (record { pc0 = are.pc0; pc1 = next_small _; dc0 = are.dc0; dc1 = are.dc1 })
    (addresses_if (romc == 0x0E || romc == 0x19) (record { pc0 = are.pc0; pc1 = are.pc1; dc0 = low_small _ _ are.dc0 below; dc1 = are.dc1 })
    (addresses_if (romc == 0x0F || romc == 0x12) (record { pc0 = low_small _ _ are.pc0 below; pc1 = are.pc0; dc0 = are.dc0; dc1 = are.dc1 })
    (addresses_if (romc == 0x11 || romc == 0x16) (record { pc0 = are.pc0; pc1 = are.pc1; dc0 = high_small _ _ below; dc1 = are.dc1 })
    (addresses_if (romc == 0x13 || romc == 0x14) (record { pc0 = high_small _ _ below; pc1 = are.pc1; dc0 = are.dc0; dc1 = are.dc1 })
    (addresses_if (romc == 0x15) (record { pc0 = are.pc0; pc1 = high_small _ _ below; dc0 = are.dc0; dc1 = are.dc1 })
    (addresses_if (romc == 0x18) (record { pc0 = are.pc0; pc1 = low_small _ _ are.pc1 below; dc0 = are.dc0; dc1 = are.dc1 })
    (addresses_if (romc == 0x1D) (addresses_if second (record { pc0 = are.pc0; pc1 = are.pc1; dc0 = are.dc1; dc1 = are.dc0 }) are) are))))))))))))))
