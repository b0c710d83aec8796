-- The chips of a generated cartridge are as the chips of a description have to be.
use Rattle.std.proofs.Common.{◌≡◌, ℕ, zero, suc, ◌+◌, ◌*◌, ◌<◌, ◌≤◌, false, List, length, map, drop, refl, arith}
use Rattle.std.specs.Prelude.{All}
use Rattle.std.specs.List.{range_with_len}
use Rattle.std.proofs.lemmas.List.{length-drop, length-take-le}
use Rattle.std.proofs.lemmas.List.Elements.{All-nil, All-cons}
use Rattle.std.proofs.lemmas.List.FromFn.{length-map-range_with_len}
use Rattle.chip_face.specs.declared.specification.ChipSpec.{ChipSpec}
use Rattle.chip_face.specs.Fitting.{IsSpec, IsChipList, is_blank}
use Rattle.generator.specs.GeneratedChips.{chip_at}

-- what holds of each of the chips holds of all that are numbered one after the other
all-numbered : (P : ChipSpec → Type 0) (chip : ℕ → ChipSpec) (count : ℕ) → ((number : ℕ) → number < count → P (chip number)) →
    (first many : ℕ) → first + many ≤ count → All P (map chip (range_with_len first many))
all-numbered P chip count each first zero within = All-nil P
all-numbered P chip count each first (suc many) within =
    All-cons P (chip first) (map chip (range_with_len (first + 1) many)) (each first (omega arith))
    (all-numbered P chip count each (first + 1) many (omega arith))

chip_at-is_spec : (bytes : List ℕ) (number : ℕ) → length bytes ≡ 12288 → number < 12 → IsSpec (chip_at bytes number)
chip_at-is_spec bytes number whole within =
    let rest = length-drop (1024 * number) bytes in
    record {
      bytes = length-take-le 1024 (drop (1024 * number) bytes) (omega arith);
      boundary = omega arith;
      four_ports = record { above_cpu = omega arith; below_end = omega arith; boundary = omega arith };
    }

pub chips-are_listed : (bytes : List ℕ) → length bytes ≡ 12288 → IsChipList (map (chip_at bytes) (range_with_len 0 12))
chips-are_listed bytes whole =
    let size = length-map-range_with_len (chip_at bytes) 0 12 in
    record {
      few = omega (arith, size);
      specified = all-numbered IsSpec (chip_at bytes) 12 (λ number within. chip_at-is_spec bytes number whole within) 0 12 (omega arith);
      none_blank = all-numbered (λ chip. is_blank chip ≡ false) (chip_at bytes) 12 (λ number within. refl) 0 12 (omega arith);
    }
