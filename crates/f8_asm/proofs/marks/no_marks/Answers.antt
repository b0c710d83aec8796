use Rattle.std.proofs.Common.{refl}
use Rattle.f8_asm.proofs.NoMarks.{are_no_marks, all_addresses}
use Rattle.f8_asm.proofs.marks.no_marks.Goals as goal

pub returns : goal.returns
returns c =
    let is = c.in_ok-marks.ensures.items_if_clones_equal (λ y e. e) in
    record { value = are_no_marks _ c.in_ok-marks.marks.items refl is; length = all_addresses _ c.in_ok-marks.marks.items refl is }
