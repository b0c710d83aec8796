-- Numbers that ascend strictly.
use Rattle.std.proofs.Common.{◌≡◌, ℕ, zero, suc, ◌+◌, ◌<◌, ◌≤◌, List, length, arith}
use Rattle.std.specs.Prelude.{slice_index}
use Rattle.std.specs.List.Sorted.{IsStrictlyIncreasing}

-- each is at least its own place
pub place_below : (xs : List ℕ) → IsStrictlyIncreasing xs → (i : ℕ) → i < length xs → i ≤ slice_index xs i
place_below xs up zero within = omega arith
place_below xs up (suc i) within =
    let before = place_below xs up i (omega arith) in
    let e : i + 1 ≡ suc i = omega arith in
    let step = rw e at (up i (omega arith)) in
    omega arith
