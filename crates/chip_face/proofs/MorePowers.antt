-- What is said of the power-on of chips, with that of one more behind.
use Rattle.std.proofs.Common.{◌≡◌, ℕ, zero, suc, ◌+◌, ◌<◌, List, [], ◌∷◌, ◌++◌, length, take, sym, subst}
use Rattle.std.specs.Prelude.{slice_set}
use Rattle.std.proofs.lemmas.List.{take_more_set}
use Rattle.f8_spec.specs.Powers.{IsPower, ArePowers}
use Rattle.f8_spec.specs.declared.chips.PowerOn.{PowerOn}

one_more : (ps : List PowerOn) (power : PowerOn) → IsPower power → ArePowers ps → ArePowers (ps ++ power ∷ [])
one_more [] power is are zero p lies = let same : power ≡ p = cc in subst IsPower same is
one_more [] power is are (suc place) p lies = cc
one_more (q ∷ ps) power is are zero p lies = are zero p lies
one_more (q ∷ ps) power is are (suc place) p lies = one_more ps power is (λ k r there. are (suc k) r there) place p lies

pub powers_with : (items : List PowerOn) (len : ℕ) (power : PowerOn) → len < length items → IsPower power → ArePowers (take len items) →
    ArePowers (take (len + 1) (slice_set items len power))
powers_with items len power within is are =
    subst ArePowers (sym (take_more_set items len power within)) (one_more (take len items) power is are)
