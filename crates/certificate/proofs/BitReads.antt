-- A bit that is read of a status word is what the word says of it.
use Rattle.std.proofs.Common.{◌≡◌, ℕ, zero, suc, ◌<◌, Bool, List, [], ◌∷◌, length, get_or, refl, ap, ◌∙◌, arith}
use Rattle.std.specs.Prelude.{Option}
use Rattle.abs_domain.specs.KnownParts.{known_bit}
use Rattle.abs_domain.specs.declared.values.Bit.{Bit}
use Rattle.abs_domain.specs.declared.values.Bit.TheVariants.{Any}

same_at : (xs : List Bit) (k : ℕ) (d e : Bit) → k < length xs → get_or xs k d ≡ get_or xs k e
same_at [] k d e within = absurd (omega arith)
same_at (x ∷ xs) zero d e within = refl
same_at (x ∷ xs) (suc k) d e within = same_at xs k d e (omega arith)

pub bit_known : (bits : List Bit) (k : ℕ) (d : Bit) (bit : Option Bool) → k < length bits → bit ≡ known_bit (get_or bits k d) →
    bit ≡ known_bit (get_or bits k Any)
bit_known bits k d bit within read = read ∙ ap known_bit (same_at bits k d Any within)
