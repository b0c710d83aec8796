-- A conjunction of tests that are made one after another.
use Rattle.std.proofs.Common.{◌≡◌, Bool, true, false, ◌&&◌, ◌∙◌}

-- the first holds, and the second is found
pub second_found : (found first second a b : Bool) → found ≡ second → first ≡ true → first ≡ a → second ≡ b → found ≡ (a && b)
second_found found first second true b is holds says tells = is ∙ tells
second_found found first second false b is holds says tells = absurd (cc)

-- the first fails
pub first_failed : (found first a b : Bool) → found ≡ first → first ≡ false → first ≡ a → found ≡ (a && b)
first_failed found first true b is fails says = absurd (cc)
first_failed found first false b is fails says = is ∙ fails
