-- Steps one after the other, up to the first that fails.
use Rattle.std.specs.Prelude.{List, [], ◌∷◌, Result, Ok}
use Rattle.f8_asm.specs.Answers.{◌>>=◌}

unfoldable pub steps : {S X E : Type 0} → (S → X → Result S E) → S → List X → Result S E
steps step s [] = Ok s
steps step s (x ∷ xs) = step s x >>= λ t. steps step t xs
