-- One step after another, where there is no fault.
use Rattle.std.specs.Prelude.{Result, Ok, Err}

-- what follows where something was read; a fault stays the first
infixl 1 ◌>>=◌
abbrev pub ◌>>=◌ : {A B E : Type 0} → Result A E → (A → Result B E) → Result B E
Ok x >>= f = f x
Err e >>= f = Err e
