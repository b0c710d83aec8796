-- Functions of what is known: the result is known where all that it needs is known.
use Rattle.std.specs.Prelude.{ℕ, Bool, true, false, not, ◌==◌, Option, Some, None, option_map}
use Rattle.f8_spec.specs.Words.{word}

abbrev pub lift2 : {A B C : Type 0} → (A → B → C) → Option A → Option B → Option C
lift2 f None y = None
lift2 f (Some x) None = None
lift2 f (Some x) (Some y) = Some (f x y)

abbrev pub lift3 : {A B C D : Type 0} → (A → B → C → D) → Option A → Option B → Option C → Option D
lift3 f x y z = lift2 (λ g v. g v) (lift2 f x y) z

-- the word of two bytes
abbrev pub known_word : Option ℕ → Option ℕ → Option ℕ
known_word high low = lift2 word high low

-- two numbers are known to be the same
abbrev pub agree : Option ℕ → Option ℕ → Bool
agree None y = false
agree (Some x) None = false
agree (Some x) (Some y) = x == y

-- One of two is true. One that is known true decides it.
abbrev pub known_or : Option Bool → Option Bool → Option Bool
known_or (Some true) second = Some true
known_or (Some false) second = second
known_or None (Some true) = Some true
known_or None (Some false) = None
known_or None None = None

abbrev pub known_not : Option Bool → Option Bool
known_not b = option_map not b

abbrev pub is_known_false : Option Bool → Bool
is_known_false None = false
is_known_false (Some b) = not b
