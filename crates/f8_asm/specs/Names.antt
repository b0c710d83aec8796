-- Names with their values, in the order in which they were first given one.
use Rattle.std.specs.Borrow.{Bor}
use Rattle.std.specs.Prelude.{ℕ, Bool, List, [], ◌∷◌, Option, Some, None, if◌then◌else◌, bytes_eq}
use Rattle.std.specs.List.{list_all}
use Rattle.asm_text.specs.Bytes.{is_name}

-- each of them is spelled as a name is
abbrev pub are_names : {A : Type 0} → List (List ℕ × A) → Bool
are_names symbols = list_all (λ s. is_name s.0) symbols

-- the value of a name
abbrev pub value_of : {A : Type 0} → List (List ℕ × A) → List ℕ → Option A
value_of [] name = None
value_of (e ∷ es) name = if bytes_eq name e.0 then Some e.1 else value_of es name

-- the names after one more: a name that is there takes the value and keeps its place
abbrev pub with_name : {A : Type 0} → List (List ℕ × A) → List ℕ → A → List (List ℕ × A)
with_name [] name v = (name, v) ∷ []
with_name (e ∷ es) name v = if bytes_eq name e.0 then (e.0, v) ∷ es else e ∷ with_name es name v

-- a name and its value, by its text
abbrev pub symbol_seen : {A : Type 0} → Option (Bor (List ℕ) × A) → Option (List ℕ × A)
symbol_seen (Some s) = Some (s.0.now, s.1)
symbol_seen None = None
