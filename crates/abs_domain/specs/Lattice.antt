-- Parts of which the value is known, or not: which of two says less, what both have in common, and how much is known.
use Rattle.std.specs.Prelude.{ℕ, ◌≡◌, ◌+◌, ◌==◌, Bool, true, false, not, ◌&&◌, if◌then◌else◌, Option, Some, None, List, [], ◌∷◌}

-- The upper part says less: it is unknown, or both are the same known value.
abbrev pub Below : {A : Type 0} → Option A → Option A → Type 0
Below lower None = Unit {0}
Below lower (Some x) = lower ≡ Some x

-- a fact that the upper part states is one that the lower states
abbrev pub FactBelow : Bool → Bool → Type 0
FactBelow lower false = Unit {0}
FactBelow lower true = lower ≡ true

-- both as tests; the first by a test of two values for being the same
abbrev pub is_below : {A : Type 0} → (A → A → Bool) → Option A → Option A → Bool
is_below same lower None = true
is_below same None (Some y) = false
is_below same (Some x) (Some y) = same x y

abbrev pub is_fact_below : Bool → Bool → Bool
is_fact_below lower false = true
is_fact_below lower true = lower

-- part by part; a longer list is never below a shorter one, nor above it
abbrev pub is_each_below : {A : Type 0} → (A → A → Bool) → List (Option A) → List (Option A) → Bool
is_each_below same [] [] = true
is_each_below same [] (y ∷ ys) = false
is_each_below same (x ∷ xs) [] = false
is_each_below same (x ∷ xs) (y ∷ ys) = is_below same x y && is_each_below same xs ys

-- the value that both parts know
abbrev pub common : {A : Type 0} → (A → A → Bool) → Option A → Option A → Option A
common same None second = None
common same (Some x) None = None
common same (Some x) (Some y) = if same x y then Some x else None

abbrev pub common_each : {A : Type 0} → (A → A → Bool) → List (Option A) → List (Option A) → List (Option A)
common_each same [] seconds = []
common_each same (x ∷ xs) [] = []
common_each same (x ∷ xs) (y ∷ ys) = common same x y ∷ common_each same xs ys

-- whether two numbers are the same, and two Booleans
abbrev pub same_number : ℕ → ℕ → Bool
same_number x y = x == y

abbrev pub same_bool : Bool → Bool → Bool
same_bool true second = second
same_bool false second = not second

-- how many parts are known, and how many facts are stated
abbrev pub known_count : {A : Type 0} → Option A → ℕ
known_count None = 0
known_count (Some x) = 1

abbrev pub fact_count : Bool → ℕ
fact_count false = 0
fact_count true = 1

abbrev pub known_count_each : {A : Type 0} → List (Option A) → ℕ
known_count_each [] = 0
known_count_each (x ∷ xs) = known_count x + known_count_each xs
