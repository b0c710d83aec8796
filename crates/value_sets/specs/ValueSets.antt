-- Sets of numbers: those of a list, or any number at all, for which there is no list.
use Rattle.std.specs.Prelude.{ℕ, ◌==◌, nat_le, nat_lt, Bool, true, false, if◌then◌else◌, List, [], ◌∷◌, length, Option, Some, None}
use Rattle.std.specs.List.{list_all, list_any}

-- a number is in a list
abbrev pub is_among : List ℕ → ℕ → Bool
is_among numbers x = list_any (λ y. y == x) numbers

-- each number of a list is in another
abbrev pub are_among : List ℕ → List ℕ → Bool
are_among upper lower = list_all (is_among upper) lower

-- a set has a number
abbrev pub has : Option (List ℕ) → ℕ → Bool
has None x = true
has (Some numbers) x = is_among numbers x

-- a set lies within another one; any number at all doesn't lie within a list
abbrev pub is_within : Option (List ℕ) → Option (List ℕ) → Bool
is_within lower None = true
is_within None (Some upper) = false
is_within (Some lower) (Some upper) = are_among upper lower

-- part by part; lists of unlike lengths don't
abbrev pub is_each_within : List (Option (List ℕ)) → List (Option (List ℕ)) → Bool
is_each_within [] [] = true
is_each_within [] (y ∷ ys) = false
is_each_within (x ∷ xs) [] = false
is_each_within (x ∷ xs) (y ∷ ys) = if is_within x y then is_each_within xs ys else false

-- the number of a list of one, and of a set of one
abbrev pub only : List ℕ → Option ℕ
only [] = None
only (x ∷ []) = Some x
only (x ∷ y ∷ numbers) = None

abbrev pub single : Option (List ℕ) → Option ℕ
single None = None
single (Some numbers) = only numbers

-- the set of what is known: one number, or any
abbrev pub set_of : Option ℕ → Option (List ℕ)
set_of None = None
set_of (Some x) = Some (x ∷ [])

-- ---- unions

-- a list with one number more, before the first that is no smaller, unless that is the same; so a list that ascends still does
abbrev pub with_number : List ℕ → ℕ → List ℕ
with_number [] x = x ∷ []
with_number (y ∷ ys) x = if nat_lt y x then y ∷ with_number ys x else (if y == x then y ∷ ys else x ∷ y ∷ ys)

-- a list with the numbers of another one
abbrev pub union : List ℕ → List ℕ → List ℕ
union numbers [] = numbers
union numbers (x ∷ more) = union (with_number numbers x) more

abbrev pub listed_union : ℕ → List ℕ → List ℕ → Option (List ℕ)
listed_union most numbers more = if nat_le (length (union numbers more)) most then Some (union numbers more) else None

-- what either set has, and any number at all where that is more than a list may have
abbrev pub joined : ℕ → Option (List ℕ) → Option (List ℕ) → Option (List ℕ)
joined most None more = None
joined most (Some numbers) None = None
joined most (Some numbers) (Some more) = listed_union most numbers more
