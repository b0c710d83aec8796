-- Numbers that are known, if they are, to be below a bound: what keeps them so.
use Rattle.std.proofs.Common.{◌≡◌, ℕ, zero, suc, ◌<◌, Bool, true, false, List, [], ◌∷◌, refl, arith}
use Rattle.std.specs.Prelude.{Option, Some, None, unwrap_or, slice_index_or, ◌==◌, if◌then◌else◌}
use Rattle.std.specs.Option.{ForSome}
use Rattle.f8_spec.specs.Words.{word}
use Rattle.abs_domain.specs.Lattice.{Below, common, common_each, same_number}
use Rattle.abs_step.specs.Known.{known_word}
use Rattle.abs_step.proofs.Ranges.{word_small}

abbrev pub IsBelow : ℕ → Option ℕ → Type 0
IsBelow n o = ForSome o (λ x. x < n)

-- one that isn't known is taken as 0
abbrev pub filled : Option ℕ → ℕ
filled o = unwrap_or o 0

pub filled_small : (n : ℕ) (o : Option ℕ) → 0 < n → ForSome o (λ x. x < n) → filled o < n
filled_small n None positive h = positive
filled_small n (Some x) positive h = h x refl

-- what is known of a value in range
pub known_small : (n a : ℕ) (o : Option ℕ) → Below (Some a) o → a < n → ForSome o (λ x. x < n)
known_small n a o below small x is = let same : Some a ≡ Some x = rw is at below in let equal : a ≡ x = cc in omega arith

pub none_below : (n : ℕ) → IsBelow n None
none_below n x is = absurd (cc)

pub some_below : (n x : ℕ) → x < n → IsBelow n (Some x)
some_below n x small y is = let same : x ≡ y = cc in omega arith

pub filled_is_below : (n : ℕ) (o : Option ℕ) → filled o < n → IsBelow n o
filled_is_below n None small = none_below n
filled_is_below n (Some x) small = some_below n x small

pub common_below : (n : ℕ) (x y : Option ℕ) → IsBelow n x → IsBelow n (common same_number x y)
common_below n None y h = h
common_below n (Some x) None h = none_below n
common_below n (Some x) (Some y) h = by (x == y)
  where
    by : (b : Bool) → IsBelow n (if b then Some x else None)
    by true = h
    by false = none_below n

pub common_each_below : (n : ℕ) (xs ys : List (Option ℕ)) → ((k : ℕ) → IsBelow n (slice_index_or xs k None)) →
    (k : ℕ) → IsBelow n (slice_index_or (common_each same_number xs ys) k None)
common_each_below n [] ys h k = none_below n
common_each_below n (x ∷ xs) [] h k = none_below n
common_each_below n (x ∷ xs) (y ∷ ys) h zero = common_below n x y (h 0)
common_each_below n (x ∷ xs) (y ∷ ys) h (suc k) = common_each_below n xs ys (λ j. h (suc j)) k

pub word_below : (x y : Option ℕ) → filled x < 256 → filled y < 256 → IsBelow 65536 (known_word x y)
word_below None y p q = none_below 65536
word_below (Some x) None p q = none_below 65536
word_below (Some x) (Some y) p q = some_below 65536 (word x y) (word_small x y p q)
