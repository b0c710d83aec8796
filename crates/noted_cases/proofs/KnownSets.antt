-- The sets of what is known, part by part: those of what says less have more.
use Rattle.std.proofs.Common.{◌≡◌, ℕ, zero, suc, ◌+◌, ◌<◌, Bool, true, false, List, [], ◌∷◌, length, map, refl, ap, arith}
use Rattle.std.specs.Prelude.{Option, Some, None, if◌then◌else◌, slice_index_or, slice_set}
use Rattle.std.specs.List.{AllZip, range_with_len}
use Rattle.std.proofs.lemmas.Bool.{eq-eqb}
use Rattle.abs_domain.specs.Lattice.{Below}
use Rattle.abs_domain.proofs.Orders.{below_trans}
use Rattle.abs_step.proofs.KnownNumbers.{IsBelow, some_below}
use Rattle.value_sets.specs.ValueSets.{is_within, is_each_within, single, set_of}
use Rattle.case_step.specs.Results.{kept, values_after}

-- the one value of the set of what is known is what is known
pub single_set : (o : Option ℕ) → single (set_of o) ≡ o
single_set None = refl
single_set (Some x) = refl

pub set_within : (x y : Option ℕ) → Below x y → is_within (set_of x) (set_of y) ≡ true
set_within x None below = refl
set_within None (Some y) below = absurd (cc)
set_within (Some x) (Some y) below = rw (eq-eqb y x (cc)) refl

-- a part that isn't written has the case's value, or the entry's
pub kept_within : (own known upper : Option ℕ) → Below own known → Below known upper →
    is_within (kept own (set_of known)) (set_of upper) ≡ true
kept_within None known upper first second = set_within known upper second
kept_within (Some x) known upper first second = set_within (Some x) upper (below_trans (Some x) known upper first second)

pub values_within : (written : Bool) (after own known upper : Option ℕ) → Below own known → Below after upper →
    (written ≡ false → Below known upper) → is_within (values_after written after own (set_of known)) (set_of upper) ≡ true
values_within true after own known upper below told stays = set_within after upper told
values_within false after own known upper below told stays = kept_within own known upper below (stays refl)

-- ---- scratchpads

-- the set of a register
pub register_set : (number : ℕ) (xs : List (Option ℕ)) → slice_index_or (map set_of xs) number None ≡ set_of (slice_index_or xs number None)
register_set number [] = refl
register_set zero (x ∷ xs) = refl
register_set (suc number) (x ∷ xs) = register_set number xs

and_rest : (b rest : Bool) → b ≡ true → rest ≡ true → (if b then rest else false) ≡ true
and_rest true rest here later = later
and_rest false rest here later = here

pub each_set_within : (xs ys : List (Option ℕ)) → AllZip Below xs ys → is_each_within (map set_of xs) (map set_of ys) ≡ true
each_set_within [] [] below = refl
each_set_within [] (y ∷ ys) below = absurd below
each_set_within (x ∷ xs) [] below = absurd below
each_set_within (x ∷ xs) (y ∷ ys) below = and_rest _ _ (set_within x y below.0) (each_set_within xs ys below.1)

-- by the numbers of the registers
pub each_within : (f : ℕ → Option (List ℕ)) (from n : ℕ) (ys : List (Option ℕ)) → length ys ≡ n →
    ((number place : ℕ) → number ≡ from + place → is_within (f number) (set_of (slice_index_or ys place None)) ≡ true) →
    is_each_within (map f (range_with_len from n)) (map set_of ys) ≡ true
each_within f from zero [] long each = refl
each_within f from zero (y ∷ ys) long each = absurd (omega arith)
each_within f from (suc n) [] long each = absurd (omega arith)
each_within f from (suc n) (y ∷ ys) long each =
    and_rest _ _ (each from 0 (omega arith))
    (each_within f (from + 1) n ys (omega arith) (λ number place is. each number (suc place) (omega arith)))

-- a scratchpad of which one register more is known
pub below_set : (number x : ℕ) (known upper : List (Option ℕ)) → AllZip Below known upper →
    Below (Some x) (slice_index_or upper number None) → AllZip Below (slice_set known number (Some x)) upper
below_set number x [] upper below told = below
below_set number x (k ∷ known) [] below told = absurd below
below_set zero x (k ∷ known) (u ∷ upper) below told = (told, below.1)
below_set (suc number) x (k ∷ known) (u ∷ upper) below told = (below.0, below_set number x known upper below.1 told)

-- a register of a scratchpad, of which one more is known, is as small as those
pub small_set : (number x n k : ℕ) (known : List (Option ℕ)) → IsBelow n (slice_index_or known k None) → x < n →
    IsBelow n (slice_index_or (slice_set known number (Some x)) k None)
small_set number x n k [] own small = own
small_set zero x n zero (y ∷ known) own small = some_below n x small
small_set zero x n (suc k) (y ∷ known) own small = own
small_set (suc number) x n zero (y ∷ known) own small = own
small_set (suc number) x n (suc k) (y ∷ known) own small = small_set number x n k known own small

pub singles_same : (xs : List (Option ℕ)) → map single (map set_of xs) ≡ xs
singles_same [] = refl
singles_same (x ∷ xs) = rw (single_set x) (ap (λ rest. x ∷ rest) (singles_same xs))
