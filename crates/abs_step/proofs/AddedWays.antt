-- A way that is added to some: at its exit where that is there already, and else behind the others.
use Rattle.std.proofs.Common.{◌≡◌, ◌<◌, ℕ, zero, suc, Bool, true, false, List, [], ◌∷◌, ◌++◌, length, take, drop, get_or, set, refl, ap}
use Rattle.std.proofs.Common.{◌∙◌, subst, arith}
use Rattle.std.specs.Prelude.{◌+◌, ◌≤◌, Option, Some, None, flat_map, if◌then◌else◌, slice_get}
use Rattle.std.specs.List.{refill}
use Rattle.std.proofs.lemmas.List.{length-set}
use Rattle.abs_domain.specs.Lattice.{common, same_bool}
use Rattle.abs_step.specs.WaysOn.{same_exit, vector_way, vector_ways, ways_along, ways_of, with_way, with_ways}
use Rattle.abs_step.specs.declared.exits.Exit.{Exit}
use Rattle.abs_step.specs.declared.ways.Way.{Way}

-- what the places past the last hold
abbrev pub no_way : Way
no_way = record { exit = record { at = 0; ret = None }; icb = None }

all_taken : (xs rest : List Way) → take (length xs) (xs ++ rest) ≡ xs
all_taken [] rest = refl
all_taken (x ∷ xs) rest = ap (λ l. x ∷ l) (all_taken xs rest)

-- a list of the same length in place of another
refilled : (xs ys : List Way) → length ys ≡ length xs → refill (length xs) xs ys ≡ ys
refilled xs ys same = subst (λ (n : ℕ). take n (ys ++ drop (length ys) xs) ≡ ys) same (all_taken ys (drop (length ys) xs))

set_there : (w : Way) (xs : List Way) (k : ℕ) (icb : Option Bool) → k < length xs →
    ((j : ℕ) → j < k → same_exit w.exit (get_or xs j no_way).exit ≡ false) → same_exit w.exit (get_or xs k no_way).exit ≡ true →
    icb ≡ common same_bool (get_or xs k no_way).icb w.icb →
    set xs k (record { exit = (get_or xs k no_way).exit; icb = icb }) ≡ with_way w xs
set_there w [] k icb inside before same is = absurd (omega arith)
set_there w (x ∷ xs) zero icb inside before same is = rw (same, is) refl
set_there w (x ∷ xs) (suc k) icb inside before same is =
    rw (before 0 (omega arith))
    (ap (λ l. x ∷ l) (set_there w xs k icb (omega arith) (λ j small. before (suc j) (omega arith)) same is))

-- at an exit that is there, by the ways as they are read and as they are written
pub joined_there : (w : Way) (xs read written : List Way) (k : ℕ) (icb : Option Bool) → read ≡ xs → written ≡ xs → k < length xs →
    ((j : ℕ) → j < k → same_exit w.exit (get_or xs j no_way).exit ≡ false) → same_exit w.exit (get_or read k no_way).exit ≡ true →
    icb ≡ common same_bool (get_or read k no_way).icb w.icb →
    refill (length xs) xs (set written k (record { exit = (get_or read k no_way).exit; icb = icb })) ≡ with_way w xs
joined_there w xs read written k icb as_read as_written inside before same is =
    rw (as_read, as_written)
    (refilled xs (set xs k (record { exit = (get_or xs k no_way).exit; icb = icb })) (length-set xs k _)
    ∙ set_there w xs k icb inside before (rw as_read at same) (rw as_read at is))

-- at a new one
pub joined_behind : (w : Way) (xs : List Way) → ((j : ℕ) → j < length xs → same_exit w.exit (get_or xs j no_way).exit ≡ false) →
    xs ++ w ∷ [] ≡ with_way w xs
joined_behind w [] apart = refl
joined_behind w (x ∷ xs) apart =
    rw (apart 0 (omega arith)) (ap (λ l. x ∷ l) (joined_behind w xs (λ j small. apart (suc j) (omega arith))))

-- ---- one vector after another, and one exit after another

-- the ways of the vectors so far, and of one more
pub vectors_more : (e : Exit) (vs : List ℕ) (k more v : ℕ) (done : List Way) → more ≡ k + 1 → slice_get vs k ≡ Some v →
    with_ways (vector_ways e v) (with_ways (flat_map (vector_ways e) (take k vs)) done)
    ≡ with_ways (flat_map (vector_ways e) (take more vs)) done
vectors_more e [] k more v done next is = absurd (cc)
vectors_more e (x ∷ xs) zero zero v done next is = absurd (omega arith)
vectors_more e (x ∷ xs) zero (suc zero) v done next is = let same : x ≡ v = cc in rw same refl
vectors_more e (x ∷ xs) zero (suc (suc more)) v done next is = absurd (omega arith)
vectors_more e (x ∷ xs) (suc k) zero v done next is = absurd (omega arith)
vectors_more e (x ∷ xs) (suc k) (suc more) v done next is =
    vectors_more e xs k more v (with_way (vector_way false e x) (with_way (vector_way true e x) done)) (omega arith) is

-- all are taken where as many are as there are
pub none_left : (vs : List ℕ) (k : ℕ) → length vs ≤ k → take k vs ≡ vs
none_left [] zero few = refl
none_left [] (suc k) few = refl
none_left (v ∷ vs) zero few = absurd (omega arith)
none_left (v ∷ vs) (suc k) few = ap (λ l. v ∷ l) (none_left vs k (omega arith))

pub none_behind : (vs : List ℕ) (k : ℕ) → slice_get vs k ≡ None → length vs ≤ k
none_behind [] k none = omega arith
none_behind (v ∷ vs) zero none = absurd (cc)
none_behind (v ∷ vs) (suc k) none = omega (arith, none_behind vs k none)

-- the exit, and then the vectors behind it
pub along_way : (closed : Bool) (vectors taken : List ℕ) (icb : Option Bool) (e : Exit) (w : Way) (first before after : List Way) →
    closed ≡ false → taken ≡ vectors → w ≡ record { exit = e; icb = icb } → first ≡ with_way w before →
    after ≡ with_ways (flat_map (vector_ways e) taken) first →
    after ≡ with_ways (ways_along (if closed then [] else vectors) icb e) before
along_way closed vectors taken icb e w first before after not_closed all is one more = more ∙ rw (one, is, all, not_closed) refl

then_all : (xs ys done : List Way) → with_ways ys (with_ways xs done) ≡ with_ways (xs ++ ys) done
then_all [] ys done = refl
then_all (x ∷ xs) ys done = then_all xs ys (with_way x done)

then_none : (ys done : List Way) → with_ways ys done ≡ with_ways (ys ++ []) done
then_none [] done = refl
then_none (y ∷ ys) done = then_none ys (with_way y done)

-- two exits one after the other
pub two_exits : (vectors : List ℕ) (icb : Option Bool) (d e : Exit) (none first second : List Way) → none ≡ [] →
    first ≡ with_ways (ways_along vectors icb d) none → second ≡ with_ways (ways_along vectors icb e) first →
    second ≡ ways_of vectors icb (d ∷ e ∷ [])
two_exits vectors icb d e none first second empty one two =
    two ∙ rw (one, empty) (then_none (ways_along vectors icb e) (with_ways (ways_along vectors icb d) [])
    ∙ then_all (ways_along vectors icb d) (ways_along vectors icb e ++ []) [])
