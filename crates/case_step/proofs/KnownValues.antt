-- A part behind an instruction has a value of its result.
use Rattle.std.proofs.Common.{◌≡◌, ℕ, zero, suc, ◌+◌, ◌<◌, ◌≤◌, Bool, true, false, ◌||◌, List, [], ◌∷◌, refl, sym, arith}
use Rattle.std.specs.Prelude.{Option, Some, None, ◌==◌}
use Rattle.std.specs.List.{range_with_len}
use Rattle.std.proofs.lemmas.Bool.{eqb-false, eq-eqb}
use Rattle.abs_domain.specs.Lattice.{Below}
use Rattle.value_sets.specs.ValueSets.{has, is_among, set_of}
use Rattle.case_step.specs.Results.{kept, values_after, numbers_or, isar_after}

-- ---- one number, and those of a range

alone : (x y : ℕ) → y ≡ x → is_among (y ∷ []) x ≡ true
alone x y is = rw (eq-eqb y x is) refl

among_range : (from n x : ℕ) → from ≤ x → x < from + n → is_among (range_with_len from n) x ≡ true
among_range from zero x low high = absurd (omega arith)
among_range from (suc n) x low high = by (from == x) refl (λ apart. among_range (from + 1) n x (omega arith) (omega arith))
  where
    by : (b : Bool) → (from == x) ≡ b → ((from ≡ x → ⊥) → is_among (range_with_len (from + 1) n) x ≡ true) →
        (b || is_among (range_with_len (from + 1) n) x) ≡ true
    by true here later = refl
    by false other later = later (eqb-false from x other)

-- ---- a value that is told is among those that are known

pub set_has : (o : Option ℕ) (x : ℕ) → Below (Some x) o → has (set_of o) x ≡ true
set_has None x told = refl
set_has (Some y) x told = alone x y cc

pub kept_has : (o : Option ℕ) (values : Option (List ℕ)) (x : ℕ) → Below (Some x) o → has values x ≡ true → has (kept o values) x ≡ true
kept_has None values x told given = given
kept_has (Some y) values x told given = alone x y cc

-- before it is x and behind it y, which is x where it isn't written
pub values_have : (written : Bool) (after before : Option ℕ) (values : Option (List ℕ)) (x y : ℕ) → (written ≡ false → y ≡ x) →
    Below (Some x) before → has values x ≡ true → Below (Some y) after → has (values_after written after before values) y ≡ true
values_have true after before values x y stays old given new = set_has after y new
values_have false after before values x y stays old given new = rw (stays refl) (kept_has before values x old given)

numbers_have : (o : Option ℕ) (numbers : List ℕ) (x : ℕ) → ((number : ℕ) → o ≡ Some number → x ≡ number) → is_among numbers x ≡ true →
    is_among (numbers_or numbers o) x ≡ true
numbers_have None numbers x told given = given
numbers_have (Some y) numbers x told given = alone x y (sym (told y refl))

pub isar_has : (written : Bool) (after before : Option ℕ) (numbers : List ℕ) (x y : ℕ) → (written ≡ false → y ≡ x) →
    ((number : ℕ) → before ≡ Some number → x ≡ number) → is_among numbers x ≡ true →
    ((number : ℕ) → after ≡ Some number → y ≡ number) → y < 64 → is_among (isar_after written after before numbers) y ≡ true
isar_has true after before numbers x y stays old given new small =
    numbers_have after (range_with_len 0 64) y new (among_range 0 64 y (omega arith) small)
isar_has false after before numbers x y stays old given new small = rw (stays refl) (numbers_have before numbers x old given)
