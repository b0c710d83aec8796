-- Reads and writes of the scratchpad keep the order.
use Rattle.std.proofs.Common.{ℕ, ◌+◌, ◌/◌, ◌%◌, Bool, true, false, List, [], ◌∷◌, refl}
use Rattle.std.specs.Prelude.{Option, Some, None, nat_lt, if◌then◌else◌, slice_index_or}
use Rattle.std.specs.List.{AllZip}
use Rattle.abs_domain.specs.Lattice.{Below, common, same_number}
use Rattle.abs_domain.specs.AbstractState.{KnownRegisters, RegistersBelow}
use Rattle.abs_domain.proofs.Orders.{below_trans, numbers_tell}
use Rattle.abs_domain.proofs.Bounds.{common_first, common_second, common_least}
use Rattle.abs_step.specs.RegisterWrites.{known_register, Target, exactly, target_of, target_number, read_target, known_field}
use Rattle.abs_step.specs.RegisterWrites.{RegisterWrite, digit_allows, target_allows, is_exact, written_to, written_from, written_all}
use Rattle.abs_step.proofs.Knowing.{Implies, left_of, right_of, both_of, below_lift2, below_and_then, below_at}

-- ---- the order of targets and writes

pub record TargetBelow (t u : Target) : Type 0 where
  pub high : Below t.high u.high
  pub low : Below t.low u.low

pub record WriteBelow (v w : RegisterWrite) : Type 0 where
  pub target : TargetBelow v.target w.target
  pub value : Below v.value w.value

pub exactly_below : (number : ℕ) → TargetBelow (exactly number) (exactly number)
exactly_below number = record { high = refl; low = refl }

pub target_below : (field : ℕ) (k l : KnownRegisters) → RegistersBelow k l → TargetBelow (target_of field k) (target_of field l)
target_below field k l p = by (nat_lt field 12)
  where
    by : (b : Bool) → TargetBelow (if b then exactly field else record { high = k.high; low = k.low })
        (if b then exactly field else record { high = l.high; low = l.low })
    by true = exactly_below field
    by false = record { high = p.high; low = p.low }

-- ---- reads

pub register_below : (number : ℕ) (k l : KnownRegisters) → RegistersBelow k l → Below (known_register number k) (known_register number l)
register_below number k l p = below_at number k.scratchpad l.scratchpad p.scratchpad

pub read_below : (t u : Target) (xs ys : List (Option ℕ)) → TargetBelow t u → AllZip Below xs ys →
    Below (read_target t xs) (read_target u ys)
read_below t u xs ys p q =
    below_and_then (λ number. slice_index_or xs number None) (λ number. slice_index_or ys number None) (target_number t) (target_number u)
    (λ number. below_at number xs ys q) (below_lift2 _ t.high u.high t.low u.low p.high p.low)

pub field_below : (field : ℕ) (k l : KnownRegisters) → RegistersBelow k l → Below (known_field field k) (known_field field l)
field_below field k l p =
    read_below (target_of field k) (target_of field l) k.scratchpad l.scratchpad (target_below field k l p) p.scratchpad

-- ---- writes

digit_below : (t u : Option ℕ) (digit : ℕ) → Below t u → Implies (digit_allows t digit) (digit_allows u digit)
digit_below t None digit p allowed = refl
digit_below t (Some u) digit p allowed = rw p at allowed

pub allows_below : (t u : Target) (number : ℕ) → TargetBelow t u → Implies (target_allows t number) (target_allows u number)
allows_below t u number p allowed = both_of _ _
    (digit_below t.high u.high (number / 8) p.high (left_of _ _ allowed))
    (digit_below t.low u.low (number % 8) p.low (right_of _ _ allowed))

-- a register that is perhaps written above; a: it may be written below, e: it is known which one, b: it may be written above
blurred_below : (a e b : Bool) (v w old older : Option ℕ) → Below v w → Below old older → Implies a b →
    Below (if a then (if e then v else common same_number v old) else old) (if b then common same_number w older else older)
blurred_below true e false v w old older p q implied = absurd (cc (implied refl))
blurred_below true true true v w old older p q implied =
    below_trans v w _ p (common_first same_number numbers_tell w older)
blurred_below true false true v w old older p q implied =
    common_least same_number numbers_tell v old _
    (below_trans v w _ p (common_first same_number numbers_tell w older))
    (below_trans old older _ q (common_second same_number numbers_tell w older))
blurred_below false e true v w old older p q implied =
    below_trans old older _ q (common_second same_number numbers_tell w older)
blurred_below false e false v w old older p q implied = q

-- one that is known
same_below : (b : Bool) (v w old older : Option ℕ) → Below v w → Below old older → Below (if b then v else old) (if b then w else older)
same_below true v w old older p q = p
same_below false v w old older p q = q

-- by the digits of the upper target
written_by : (v : RegisterWrite) (high low value : Option ℕ) (number : ℕ) (old older : Option ℕ) →
    WriteBelow v (record { target = record { high = high; low = low }; value = value }) → Below old older →
    Below (written_to v number old) (written_to (record { target = record { high = high; low = low }; value = value }) number older)
written_by v (Some high) (Some low) value number old older p q =
    rw (p.target.high, p.target.low) (same_below _ v.value value old older p.value q)
written_by v (Some high) None value number old older p q =
    blurred_below _ (is_exact v.target) _ v.value value old older p.value q (allows_below v.target _ number p.target)
written_by v None low value number old older p q =
    blurred_below _ (is_exact v.target) _ v.value value old older p.value q (allows_below v.target _ number p.target)

pub written_to_below : (v w : RegisterWrite) (number : ℕ) (old older : Option ℕ) → WriteBelow v w → Below old older →
    Below (written_to v number old) (written_to w number older)
written_to_below v w number old older p q = written_by v w.target.high w.target.low w.value number old older p q

pub written_from_below : (n : ℕ) (v w : RegisterWrite) (xs ys : List (Option ℕ)) → WriteBelow v w → AllZip Below xs ys →
    AllZip Below (written_from n v xs) (written_from n w ys)
written_from_below n v w [] [] p q = q
written_from_below n v w [] (y ∷ ys) p q = absurd q
written_from_below n v w (x ∷ xs) [] p q = absurd q
written_from_below n v w (x ∷ xs) (y ∷ ys) p q =
    (written_to_below v w n x y p q.0, written_from_below (n + 1) v w xs ys p q.1)

pub written_all_below : (vs ws : List RegisterWrite) (xs ys : List (Option ℕ)) → AllZip WriteBelow vs ws → AllZip Below xs ys →
    AllZip Below (written_all vs xs) (written_all ws ys)
written_all_below [] [] xs ys p q = q
written_all_below [] (w ∷ ws) xs ys p q = absurd p
written_all_below (v ∷ vs) [] xs ys p q = absurd p
written_all_below (v ∷ vs) (w ∷ ws) xs ys p q =
    written_all_below vs ws (written_from 0 v xs) (written_from 0 w ys) p.1 (written_from_below 0 v w xs ys p.0 q)
