-- A state that is joined with one which isn't below it loses rank, and no rank is above 79.
use Rattle.std.proofs.Common.{◌≡◌, ◌+◌, ◌<◌, ◌≤◌, ℕ, Bool, true, false, ◌&&◌, ◌⊎◌, inl, inr, List, [], ◌∷◌, length, refl, ap, sym, arith}
use Rattle.std.specs.Prelude.{Option, Some, None, if◌then◌else◌}
use Rattle.std.specs.List.{AllZip}
use Rattle.abs_domain.specs.Lattice.{Below, FactBelow, common, common_each, same_bool}
use Rattle.abs_domain.specs.Lattice.{known_count, fact_count, known_count_each, same_number}
use Rattle.abs_domain.specs.AbstractState.{KnownStatus, KnownRegisters, KnownCounters, AbstractState, HasScratchpad}
use Rattle.abs_domain.specs.AbstractState.{StatusBelow, RegistersBelow, CountersBelow, StateBelow}
use Rattle.abs_domain.specs.Joins.{joined_status, joined_registers, joined_counters, joined_state}
use Rattle.abs_domain.specs.Joins.{status_rank, registers_rank, counters_rank, rank}
use Rattle.abs_domain.specs.DomainLaws.{RankLaw}
use Rattle.abs_domain.proofs.Orders.{DecidesEquality, numbers_tell, bits_tell}
use Rattle.abs_domain.proofs.Bounds.{same_lengths}

-- from one count to another: never up, and down where the fact fails
pub record Falls (P : Type 0) (old new : ℕ) : Type 0 where
  pub most : new ≤ old
  pub unless : P ⊎ (new < old)

-- two of them
less_of_two : {P Q : Type 0} (a b c d : ℕ) → Falls P a b → Falls Q c d → P ⊎ (b < a) → Q ⊎ (d < c) → (P × Q) ⊎ (b + d < a + c)
less_of_two a b c d p q (inl x) (inl y) = inl (x, y)
less_of_two a b c d p q (inl x) (inr y) = inr (omega (arith, p.most, y))
less_of_two a b c d p q (inr x) y = inr (omega (arith, x, q.most))

both_fall : {P Q : Type 0} (a b c d : ℕ) → Falls P a b → Falls Q c d → Falls (P × Q) (a + c) (b + d)
both_fall a b c d p q = record {
  most = omega (arith, p.most, q.most);
  unless = less_of_two a b c d p q p.unless q.unless;
}

-- another fact that follows
falls_by : {P Q : Type 0} (a b : ℕ) → (P → Q) → Falls P a b → Falls Q a b
falls_by {P} {Q} a b follows p = record { most = p.most; unless = by p.unless }
  where
    by : P ⊎ (b < a) → Q ⊎ (b < a)
    by (inl x) = inl (follows x)
    by (inr y) = inr y

-- ---- parts

module _ {A : Type 0} (same : A → A → Bool) (tells : DecidesEquality same) where
  pub part_falls : (x y : Option A) → Falls (Below y x) (known_count x) (known_count (common same x y))
  part_falls None y = record { most = omega arith; unless = inl tt }
  part_falls (Some x) None = record { most = omega arith; unless = inr (omega arith) }
  part_falls (Some x) (Some y) = by (same x y) refl
    where
      by : (b : Bool) → same x y ≡ b → Falls (Below (Some y) (Some x)) 1 (known_count (if b then Some x else None))
      by true e = record { most = omega arith; unless = inl (ap Some (sym ((tells x y).0 e))) }
      by false e = record { most = omega arith; unless = inr (omega arith) }

  pub list_falls : (xs ys : List (Option A)) → length xs ≡ length ys →
      Falls (AllZip Below ys xs) (known_count_each xs) (known_count_each (common_each same xs ys))
  list_falls [] [] long = record { most = omega arith; unless = inl tt }
  list_falls [] (y ∷ ys) long = absurd (omega arith)
  list_falls (x ∷ xs) [] long = absurd (omega arith)
  list_falls (x ∷ xs) (y ∷ ys) long = both_fall _ _ _ _ (part_falls x y) (list_falls xs ys (omega arith))

fact_falls : (a b : Bool) → Falls (FactBelow b a) (fact_count a) (fact_count (a && b))
fact_falls true true = record { most = omega arith; unless = inl refl }
fact_falls true false = record { most = omega arith; unless = inr (omega arith) }
fact_falls false b = record { most = omega arith; unless = inl tt }

number : (x y : Option ℕ) → Falls (Below y x) (known_count x) (known_count (common same_number x y))
number x y = part_falls same_number numbers_tell x y

bit : (x y : Option Bool) → Falls (Below y x) (known_count x) (known_count (common same_bool x y))
bit x y = part_falls same_bool bits_tell x y

-- ---- states

status_falls : (s t : KnownStatus) → Falls (StatusBelow t s) (status_rank s) (status_rank (joined_status s t))
status_falls s t = falls_by _ _
    (λ q. record { sign = q.0.0.0.0; carry = q.0.0.0.1; zero = q.0.0.1; overflow = q.0.1; icb = q.1 })
    (both_fall _ _ _ _ (both_fall _ _ _ _ (both_fall _ _ _ _ (both_fall _ _ _ _ (bit s.sign t.sign) (bit s.carry t.carry))
    (bit s.zero t.zero)) (bit s.overflow t.overflow)) (bit s.icb t.icb))

registers_fall : (s t : KnownRegisters) → length s.scratchpad ≡ length t.scratchpad →
    Falls (RegistersBelow t s) (registers_rank s) (registers_rank (joined_registers s t))
registers_fall s t long = falls_by _ _
    (λ q. record { accumulator = q.0.0.0.0; high = q.0.0.0.1; low = q.0.0.1; status = q.0.1; scratchpad = q.1 })
    (both_fall _ _ _ _ (both_fall _ _ _ _ (both_fall _ _ _ _ (both_fall _ _ _ _
    (number s.accumulator t.accumulator) (number s.high t.high)) (number s.low t.low)) (status_falls s.status t.status))
    (list_falls same_number numbers_tell s.scratchpad t.scratchpad long))

counters_fall : (s t : KnownCounters) → Falls (CountersBelow t s) (counters_rank s) (counters_rank (joined_counters s t))
counters_fall s t = falls_by _ _
    (λ q. record {
      d0 = q.0.0.0.0.0.0;
      d1 = q.0.0.0.0.0.1;
      c = q.0.0.0.0.1;
      s0 = q.0.0.0.1;
      s1 = q.0.0.1;
      p0 = q.0.1;
      p1 = q.1;
    })
    (both_fall _ _ _ _ (both_fall _ _ _ _ (both_fall _ _ _ _ (both_fall _ _ _ _ (both_fall _ _ _ _ (both_fall _ _ _ _
    (number s.d0 t.d0) (number s.d1 t.d1)) (number s.c t.c)) (fact_falls s.s0 t.s0)) (fact_falls s.s1 t.s1))
    (fact_falls s.p0 t.p0)) (fact_falls s.p1 t.p1))

state_falls : (s t : AbstractState) → HasScratchpad s → HasScratchpad t → Falls (StateBelow t s) (rank s) (rank (joined_state s t))
state_falls s t whole full = falls_by _ _ (λ q. record { registers = q.0; counters = q.1 })
    (both_fall _ _ _ _ (registers_fall s.registers t.registers (same_lengths s t whole full)) (counters_fall s.counters t.counters))

-- ---- the bound

one_part : {A : Type 0} (x : Option A) → known_count x ≤ 1
one_part None = omega arith
one_part (Some x) = omega arith

one_fact : (a : Bool) → fact_count a ≤ 1
one_fact true = omega arith
one_fact false = omega arith

each_part : {A : Type 0} (xs : List (Option A)) → known_count_each xs ≤ length xs
each_part [] = omega arith
each_part (x ∷ xs) = omega (arith, one_part x, each_part xs)

status_most : (s : KnownStatus) → status_rank s ≤ 5
status_most s = omega (arith, one_part s.sign, one_part s.carry, one_part s.zero, one_part s.overflow, one_part s.icb)

registers_most : (s : KnownRegisters) → registers_rank s ≤ 8 + length s.scratchpad
registers_most s = omega (arith, one_part s.accumulator, one_part s.high, one_part s.low, status_most s.status, each_part s.scratchpad)

counters_most : (s : KnownCounters) → counters_rank s ≤ 7
counters_most s = omega (arith, one_part s.d0, one_part s.d1, one_part s.c, one_fact s.s0, one_fact s.s1, one_fact s.p0, one_fact s.p1)

pub rank_laws : RankLaw
rank_laws = record {
  falls = λ s t whole full not_below. by (StateBelow t s) _ not_below (state_falls s t whole full).unless;
  most = λ s whole. omega (arith, registers_most s.registers, counters_most s.counters, whole);
}
  where
    by : (P Q : Type 0) → (P → ⊥) → P ⊎ Q → Q
    by P Q fails (inl x) = absurd (fails x)
    by P Q fails (inr y) = y
