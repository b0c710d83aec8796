-- The join of two states is their least upper bound.
use Rattle.std.proofs.Common.{◌≡◌, ℕ, Bool, true, false, ◌&&◌, List, [], ◌∷◌, length, refl, ap, sym, ◌∙◌, arith}
use Rattle.std.specs.Prelude.{Option, Some, None, if◌then◌else◌}
use Rattle.std.specs.List.{AllZip}
use Rattle.std.proofs.lemmas.List.{length-map}
use Rattle.abs_domain.specs.Lattice.{Below, FactBelow, common, common_each, same_bool, same_number}
use Rattle.abs_domain.specs.AbstractState.{KnownStatus, KnownRegisters, KnownCounters, AbstractState, HasScratchpad}
use Rattle.abs_domain.specs.AbstractState.{StatusBelow, RegistersBelow, CountersBelow}
use Rattle.abs_domain.specs.Joins.{joined_status, joined_registers, joined_counters}
use Rattle.abs_domain.specs.KnownParts.{known_byte}
use Rattle.abs_domain.specs.DomainLaws.{JoinLaw}
use Rattle.abs_domain.proofs.Orders.{DecidesEquality, numbers_tell, bits_tell}

-- ---- parts

module _ {A : Type 0} (same : A → A → Bool) (tells : DecidesEquality same) where
  pub common_first : (x y : Option A) → Below x (common same x y)
  common_first None y = tt
  common_first (Some x) None = tt
  common_first (Some x) (Some y) = by (same x y)
    where
      by : (b : Bool) → Below (Some x) (if b then Some x else None)
      by true = refl
      by false = tt

  pub common_second : (x y : Option A) → Below y (common same x y)
  common_second None y = tt
  common_second (Some x) None = tt
  common_second (Some x) (Some y) = by (same x y) refl
    where
      by : (b : Bool) → same x y ≡ b → Below (Some y) (if b then Some x else None)
      by true e = ap Some (sym ((tells x y).0 e))
      by false e = tt

  pub common_least : (x y z : Option A) → Below x z → Below y z → Below (common same x y) z
  common_least x y None p q = tt
  common_least None y (Some z) p q = absurd (cc)
  common_least (Some x) None (Some z) p q = absurd (cc)
  common_least (Some x) (Some y) (Some z) p q =
      let alike : x ≡ y = cc in
      let e : same x y ≡ true = (tells x y).1 alike in
      rw e p

  pub all_first : (xs ys : List (Option A)) → length xs ≡ length ys → AllZip Below xs (common_each same xs ys)
  all_first [] ys long = tt
  all_first (x ∷ xs) [] long = absurd (omega arith)
  all_first (x ∷ xs) (y ∷ ys) long = (common_first x y, all_first xs ys (omega arith))

  pub all_second : (xs ys : List (Option A)) → length xs ≡ length ys → AllZip Below ys (common_each same xs ys)
  all_second [] [] long = tt
  all_second [] (y ∷ ys) long = absurd (omega arith)
  all_second (x ∷ xs) [] long = absurd (omega arith)
  all_second (x ∷ xs) (y ∷ ys) long = (common_second x y, all_second xs ys (omega arith))

  pub all_least : (xs ys zs : List (Option A)) → AllZip Below xs zs → AllZip Below ys zs → AllZip Below (common_each same xs ys) zs
  all_least [] ys zs p q = p
  all_least (x ∷ xs) ys [] p q = absurd p
  all_least (x ∷ xs) [] (z ∷ zs) p q = absurd q
  all_least (x ∷ xs) (y ∷ ys) (z ∷ zs) p q = (common_least x y z p.0 q.0, all_least xs ys zs p.1 q.1)

  pub length-common_each : (xs ys : List (Option A)) → length xs ≡ length ys → length (common_each same xs ys) ≡ length xs
  length-common_each [] ys long = refl
  length-common_each (x ∷ xs) [] long = absurd (omega arith)
  length-common_each (x ∷ xs) (y ∷ ys) long = let rest = length-common_each xs ys (omega arith) in omega (arith, rest)

pub facts_first : (a b : Bool) → FactBelow a (a && b)
facts_first true true = refl
facts_first true false = tt
facts_first false b = tt

pub facts_second : (a b : Bool) → FactBelow b (a && b)
facts_second true true = refl
facts_second true false = tt
facts_second false b = tt

pub facts_least : (a b c : Bool) → FactBelow a c → FactBelow b c → FactBelow (a && b) c
facts_least a b false p q = tt
facts_least true b true p q = q
facts_least false b true p q = p

-- numbers and bits

number_first : (x y : Option ℕ) → Below x (common same_number x y)
number_first x y = common_first same_number numbers_tell x y

number_second : (x y : Option ℕ) → Below y (common same_number x y)
number_second x y = common_second same_number numbers_tell x y

number_least : (x y z : Option ℕ) → Below x z → Below y z → Below (common same_number x y) z
number_least x y z p q = common_least same_number numbers_tell x y z p q

bit_first : (x y : Option Bool) → Below x (common same_bool x y)
bit_first x y = common_first same_bool bits_tell x y

bit_second : (x y : Option Bool) → Below y (common same_bool x y)
bit_second x y = common_second same_bool bits_tell x y

bit_least : (x y z : Option Bool) → Below x z → Below y z → Below (common same_bool x y) z
bit_least x y z p q = common_least same_bool bits_tell x y z p q

-- ---- the first state is below

status_first : (s t : KnownStatus) → StatusBelow s (joined_status s t)
status_first s t = record {
  sign = bit_first s.sign t.sign;
  carry = bit_first s.carry t.carry;
  zero = bit_first s.zero t.zero;
  overflow = bit_first s.overflow t.overflow;
  icb = bit_first s.icb t.icb;
}

registers_first : (s t : KnownRegisters) → length s.scratchpad ≡ length t.scratchpad → RegistersBelow s (joined_registers s t)
registers_first s t long = record {
  accumulator = number_first s.accumulator t.accumulator;
  high = number_first s.high t.high;
  low = number_first s.low t.low;
  status = status_first s.status t.status;
  scratchpad = all_first same_number numbers_tell s.scratchpad t.scratchpad long;
}

counters_first : (s t : KnownCounters) → CountersBelow s (joined_counters s t)
counters_first s t = record {
  d0 = number_first s.d0 t.d0;
  d1 = number_first s.d1 t.d1;
  c = number_first s.c t.c;
  s0 = facts_first s.s0 t.s0;
  s1 = facts_first s.s1 t.s1;
  p0 = facts_first s.p0 t.p0;
  p1 = facts_first s.p1 t.p1;
}

-- ---- the second state is below

status_second : (s t : KnownStatus) → StatusBelow t (joined_status s t)
status_second s t = record {
  sign = bit_second s.sign t.sign;
  carry = bit_second s.carry t.carry;
  zero = bit_second s.zero t.zero;
  overflow = bit_second s.overflow t.overflow;
  icb = bit_second s.icb t.icb;
}

registers_second : (s t : KnownRegisters) → length s.scratchpad ≡ length t.scratchpad → RegistersBelow t (joined_registers s t)
registers_second s t long = record {
  accumulator = number_second s.accumulator t.accumulator;
  high = number_second s.high t.high;
  low = number_second s.low t.low;
  status = status_second s.status t.status;
  scratchpad = all_second same_number numbers_tell s.scratchpad t.scratchpad long;
}

counters_second : (s t : KnownCounters) → CountersBelow t (joined_counters s t)
counters_second s t = record {
  d0 = number_second s.d0 t.d0;
  d1 = number_second s.d1 t.d1;
  c = number_second s.c t.c;
  s0 = facts_second s.s0 t.s0;
  s1 = facts_second s.s1 t.s1;
  p0 = facts_second s.p0 t.p0;
  p1 = facts_second s.p1 t.p1;
}

-- ---- what is above both is above the join

status_least : (s t u : KnownStatus) → StatusBelow s u → StatusBelow t u → StatusBelow (joined_status s t) u
status_least s t u p q = record {
  sign = bit_least s.sign t.sign u.sign p.sign q.sign;
  carry = bit_least s.carry t.carry u.carry p.carry q.carry;
  zero = bit_least s.zero t.zero u.zero p.zero q.zero;
  overflow = bit_least s.overflow t.overflow u.overflow p.overflow q.overflow;
  icb = bit_least s.icb t.icb u.icb p.icb q.icb;
}

registers_least : (s t u : KnownRegisters) → RegistersBelow s u → RegistersBelow t u → RegistersBelow (joined_registers s t) u
registers_least s t u p q = record {
  accumulator = number_least s.accumulator t.accumulator u.accumulator p.accumulator q.accumulator;
  high = number_least s.high t.high u.high p.high q.high;
  low = number_least s.low t.low u.low p.low q.low;
  status = status_least s.status t.status u.status p.status q.status;
  scratchpad = all_least same_number numbers_tell s.scratchpad t.scratchpad u.scratchpad p.scratchpad q.scratchpad;
}

counters_least : (s t u : KnownCounters) → CountersBelow s u → CountersBelow t u → CountersBelow (joined_counters s t) u
counters_least s t u p q = record {
  d0 = number_least s.d0 t.d0 u.d0 p.d0 q.d0;
  d1 = number_least s.d1 t.d1 u.d1 p.d1 q.d1;
  c = number_least s.c t.c u.c p.c q.c;
  s0 = facts_least s.s0 t.s0 u.s0 p.s0 q.s0;
  s1 = facts_least s.s1 t.s1 u.s1 p.s1 q.s1;
  p0 = facts_least s.p0 t.p0 u.p0 p.p0 q.p0;
  p1 = facts_least s.p1 t.p1 u.p1 p.p1 q.p1;
}

-- ---- states

pub same_lengths : (s t : AbstractState) → HasScratchpad s → HasScratchpad t → length s.registers.scratchpad ≡ length t.registers.scratchpad
same_lengths s t whole full = whole ∙ sym full

pub join_laws : JoinLaw
join_laws = record {
  whole = λ s. length-map s.regs known_byte ∙ s.all_registers;
  first = λ s t whole full. record {
    registers = registers_first s.registers t.registers (same_lengths s t whole full);
    counters = counters_first s.counters t.counters;
  };
  second = λ s t whole full. record {
    registers = registers_second s.registers t.registers (same_lengths s t whole full);
    counters = counters_second s.counters t.counters;
  };
  least = λ s t u p q. record {
    registers = registers_least s.registers t.registers u.registers p.registers q.registers;
    counters = counters_least s.counters t.counters u.counters p.counters q.counters;
  };
  scratchpad = λ s t whole full.
      length-common_each same_number numbers_tell s.registers.scratchpad t.registers.scratchpad (same_lengths s t whole full) ∙ whole;
}
