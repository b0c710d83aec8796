-- The order of abstract states: its laws, and that its test decides it.
use Rattle.std.proofs.Common.{◌≡◌, ℕ, Bool, true, false, ◌&&◌, List, [], ◌∷◌, refl, ap, sym, ◌∙◌}
use Rattle.std.specs.Prelude.{Option, Some, None}
use Rattle.std.specs.Bool.{Decides}
use Rattle.std.specs.List.{AllZip}
use Rattle.std.specs.Cmp.{unsigned_Decides}
use Rattle.abs_domain.specs.Lattice.{Below, FactBelow, is_below, is_fact_below, is_each_below, same_bool, same_number}
use Rattle.abs_domain.specs.AbstractState.{KnownStatus, KnownRegisters, KnownCounters, AbstractState}
use Rattle.abs_domain.specs.AbstractState.{StatusBelow, RegistersBelow, CountersBelow, StateBelow}
use Rattle.abs_domain.specs.Joins.{is_status_below, are_registers_below, are_counters_below, is_state_below}
use Rattle.abs_domain.specs.DomainLaws.{OrderLaw}

-- ---- parts

module _ {A : Type 0} where
  pub below_refl : (x : Option A) → Below x x
  below_refl None = tt
  below_refl (Some x) = refl

  pub below_trans : (x y z : Option A) → Below x y → Below y z → Below x z
  below_trans x y None p q = tt
  below_trans x None (Some z) p q = absurd (cc)
  below_trans x (Some y) (Some z) p q = p ∙ q

  pub below_same : (x y : Option A) → Below x y → Below y x → x ≡ y
  below_same None None p q = refl
  below_same None (Some y) p q = p
  below_same (Some x) y p q = sym q

  pub all_below_refl : (xs : List (Option A)) → AllZip Below xs xs
  all_below_refl [] = tt
  all_below_refl (x ∷ xs) = (below_refl x, all_below_refl xs)

  pub all_below_trans : (xs ys zs : List (Option A)) → AllZip Below xs ys → AllZip Below ys zs → AllZip Below xs zs
  all_below_trans [] [] zs p q = q
  all_below_trans [] (y ∷ ys) zs p q = absurd p
  all_below_trans (x ∷ xs) [] zs p q = absurd p
  all_below_trans (x ∷ xs) (y ∷ ys) [] p q = absurd q
  all_below_trans (x ∷ xs) (y ∷ ys) (z ∷ zs) p q = (below_trans x y z p.0 q.0, all_below_trans xs ys zs p.1 q.1)

  pub all_below_same : (xs ys : List (Option A)) → AllZip Below xs ys → AllZip Below ys xs → xs ≡ ys
  all_below_same [] [] p q = refl
  all_below_same [] (y ∷ ys) p q = absurd p
  all_below_same (x ∷ xs) [] p q = absurd p
  all_below_same (x ∷ xs) (y ∷ ys) p q =
      let head : x ≡ y = below_same x y p.0 q.0 in
      let tail : xs ≡ ys = all_below_same xs ys p.1 q.1 in
      cc

pub fact_refl : (a : Bool) → FactBelow a a
fact_refl true = refl
fact_refl false = tt

pub fact_trans : (a b c : Bool) → FactBelow a b → FactBelow b c → FactBelow a c
fact_trans a b false p q = tt
fact_trans a true true p q = p
fact_trans a false true p q = absurd (cc)

pub fact_same : (a b : Bool) → FactBelow a b → FactBelow b a → a ≡ b
fact_same true true p q = refl
fact_same true false p q = sym q
fact_same false true p q = p
fact_same false false p q = refl

-- ---- tests

-- a test of two values for being the same, which answers right
abbrev pub DecidesEquality : {A : Type 0} → (A → A → Bool) → Type 0
DecidesEquality {A} same = (x y : A) → Decides (same x y) (x ≡ y)

pub numbers_tell : DecidesEquality same_number
numbers_tell = unsigned_Decides

pub bits_tell : DecidesEquality same_bool
bits_tell true true = (λ h. refl, λ h. refl)
bits_tell true false = (λ h. cc, λ h. cc)
bits_tell false true = (λ h. cc, λ h. cc)
bits_tell false false = (λ h. refl, λ h. refl)

-- two facts at once
pub both_decided : {P Q : Type 0} (a b : Bool) → Decides a P → Decides b Q → Decides (a && b) (P × Q)
both_decided true true p q = (λ h. (p.0 h, q.0 h), λ h. refl)
both_decided true false p q = (λ h. absurd (cc), λ h. q.1 h.1)
both_decided false b p q = (λ h. absurd (cc), λ h. p.1 h.0)

module _ {A : Type 0} (same : A → A → Bool) (tells : DecidesEquality same) where
  pub below_decided : (x y : Option A) → Decides (is_below same x y) (Below x y)
  below_decided x None = (λ h. tt, λ h. refl)
  below_decided None (Some y) = (λ h. absurd (cc), λ h. absurd (cc))
  below_decided (Some x) (Some y) = (λ h. ap Some ((tells x y).0 h), λ h. (tells x y).1 (cc))

  pub all_below_decided : (xs ys : List (Option A)) → Decides (is_each_below same xs ys) (AllZip Below xs ys)
  all_below_decided [] [] = (λ h. tt, λ h. refl)
  all_below_decided [] (y ∷ ys) = (λ h. absurd (cc), λ h. absurd h)
  all_below_decided (x ∷ xs) [] = (λ h. absurd (cc), λ h. absurd h)
  all_below_decided (x ∷ xs) (y ∷ ys) = both_decided _ _ (below_decided x y) (all_below_decided xs ys)

pub fact_decided : (a b : Bool) → Decides (is_fact_below a b) (FactBelow a b)
fact_decided a true = (λ h. h, λ h. h)
fact_decided a false = (λ h. tt, λ h. refl)

number : (x y : Option ℕ) → Decides (is_below same_number x y) (Below x y)
number x y = below_decided same_number numbers_tell x y

bit : (x y : Option Bool) → Decides (is_below same_bool x y) (Below x y)
bit x y = below_decided same_bool bits_tell x y

-- ---- the status word

pub status_refl : (s : KnownStatus) → StatusBelow s s
status_refl s = record {
  sign = below_refl s.sign;
  carry = below_refl s.carry;
  zero = below_refl s.zero;
  overflow = below_refl s.overflow;
  icb = below_refl s.icb;
}

pub status_trans : (s t u : KnownStatus) → StatusBelow s t → StatusBelow t u → StatusBelow s u
status_trans s t u p q = record {
  sign = below_trans s.sign t.sign u.sign p.sign q.sign;
  carry = below_trans s.carry t.carry u.carry p.carry q.carry;
  zero = below_trans s.zero t.zero u.zero p.zero q.zero;
  overflow = below_trans s.overflow t.overflow u.overflow p.overflow q.overflow;
  icb = below_trans s.icb t.icb u.icb p.icb q.icb;
}

pub status_same : (s t : KnownStatus) → StatusBelow s t → StatusBelow t s → s ≡ t
status_same s t p q =
    let sign : s.sign ≡ t.sign = below_same s.sign t.sign p.sign q.sign in
    let carry : s.carry ≡ t.carry = below_same s.carry t.carry p.carry q.carry in
    let none : s.zero ≡ t.zero = below_same s.zero t.zero p.zero q.zero in
    let overflow : s.overflow ≡ t.overflow = below_same s.overflow t.overflow p.overflow q.overflow in
    let icb : s.icb ≡ t.icb = below_same s.icb t.icb p.icb q.icb in
    λ i. record { sign = sign i; carry = carry i; zero = none i; overflow = overflow i; icb = icb i }

pub status_decided : (s t : KnownStatus) → Decides (is_status_below s t) (StatusBelow s t)
status_decided s t =
    let each = both_decided _ _ (both_decided _ _ (both_decided _ _ (both_decided _ _ (bit s.sign t.sign) (bit s.carry t.carry))
    (bit s.zero t.zero)) (bit s.overflow t.overflow)) (bit s.icb t.icb) in (
      λ h. let q = each.0 h in record { sign = q.0.0.0.0; carry = q.0.0.0.1; zero = q.0.0.1; overflow = q.0.1; icb = q.1 },
      λ p. each.1 ((((p.sign, p.carry), p.zero), p.overflow), p.icb),
    )

-- ---- registers

pub registers_refl : (s : KnownRegisters) → RegistersBelow s s
registers_refl s = record {
  accumulator = below_refl s.accumulator;
  high = below_refl s.high;
  low = below_refl s.low;
  status = status_refl s.status;
  scratchpad = all_below_refl s.scratchpad;
}

pub registers_trans : (s t u : KnownRegisters) → RegistersBelow s t → RegistersBelow t u → RegistersBelow s u
registers_trans s t u p q = record {
  accumulator = below_trans s.accumulator t.accumulator u.accumulator p.accumulator q.accumulator;
  high = below_trans s.high t.high u.high p.high q.high;
  low = below_trans s.low t.low u.low p.low q.low;
  status = status_trans s.status t.status u.status p.status q.status;
  scratchpad = all_below_trans s.scratchpad t.scratchpad u.scratchpad p.scratchpad q.scratchpad;
}

pub registers_same : (s t : KnownRegisters) → RegistersBelow s t → RegistersBelow t s → s ≡ t
registers_same s t p q =
    let accumulator : s.accumulator ≡ t.accumulator = below_same s.accumulator t.accumulator p.accumulator q.accumulator in
    let high : s.high ≡ t.high = below_same s.high t.high p.high q.high in
    let low : s.low ≡ t.low = below_same s.low t.low p.low q.low in
    let status : s.status ≡ t.status = status_same s.status t.status p.status q.status in
    let scratchpad : s.scratchpad ≡ t.scratchpad = all_below_same s.scratchpad t.scratchpad p.scratchpad q.scratchpad in
    λ i. record { accumulator = accumulator i; high = high i; low = low i; status = status i; scratchpad = scratchpad i }

pub registers_decided : (s t : KnownRegisters) → Decides (are_registers_below s t) (RegistersBelow s t)
registers_decided s t =
    let each = both_decided _ _ (both_decided _ _ (both_decided _ _ (both_decided _ _
    (number s.accumulator t.accumulator) (number s.high t.high)) (number s.low t.low)) (status_decided s.status t.status))
    (all_below_decided same_number numbers_tell s.scratchpad t.scratchpad) in (
      λ h. let q = each.0 h in record { accumulator = q.0.0.0.0; high = q.0.0.0.1; low = q.0.0.1; status = q.0.1; scratchpad = q.1 },
      λ p. each.1 ((((p.accumulator, p.high), p.low), p.status), p.scratchpad),
    )

-- ---- counters and facts

pub counters_refl : (s : KnownCounters) → CountersBelow s s
counters_refl s = record {
  d0 = below_refl s.d0;
  d1 = below_refl s.d1;
  c = below_refl s.c;
  s0 = fact_refl s.s0;
  s1 = fact_refl s.s1;
  p0 = fact_refl s.p0;
  p1 = fact_refl s.p1;
}

pub counters_trans : (s t u : KnownCounters) → CountersBelow s t → CountersBelow t u → CountersBelow s u
counters_trans s t u p q = record {
  d0 = below_trans s.d0 t.d0 u.d0 p.d0 q.d0;
  d1 = below_trans s.d1 t.d1 u.d1 p.d1 q.d1;
  c = below_trans s.c t.c u.c p.c q.c;
  s0 = fact_trans s.s0 t.s0 u.s0 p.s0 q.s0;
  s1 = fact_trans s.s1 t.s1 u.s1 p.s1 q.s1;
  p0 = fact_trans s.p0 t.p0 u.p0 p.p0 q.p0;
  p1 = fact_trans s.p1 t.p1 u.p1 p.p1 q.p1;
}

pub counters_same : (s t : KnownCounters) → CountersBelow s t → CountersBelow t s → s ≡ t
counters_same s t p q =
    let d0 : s.d0 ≡ t.d0 = below_same s.d0 t.d0 p.d0 q.d0 in
    let d1 : s.d1 ≡ t.d1 = below_same s.d1 t.d1 p.d1 q.d1 in
    let c : s.c ≡ t.c = below_same s.c t.c p.c q.c in
    let s0 : s.s0 ≡ t.s0 = fact_same s.s0 t.s0 p.s0 q.s0 in
    let s1 : s.s1 ≡ t.s1 = fact_same s.s1 t.s1 p.s1 q.s1 in
    let p0 : s.p0 ≡ t.p0 = fact_same s.p0 t.p0 p.p0 q.p0 in
    let p1 : s.p1 ≡ t.p1 = fact_same s.p1 t.p1 p.p1 q.p1 in
    λ i. record { d0 = d0 i; d1 = d1 i; c = c i; s0 = s0 i; s1 = s1 i; p0 = p0 i; p1 = p1 i }

pub counters_decided : (s t : KnownCounters) → Decides (are_counters_below s t) (CountersBelow s t)
counters_decided s t =
    let each = both_decided _ _ (both_decided _ _ (both_decided _ _ (both_decided _ _ (both_decided _ _ (both_decided _ _
    (number s.d0 t.d0) (number s.d1 t.d1)) (number s.c t.c)) (fact_decided s.s0 t.s0)) (fact_decided s.s1 t.s1))
    (fact_decided s.p0 t.p0)) (fact_decided s.p1 t.p1) in (
      λ h. let q = each.0 h in record {
        d0 = q.0.0.0.0.0.0;
        d1 = q.0.0.0.0.0.1;
        c = q.0.0.0.0.1;
        s0 = q.0.0.0.1;
        s1 = q.0.0.1;
        p0 = q.0.1;
        p1 = q.1;
      },
      λ p. each.1 ((((((p.d0, p.d1), p.c), p.s0), p.s1), p.p0), p.p1),
    )

-- ---- states

pub state_decided : (s t : AbstractState) → Decides (is_state_below s t) (StateBelow s t)
state_decided s t =
    let each = both_decided _ _ (registers_decided s.registers t.registers) (counters_decided s.counters t.counters) in
    (λ h. let q = each.0 h in record { registers = q.0; counters = q.1 }, λ p. each.1 (p.registers, p.counters))

pub order_laws : OrderLaw
order_laws = record {
  reflexive = λ s. record { registers = registers_refl s.registers; counters = counters_refl s.counters };
  transitive = λ s t u p q. record {
    registers = registers_trans s.registers t.registers u.registers p.registers q.registers;
    counters = counters_trans s.counters t.counters u.counters p.counters q.counters;
  };
  antisymmetric = λ s t p q.
      let registers : s.registers ≡ t.registers = registers_same s.registers t.registers p.registers q.registers in
      let counters : s.counters ≡ t.counters = counters_same s.counters t.counters p.counters q.counters in
      λ i. record { registers = registers i; counters = counters i };
  test = state_decided;
}
