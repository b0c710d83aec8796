-- The expiries of a load as a row of times, a whole cycle apart.
use Rattle.std.proofs.Common.{◌≡◌, ℕ, ◌+◌, ◌-◌, ◌*◌, ◌/◌, ◌<◌, ◌≤◌, inl, inr, arith}
use Rattle.std.proofs.lemmas.Bool.{cases_lt}
use Rattle.std.proofs.lemmas.Bool.Decides.{nat_tests}
use Rattle.f8_spec.specs.ShiftTimer.{cycle_period, next_in_cycle}

-- a time of the row: the first one, or some whole cycles behind it
pub record IsInCycle (first time : ℕ) : Type 0 where
  pub cycles : ℕ
  pub place : time ≡ first + cycle_period * cycles

-- the next time of the row is a time of the row, it lies after the given time, and none of the row lies between the two
pub next-in_cycle : (first time : ℕ) → IsInCycle first (next_in_cycle first time)
next-in_cycle first time =
    elim (cases_lt time first) [
      | inl before ↦ record { cycles = 0; place = grind (nat_tests, arith) }
      | inr from ↦ record { cycles = (time - first) / cycle_period + 1; place = grind (nat_tests, arith) }
    ]

pub next-after : (first time : ℕ) → time < next_in_cycle first time
next-after first time = grind (nat_tests, arith)

least_of : (first time other cycles : ℕ) → other ≡ first + cycle_period * cycles → time < other → next_in_cycle first time ≤ other
least_of first time other cycles place later = grind (nat_tests, arith)

pub next-least : (first time other : ℕ) → IsInCycle first other → time < other → next_in_cycle first time ≤ other
next-least first time other member later = least_of first time other member.cycles member.place later

-- up to that time it stays the next one
pub next-stays : (first time later : ℕ) → time ≤ later → later < next_in_cycle first time →
    next_in_cycle first later ≡ next_in_cycle first time
next-stays first time later order before = grind (nat_tests, arith)

-- and from then on the next one is a cycle later
pub next-goes : (first time later : ℕ) → next_in_cycle first time ≤ later → later < next_in_cycle first time + cycle_period →
    next_in_cycle first later ≡ next_in_cycle first time + cycle_period
next-goes first time later from before = grind (nat_tests, arith)
