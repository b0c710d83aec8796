-- Expiries of a load, counted.
use Rattle.std.proofs.Common.{◌≡◌, ℕ, inl, inr, arith}
use Rattle.std.specs.Prelude.{nat_lt, nat_le}
use Rattle.std.proofs.lemmas.Bool.{cases_lt}
use Rattle.std.proofs.lemmas.Bool.Decides.{nat_tests}
use Rattle.f8_spec.specs.ShiftTimer.{next_in_cycle}
use Rattle.f8_isa.specs.Requests.{expiries_up_to}

-- one lies after a time and up to another exactly where more lie up to the other
pub expires_counted : (first since until : ℕ) →
    nat_le (next_in_cycle first since) until ≡ nat_lt (expiries_up_to first since) (expiries_up_to first until)
expires_counted first since until = elim (cases_lt since first) [
  | inl early ↦ elim (cases_lt until first) [
    | inl before ↦ grind (nat_tests, arith)
    | inr reached ↦ grind (nat_tests, arith)
  ]
  | inr past ↦ elim (cases_lt until first) [
    | inl before ↦ grind (nat_tests, arith)
    | inr reached ↦ grind (nat_tests, arith)
  ]
]
