-- How many clocks an instruction takes at most, by itself and before the last fetch.
use Rattle.std.proofs.Common.{◌≡◌, ℕ, ◌-◌, ◌≤◌, Bool, true, false, arith}
use Rattle.std.specs.Prelude.{nat_lt, if◌then◌else◌}
use Rattle.f8_spec.specs.Instructions.{row_of, row_clocks, clocks_of, clocks_before_fetch, fetch_clocks, is_shielding}
use Rattle.f8_spec.specs.declared.instructions.Op.{Op}
use Rattle.f8_spec.specs.declared.instructions.Op.TheVariants.{Bf, Br7, Bt, Ins, Outs, Pi}
use Rattle.f8_spec.specs.declared.instructions.Row.{Row}
use Rattle.f8_spec.specs.declared.instructions.Row.TheVariants.{Branch, BranchIsar, Idle, ShortIn, ShortOut}

most_in_row : (row : Row) (taken : Bool) → row_clocks row taken ≤ 26
most_in_row Branch true = omega arith
most_in_row Branch false = omega arith
most_in_row BranchIsar true = omega arith
most_in_row BranchIsar false = omega arith
most_in_row row taken = omega arith

pub most_clocks : (op : Op) (taken : Bool) → clocks_of op taken ≤ 26
most_clocks op taken = most_in_row (row_of op) taken

-- the clocks of a row before the last fetch
abbrev row_before_fetch : Row → Bool → ℕ
row_before_fetch row taken = row_clocks row taken - fetch_clocks row

-- of one row or the other
of_either : (own : Bool) (there here : Row) (taken : Bool) → row_before_fetch there taken ≤ 20 → row_before_fetch here taken ≤ 20 →
    row_before_fetch (if own then there else here) taken ≤ 20
of_either true there here taken a b = a
of_either false there here taken a b = b

-- of an instruction that leaves its end open to an interrupt
pub most_before_fetch : (op : Op) (taken : Bool) → is_shielding op ≡ false → clocks_before_fetch op taken ≤ 20
most_before_fetch Pi taken other = cc
most_before_fetch (Bt t) true other = omega arith
most_before_fetch (Bt t) false other = omega arith
most_before_fetch (Bf t) true other = omega arith
most_before_fetch (Bf t) false other = omega arith
most_before_fetch Br7 true other = omega arith
most_before_fetch Br7 false other = omega arith
most_before_fetch (Ins n) taken other = of_either (nat_lt n 2) Idle ShortIn taken (omega arith) (omega arith)
most_before_fetch (Outs n) taken other = of_either (nat_lt n 2) Idle ShortOut taken (omega arith) (omega arith)
most_before_fetch op taken other = omega arith
