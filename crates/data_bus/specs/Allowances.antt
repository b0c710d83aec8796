-- How many questions a bus step may put to the chips of a rack. It is this project's own.
use Rattle.std.specs.Prelude.{ℕ, ◌*◌, Bool, if◌then◌else◌}
use Rattle.f8_spec.specs.declared.bus.BusRule.{BusRule}
use Rattle.f8_spec.specs.declared.bus.BusRule.TheVariants.{Read, Store, PortRead, PortWrite, Vector, NoChip}

-- How many questions a step that asks every chip puts to one, by whether its interrupt is acknowledged: what it offers, whether it holds
-- the probe's place, and where its own counter is.
abbrev pub questions_at : BusRule → Bool → ℕ
questions_at Read mark = 3
questions_at Store mark = 3
questions_at PortRead mark = 1
questions_at PortWrite mark = 1
questions_at Vector mark = if mark then 1 else 0
questions_at NoChip mark = 0

-- How many a step may put to a rack of so many chips, by whether both halves of its counter are known to agree: none where no chip takes
-- part, one where the chip is named or known, and else some to each.
abbrev pub allowance_by : BusRule → Bool → ℕ → ℕ
allowance_by Read known chips = if known then 1 else 4 * chips
allowance_by Store known chips = if known then 1 else 4 * chips
allowance_by PortRead known chips = chips
allowance_by PortWrite known chips = chips
allowance_by Vector known chips = 1
allowance_by NoChip known chips = 0
