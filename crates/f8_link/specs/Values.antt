-- The values of a module's expressions: a constant, or so far from a base that linking gives a value.
use Rattle.std.specs.Prelude.{ℤ, pos, negsuc, ◌+ℤ◌, ◌-ℤ◌, int_le, Bool, true, false, ◌&&◌, ◌==◌, if◌then◌else◌}
use Rattle.f8_asm.specs.Values.{within, operator_value, prefix_value}
use Rattle.f8_asm.specs.declared.values.Operator.{Operator}
use Rattle.f8_asm.specs.declared.values.Operator.TheVariants as operator
use Rattle.f8_asm.specs.declared.values.Outcome.{Outcome}
use Rattle.f8_asm.specs.declared.values.Outcome.TheVariants as outcome
use Rattle.f8_asm.specs.declared.values.Prefix.{Prefix}
use Rattle.f8_asm.specs.declared.values.Prefix.TheVariants as prefix
use Rattle.f8_link.specs.declared.values.Base.{Base}
use Rattle.f8_link.specs.declared.values.Base.TheVariants.{Module, Import}
use Rattle.f8_link.specs.declared.values.Found.{Found}
use Rattle.f8_link.specs.declared.values.Found.TheVariants as found
use Rattle.f8_link.specs.declared.values.Half.TheVariants.{Low, High}
use Rattle.f8_link.specs.declared.values.Named.{Named}
use Rattle.f8_link.specs.declared.values.Named.TheVariants as named
use Rattle.f8_link.specs.declared.values.Value.{Value}
use Rattle.f8_link.specs.declared.values.Value.TheVariants.{Constant, Placed}

abbrev pub same_base : Base → Base → Bool
same_base Module Module = true
same_base Module (Import j) = false
same_base (Import i) Module = false
same_base (Import i) (Import j) = i == j

-- a value so far from a base; it lies from -65,535 to 65,535 from it
abbrev pub near : Base → ℤ → Found
near base k = if int_le (negsuc 65534) k && int_le k (pos 65535) then found.Value (Placed base k) else found.OutOfRange

-- what a name of the module stands for, where it is used: a label behind the byte at offset 65,535 is too far from the first
abbrev pub used : Named → Found
used (named.Constant v) = found.Value (Constant v)
used (named.Offset offset) = near Module (pos offset)

-- a constant that the assembler's arithmetic gives
abbrev pub constant_found : Outcome → Found
constant_found (outcome.Value v) = found.Value (Constant v)
constant_found outcome.OutOfRange = found.OutOfRange
constant_found (outcome.Undefined column) = found.Undefined column

-- ---- two values joined

-- a placed value and a constant behind it
abbrev pub placed_moved : Operator → Base → ℤ → ℤ → Found
placed_moved operator.Plus base k a = near base (k +ℤ a)
placed_moved operator.Minus base k a = near base (k -ℤ a)
placed_moved other base k a = found.Shapeless

-- a constant and a placed value behind it
abbrev pub moved_placed : Operator → ℤ → Base → ℤ → Found
moved_placed operator.Plus a base k = near base (a +ℤ k)
moved_placed other a base k = found.Shapeless

-- two placed values: on one base their difference is a constant
abbrev pub placed_joined : Operator → Bool → ℤ → ℤ → Found
placed_joined operator.Minus true k j = constant_found (within (k -ℤ j))
placed_joined other same k j = found.Shapeless

abbrev pub values_joined : Operator → Value → Value → Found
values_joined op (Constant a) (Constant b) = constant_found (operator_value op a b)
values_joined op (Constant a) (Placed base k) = moved_placed op a base k
values_joined op (Placed base k) (Constant a) = placed_moved op base k a
values_joined op (Placed base k) (Placed other j) = placed_joined op (same_base base other) k j

-- two operands joined: the first undefined name is told, else that a value is out of range, else that there is no such value
abbrev pub both : Operator → Found → Found → Found
both op (found.Undefined column) y = found.Undefined column
both op found.OutOfRange (found.Undefined column) = found.Undefined column
both op found.OutOfRange y = found.OutOfRange
both op found.Shapeless (found.Undefined column) = found.Undefined column
both op found.Shapeless found.OutOfRange = found.OutOfRange
both op found.Shapeless y = found.Shapeless
both op (found.Half half base k) (found.Undefined column) = found.Undefined column
both op (found.Half half base k) found.OutOfRange = found.OutOfRange
both op (found.Half half base k) y = found.Shapeless
both op (found.Value v) (found.Undefined column) = found.Undefined column
both op (found.Value v) found.OutOfRange = found.OutOfRange
both op (found.Value v) found.Shapeless = found.Shapeless
both op (found.Value v) (found.Half half base k) = found.Shapeless
both op (found.Value v) (found.Value w) = values_joined op v w

-- ---- a value behind a prefix

abbrev pub placed_before : Prefix → Base → ℤ → Found
placed_before prefix.Negative base k = found.Shapeless
placed_before prefix.LowByte base k = found.Half Low base k
placed_before prefix.HighByte base k = found.Half High base k

abbrev pub value_before : Prefix → Value → Found
value_before p (Constant v) = constant_found (prefix_value p v)
value_before p (Placed base k) = placed_before p base k

-- an operand behind a prefix; a half is whole, and nothing goes before it
abbrev pub before : Prefix → Found → Found
before p (found.Value v) = value_before p v
before p (found.Half half base k) = found.Shapeless
before p found.OutOfRange = found.OutOfRange
before p found.Shapeless = found.Shapeless
before p (found.Undefined column) = found.Undefined column
