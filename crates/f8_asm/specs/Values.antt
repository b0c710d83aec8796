-- The numbers of expressions, and what operators and prefixes make of them.
use Rattle.std.specs.Prelude.{zero, ℤ, pos, negsuc, ◌+ℤ◌, ◌-ℤ◌, ◌*ℤ◌, neg_ℤ, int_le, int_div, int_rem, ◌&&◌, if◌then◌else◌}
use Rattle.std.specs.Int.{w64, int_bit_and, int_bit_or}
use Rattle.f8_asm.specs.declared.values.Outcome.{Outcome}
use Rattle.f8_asm.specs.declared.values.Outcome.TheVariants.{Value, OutOfRange, Undefined}
use Rattle.f8_asm.specs.declared.values.Operator.{Operator}
use Rattle.f8_asm.specs.declared.values.Operator.TheVariants.{Or, And, Plus, Minus, Times, Divide}
use Rattle.f8_asm.specs.declared.values.Prefix.{Prefix}
use Rattle.f8_asm.specs.declared.values.Prefix.TheVariants.{Negative, LowByte, HighByte}

-- a value, also one in between, lies from -2,147,483,648 to 4,294,967,295
abbrev pub within : ℤ → Outcome
within v = if int_le (negsuc 2147483647) v && int_le v (pos 4294967295) then Value v else OutOfRange

-- the quotient, cut towards 0
abbrev pub quotient : ℤ → ℤ → Outcome
quotient a (pos zero) = OutOfRange
quotient a b = within (int_div a b)

-- two values joined; `|` and `&` act on the two's complement
abbrev pub operator_value : Operator → ℤ → ℤ → Outcome
operator_value Or a b = within (int_bit_or w64 a b)
operator_value And a b = within (int_bit_and w64 a b)
operator_value Plus a b = within (a +ℤ b)
operator_value Minus a b = within (a -ℤ b)
operator_value Times a b = within (a *ℤ b)
operator_value Divide a b = quotient a b

-- two operands joined: the first undefined name is told, else that a value is out of range
abbrev pub both : Operator → Outcome → Outcome → Outcome
both operator (Undefined column) b = Undefined column
both operator OutOfRange (Undefined column) = Undefined column
both operator OutOfRange OutOfRange = OutOfRange
both operator OutOfRange (Value b) = OutOfRange
both operator (Value a) (Undefined column) = Undefined column
both operator (Value a) OutOfRange = OutOfRange
both operator (Value a) (Value b) = operator_value operator a b

-- a value behind a prefix: `<` and `>` give the low and the high byte of a value that isn't negative
abbrev pub prefix_value : Prefix → ℤ → Outcome
prefix_value Negative v = within (neg_ℤ v)
prefix_value LowByte v = if int_le (pos 0) v then Value (int_rem v (pos 256)) else OutOfRange
prefix_value HighByte v = if int_le (pos 0) v then Value (int_rem (int_div v (pos 256)) (pos 256)) else OutOfRange

-- an operand behind a prefix
abbrev pub before : Prefix → Outcome → Outcome
before prefix (Value v) = prefix_value prefix v
before prefix OutOfRange = OutOfRange
before prefix (Undefined column) = Undefined column
