-- In a run bytes stay bytes, and addresses addresses.
use Rattle.std.proofs.Common.{ℕ, zero, suc, ◌+◌, ◌*◌, ◌/◌, ◌%◌, ◌<◌, ◌≤◌, Bool, true, false, ℤ, pos, negsuc, List, [], ◌∷◌, ◌∙◌, arith}
use Rattle.std.specs.Prelude.{slice_set, bit_and, bit_or, bit_xor, if◌then◌else◌, ◌==◌, nat_le}
use Rattle.std.specs.Int.{w8, cast_signed}
use Rattle.std.proofs.lemmas.List.{length-set}
use Rattle.std.proofs.lemmas.Nat.{and_le_l, or_lt, xor_lt}
use Rattle.f8_spec.specs.Words.{bit_of, word, places_on, wrapped, displaced, sum_value, sum_carry, decimal_digit, decimal_value}
use Rattle.f8_spec.specs.Flags.{Status, status_byte}
use Rattle.f8_spec.specs.Instructions.{InRange, row_of}
use Rattle.f8_spec.specs.declared.instructions.Op.{Op}
use Rattle.f8_spec.specs.declared.instructions.Op.TheVariants.{LrAKu, LrAKl, LrAQu, LrAQl, LrKuA, LrKlA, LrQuA, In}
use Rattle.f8_spec.specs.declared.instructions.Op.TheVariants.{LrQlA, LrKP, LrAIs, LrIsA, LrQDc, LrHDc, Sr1, Sl1, Sr4}
use Rattle.f8_spec.specs.declared.instructions.Op.TheVariants.{Sl4, Lm, Com, Lnk, LrJW, Inc, Li, Ni, Oi}
use Rattle.f8_spec.specs.declared.instructions.Op.TheVariants.{Xi, Ai, Pi, Jmp, Ds, LrAR, LrRA, Lisu, Lisl, Lis}
use Rattle.f8_spec.specs.declared.instructions.Op.TheVariants.{Am, Amd, Nm, Om, Xm, Ins, As, Asd, Xs, Ns}
use Rattle.f8_spec.specs.declared.instructions.Row.{Row}
use Rattle.f8_spec.specs.declared.instructions.Row.TheVariants.{StackFromK, CallK, JumpQ, DataFromQ, DataFromH}
use Rattle.f8_spec.specs.declared.instructions.Row.TheVariants.{ReadData, StoreData, Return, Immediate, Call, PortIn, ShortIn, Idle}
use Rattle.f8_spec.specs.declared.instructions.Row.TheVariants.{Jump, LoadData, Exchange, AddData, Branch, BranchIsar}
use Rattle.console_spec.specs.AddressSpace.{byte_at}
use Rattle.console_spec.specs.Processor.{Flow, Registers, Inputs, with_scratch, with_pair, register_of, field_byte, stepped_isar}
use Rattle.console_spec.specs.Processor.{with_isar_stepped, decremented, effect, used_byte, result_of, flow_after}
use Rattle.console_spec.specs.FreeRuns.{AreBytes, HasBytes, AreAddresses}

-- ---- lists of bytes

pub set_bytes : (xs : List ℕ) (n byte : ℕ) → AreBytes xs → byte < 256 → AreBytes (slice_set xs n byte)
set_bytes [] n byte h small place = h place
set_bytes (x ∷ xs) zero byte h small zero = small
set_bytes (x ∷ xs) zero byte h small (suc place) = h (suc place)
set_bytes (x ∷ xs) (suc n) byte h small zero = h zero
set_bytes (x ∷ xs) (suc n) byte h small (suc place) = set_bytes xs n byte (λ q. h (suc q)) small place

pub set_memory : (xs : List ℕ) (n byte : ℕ) → ((at : ℕ) → byte_at xs at < 256) → byte < 256 → (at : ℕ) →
    byte_at (slice_set xs n byte) at < 256
set_memory [] n byte h small at = h at
set_memory (x ∷ xs) zero byte h small zero = small
set_memory (x ∷ xs) zero byte h small (suc at) = h (suc at)
set_memory (x ∷ xs) (suc n) byte h small zero = h zero
set_memory (x ∷ xs) (suc n) byte h small (suc at) = set_memory xs n byte (λ q. h (suc q)) small at

-- ---- what an instruction gets

pub record GetsBytes (i : Inputs) : Type 0 where
  pub operand : i.operand < 256
  pub second : i.second < 256
  pub data_byte : i.data_byte < 256
  pub data_high : i.data_high < 256
  pub data_low : i.data_low < 256
  pub stack_high : i.stack_high < 256
  pub stack_low : i.stack_low < 256
  pub k_high : i.k_high < 256
  pub k_low : i.k_low < 256
  pub q_high : i.q_high < 256
  pub q_low : i.q_low < 256
  pub h_high : i.h_high < 256
  pub h_low : i.h_low < 256
  pub port_byte : i.port_byte < 256

used_small : (row : Row) (i : Inputs) → GetsBytes i → used_byte row i < 256
used_small Immediate i h = h.operand
used_small Call i h = h.operand
used_small Jump i h = h.operand
used_small ReadData i h = h.data_byte
used_small PortIn i h = h.port_byte
used_small ShortIn i h = h.port_byte
used_small Idle i h = h.port_byte
used_small row i h = omega arith

-- ---- results

and_small : (a b : ℕ) → a < 256 → bit_and a b < 256
and_small a b small = let below : bit_and a b ≤ a = and_le_l a b in omega arith

pub or_small : (a b : ℕ) → a < 256 → b < 256 → bit_or a b < 256
or_small a b p q = or_lt 8 a b p q

xor_small : (a b : ℕ) → a < 256 → b < 256 → bit_xor a b < 256
xor_small a b p q = xor_lt 8 a b p q

digit_small : (digit : ℕ) (carried : Bool) → digit < 16 → decimal_digit digit carried < 16
digit_small digit true small = small
digit_small digit false small = omega arith

digits_small : (x y : ℕ) → x < 16 → y < 16 → x * 16 + y < 256
digits_small x y p q = omega arith

decimal_small : (a b : ℕ) → decimal_value a b < 256
decimal_small a b =
    let value : ℕ = sum_value a b false in
    digits_small (decimal_digit (value / 16) (sum_carry a b false)) (decimal_digit (value % 16) (nat_le 16 (a % 16 + b % 16)))
    (digit_small (value / 16) (sum_carry a b false) (omega arith)) (digit_small (value % 16) (nat_le 16 (a % 16 + b % 16)) (omega arith))

status_small : (w : Status) → status_byte w < 256
status_small w = by w.sign w.carry w.zero w.overflow w.icb
  where
    bit : (b : Bool) → bit_of b ≤ 1
    bit true = omega arith
    bit false = omega arith

    by : (a b c d e : Bool) → bit_of a + 2 * bit_of b + 4 * bit_of c + 8 * bit_of d + 16 * bit_of e < 256
    by a b c d e = omega (arith, bit a, bit b, bit c, bit d, bit e)

with_accumulator : (v : ℕ) (w : Status) (m : Registers) → v < 256 → HasBytes m → HasBytes (record m { accumulator = v; status = w })
with_accumulator v w m small h = record { accumulator = small; isar = h.isar; size = h.size; scratchpad = h.scratchpad }

with_digits : (v : ℕ) (m : Registers) → v < 64 → HasBytes m → HasBytes (record m { isar = v })
with_digits v m small h = record { accumulator = h.accumulator; isar = small; size = h.size; scratchpad = h.scratchpad }

scratch_small : (n byte : ℕ) (m : Registers) → byte < 256 → HasBytes m → HasBytes (with_scratch n byte m)
scratch_small n byte m small h = record {
  accumulator = h.accumulator;
  isar = h.isar;
  size = length-set m.scratchpad n byte ∙ h.size;
  scratchpad = set_bytes m.scratchpad n byte h.scratchpad small;
}

pair_small : (n high low : ℕ) (m : Registers) → high < 256 → low < 256 → HasBytes m → HasBytes (with_pair n high low m)
pair_small n high low m p q h = scratch_small (n + 1) low (with_scratch n high m) q (scratch_small n high m p h)

isar_small : (field isar : ℕ) → isar < 64 → stepped_isar field isar < 64
isar_small field isar small = by (field == 13) (field == 14)
  where
    by : (up down : Bool) → (if up then isar / 8 * 8 + (isar + 1) % 8 else if down then isar / 8 * 8 + (isar + 7) % 8 else isar) < 64
    by true down = omega arith
    by false true = omega arith
    by false false = small

stepped_small : (field : ℕ) (m : Registers) → HasBytes m → HasBytes (with_isar_stepped field m)
stepped_small field m h = with_digits (stepped_isar field m.isar) m (isar_small field m.isar h.isar) h

decremented_small : (field : ℕ) (m : Registers) → HasBytes m → HasBytes (decremented field m)
decremented_small field m h =
    let s = scratch_small (register_of field m) (sum_value (field_byte field m) 255 false) m (omega arith) h in
    record { accumulator = s.accumulator; isar = s.isar; size = s.size; scratchpad = s.scratchpad }

pub result_small : (op : Op) (i : Inputs) (m : Registers) → InRange op → GetsBytes i → HasBytes m → HasBytes (result_of op i m)
unfolding effect
result_small LrAKu i m range g h = with_accumulator _ m.status m (h.scratchpad 12) h
result_small LrAKl i m range g h = with_accumulator _ m.status m (h.scratchpad 13) h
result_small LrAQu i m range g h = with_accumulator _ m.status m (h.scratchpad 14) h
result_small LrAQl i m range g h = with_accumulator _ m.status m (h.scratchpad 15) h
result_small LrKuA i m range g h = scratch_small 12 m.accumulator m h.accumulator h
result_small LrKlA i m range g h = scratch_small 13 m.accumulator m h.accumulator h
result_small LrQuA i m range g h = scratch_small 14 m.accumulator m h.accumulator h
result_small LrQlA i m range g h = scratch_small 15 m.accumulator m h.accumulator h
result_small LrKP i m range g h = pair_small 12 i.stack_high i.stack_low m g.stack_high g.stack_low h
result_small LrQDc i m range g h = pair_small 14 i.data_high i.data_low m g.data_high g.data_low h
result_small LrHDc i m range g h = pair_small 10 i.data_high i.data_low m g.data_high g.data_low h
result_small LrAIs i m range g h = let isar = h.isar in with_accumulator m.isar m.status m (omega arith) h
result_small LrIsA i m range g h = with_digits (m.accumulator % 64) m (omega arith) h
result_small Sr1 i m range g h = let small = h.accumulator in with_accumulator _ _ m (omega arith) h
result_small Sl1 i m range g h = with_accumulator _ _ m (omega arith) h
result_small Sr4 i m range g h = let small = h.accumulator in with_accumulator _ _ m (omega arith) h
result_small Sl4 i m range g h = with_accumulator _ _ m (omega arith) h
result_small Lm i m range g h = with_accumulator _ m.status m (used_small ReadData i g) h
result_small Com i m range g h = with_accumulator _ _ m (omega arith) h
result_small Lnk i m range g h = with_accumulator _ _ m (omega arith) h
result_small LrJW i m range g h = scratch_small 9 (status_byte m.status) m (status_small m.status) h
result_small Inc i m range g h = with_accumulator _ _ m (omega arith) h
result_small Li i m range g h = with_accumulator _ m.status m g.operand h
result_small Ni i m range g h = with_accumulator _ _ m (and_small m.accumulator i.operand h.accumulator) h
result_small Oi i m range g h = with_accumulator _ _ m (or_small m.accumulator i.operand h.accumulator g.operand) h
result_small Xi i m range g h = with_accumulator _ _ m (xor_small m.accumulator i.operand h.accumulator g.operand) h
result_small Ai i m range g h = with_accumulator _ _ m (omega arith) h
result_small In i m range g h = with_accumulator _ _ m g.port_byte h
result_small Pi i m range g h = with_accumulator _ m.status m g.operand h
result_small Jmp i m range g h = with_accumulator _ m.status m g.operand h
result_small (Ds r) i m range g h = stepped_small r (decremented r m) (decremented_small r m h)
result_small (LrAR r) i m range g h = stepped_small r _ (with_accumulator _ m.status m (h.scratchpad (register_of r m)) h)
result_small (LrRA r) i m range g h = stepped_small r _ (scratch_small (register_of r m) m.accumulator m h.accumulator h)
result_small (Lisu n) i m range g h = with_digits _ m (omega arith) h
result_small (Lisl n) i m range g h = let isar = h.isar in with_digits _ m (omega arith) h
result_small (Lis n) i m range g h = with_accumulator n m.status m (omega arith) h
result_small Am i m range g h = with_accumulator _ _ m (omega arith) h
result_small Amd i m range g h = with_accumulator _ _ m (decimal_small m.accumulator i.data_byte) h
result_small Nm i m range g h = with_accumulator _ _ m (and_small m.accumulator i.data_byte h.accumulator) h
result_small Om i m range g h = with_accumulator _ _ m (or_small m.accumulator i.data_byte h.accumulator g.data_byte) h
result_small Xm i m range g h = with_accumulator _ _ m (xor_small m.accumulator i.data_byte h.accumulator g.data_byte) h
result_small (Ins n) i m range g h = with_accumulator _ _ m (used_small (row_of (Ins n)) i g) h
result_small (As r) i m range g h = stepped_small r _ (with_accumulator _ _ m (omega arith) h)
result_small (Asd r) i m range g h = stepped_small r _ (with_accumulator _ _ m (decimal_small m.accumulator (field_byte r m)) h)
result_small (Xs r) i m range g h =
    stepped_small r _ (with_accumulator _ _ m (xor_small m.accumulator (field_byte r m) h.accumulator (h.scratchpad (register_of r m))) h)
result_small (Ns r) i m range g h = stepped_small r _ (with_accumulator _ _ m (and_small m.accumulator (field_byte r m) h.accumulator) h)
result_small op i m range g h =
    record { accumulator = h.accumulator; isar = h.isar; size = h.size; scratchpad = h.scratchpad }

-- ---- counters

wrapped_small : (at : ℕ) (by : ℤ) → wrapped at by < 65536
wrapped_small at (pos n) = omega arith
wrapped_small at (negsuc n) = omega arith

pub displaced_small : (at byte : ℕ) → displaced at byte < 65536
displaced_small at byte = wrapped_small at (cast_signed w8 byte)

branch_small : (taken : Bool) (at byte : ℕ) → (if taken then displaced (places_on at 1) byte else places_on at 2) < 65536
branch_small true at byte = displaced_small (places_on at 1) byte
branch_small false at byte = omega arith

pub word_small : (high low : ℕ) → high < 256 → low < 256 → word high low < 65536
word_small high low p q = omega arith

pub flow_small : (row : Row) (i : Inputs) (second : Bool) (c : Flow) → GetsBytes i → AreAddresses c →
    AreAddresses (flow_after row i second c)
flow_small StackFromK i second c g h = record { p = omega arith; p1 = word_small i.k_high i.k_low g.k_high g.k_low; d0 = h.d0; d1 = h.d1 }
flow_small CallK i second c g h = record { p = word_small i.k_high i.k_low g.k_high g.k_low; p1 = omega arith; d0 = h.d0; d1 = h.d1 }
flow_small JumpQ i second c g h = record { p = word_small i.q_high i.q_low g.q_high g.q_low; p1 = h.p1; d0 = h.d0; d1 = h.d1 }
flow_small DataFromQ i second c g h = record { p = omega arith; p1 = h.p1; d0 = word_small i.q_high i.q_low g.q_high g.q_low; d1 = h.d1 }
flow_small DataFromH i second c g h = record { p = omega arith; p1 = h.p1; d0 = word_small i.h_high i.h_low g.h_high g.h_low; d1 = h.d1 }
flow_small ReadData i second c g h = record { p = omega arith; p1 = h.p1; d0 = omega arith; d1 = h.d1 }
flow_small StoreData i second c g h = record { p = omega arith; p1 = h.p1; d0 = omega arith; d1 = h.d1 }
flow_small Return i second c g h = record { p = h.p1; p1 = h.p1; d0 = h.d0; d1 = h.d1 }
flow_small Call i second c g h = record { p = word_small i.operand i.second g.operand g.second; p1 = omega arith; d0 = h.d0; d1 = h.d1 }
flow_small Jump i second c g h = record { p = word_small i.operand i.second g.operand g.second; p1 = h.p1; d0 = h.d0; d1 = h.d1 }
flow_small LoadData i second c g h = record { p = omega arith; p1 = h.p1; d0 = word_small i.operand i.second g.operand g.second; d1 = h.d1 }
flow_small AddData i second c g h = record { p = omega arith; p1 = h.p1; d0 = displaced_small c.d0 i.accumulator; d1 = h.d1 }
flow_small Branch i second c g h = record { p = branch_small i.taken c.p i.operand; p1 = h.p1; d0 = h.d0; d1 = h.d1 }
flow_small BranchIsar i second c g h = record { p = branch_small i.taken c.p i.operand; p1 = h.p1; d0 = h.d0; d1 = h.d1 }
flow_small Exchange i true c g h = record { p = omega arith; p1 = h.p1; d0 = h.d1; d1 = h.d0 }
flow_small Exchange i false c g h = record { p = omega arith; p1 = h.p1; d0 = h.d0; d1 = h.d1 }
flow_small row i second c g h = record { p = omega arith; p1 = h.p1; d0 = h.d0; d1 = h.d1 }
