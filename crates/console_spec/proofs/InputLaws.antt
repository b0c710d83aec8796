-- What an instruction does does not hang on the opcode that is fetched at its end, and what its own table gives not on the interrupt there.
use Rattle.std.proofs.Common.{◌≡◌, ℕ, Bool, [], ◌∷◌, ◌++◌, refl, ap}
use Rattle.std.specs.Prelude.{Option}
use Rattle.f8_spec.specs.Instructions.{row_of}
use Rattle.f8_spec.specs.declared.instructions.Op.{Op}
use Rattle.f8_spec.specs.declared.instructions.Op.TheVariants.{LrKP, LrQDc, LrHDc}
use Rattle.f8_spec.specs.declared.instructions.Row.{Row}
use Rattle.f8_spec.specs.declared.instructions.Row.TheVariants.{StoreData}
use Rattle.console_spec.specs.Processor.{Flow, Registers, Inputs, used_byte, result_of, flow_after, effect, interrupted}
use Rattle.console_spec.specs.Processor.{counters_after}
use Rattle.console_spec.specs.BusAccesses.{accesses_before_fetch, last_access}

-- the same inputs with another opcode at the end
abbrev pub with_opcode : ℕ → Inputs → Inputs
with_opcode code i = record i { opcode = code }

pub used_byte-with_opcode : (row : Row) (code : ℕ) (i : Inputs) → used_byte row (with_opcode code i) ≡ used_byte row i
used_byte-with_opcode StoreData code i = refl
used_byte-with_opcode row code i = refl

pub result_of-with_opcode : (op : Op) (code : ℕ) (i : Inputs) (m : Registers) → result_of op (with_opcode code i) m ≡ result_of op i m
result_of-with_opcode LrKP code i m = refl
result_of-with_opcode LrQDc code i m = refl
result_of-with_opcode LrHDc code i m = refl
result_of-with_opcode op code i m = ap (λ (byte : ℕ). effect op byte m) (used_byte-with_opcode (row_of op) code i)

pub flow_after-with_opcode : (row : Row) (code : ℕ) (i : Inputs) (second : Bool) (c : Flow) →
    flow_after row (with_opcode code i) second c ≡ flow_after row i second c
flow_after-with_opcode StoreData code i second c = refl
flow_after-with_opcode row code i second c = refl

pub counters_after-with_opcode : (row : Row) (code : ℕ) (i : Inputs) (second : Bool) (c : Flow) →
    counters_after row (with_opcode code i) second c ≡ counters_after row i second c
counters_after-with_opcode row code i second c = ap (interrupted i) (flow_after-with_opcode row code i second c)

pub accesses-with_opcode : (row : Row) (code : ℕ) (i : Inputs) →
    accesses_before_fetch row (with_opcode code i) ++ last_access row (with_opcode code i) ∷ [] ≡ accesses_before_fetch row i ++ last_access row i ∷ []
accesses-with_opcode StoreData code i = refl
accesses-with_opcode row code i = refl

-- the same inputs with another interrupt at the end
abbrev pub with_interrupt : Option ℕ → ℕ → ℕ → Inputs → Inputs
with_interrupt chosen high low i = record i { chosen = chosen; vector_high = high; vector_low = low }

pub used_byte-with_interrupt : (row : Row) (chosen : Option ℕ) (high low : ℕ) (i : Inputs) →
    used_byte row (with_interrupt chosen high low i) ≡ used_byte row i
used_byte-with_interrupt StoreData chosen high low i = refl
used_byte-with_interrupt row chosen high low i = refl

pub result_of-with_interrupt : (op : Op) (chosen : Option ℕ) (high low : ℕ) (i : Inputs) (m : Registers) →
    result_of op (with_interrupt chosen high low i) m ≡ result_of op i m
result_of-with_interrupt LrKP chosen high low i m = refl
result_of-with_interrupt LrQDc chosen high low i m = refl
result_of-with_interrupt LrHDc chosen high low i m = refl
result_of-with_interrupt op chosen high low i m =
    ap (λ (byte : ℕ). effect op byte m) (used_byte-with_interrupt (row_of op) chosen high low i)

pub flow_after-with_interrupt : (row : Row) (chosen : Option ℕ) (high low : ℕ) (i : Inputs) (second : Bool) (c : Flow) →
    flow_after row (with_interrupt chosen high low i) second c ≡ flow_after row i second c
flow_after-with_interrupt StoreData chosen high low i second c = refl
flow_after-with_interrupt row chosen high low i second c = refl

pub accesses_before_fetch-with_interrupt : (row : Row) (chosen : Option ℕ) (high low : ℕ) (i : Inputs) →
    accesses_before_fetch row (with_interrupt chosen high low i) ≡ accesses_before_fetch row i
accesses_before_fetch-with_interrupt StoreData chosen high low i = refl
accesses_before_fetch-with_interrupt row chosen high low i = refl
