-- What becomes of the data counters with their facts, and where instructions lead, worked out by hand and computed from the definitions.
use Rattle.std.proofs.Common.{◌≡◌, ℕ, Bool, true, false, List, [], ◌∷◌, replicate, refl}
use Rattle.std.specs.Prelude.{Option, Some, None, slice_set, ◌==◌, if◌then◌else◌}
use Rattle.f8_spec.specs.Instructions.{row_of}
use Rattle.f8_spec.specs.declared.instructions.Op.{Op}
use Rattle.f8_spec.specs.declared.instructions.Op.TheVariants.{LrPK, Pk, LrP0Q, LrDcQ, Lm, St, Pop, Pi, Jmp, Dci, Xdc, Bt, Adc, Br7, Bf}
use Rattle.abs_domain.specs.AbstractState.{KnownStatus, KnownRegisters, KnownCounters}
use Rattle.abs_step.specs.KnownFlow.{KnownInputs, known_inputs, known_counters, exits}
use Rattle.abs_step.specs.declared.exits.Exit.{Exit}

abbrev counters : Option ℕ → Option ℕ → Option ℕ → Bool → Bool → Bool → Bool → KnownCounters
counters d0 d1 c s0 s1 p0 p1 = record { d0 = d0; d1 = d1; c = c; s0 = s0; s1 = s1; p0 = p0; p1 = p1 }

abbrev registers : Option ℕ → Option ℕ → KnownStatus → List (Option ℕ) → KnownRegisters
registers a low w pad = record { accumulator = a; high = None; low = low; status = w; scratchpad = pad }

abbrev flags : Option Bool → Option Bool → KnownStatus
flags sign carry = record { sign = sign; carry = carry; zero = None; overflow = None; icb = Some false }

abbrev nothing_in : List (Option ℕ)
nothing_in = replicate 64 None

-- 12 and 34 behind the opcode at 0100, and nothing known elsewhere
abbrev operands : ℕ → Option ℕ
operands at = if at == 0x0101 then Some 0x12 else if at == 0x0102 then Some 0x34 else None

abbrev inputs : Op → Option ℕ → KnownRegisters → KnownInputs
inputs op ret k = known_inputs op operands 0x0100 ret None k

abbrev counters_after : Op → KnownRegisters → KnownCounters → KnownCounters
counters_after op k counters = known_counters (row_of op) (inputs op None k) counters

-- where an instruction at 0100 leads
abbrev leads : Op → Option ℕ → KnownRegisters → List Exit
leads op ret k = exits (row_of op) (inputs op ret k) 0x0100 ret

abbrev exit : ℕ → Option ℕ → Exit
exit at ret = record { at = at; ret = ret }

abbrev unknown : KnownRegisters
unknown = registers None None (flags None None) nothing_in

abbrev with_k : Option ℕ → Option ℕ → KnownRegisters
with_k high low = registers None None (flags None None) (slice_set (slice_set nothing_in 12 high) 13 low)

abbrev with_q : Option ℕ → Option ℕ → KnownRegisters
with_q high low = registers None None (flags None None) (slice_set (slice_set nothing_in 14 high) 15 low)

-- ---- loads of D0

load_of_another : counters_after Dci unknown (counters (Some 0) (Some 5) None false true false true)
    ≡ counters (Some 0x1234) (Some 5) (Some 0x1234) true true true false
load_of_another = refl

-- D1 is the loaded address, so that every 3851's counter is D1
load_of_the_second : counters_after Dci unknown (counters (Some 0) (Some 0x1234) None false false false false)
    ≡ counters (Some 0x1234) (Some 0x1234) (Some 0x1234) true false true true
load_of_the_second = refl

load_beside_unknown_second : counters_after Dci unknown (counters (Some 0) None None false false false true)
    ≡ counters (Some 0x1234) None (Some 0x1234) true false true false
load_beside_unknown_second = refl

-- a byte of Q isn't known: nothing is known of the counter, but all are alike
load_of_unknown : counters_after LrDcQ (with_q (Some 1) None) (counters (Some 0) (Some 0) (Some 0) false false false true)
    ≡ counters None (Some 0) None true false true false
load_of_unknown = refl

-- ---- moves of D0

-- past FFFF comes 0; c is D1 before it, and isn't after it
read_moves : counters_after Lm unknown (counters (Some 0xFFFF) (Some 7) (Some 7) true true false true)
    ≡ counters (Some 0) (Some 7) (Some 8) true true false false
read_moves = refl

-- c comes to be D1
store_moves : counters_after St unknown (counters None (Some 8) (Some 7) false true true false)
    ≡ counters None (Some 8) (Some 8) false true true true
store_moves = refl

move_of_unknown : counters_after Lm unknown (counters None None None true false true true)
    ≡ counters None None None true false true false
move_of_unknown = refl

-- A is FE, which is -2
sum_moves : counters_after Adc (registers (Some 0xFE) None (flags None None) nothing_in)
    (counters (Some 1) (Some 0x10) (Some 0x12) true false false false)
    ≡ counters (Some 0xFFFF) (Some 0x10) (Some 0x10) true false false true
sum_moves = refl

sum_of_unknown : counters_after Adc unknown (counters (Some 1) (Some 0x10) (Some 0x12) true true true true)
    ≡ counters None (Some 0x10) None true true true false
sum_of_unknown = refl

-- ---- XDC, once and twice

exchange : counters_after Xdc unknown (counters (Some 1) (Some 2) (Some 1) true false true false)
    ≡ counters (Some 2) (Some 1) (Some 1) false true false true
exchange = refl

exchange_twice : counters_after Xdc unknown (counters_after Xdc unknown (counters (Some 1) None (Some 1) true false true false))
    ≡ counters (Some 1) None (Some 1) true false true false
exchange_twice = refl

-- ---- branches. The displacement 12 counts from 0101.

-- sign or carry: one that is set is enough
branch_on_one_set : leads (Bt 3) (Some 7) (registers None None (flags None (Some true)) nothing_in) ≡ exit 0x0113 (Some 7) ∷ []
branch_on_one_set = refl

branch_on_both_clear : leads (Bt 3) None (registers None None (flags (Some false) (Some false)) nothing_in) ≡ exit 0x0102 None ∷ []
branch_on_both_clear = refl

-- both ways, the taken one first
branch_on_unknown : leads (Bt 3) None (registers None None (flags None (Some false)) nothing_in) ≡ exit 0x0113 None ∷ exit 0x0102 None ∷ []
branch_on_unknown = refl

-- flags that aren't chosen don't count, and with none chosen there is no branch
branch_on_none : leads (Bt 0) None unknown ≡ exit 0x0102 None ∷ []
branch_on_none = refl

branch_unless_one_set : leads (Bf 3) None (registers None None (flags None (Some true)) nothing_in) ≡ exit 0x0102 None ∷ []
branch_unless_one_set = refl

branch_unless_both_clear : leads (Bf 3) None (registers None None (flags (Some false) (Some false)) nothing_in) ≡ exit 0x0113 None ∷ []
branch_unless_both_clear = refl

branch_unless_unknown : leads (Bf 11) None (registers None None (flags (Some false) (Some false)) nothing_in)
    ≡ exit 0x0113 None ∷ exit 0x0102 None ∷ []
branch_unless_unknown = refl

branch_unless_none : leads (Bf 0) None unknown ≡ exit 0x0113 None ∷ []
branch_unless_none = refl

-- by the low digit of ISAR
branch_at_seven : leads Br7 None (registers None (Some 7) (flags None None) nothing_in) ≡ exit 0x0102 None ∷ []
branch_at_seven = refl

branch_below_seven : leads Br7 None (registers None (Some 6) (flags None None) nothing_in) ≡ exit 0x0113 None ∷ []
branch_below_seven = refl

branch_by_unknown_digit : leads Br7 None unknown ≡ exit 0x0113 None ∷ exit 0x0102 None ∷ []
branch_by_unknown_digit = refl

-- ---- calls, jumps and returns

call : leads Pi None unknown ≡ exit 0x1234 (Some 0x0103) ∷ []
call = refl

jump : leads Jmp (Some 7) unknown ≡ exit 0x1234 (Some 7) ∷ []
jump = refl

call_by_k : leads Pk None (with_k (Some 0x56) (Some 0x78)) ≡ exit 0x5678 (Some 0x0101) ∷ []
call_by_k = refl

-- a byte of K isn't known: it leads nowhere that is known
call_by_unknown_k : leads Pk None (with_k (Some 0x56) None) ≡ []
call_by_unknown_k = refl

jump_by_q : leads LrP0Q (Some 7) (with_q (Some 0x56) (Some 0x78)) ≡ exit 0x5678 (Some 7) ∷ []
jump_by_q = refl

-- the return stays
return : leads Pop (Some 7) unknown ≡ exit 7 (Some 7) ∷ []
return = refl

return_from_k : leads LrPK None (with_k (Some 0x56) (Some 0x78)) ≡ exit 0x0101 (Some 0x5678) ∷ []
return_from_k = refl

-- every other instruction leads to the next address, which wraps, and keeps the return
next_address : exits (row_of Lm) (inputs Lm (Some 7) unknown) 0xFFFF (Some 7) ≡ exit 0 (Some 7) ∷ []
next_address = refl
