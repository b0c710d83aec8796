-- What an instruction gets of what is known, what becomes of the data counters, and where it may lead.
use Rattle.std.specs.Prelude.{ℕ, ◌/◌, ◌%◌, Bool, true, false, not, ◌==◌, if◌then◌else◌, List, [], ◌∷◌, ◌++◌}
use Rattle.std.specs.Prelude.{Option, Some, None, option_map, option_and_then}
use Rattle.f8_spec.specs.Words.{places_on, displaced}
use Rattle.f8_spec.specs.Instructions.{row_length}
use Rattle.f8_spec.specs.RegisterNumbers.{register_hu, register_hl, register_ku, register_kl, register_qu, register_ql}
use Rattle.f8_spec.specs.declared.instructions.Op.{Op}
use Rattle.f8_spec.specs.declared.instructions.Op.TheVariants.{Bt, Br7, Bf}
use Rattle.f8_spec.specs.declared.instructions.Row.{Row}
use Rattle.f8_spec.specs.declared.instructions.Row.TheVariants.{StackFromK, CallK, JumpQ, DataFromQ, DataFromH}
use Rattle.f8_spec.specs.declared.instructions.Row.TheVariants.{ReadData, StoreData, Return, Immediate, Call}
use Rattle.f8_spec.specs.declared.instructions.Row.TheVariants.{Jump, LoadData, Exchange, AddData, Branch, BranchIsar}
use Rattle.abs_domain.specs.AbstractState.{KnownStatus, KnownRegisters, KnownCounters}
use Rattle.abs_step.specs.Known.{known_word, agree, known_or, known_not}
use Rattle.abs_step.specs.RegisterWrites.{known_register}
use Rattle.abs_step.specs.KnownResults.{BytePair}
use Rattle.abs_step.specs.declared.exits.Exit.{Exit}

-- ---- branches

-- a flag that a branch looks at; one that it doesn't choose counts as clear
abbrev pub chosen_flag : Bool → Option Bool → Option Bool
chosen_flag chosen flag = if chosen then flag else Some false

-- one of the flags that the bits of t choose is set
abbrev pub known_any_chosen : ℕ → KnownStatus → Option Bool
known_any_chosen t w =
    known_or (known_or (known_or (chosen_flag (t % 2 == 1) w.sign) (chosen_flag (t / 2 % 2 == 1) w.carry))
    (chosen_flag (t / 4 % 2 == 1) w.zero)) (chosen_flag (t / 8 % 2 == 1) w.overflow)

abbrev pub known_taken : Op → KnownRegisters → Option Bool
known_taken (Bt t) k = known_any_chosen t k.status
known_taken (Bf t) k = known_not (known_any_chosen t k.status)
known_taken Br7 k = option_map (λ digit. not (digit == 7)) k.low
known_taken op k = Some false

-- ---- what an instruction gets. Of a port's byte nothing is ever known.

pub record KnownInputs : Type 0 where
  pub taken : Option Bool
  pub operand : Option ℕ
  pub second : Option ℕ
  pub data_byte : Option ℕ
  pub counter_bytes : BytePair
  pub stack_bytes : BytePair
  pub accumulator : Option ℕ
  pub k_high : Option ℕ
  pub k_low : Option ℕ
  pub q_high : Option ℕ
  pub q_low : Option ℕ
  pub h_high : Option ℕ
  pub h_low : Option ℕ

abbrev pub pair_of : Option ℕ → BytePair
pair_of at = record { high = option_map (λ a. a / 256) at; low = option_map (λ a. a % 256) at }

-- with the byte that stays at each address, the address of the instruction, the return and the data counter
abbrev pub known_inputs : Op → (ℕ → Option ℕ) → ℕ → Option ℕ → Option ℕ → KnownRegisters → KnownInputs
known_inputs op bytes at ret d0 k = record {
  taken = known_taken op k;
  operand = bytes (places_on at 1);
  second = bytes (places_on at 2);
  data_byte = option_and_then bytes d0;
  counter_bytes = pair_of d0;
  stack_bytes = pair_of ret;
  accumulator = k.accumulator;
  k_high = known_register register_ku k;
  k_low = known_register register_kl k;
  q_high = known_register register_qu k;
  q_low = known_register register_ql k;
  h_high = known_register register_hu k;
  h_low = known_register register_hl k;
}

-- the byte that the instructions of a row use
abbrev pub known_used_byte : Row → KnownInputs → Option ℕ
known_used_byte Immediate i = i.operand
known_used_byte Call i = i.operand
known_used_byte Jump i = i.operand
known_used_byte ReadData i = i.data_byte
known_used_byte row i = None

-- ---- the data counters and the chips' copies of them

-- A load is the same for all: every chip's DC0 is D0 after it.
abbrev pub with_loaded : Option ℕ → KnownCounters → KnownCounters
with_loaded at k = record k { d0 = at; c = at; s0 = true; p0 = true; p1 = agree at k.d1 }

-- D0 and every DC0 move alike, so that those which are the same stay so.
abbrev pub with_moved : (ℕ → Option ℕ) → KnownCounters → KnownCounters
with_moved moved k =
    let d0 : Option ℕ = option_and_then moved k.d0 in
    let c : Option ℕ = option_and_then moved k.c in
    record k { d0 = d0; c = c; p1 = agree c k.d1 }

-- A 3851 has no second data counter, and keeps its own.
abbrev pub with_exchanged : KnownCounters → KnownCounters
with_exchanged k = record k { d0 = k.d1; d1 = k.d0; s0 = k.s1; s1 = k.s0; p0 = k.p1; p1 = k.p0 }

abbrev pub known_counters : Row → KnownInputs → KnownCounters → KnownCounters
known_counters DataFromQ i k = with_loaded (known_word i.q_high i.q_low) k
known_counters DataFromH i k = with_loaded (known_word i.h_high i.h_low) k
known_counters LoadData i k = with_loaded (known_word i.operand i.second) k
known_counters ReadData i k = with_moved (λ at. Some (places_on at 1)) k
known_counters StoreData i k = with_moved (λ at. Some (places_on at 1)) k
known_counters AddData i k = with_moved (λ at. option_map (displaced at) i.accumulator) k
known_counters Exchange i k = with_exchanged k
known_counters row i k = k

-- ---- where an instruction may lead

-- none where the address isn't known
abbrev pub exit_to : Option ℕ → Option ℕ → List Exit
exit_to None ret = []
exit_to (Some at) ret = record { at = at; ret = ret } ∷ []

-- both ways where it isn't known whether a branch is taken, the taken one first
abbrev pub branch_exits : Option Bool → Option ℕ → ℕ → Option ℕ → List Exit
branch_exits (Some true) target next ret = exit_to target ret
branch_exits (Some false) target next ret = exit_to (Some next) ret
branch_exits None target next ret = exit_to target ret ++ exit_to (Some next) ret

-- the target of a branch counts from the address of its displacement byte
abbrev pub branch_target : ℕ → KnownInputs → Option ℕ
branch_target at i = option_map (displaced (places_on at 1)) i.operand

abbrev pub exits : Row → KnownInputs → ℕ → Option ℕ → List Exit
exits StackFromK i at ret = exit_to (Some (places_on at 1)) (known_word i.k_high i.k_low)
exits CallK i at ret = exit_to (known_word i.k_high i.k_low) (Some (places_on at 1))
exits JumpQ i at ret = exit_to (known_word i.q_high i.q_low) ret
exits Return i at ret = exit_to ret ret
exits Call i at ret = exit_to (known_word i.operand i.second) (Some (places_on at 3))
exits Jump i at ret = exit_to (known_word i.operand i.second) ret
exits Branch i at ret = branch_exits i.taken (branch_target at i) (places_on at 2) ret
exits BranchIsar i at ret = branch_exits i.taken (branch_target at i) (places_on at 2) ret
exits row i at ret = exit_to (Some (places_on at (row_length row))) ret
