-- What an instruction gets of what is known: the order is kept, and where all is known it is what the flat machine gets.
use Rattle.std.proofs.Common.{sym, ◌≡◌, ℕ, ◌/◌, ◌%◌, Bool, true, false, ◌&&◌, ◌||◌, refl}
use Rattle.std.specs.Prelude.{Option, Some, ◌==◌}
use Rattle.f8_spec.specs.Words.{places_on}
use Rattle.f8_spec.specs.Flags.{Status}
use Rattle.f8_spec.specs.declared.instructions.Op.{Op}
use Rattle.f8_spec.specs.declared.instructions.Op.TheVariants.{Bt, Br7, Bf}
use Rattle.f8_spec.specs.declared.instructions.Row.{Row}
use Rattle.f8_spec.specs.declared.instructions.Row.TheVariants.{ReadData, Immediate, Call, Jump}
use Rattle.console_spec.specs.Processor.{Registers, Inputs, is_taken, any_chosen, used_byte}
use Rattle.abs_domain.specs.Lattice.{Below}
use Rattle.abs_domain.specs.AbstractState.{KnownStatus, KnownRegisters, StatusBelow, RegistersBelow}
use Rattle.abs_domain.proofs.Orders.{below_refl}
use Rattle.abs_step.specs.Known.{known_or}
use Rattle.abs_step.specs.KnownFlow.{chosen_flag, known_any_chosen, known_taken, KnownInputs, pair_of, known_inputs, known_used_byte}
use Rattle.abs_step.specs.Concretization.{whole_status, whole_registers}
use Rattle.abs_step.proofs.Knowing.{below_map, below_and_then, or_below, not_below}
use Rattle.abs_step.proofs.Scratchpads.{register_below}
use Rattle.abs_step.proofs.Effects.{PairBelow}
use Rattle.abs_step.proofs.Exact.{whole_pair}

-- ---- branches keep the order

flag_below : (chosen : Bool) (x y : Option Bool) → Below x y → Below (chosen_flag chosen x) (chosen_flag chosen y)
flag_below true x y p = p
flag_below false x y p = refl

any_below : (a x b y c z d u : Option Bool) → Below a x → Below b y → Below c z → Below d u →
    Below (known_or (known_or (known_or a b) c) d) (known_or (known_or (known_or x y) z) u)
any_below a x b y c z d u p q r s =
    or_below (known_or (known_or a b) c) (known_or (known_or x y) z) d u
    (or_below (known_or a b) (known_or x y) c z (or_below a x b y p q) r) s

chosen_below : (t : ℕ) (w v : KnownStatus) → StatusBelow w v → Below (known_any_chosen t w) (known_any_chosen t v)
chosen_below t w v h =
    let flag : ℕ → Option Bool → Option Bool = λ n f. chosen_flag (t / n % 2 == 1) f in
    any_below (chosen_flag (t % 2 == 1) w.sign) (chosen_flag (t % 2 == 1) v.sign) (flag 2 w.carry) (flag 2 v.carry)
    (flag 4 w.zero) (flag 4 v.zero) (flag 8 w.overflow) (flag 8 v.overflow)
    (flag_below (t % 2 == 1) w.sign v.sign h.sign) (flag_below (t / 2 % 2 == 1) w.carry v.carry h.carry)
    (flag_below (t / 4 % 2 == 1) w.zero v.zero h.zero) (flag_below (t / 8 % 2 == 1) w.overflow v.overflow h.overflow)

pub taken_below : (op : Op) (k l : KnownRegisters) → RegistersBelow k l → Below (known_taken op k) (known_taken op l)
taken_below (Bt t) k l h = chosen_below t k.status l.status h.status
taken_below (Bf t) k l h = not_below _ _ (chosen_below t k.status l.status h.status)
taken_below Br7 k l h = below_map _ k.low l.low h.low
taken_below op k l h = refl

-- ---- where all is known

flag_whole : (chosen flag : Bool) → chosen_flag chosen (Some flag) ≡ Some (chosen && flag)
flag_whole true flag = refl
flag_whole false flag = refl

or_whole : (a b : Bool) → known_or (Some a) (Some b) ≡ Some (a || b)
or_whole true b = refl
or_whole false b = refl

chosen_whole : (t : ℕ) (w : Status) → known_any_chosen t (whole_status w) ≡ Some (any_chosen t w)
chosen_whole t w = rw (
  flag_whole (t % 2 == 1) w.sign,
  flag_whole (t / 2 % 2 == 1) w.carry,
  flag_whole (t / 4 % 2 == 1) w.zero,
  flag_whole (t / 8 % 2 == 1) w.overflow,
) (simp or_whole refl)

taken_whole : (op : Op) (m : Registers) → known_taken op (whole_registers m) ≡ Some (is_taken op m)
taken_whole (Bt t) m = chosen_whole t m.status
taken_whole (Bf t) m = rw (chosen_whole t m.status) refl
taken_whole Br7 m = refl
taken_whole op m = refl

-- ---- inputs

abbrev pub whole_inputs : Inputs → KnownInputs
whole_inputs i = record {
  taken = Some i.taken;
  operand = Some i.operand;
  second = Some i.second;
  data_byte = Some i.data_byte;
  counter_bytes = whole_pair i.data_high i.data_low;
  stack_bytes = whole_pair i.stack_high i.stack_low;
  accumulator = Some i.accumulator;
  k_high = Some i.k_high;
  k_low = Some i.k_low;
  q_high = Some i.q_high;
  q_low = Some i.q_low;
  h_high = Some i.h_high;
  h_low = Some i.h_low;
}

pub record InputsBelow (i j : KnownInputs) : Type 0 where
  pub taken : Below i.taken j.taken
  pub operand : Below i.operand j.operand
  pub second : Below i.second j.second
  pub data_byte : Below i.data_byte j.data_byte
  pub counter_bytes : PairBelow i.counter_bytes j.counter_bytes
  pub stack_bytes : PairBelow i.stack_bytes j.stack_bytes
  pub accumulator : Below i.accumulator j.accumulator
  pub k_high : Below i.k_high j.k_high
  pub k_low : Below i.k_low j.k_low
  pub q_high : Below i.q_high j.q_high
  pub q_low : Below i.q_low j.q_low
  pub h_high : Below i.h_high j.h_high
  pub h_low : Below i.h_low j.h_low

pub pair_of_below : (x y : Option ℕ) → Below x y → PairBelow (pair_of x) (pair_of y)
pair_of_below x y p = record { high = below_map (λ a. a / 256) x y p; low = below_map (λ a. a % 256) x y p }

pub inputs_below : (op : Op) (bytes : ℕ → Option ℕ) (at : ℕ) (ret back d0 counter : Option ℕ) (k l : KnownRegisters) →
    Below ret back → Below d0 counter → RegistersBelow k l →
    InputsBelow (known_inputs op bytes at ret d0 k) (known_inputs op bytes at back counter l)
inputs_below op bytes at ret back d0 counter k l p q h = record {
  taken = taken_below op k l h;
  operand = below_refl (bytes (places_on at 1));
  second = below_refl (bytes (places_on at 2));
  data_byte = below_and_then bytes bytes d0 counter (λ a. below_refl (bytes a)) q;
  counter_bytes = pair_of_below d0 counter q;
  stack_bytes = pair_of_below ret back p;
  accumulator = h.accumulator;
  k_high = register_below 12 k l h;
  k_low = register_below 13 k l h;
  q_high = register_below 14 k l h;
  q_low = register_below 15 k l h;
  h_high = register_below 10 k l h;
  h_low = register_below 11 k l h;
}

-- the byte that an instruction uses
pub used_below : (row : Row) (i j : KnownInputs) → InputsBelow i j → Below (known_used_byte row i) (known_used_byte row j)
used_below Immediate i j h = h.operand
used_below Call i j h = h.operand
used_below Jump i j h = h.operand
used_below ReadData i j h = h.data_byte
used_below row i j h = tt

pub used_tells : (row : Row) (i : Inputs) (j : KnownInputs) → InputsBelow (whole_inputs i) j →
    Below (Some (used_byte row i)) (known_used_byte row j)
used_tells Immediate i j h = h.operand
used_tells Call i j h = h.operand
used_tells Jump i j h = h.operand
used_tells ReadData i j h = h.data_byte
used_tells row i j h = tt

-- whether a branch is taken, by what is known above
pub taken_tells : (op : Op) (m : Registers) (k : KnownRegisters) → RegistersBelow (whole_registers m) k →
    Below (Some (is_taken op m)) (known_taken op k)
taken_tells op m k h = rw (sym (taken_whole op m)) (taken_below op (whole_registers m) k h)
