-- States that were worked out by hand: what is known at reset, after a load of D0, in both, and where all is known.
use Rattle.std.proofs.Common.{◌≡◌, ℕ, true, false, refl, List, replicate}
use Rattle.std.specs.Prelude.{Option, Some, None, slice_set}
use Rattle.abs_domain.specs.AbstractState.{KnownStatus, AbstractState}
use Rattle.abs_domain.specs.Joins.{is_state_below, joined_state, rank}

clear : KnownStatus
clear = record { sign = Some false; carry = Some false; zero = Some false; overflow = Some false; icb = Some false }

nothing_in : List (Option ℕ)
nothing_in = replicate 64 None

-- at reset: the status word, and the data counters of the flat machine
at_reset : AbstractState
at_reset = record {
  registers = record { accumulator = None; high = None; low = None; status = clear; scratchpad = nothing_in };
  counters = record { d0 = Some 0; d1 = Some 0; c = None; s0 = false; s1 = false; p0 = false; p1 = false };
}

-- D0 was loaded with 0005, and with it the DC0 of every chip
loaded : AbstractState
loaded = record {
  registers = record { accumulator = None; high = None; low = None; status = clear; scratchpad = nothing_in };
  counters = record { d0 = Some 5; d1 = Some 0; c = Some 5; s0 = true; s1 = false; p0 = true; p1 = false };
}

-- either of them
either : AbstractState
either = record {
  registers = record { accumulator = None; high = None; low = None; status = clear; scratchpad = nothing_in };
  counters = record { d0 = None; d1 = Some 0; c = None; s0 = false; s1 = false; p0 = false; p1 = false };
}

-- all is known and stated
all_known : AbstractState
all_known = record {
  registers = record { accumulator = Some 1; high = Some 0; low = Some 7; status = clear; scratchpad = replicate 64 (Some 0) };
  counters = record { d0 = Some 0; d1 = Some 0; c = Some 0; s0 = true; s1 = true; p0 = true; p1 = true };
}

-- all but one register
all_but_one : AbstractState
all_but_one = record {
  registers = record {
    accumulator = Some 1;
    high = Some 0;
    low = Some 7;
    status = clear;
    scratchpad = slice_set (replicate 64 (Some 0)) 63 None;
  };
  counters = record { d0 = Some 0; d1 = Some 0; c = Some 0; s0 = true; s1 = true; p0 = true; p1 = true };
}

join_is_either : joined_state at_reset loaded ≡ either
unfolding at_reset loaded either clear nothing_in
join_is_either = refl

reset_is_below : is_state_below at_reset either ≡ true
unfolding at_reset either clear nothing_in
reset_is_below = refl

loaded_is_below : is_state_below loaded either ≡ true
unfolding loaded either clear nothing_in
loaded_is_below = refl

either_is_above : is_state_below either loaded ≡ false
unfolding loaded either clear nothing_in
either_is_above = refl

neither_is_below : is_state_below at_reset loaded ≡ false
unfolding at_reset loaded clear nothing_in
neither_is_below = refl

one_is_above : is_state_below all_but_one all_known ≡ false
unfolding all_but_one all_known clear
one_is_above = refl

all_is_below : is_state_below all_known all_but_one ≡ true
unfolding all_but_one all_known clear
all_is_below = refl

reset_rank : rank at_reset ≡ 7
unfolding at_reset clear nothing_in
reset_rank = refl

loaded_rank : rank loaded ≡ 10
unfolding loaded clear nothing_in
loaded_rank = refl

most_rank : rank all_known ≡ 79
unfolding all_known clear
most_rank = refl
