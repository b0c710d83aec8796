-- Along the bus steps of an instruction the counters go where the flat machine's table says.
use Rattle.std.proofs.Common.{◌≡◌, ℕ, ◌+◌, ◌<◌, Bool, true, false, List, [], ◌∷◌, ◌++◌, refl, ap, ◌∙◌, arith}
use Rattle.std.specs.Prelude.{Option, Some, None}
use Rattle.f8_spec.specs.Words.{word, with_high, with_low, places_on}
use Rattle.f8_spec.specs.BusCodes.{Count, moved_by}
use Rattle.f8_spec.specs.MicroSteps.{Step, steps_before_fetch}
use Rattle.f8_spec.specs.declared.instructions.Row.{Row}
use Rattle.f8_spec.specs.declared.instructions.Row.TheVariants.{StackFromK, CallK, JumpQ, DataFromQ, DataFromH}
use Rattle.f8_spec.specs.declared.instructions.Row.TheVariants.{Immediate, PortIn, PortOut, Call, Jump, LoadData}
use Rattle.f8_spec.specs.declared.instructions.Row.TheVariants.{Exchange, Branch, BranchIsar}
use Rattle.console_spec.specs.CounterCopies.{fetched, resting}
use Rattle.console_spec.specs.Processor.{Flow, Inputs, byte_of, flow_after, interrupted, interrupted_by, counters_after}
use Rattle.console_spec.specs.BusTrace.{ending_steps, steps_with}

-- ---- words

pub with_low-with_high : (at high low : ℕ) → with_low (with_high at high) low ≡ word high low
with_low-with_high at high low = omega arith

pub with_high-with_low : (at low high : ℕ) → low < 256 → with_high (with_low at low) high ≡ word high low
with_high-with_low at low high small = omega arith

pub places_on-places_on : (at m n : ℕ) → places_on (places_on at m) n ≡ places_on at (m + n)
places_on-places_on at m n = omega arith

-- ---- the counters along a list of steps

-- the low bytes that an instruction gets are bytes
pub record HasBytes (i : Inputs) : Type 0 where
  pub second : i.second < 256
  pub k_low : i.k_low < 256
  pub q_low : i.q_low < 256
  pub h_low : i.h_low < 256
  pub vector_low : i.vector_low < 256

abbrev pub moved_along : Bool → Inputs → List Step → Count → Count
moved_along second i [] c = c
moved_along second i (s ∷ later) c = moved_along second i later (moved_by s.romc (byte_of i s.source) second c)

moved_along-append : (second : Bool) (i : Inputs) (first later : List Step) (c : Count) →
    moved_along second i (first ++ later) c ≡ moved_along second i later (moved_along second i first c)
moved_along-append second i [] later c = refl
moved_along-append second i (s ∷ first) later c = moved_along-append second i first later (moved_by s.romc (byte_of i s.source) second c)

branch_rests : (i : Inputs) (taken second : Bool) (c : Flow) → i.taken ≡ taken →
    moved_along second i (steps_before_fetch Branch i.taken) (fetched c) ≡ resting (flow_after Branch i second c)
branch_rests i true second c e = rw e refl
branch_rests i false second c e = rw e (rw places_on-places_on)

branch_isar_rests : (i : Inputs) (taken second : Bool) (c : Flow) → i.taken ≡ taken →
    moved_along second i (steps_before_fetch BranchIsar i.taken) (fetched c) ≡ resting (flow_after BranchIsar i second c)
branch_isar_rests i true second c e = rw e refl
branch_isar_rests i false second c e = rw e (rw places_on-places_on)

-- the steps before the last fetch
pub rests : (row : Row) (i : Inputs) → HasBytes i → (second : Bool) (c : Flow) →
    moved_along second i (steps_before_fetch row i.taken) (fetched c) ≡ resting (flow_after row i second c)
rests StackFromK i b second c = rw with_low-with_high
rests CallK i b second c = rw (with_high-with_low _ _ _ b.k_low)
rests JumpQ i b second c = rw (with_high-with_low _ _ _ b.q_low)
rests DataFromQ i b second c = rw with_low-with_high
rests DataFromH i b second c = rw with_low-with_high
rests Immediate i b second c = rw places_on-places_on
rests PortIn i b second c = rw places_on-places_on
rests PortOut i b second c = rw places_on-places_on
rests Call i b second c = let small : i.second < 256 = b.second in rw (places_on-places_on, places_on-places_on, with_high-with_low)
rests Jump i b second c = rw (with_high-with_low _ _ _ b.second)
rests LoadData i b second c = rw (places_on-places_on, places_on-places_on, with_low-with_high)
rests Exchange i b true c = refl
rests Exchange i b false c = refl
rests Branch i b second c = branch_rests i i.taken second c refl
rests BranchIsar i b second c = branch_isar_rests i i.taken second c refl
rests row i b second c = refl

-- the steps at its end
pub ends : (row : Row) (i : Inputs) → HasBytes i → (second : Bool) (c : Flow) →
    moved_along second i (ending_steps row i.chosen) (resting c) ≡ fetched (interrupted i c)
ends row i b second c = by i.chosen
  where
    by : (chosen : Option ℕ) → moved_along second i (ending_steps row chosen) (resting c)
        ≡ fetched (interrupted_by chosen (word i.vector_high i.vector_low) c)
    by None = refl
    by (Some socket) = rw (with_high-with_low _ _ _ b.vector_low)

-- all steps of an instruction
pub follows : (row : Row) (i : Inputs) → HasBytes i → (second : Bool) (c : Flow) →
    moved_along second i (steps_with row i) (fetched c) ≡ fetched (counters_after row i second c)
follows row i b second c =
    moved_along-append second i (steps_before_fetch row i.taken) (ending_steps row i.chosen) (fetched c)
    ∙ ap (moved_along second i (ending_steps row i.chosen)) (rests row i b second c)
    ∙ ends row i b second (flow_after row i second c)
