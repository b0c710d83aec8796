-- Bytes are below 256, and addresses below 65,536.
use Rattle.std.proofs.Common.{◌≡◌, ℕ, ◌<◌, Bool, true, false, ℤ, pos, negsuc, List, [], ◌∷◌, arith}
use Rattle.std.specs.Prelude.{if◌then◌else◌}
use Rattle.std.specs.Int.{w8, cast_signed}
use Rattle.f8_spec.specs.Words.{word, places_on, wrapped, displaced}
use Rattle.f8_spec.specs.declared.instructions.Op.{Op}
use Rattle.f8_spec.specs.BusArbitration.{Seat, rule_of}
use Rattle.f8_spec.specs.declared.bus.BusRule.TheVariants.{Read}
use Rattle.console_spec.specs.AddressSpace.{byte_at}
use Rattle.console_spec.specs.FlatMachine.{FlatState, gets_all}
use Rattle.console_spec.specs.Processor.{Flow, Inputs, own_inputs}
use Rattle.console_spec.specs.BusAccesses.{Access}
use Rattle.console_spec.proofs.Walks.{HasBytes}
use Rattle.cpu3850.specs.CpuSteps.{AreInRange}

-- what an instruction gets are bytes
pub record GetsBytes (i : Inputs) : Type 0 where
  pub low : HasBytes i
  pub operand : i.operand < 256
  pub accumulator : i.accumulator < 256
  pub k_high : i.k_high < 256
  pub q_high : i.q_high < 256
  pub h_high : i.h_high < 256
  pub vector_high : i.vector_high < 256

pub gets_bytes : (op : Op) (seats : List Seat) (chain : List ℕ) (f : FlatState) → AreInRange f.state.registers →
    ((at : ℕ) → byte_at f.memory at < 256) → GetsBytes (gets_all op seats chain f)
unfolding own_inputs
gets_bytes op seats chain f range bytes = record {
  low = record {
    second = bytes (places_on f.state.flow.p 2);
    k_low = range.bytes 13;
    q_low = range.bytes 15;
    h_low = range.bytes 11;
    vector_low = omega arith;
  };
  operand = bytes (places_on f.state.flow.p 1);
  accumulator = range.accumulator;
  k_high = range.bytes 12;
  q_high = range.bytes 14;
  h_high = range.bytes 10;
  vector_high = omega arith;
}

-- ---- addresses

wrapped_small : (at : ℕ) (by : ℤ) → wrapped at by < 65536
wrapped_small at (pos n) = omega arith
wrapped_small at (negsuc n) = omega arith

pub displaced_small : (at byte : ℕ) → displaced at byte < 65536
displaced_small at byte = wrapped_small at (cast_signed w8 byte)

pub branch_small : (taken : Bool) (at byte : ℕ) →
    (if taken then displaced (places_on at 1) byte else places_on at 2) < 65536
branch_small true at byte = displaced_small (places_on at 1) byte
branch_small false at byte = omega arith

pub word_small : (high low : ℕ) → high < 256 → low < 256 → word high low < 65536
word_small high low h l = omega arith

-- the places of reads are addresses
abbrev pub AreAt : Flow → List Access → Type 0
AreAt c [] = Unit {0}
AreAt c (a ∷ later) = (rule_of a.romc ≡ Read → a.place true c < 65536) × AreAt c later
