-- The reasons against an instruction part by part, and what holds next, from what is known before and after it.
use Rattle.std.proofs.Common.{◌≡◌, ℕ, Bool, true, false, List, [], ◌∷◌, ◌++◌, refl, sym, ◌∙◌}
use Rattle.std.specs.Prelude.{Option, Some, None, if◌then◌else◌}
use Rattle.f8_spec.specs.Words.{places_on}
use Rattle.f8_spec.specs.Instructions.{row_of, length_of}
use Rattle.f8_spec.specs.declared.instructions.Op.{Op}
use Rattle.f8_spec.specs.declared.instructions.Row.{Row}
use Rattle.abs_domain.specs.AbstractState.{KnownRegisters, KnownCounters}
use Rattle.abs_domain.specs.declared.reason.Reason.{Reason}
use Rattle.abs_step.specs.RegisterWrites.{RegisterWrite, written_all}
use Rattle.abs_step.specs.KnownResults.{known_effect, register_writes}
use Rattle.abs_step.specs.KnownFlow.{KnownInputs, known_inputs, known_used_byte, known_counters, exits}
use Rattle.abs_step.specs.declared.exits.Exit.{Exit}
use Rattle.abs_step.specs.MapView.{MapView}
use Rattle.abs_step.specs.Successors.{Invariant, inputs_at, state_after, successors}
use Rattle.abs_step.specs.Safety.{first_reason, operand_reasons, later_reasons, writes_of, reasons}
use Rattle.abs_step.specs.StepView.{reasons_before, reasons_after, joined_along}
use Rattle.abs_step.specs.Vectors.{vectors_let_in}

first_left : (rs ss : List (Bool × Reason)) (reason : Reason) → first_reason rs ≡ Some reason → first_reason (rs ++ ss) ≡ Some reason
first_left [] ss reason is = absurd (cc)
first_left (r ∷ rs) ss reason is = by r.0 is (first_left rs ss reason)
  where
    by : (b : Bool) → (if b then Some r.1 else first_reason rs) ≡ Some reason →
        (first_reason rs ≡ Some reason → first_reason (rs ++ ss) ≡ Some reason) →
        (if b then Some r.1 else first_reason (rs ++ ss)) ≡ Some reason
    by true here later = here
    by false here later = later here

first_right : (rs ss : List (Bool × Reason)) → first_reason rs ≡ None → first_reason (rs ++ ss) ≡ first_reason ss
first_right [] ss none = refl
first_right (r ∷ rs) ss none = by r.0 none (first_right rs ss)
  where
    by : (b : Bool) → (if b then Some r.1 else first_reason rs) ≡ None →
        (first_reason rs ≡ None → first_reason (rs ++ ss) ≡ first_reason ss) →
        (if b then Some r.1 else first_reason (rs ++ ss)) ≡ first_reason ss
    by true here later = absurd (cc)
    by false here later = later here

-- what is known at a step: what an instruction gets, the registers and the counters
pub record KnownAt (op : Op) (m : MapView) (x : Invariant) (i : KnownInputs) (k : KnownRegisters) (l : KnownCounters) : Type 0 where
  pub inputs : i ≡ inputs_at op m x
  pub registers : k ≡ x.state.registers
  pub counters : l ≡ x.state.counters

-- what the instruction writes, and the registers after it
pub record SteppedTo (op : Op) (i : KnownInputs) (k : KnownRegisters) (ws : List RegisterWrite) (r : KnownRegisters) : Type 0 where
  pub writes : ws ≡ register_writes op i.stack_bytes i.counter_bytes k
  pub registers : r ≡ record (known_effect op (known_used_byte (row_of op) i) k) { scratchpad = written_all ws k.scratchpad }

pub known_at : (op : Op) (m : MapView) (x : Invariant) (i : KnownInputs) (k : KnownRegisters) (l : KnownCounters) →
    k ≡ x.state.registers → l ≡ x.state.counters → i ≡ known_inputs op m.byte x.point.at x.point.ret l.d0 k → KnownAt op m x i k l
known_at op m x i k l registers counters inputs =
    record { inputs = inputs ∙ rw (registers, counters) refl; registers = registers; counters = counters }

pub stepped_to : (op : Op) (i : KnownInputs) (k : KnownRegisters) (ws : List RegisterWrite) (r : KnownRegisters) (row : Row)
    (byte : Option ℕ) →
    ws ≡ register_writes op i.stack_bytes i.counter_bytes k → row ≡ row_of op → byte ≡ known_used_byte row i →
    r ≡ record (known_effect op byte k) { scratchpad = written_all ws k.scratchpad } → SteppedTo op i k ws r
stepped_to op i k ws r row byte writes row_is byte_is registers =
    record { writes = writes; registers = registers ∙ rw (byte_is, row_is) refl }

module _ (op : Op) (m : MapView) (tracked : List ℕ) (x : Invariant) where
  abbrev before : List (Bool × Reason)
  before = reasons_before op m x.point.ret (m.byte (places_on x.point.at 1)) x.state.registers x.state.counters

  abbrev behind : List (Bool × Reason)
  behind = reasons_after op m tracked (state_after op m x).registers.status.icb x.state.counters.d0 (writes_of op m x)

  pub by_operands : (reason : Reason) → first_reason (operand_reasons (length_of op) m x.point.at) ≡ Some reason →
      first_reason (reasons op m tracked x) ≡ Some reason
  unfolding reasons
  by_operands reason is = first_left (operand_reasons (length_of op) m x.point.at) (later_reasons op m tracked x) reason is

  later : first_reason (operand_reasons (length_of op) m x.point.at) ≡ None →
      first_reason (reasons op m tracked x) ≡ first_reason (later_reasons op m tracked x)
  unfolding reasons
  later none = first_right (operand_reasons (length_of op) m x.point.at) (later_reasons op m tracked x) none

  module _ (i : KnownInputs) (k : KnownRegisters) (l : KnownCounters) (known : KnownAt op m x i k l)
      (none : first_reason (operand_reasons (length_of op) m x.point.at) ≡ None) where
    same_before : first_reason (reasons_before op m x.point.ret i.operand k l) ≡ first_reason before
    same_before = rw (known.inputs, known.registers, known.counters) refl

    pub by_before : (reason : Reason) → first_reason (reasons_before op m x.point.ret i.operand k l) ≡ Some reason →
        first_reason (reasons op m tracked x) ≡ Some reason
    by_before reason is = later none ∙ first_left before behind reason (sym same_before ∙ is)

    module _ (ws : List RegisterWrite) (r : KnownRegisters) (stepped : SteppedTo op i k ws r)
        (none_before : first_reason (reasons_before op m x.point.ret i.operand k l) ≡ None) where
      writes_are : ws ≡ writes_of op m x
      writes_are = stepped.writes ∙ rw (known.inputs, known.registers) refl

      registers_are : r ≡ (state_after op m x).registers
      registers_are = stepped.registers ∙ rw (writes_are, known.inputs, known.registers) refl

      pub by_after : (icb : Option Bool) (o : Option Reason) → icb ≡ r.status.icb →
          first_reason (reasons_after op m tracked icb l.d0 ws) ≡ o → first_reason (reasons op m tracked x) ≡ o
      by_after icb o icb_is is =
          let same : first_reason (reasons_after op m tracked icb l.d0 ws) ≡ first_reason behind =
          rw (icb_is, registers_are, writes_are, known.counters) refl in
          later none ∙ first_right before behind (sym same_before ∙ none_before) ∙ sym same ∙ is

      pub next_are : (vectors : List ℕ) (icb : Option Bool) (ls : KnownCounters) (es : List Exit) → vectors ≡ vectors_let_in op m icb →
          icb ≡ r.status.icb → ls ≡ known_counters (row_of op) i l → es ≡ exits (row_of op) i x.point.at x.point.ret →
          joined_along tracked vectors r ls es ≡ successors op m tracked x
      unfolding successors
      next_are vectors icb ls es vectors_are icb_is counters_are exits_are =
          rw (vectors_are, icb_is, counters_are, exits_are, registers_are, known.inputs, known.counters) refl
