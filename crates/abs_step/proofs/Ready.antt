-- At a safe point all that the exits of the instruction need is known.
use Rattle.std.proofs.Common.{◌≡◌, ◌<◌, ℕ, true, false, List, refl, arith}
use Rattle.std.specs.Prelude.{Option, Some, None, is_some}
use Rattle.f8_spec.specs.Words.{places_on}
use Rattle.f8_spec.specs.Instructions.{row_of, row_length}
use Rattle.f8_spec.specs.declared.instructions.Op.{Op}
use Rattle.f8_spec.specs.declared.instructions.Row.{Row}
use Rattle.f8_spec.specs.declared.instructions.Row.TheVariants.{StackFromK, CallK, JumpQ, Return, Call, Jump, Branch, BranchIsar}
use Rattle.console_spec.specs.FlatMemory.{is_ram_sort}
use Rattle.memory_map.specs.MapKinds.{is_held_once}
use Rattle.abs_step.specs.Known.{known_word}
use Rattle.abs_step.specs.MapView.{MapView}
use Rattle.abs_step.specs.Safety.{operand_reasons, code_reasons, jump_is_lost, return_is_lost, return_is_unset, later_reasons}
use Rattle.abs_step.specs.Successors.{Invariant, inputs_at}
use Rattle.abs_step.proofs.Knowing.{known_of}
use Rattle.abs_step.proofs.ExitLaws.{is_ready}
use Rattle.abs_step.proofs.Reasons.{IsCode, code_of}
use Rattle.abs_step.proofs.SafeRows.{NoneHold}

both_known : (x y : Option ℕ) → is_some x ≡ true → is_some y ≡ true → is_some (known_word x y) ≡ true
both_known None y p q = absurd (cc)
both_known (Some a) None p q = absurd (cc)
both_known (Some a) (Some b) p q = refl

-- over a map that tells each byte that one chip holds and no store changes
module _ (m : MapView)
    (told_at : (at : ℕ) → at < 65536 → is_held_once (m.sort at) ≡ true → is_ram_sort (m.sort at) ≡ false → is_some (m.byte at) ≡ true)
    (tracked : List ℕ) (x : Invariant) (op : Op) (operands : NoneHold (operand_reasons (row_length (row_of op)) m x.point.at))
    (later : NoneHold (later_reasons op m tracked x)) where
  told : (n : ℕ) → NoneHold (code_reasons m (places_on x.point.at n)) → is_some (m.byte (places_on x.point.at n)) ≡ true
  told n none =
      let code : IsCode m (places_on x.point.at n) = code_of m (places_on x.point.at n) none in
      told_at (places_on x.point.at n) (omega arith) code.once code.stays

  pub ready : is_ready (row_of op) (inputs_at op m x) x.point.ret ≡ true
  ready = by (row_of op) operands later.0 later.1.0 later.1.1.0
    where
      by : (row : Row) → NoneHold (operand_reasons (row_length row) m x.point.at) → jump_is_lost row x.state.registers ≡ false →
          return_is_lost row x.state.registers ≡ false → return_is_unset row x.point.ret ≡ false →
          is_ready row (inputs_at op m x) x.point.ret ≡ true
      by StackFromK operands jump return unset = known_of _ return
      by CallK operands jump return unset = known_of _ jump
      by JumpQ operands jump return unset = known_of _ jump
      by Return operands jump return unset = known_of _ unset
      by Call operands jump return unset = both_known _ _ (told 1 (operands.0, (operands.1.0, tt))) (told 2 operands.1.1)
      by Jump operands jump return unset = both_known _ _ (told 1 (operands.0, (operands.1.0, tt))) (told 2 operands.1.1)
      by Branch operands jump return unset = told 1 operands
      by BranchIsar operands jump return unset = told 1 operands
      by row operands jump return unset = refl
