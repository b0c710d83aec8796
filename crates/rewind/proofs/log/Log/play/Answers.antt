use Rattle.std.proofs.Common.{◌∙◌, ◌+◌, ◌<◌, sym, ap, arith}
use Rattle.std.specs.Prelude.{Some}
use Rattle.rewind.specs.LogView.{IsKept}
use Rattle.rewind.specs.declared.entry.Entry.TheVariants.{Happens}
use Rattle.rewind.specs.declared.log.Log.TheInside.{Inside}
use Rattle.rewind.proofs.LogCalls.{InstructionPlayed, IsPlayed, at_end, plays_event, plays_instruction}
use Rattle.rewind.proofs.log.Log.play.Goals as goal

pub returns-in_err-entry-clause-none : goal.returns-in_err-entry-clause-none
returns-in_err-entry-clause-none c =
    rw c.from_residual.ensures (at_end c.args.self.now (sym c.next_entry.ensures ∙ c.in_err-entry.was))

pub invariant_of-self : goal.invariant_of-self
invariant_of-self c =
    let l : Inside = c.self.inside in
    let kept : IsKept l = c.self.invariant in
    let after : IsPlayed l c.args.self.now (l.next + 1) l.place (Happens c.in-Happens.field-0) =
    plays_event l kept c.args.self.now c.self.view_is c.in-Happens.field-0
    (sym c.next_entry.ensures ∙ c.in_ok-entry.was ∙ ap Some c.in-Happens.is) in
    record {
      reserved = kept.reserved;
      within = kept.within;
      next = after.one.few;
      before = after.one.before;
      behind = after.one.behind;
      few = kept.few;
    }

pub overflow_add-self-in-Instruction : goal.overflow_add-self-in-Instruction
overflow_add-self-in-Instruction c =
    let after : InstructionPlayed c.self.inside c.args.self.now =
    plays_instruction c.self.inside c.self.invariant c.args.self.now c.self.view_is
    (sym c.next_entry.ensures ∙ c.in_ok-entry.was ∙ ap Some c.in-Instruction.is) in
    let fewer : c.self.inside.place < c.self.inside.total = after.fewer in
    omega (arith, c.self.invariant.few)

pub invariant_of-self-in-Instruction : goal.invariant_of-self-in-Instruction
invariant_of-self-in-Instruction c =
    let l : Inside = c.self.inside in
    let kept : IsKept l = c.self.invariant in
    let after : InstructionPlayed l c.args.self.now =
    plays_instruction l kept c.args.self.now c.self.view_is
    (sym c.next_entry.ensures ∙ c.in_ok-entry.was ∙ ap Some c.in-Instruction.is) in
    record {
      reserved = kept.reserved;
      within = kept.within;
      next = after.played.one.few;
      before = after.played.one.before;
      behind = after.played.one.behind;
      few = kept.few;
    }

pub returns-in-Happens-clause-some : goal.returns-in-Happens-clause-some
returns-in-Happens-clause-some c =
    rw c.in-Happens.is (plays_event c.self.inside c.self.invariant c.args.self.now c.self.view_is c.in-Happens.field-0
    (sym c.next_entry.ensures ∙ c.in_ok-entry.was ∙ ap Some c.in-Happens.is)).plays

pub returns-in-Instruction-clause-some : goal.returns-in-Instruction-clause-some
returns-in-Instruction-clause-some c =
    rw c.in-Instruction.is (plays_instruction c.self.inside c.self.invariant c.args.self.now c.self.view_is
    (sym c.next_entry.ensures ∙ c.in_ok-entry.was ∙ ap Some c.in-Instruction.is)).played.plays
