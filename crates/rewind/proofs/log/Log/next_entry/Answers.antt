use Rattle.std.proofs.Common.{◌≡◌, sym, ap, ◌∙◌, arith}
use Rattle.std.specs.Prelude.{Some, slice_get}
use Rattle.rewind.specs.declared.log.Log.TheInside.{Inside}
use Rattle.rewind.specs.declared.log.Mark.{Mark}
use Rattle.rewind.proofs.LogCalls.{told_event, told_instruction, told_none}
use Rattle.rewind.proofs.log.Log.next_entry.Goals as goal
use Rattle.rewind.proofs.log.Log.next_entry.Goals.{in_default-via-in-Some+else-mark-self, in_default-via-in_default}

pub returns-in-Some : goal.returns-in-Some
returns-in-Some c =
    let l : Inside = c.self.inside in
    told_event l c.args.self.now c.self.view_is c.in-Some.mark
    (ap (λ ms. slice_get ms l.next) (sym c.deref.ensures.value) ∙ sym c.mark_at.ensures ∙ c.in-Some.is) (omega arith)

pub returns-in_default : goal.returns-in_default
returns-in_default c =
    let l : Inside = c.self.inside in
    let looked : c.mark_at.result ≡ slice_get l.marks.items l.next =
    c.mark_at.ensures ∙ ap (λ ms. slice_get ms l.next) c.deref.ensures.value in
    told_instruction l c.self.invariant c.args.self.now c.self.view_is c.mark_at.result looked
    (λ m is now. elim c.in_default.branch [
      | in_default-via-in-Some+else-mark-self w ↦ (let same : Some w.in-Some.mark ≡ Some m = cc in let one : w.in-Some.mark ≡ m = cc in
          w.if-mark-self.false (ap (λ (x : Mark). x.after) one ∙ now))
      | in_default-via-in_default w ↦ w.in_default.not-Some m is
    ])
    (omega arith)

pub returns-in_default-2 : goal.returns-in_default-2
returns-in_default-2 c =
    let l : Inside = c.self.inside in
    let looked : c.mark_at.result ≡ slice_get l.marks.items l.next =
    c.mark_at.ensures ∙ ap (λ ms. slice_get ms l.next) c.deref.ensures.value in
    told_none l c.self.invariant c.args.self.now c.self.view_is c.mark_at.result looked
    (λ m is now. elim c.in_default.branch [
      | in_default-via-in-Some+else-mark-self w ↦ (let same : Some w.in-Some.mark ≡ Some m = cc in let one : w.in-Some.mark ≡ m = cc in
          w.if-mark-self.false (ap (λ (x : Mark). x.after) one ∙ now))
      | in_default-via-in_default w ↦ w.in_default.not-Some m is
    ])
    (omega arith)
