-- The cases are those of the first spread that doesn't make too many. Where none is left, or no instruction is known, there is one case.
use Rattle.std.proofs.Common.{◌≡◌, ◌∙◌, [], ◌∷◌, refl, sym, arith}
use Rattle.abs_domain.specs.StateView.{state_of}
use Rattle.case_step.specs.EntryViews.{entry_view, states_of}
use Rattle.case_step.proofs.CaseLoops.{this_made, next_made, none_made, all_spreads}
use Rattle.case_step.proofs.ReadRegisters.{small_registers}
use Rattle.case_step.proofs.cases.Cases.fill.Goals as goal
use Rattle.case_step.proofs.cases.Cases.fill.Goals.{in-Some+else-loop-spread-test, in_default}

pub spread-requires : goal.spread-requires
spread-requires c = small_registers c.in-Some.op c.as_slice.result.now (c.as_slice.ensures.value ∙ c.parts_read-reads.ensures)

pub returns-then-branch : goal.returns-then-branch
returns-then-branch c =
    let e = entry_view c.args.entry.now in
    let parts = c.parts_read-reads.result.items in
    let plain = state_of c.plain_case-plain.result in
    let made = rw (c.if-branch.true, c.as_slice.ensures.value) at c.in_ok-spread.ensures in
    rw c.in-Some.is
    (sym (this_made e parts plain c.loop-spread.spread-index c.spread.new.self (omega arith) made) ∙ c.loop-spread.invariant
    ∙ all_spreads c.in-Some.op e parts plain c.parts_read-reads.ensures c.plain_case-plain.ensures)

pub loop-spread-preserved : goal.loop-spread-preserved
loop-spread-preserved c =
    let e = entry_view c.args.entry.now in
    let parts = c.parts_read-reads.result.items in
    let plain = state_of c.plain_case-plain.result in
    let made = rw (c.if-branch.false, c.as_slice.ensures.value) at c.in_ok-spread.ensures in
    sym (next_made e parts plain c.loop-spread.spread-index (omega arith) made) ∙ c.loop-spread.invariant

pub returns : goal.returns
returns c =
    let e = entry_view c.args.entry.now in
    let plain = state_of c.plain_case-plain.result in
    let one : states_of c.push.new.self.items ≡ plain ∷ [] = rw (c.in_ok-push.ensures.items, c.clear.ensures.items) refl in
    one ∙ elim c.match-op.branch [
      | in-Some+else-loop-spread-test w ↦
          rw w.in-Some.is
          (sym (none_made e w.parts_read-reads.result.items plain w.loop-spread.spread-index (omega arith)) ∙ w.loop-spread.invariant
          ∙ all_spreads w.in-Some.op e w.parts_read-reads.result.items plain w.parts_read-reads.ensures c.plain_case-plain.ensures)
      | in_default w ↦ rw (w.in_default.is, c.plain_case-plain.ensures) refl
    ]
