-- Each instruction that is done again leads on, and the last of so many where all of them do.
use Rattle.std.proofs.Common.{◌≡◌, ◌+◌, Bool, List, ap, sym, ◌∙◌, arith}
use Rattle.std.specs.Prelude.{if◌then◌else◌, Some}
use Rattle.f8_spec.specs.ChipState.{ChipState}
use Rattle.f8_spec.specs.declared.bus.Counters.{Counters}
use Rattle.f8_machine.specs.MachineState.{MachineState}
use Rattle.probe.specs.ProbeState.{probe_counters}
use Rattle.rewind.specs.Standing.{patches}
use Rattle.chip_debug.proofs.Replays.{again_first, again_more, left_more, most_by, most_more, replayed_first, replayed_more}
use Rattle.chip_debug.proofs.replaying.replay.Given.{Over}
use Rattle.chip_debug.proofs.replaying.replay.Goals.{then-is, else-is}
use Rattle.chip_debug.proofs.replaying.replay.Goals as goal

pub loop-done-init : goal.loop-done-init
loop-done-init g c =
    let again = again_first c.args.tape.now c.rewind.new.self c.rewind.ensures.tape c.rewind.ensures.chain in
    record {
      again = again;
      replayed = λ first taped. replayed_first c.args.sought _ _ _ first _ _ again (c.rewind.ensures.taped first taped)
          (c.rewind.ensures.asked first taped);
      most = tt;
      same = c.rewind.ensures.patches;
      fits = c.rewind.ensures.fits;
      chips = c.rewind.ensures.chips;
    }

-- an instruction is left as long as the loop goes on
none_missing : (g : Over) (c : goal.In_default g) → ⊥
none_missing g c = left_more _ _ _ _ c.loop-done.invariant.again c.loop-done-test.true c.requires.within c.in_default.ensures.none

pub returns-in_default-clause-replayed : goal.returns-in_default-clause-replayed
returns-in_default-clause-replayed g c = absurd (none_missing g c)

pub returns-in_default-clause-most : goal.returns-in_default-clause-most
returns-in_default-clause-most g c = absurd (none_missing g c)

pub returns-in_default-clause-tape : goal.returns-in_default-clause-tape
returns-in_default-clause-tape g c = absurd (none_missing g c)

pub returns-in_default-clause-log : goal.returns-in_default-clause-log
returns-in_default-clause-log g c = absurd (none_missing g c)

pub loop-done-preserved : goal.loop-done-preserved
loop-done-preserved g c =
    let inv = c.loop-done.invariant in
    let moved = c.in-Some.ensures in
    let told : c.if-is.found ≡ (if c.is.result then Some (c.loop-done.done + 1) else c.loop-done.found) =
    elim c.if-is.branch [
      | then-is w ↦ w.found-is ∙ ap (λ (m : Bool). if m then Some (c.loop-done.done + 1) else c.loop-done.found) (sym w.if-is.true)
      | else-is w ↦ w.found-is ∙ ap (λ (m : Bool). if m then Some (c.loop-done.done + 1) else c.loop-done.found) (sym w.if-is.false)
    ] in
    record {
      again = again_more c.loop-done.done _ _ _ inv.again moved.moves moved.tape moved.chain;
      replayed = λ first taped.
          let so_far = inv.replayed first taped in
          let forward = moved.some first so_far.taped in
          let same : c.machine-in-loop-done.result.now ≡ c.forward.new.self.machine = c.machine-in-loop-done.ensures in
          let began = ap (λ (r : Counters). r.dc0) c.reference-at.ensures
          ∙ ap (λ (m : MachineState). (probe_counters m.probe).dc0) c.machine.ensures in
          let is = rw same at c.is.ensures.is in
          let asked = rw same at c.is.ensures.asked in
          replayed_more c.loop-done.done _ _ _ inv.again c.in-Some.outcome _ _ first _ _ so_far.taped forward moved.tape moved.chain _
          c.steps.ensures.value c.args.sought c.loop-done.found _ so_far _ began c.is.result is c.if-is.found told _
          c.is.ensures.stays _ asked;
      most = most_more c.is.result _ _ _ told inv.most;
      same = ap (λ (states : List ChipState). patches states) c.is.ensures.stays ∙ moved.patches ∙ inv.same;
      fits = rw c.is.ensures.stays moved.fits;
      chips = c.is.ensures.chips ∙ moved.chips ∙ inv.chips;
    }

pub returns-clause-replayed : goal.returns-clause-replayed
returns-clause-replayed g c = λ first taped.
    let whole : c.loop-done.done ≡ c.args.count = omega arith in
    rw whole at c.loop-done.invariant.replayed first taped

pub returns-clause-most : goal.returns-clause-most
returns-clause-most g c = most_by _ c.loop-done.done c.args.count c.loop-done.auto.done-end c.loop-done.invariant.most

pub returns-clause-log : goal.returns-clause-log
returns-clause-log g c =
    let whole : c.loop-done.done ≡ c.args.count = omega arith in
    rw whole at c.loop-done.invariant.again.log
