-- A register more is read, or none where the reading of all of them fails.
use Rattle.std.proofs.Common.{◌-◌, ◌+◌, sym, ◌∙◌, arith}
use Rattle.std.proofs.Math.ListN.{length-set}
use Rattle.value_sets.specs.SetViews.{byte_values}
use Rattle.case_text.proofs.RegisterReads.{all_read, fails, goes_on, no_set, nothing_seen, one_set}
use Rattle.case_text.proofs.words.LineWords.scratchpad.Goals as goal

pub returns-in_err-register : goal.returns-in_err-register
returns-in_err-register c =
    let i = c.loop-register.register-index in
    nothing_seen _ c.from_residual.result _ c.from_residual.ensures
    (fails c.args.self.now c.loop-register.self c.loop-register.register-items i c.loop-register.invariant.1 (omega arith) c.loop-register.invariant.0
    (no_set (64 - (i + 1)) c.loop-register.self (sym c.in_err-register.ensures)))

pub loop-register-preserved : goal.loop-register-preserved
loop-register-preserved c =
    let i = c.loop-register.register-index in (
      goes_on c.args.self.now c.loop-register.self c.loop-register.register-items i c.loop-register.invariant.1 (omega arith) c.loop-register.invariant.0
          c.in_ok-register.field-0 c.byte_set.new.self
          (one_set (64 - (i + 1)) c.loop-register.self (byte_values c.in_ok-register.field-0) c.byte_set.new.self (sym c.in_ok-register.ensures)),
      length-set c.loop-register.register-items i c.in_ok-register.field-0 ∙ c.loop-register.invariant.1,
    )

pub returns : goal.returns
returns c =
    all_read c.args.self.now c.loop-register.self c.loop-register.register-items c.loop-register.register-index c.loop-register.invariant.1
    (omega arith) c.loop-register.invariant.0
