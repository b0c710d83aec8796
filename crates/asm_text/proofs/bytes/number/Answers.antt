use Rattle.std.proofs.Common.{arith, ◌∙◌, ◌≡◌, get_or}
use Rattle.std.specs.Char.{digit_value}
use Rattle.std.proofs.lemmas.Grind.{common_steps}
use Rattle.asm_text.proofs.Runs.{one_more, narrow_fits, too_wide, held}
use Rattle.asm_text.proofs.bytes.number.Goals as goal

pub loop-byte-preserved : goal.loop-byte-preserved
loop-byte-preserved c =
    let digit : c.unwrap-digit.result ≡ digit_value (get_or c.args.digits.now c.loop-byte.byte-index 0) = grind (arith, common_steps) in
    record {
      so_far = one_more _ _ _ _ _ _ c.loop-byte.invariant.so_far c.loop-byte-test.true digit c.in_ok-sum.ensures;
      fits = narrow_fits _ _ c.in_ok-sum.ensures;
    }

pub returns-in_err-sum : goal.returns-in_err-sum
returns-in_err-sum c =
    let digit : c.unwrap-digit.result ≡ digit_value (get_or c.args.digits.now c.loop-byte.byte-index 0) = grind (arith, common_steps) in
    c.from_residual.ensures ∙ too_wide _ _ _ _ _ (omega arith) c.loop-byte.invariant.so_far c.loop-byte-test.true digit c.in_err-sum.ensures

pub returns : goal.returns
returns c = held _ _ _ _ c.loop-byte.invariant.fits c.loop-byte.invariant.so_far (omega arith)
