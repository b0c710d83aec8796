use Rattle.std.proofs.Common.{◌≡◌, [], Err, sym, ◌∙◌, arith}
use Rattle.std.proofs.lemmas.Grind.{common_steps}
use Rattle.cartridge.specs.PageTexts.{runs_apart}
use Rattle.cartridge.proofs.RunsApart.{judged_more, judged_bad, judged_all}
use Rattle.cartridge.proofs.page_texts.judge_runs.Goals as goal

pub returns-in_err-run_apart : goal.returns-in_err-run_apart
returns-in_err-run_apart c =
    let bad : runs_apart [] c.args.runs.now ≡ Err c.in_err-run_apart.field-0.0 =
    judged_bad c.args.runs.now c.loop-index.index _ _ c.loop-index-test.true (sym c.run_apart.ensures ∙ c.in_err-run_apart.was) c.loop-index.invariant in
    grind (arith, common_steps, bad)

pub loop-index-preserved : goal.loop-index-preserved
loop-index-preserved c =
    judged_more c.args.runs.now c.loop-index.index _ _ c.loop-index-test.true (sym c.run_apart.ensures ∙ c.in_ok-run_apart.was) c.loop-index.invariant

pub returns : goal.returns
returns c = judged_all c.args.runs.now c.loop-index.index (omega arith) c.loop-index.invariant
