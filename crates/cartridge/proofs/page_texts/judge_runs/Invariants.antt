-- what is said of the runs goes by those that are left
use Rattle.cartridge.proofs.RunsApart.{JudgedTo}
use Rattle.cartridge.proofs.page_texts.judge_runs.Given as goal

abbrev pub invariant-loop-index : goal.invariant-loop-index
invariant-loop-index l = JudgedTo l.runs l.index
