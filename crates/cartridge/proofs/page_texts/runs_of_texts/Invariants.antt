-- the runs of the texts so far
use Rattle.cartridge.proofs.RunsRead.{HasRuns}
use Rattle.cartridge.proofs.page_texts.runs_of_texts.Given as goal

abbrev pub invariant-loop-text : goal.invariant-loop-text
invariant-loop-text l = HasRuns l.texts l.text-index l.runs.items
