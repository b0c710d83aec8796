-- the texts of the entries so far
use Rattle.cartridge.proofs.TextsRead.{HasTexts}
use Rattle.cartridge.proofs.page_texts.texts_of.Given as goal

abbrev pub invariant-loop-entry : goal.invariant-loop-entry
invariant-loop-entry l = HasTexts l.entries l.entry-index l.texts.items
