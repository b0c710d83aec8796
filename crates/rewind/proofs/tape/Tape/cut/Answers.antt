-- The entries left are dropped.
use Rattle.std.proofs.Common.{sym, subst}
use Rattle.rewind.specs.LogEntries.{LogState}
use Rattle.rewind.specs.Tape.{IsTaped, TapeState}
use Rattle.rewind.proofs.TapeStarts.{taped_cut}
use Rattle.rewind.proofs.tape.Tape.cut.Goals as goal

pub returns-clause-taped : goal.returns-clause-taped
returns-clause-taped c = λ states first taped.
    let old : TapeState = record {
      machine = c.self.inside.machine;
      fill = c.self.inside.fill;
      powers = c.self.inside.powers;
      log = c.self.inside.log;
      mode = c.self.inside.mode;
    } in
    let here : IsTaped old states first = subst (λ (t : TapeState). IsTaped t states first) (sym c.self.view_is) taped in
    subst (λ (log : LogState). IsTaped (record old { log = log }) states first) (sym c.cut.ensures)
    (taped_cut old _ states first here)
