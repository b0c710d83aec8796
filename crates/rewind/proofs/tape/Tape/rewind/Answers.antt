-- Power-on and reset once more, before all entries.
use Rattle.std.proofs.Common.{ap, sym, ◌∙◌}
use Rattle.rewind.specs.LogEntries.{LogState}
use Rattle.rewind.specs.Tape.{TapeState, begin, entries_of, mode_rewound}
use Rattle.rewind.proofs.TapeStarts.{asked_as, begins_same, rewound, there_as}
use Rattle.rewind.proofs.tape.Tape.rewind.Goals as goal

pub returns-clause-taped : goal.returns-clause-taped
returns-clause-taped g c = λ first taped.
    let is = c.self.view_is ∙ c.start_again.ensures.tape in
    rewound _ _ first (ap (λ (log : LogState). log.played) c.rewind.ensures)
    (there_as _ _ _ first c.self.view_is (c.start_again.ensures.there first taped.at.ready taped.alike))
    (c.start_again.ensures.alike first taped.alike) c.args.self.now _
    (ap (λ (t : TapeState). begin t first) c.self.view_is
    ∙ begins_same c.args.self.now c.start_again.new.self first (ap (λ (t : TapeState). t.fill) c.start_again.ensures.tape)
    c.start_again.ensures.chain (ap (λ (t : TapeState). t.powers) c.start_again.ensures.tape))
    (c.rewound-self-inside.ensures ∙ ap (λ (t : TapeState). mode_rewound t.mode) is)
    (ap (λ (log : LogState). log.left) c.rewind.ensures ∙ ap (λ (t : TapeState). entries_of t.log) is) taped

pub returns-clause-asked : goal.returns-clause-asked
returns-clause-asked g c = λ first taped.
    let is = c.start_again.ensures.tape in
    asked_as _ _ (begin c.args.self.now first) (begin c.start_again.new.self first)
    (sym (begins_same c.args.self.now c.start_again.new.self first (ap (λ (t : TapeState). t.fill) is) c.start_again.ensures.chain
    (ap (λ (t : TapeState). t.powers) is)))
    (c.start_again.ensures.asked first taped.at.ready taped.alike)
