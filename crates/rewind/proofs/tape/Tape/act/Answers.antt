-- An event leads a tape on.
use Rattle.std.proofs.Common.{◌∷◌, [], refl, rules}
use Rattle.rewind.specs.declared.entry.Entry.TheVariants.{Happens}
use Rattle.rewind.proofs.TapeSteps.{event_taped, in_time_events}
use Rattle.rewind.proofs.tape.Tape.act.Goals as goal

pub returns-clause-tape : goal.returns-clause-tape
returns-clause-tape g c = search rules

pub returns-clause-taped : goal.returns-clause-taped
returns-clause-taped g c = λ first taped.
    event_taped c.args.event c.args.self.now _ _ _ first (returns-clause-tape g c) c.requires.goes
    (rw (← c.self.view_is) c.happen.ensures.chain) (rw (← c.self.view_is) c.happen.ensures.there)
    (c.happen.ensures.alike first taped.alike) taped

pub invariant_of-self : goal.invariant_of-self
invariant_of-self g c =
    in_time_events (Happens c.args.event ∷ []) _ _ c.self.inside.log _ refl c.self.invariant c.happen.ensures.mode c.happen.ensures.phi
    c.add_event.ensures.played
