use Rattle.std.proofs.Common.{[], ◌∷◌, ◌++◌, ap, ◌∙◌, arith}
use Rattle.rewind.specs.LogEntries.{LogState}
use Rattle.rewind.specs.LogView.{IsKept}
use Rattle.rewind.specs.declared.entry.Entry.TheVariants.{Happens}
use Rattle.rewind.specs.declared.log.Log.TheInside.{Inside}
use Rattle.rewind.proofs.LogCalls.{EventAdded, event_pushed}
use Rattle.rewind.proofs.log.Log.add_event.Goals as goal

pub invariant_of-self : goal.invariant_of-self
invariant_of-self c =
    let l : Inside = c.self.inside in
    let kept : IsKept l = c.self.invariant in
    let added : EventAdded l c.push.new.self.items c.args.event =
    event_pushed l kept c.args.self.now c.self.view_is c.requires.ended c.requires.room c.args.event c.push.new.self.items c.push.result
    c.push.ensures.succeeds c.push.ensures.items in
    record {
      reserved = omega (arith, kept.reserved, c.push.ensures.capacity);
      within = added.within;
      next = added.few;
      before = added.before;
      behind = added.behind;
      few = kept.few;
    }

pub returns-clause-played : goal.returns-clause-played
returns-clause-played c =
    (event_pushed c.self.inside c.self.invariant c.args.self.now c.self.view_is c.requires.ended c.requires.room c.args.event
    c.push.new.self.items c.push.result c.push.ensures.succeeds c.push.ensures.items).played
    ∙ ap (λ (s : LogState). s.played ++ Happens c.args.event ∷ []) c.self.view_is

pub returns-clause-left : goal.returns-clause-left
returns-clause-left c =
    (event_pushed c.self.inside c.self.invariant c.args.self.now c.self.view_is c.requires.ended c.requires.room c.args.event
    c.push.new.self.items c.push.result c.push.ensures.succeeds c.push.ensures.items).left
