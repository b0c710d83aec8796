use Rattle.std.proofs.Common.{◌+◌, [], ap, ◌∙◌}
use Rattle.rewind.specs.LogEntries.{LogState, events_in}
use Rattle.rewind.proofs.LogCalls.{cut_is}
use Rattle.rewind.proofs.log.Log.cut.Goals as goal

pub returns : goal.returns
returns c = cut_is c.self.inside c.self.invariant c.truncate.new.self.items c.truncate.ensures.items
    ∙ ap (λ (s : LogState). record { played = s.played; left = []; spare = s.spare + events_in s.left }) c.self.view_is
