use Rattle.std.proofs.Common.{ap, ◌∙◌}
use Rattle.rewind.specs.LogEntries.{LogState, instructions_in}
use Rattle.rewind.proofs.LogCalls.{place_is}
use Rattle.rewind.proofs.log.Log.place.Goals as goal

pub returns : goal.returns
returns c = place_is c.self.inside c.self.invariant ∙ ap (λ (s : LogState). instructions_in s.played) c.self.view_is
