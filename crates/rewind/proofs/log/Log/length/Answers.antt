use Rattle.std.proofs.Common.{ap, ◌+◌, ◌∙◌}
use Rattle.rewind.specs.LogEntries.{LogState, instructions_in}
use Rattle.rewind.proofs.LogCalls.{length_is}
use Rattle.rewind.proofs.log.Log.length.Goals as goal

pub returns : goal.returns
returns c = length_is c.self.inside c.self.invariant
    ∙ ap (λ (s : LogState). instructions_in s.played + instructions_in s.left) c.self.view_is
