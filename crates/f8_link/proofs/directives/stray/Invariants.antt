use Rattle.std.proofs.Common.{◌≡◌, drop}
use Rattle.f8_link.specs.Directives.{stray}
use Rattle.f8_link.proofs.directives.stray.Given as goal

-- no such word has been passed
abbrev pub invariant-loop-token : goal.invariant-loop-token
invariant-loop-token l = stray (drop l.token-index l.tokens) ≡ stray l.tokens
