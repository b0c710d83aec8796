use Rattle.std.proofs.Common.{◌≡◌, length}
use Rattle.f8_link.specs.Directives.{names_taken}
use Rattle.f8_link.specs.FirstPass.{name_taken}
use Rattle.f8_link.proofs.first_pass.Reading.take_names.Given as goal

-- the names taken and those that follow make the whole, and no line is counted
abbrev pub invariant-loop-column : goal.invariant-loop-column
invariant-loop-column l = record {
  is : names_taken (name_taken l.directive l.number) l.self l.rest ≡ names_taken (name_taken l.directive l.number) l.fn.self l.tokens;
  count : l.self.count ≡ l.fn.self.count;
}

-- each turn leaves fewer tokens
abbrev pub decreases-loop-column : goal.decreases-loop-column
decreases-loop-column l = length l.rest
