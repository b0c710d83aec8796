-- The chips that drive or take come by ascending sockets, and so do those that stand by.
use Rattle.std.specs.Prelude.{ℕ, ◌+◌, ◌≤◌, List, [], ◌∷◌}
use Rattle.std.specs.List.{enumerate_from}
use Rattle.f8_spec.specs.BusArbitration.{PlacedSeat, parties, bystanders}
use Rattle.f8_spec.specs.declared.bus.BusRule.{BusRule}
use Rattle.f8_spec.specs.declared.bus.Party.{Party}

-- each is in this socket at least, and in a higher one than the one before
abbrev pub AscendFrom : ℕ → List Party → Type 0
AscendFrom socket [] = Unit {0}
AscendFrom socket (q ∷ qs) = (socket ≤ q.socket) × AscendFrom (q.socket + 1) qs

pub record SocketsLaw : Type 0 where
  pub taking_part : (rule : BusRule) (seats : List PlacedSeat) → AscendFrom 0 (parties rule (enumerate_from 0 seats))
  pub standing_by : (rule : BusRule) (reference : ℕ) (seats : List PlacedSeat) → AscendFrom 0 (bystanders rule reference (enumerate_from 0 seats))
