-- A rack through moments, one after another.
use Rattle.std.proofs.Common.{ℕ, List, [], ◌∷◌, ◌++◌, refl, subst}
use Rattle.f8_spec.specs.ChipState.{ChipState}
use Rattle.console_spec.specs.Telling.{Moment}
use Rattle.rack_run.specs.Lives.{LivesMoment, Lives}

pub lives_then : (chain : List ℕ) (ms : List Moment) (m : Moment) (olds mids news : List ChipState) →
    Lives chain ms olds mids → LivesMoment chain m mids news → Lives chain (ms ++ m ∷ []) olds news
lives_then chain [] m olds mids news same last =
    (news, subst (λ (states : List ChipState). LivesMoment chain m states news) same last, refl)
lives_then chain (n ∷ ms) m olds mids news lived last =
    (lived.0, lived.1, lives_then chain ms m lived.0 mids news lived.2 last)
