-- Entries in the order of their addresses.
use Rattle.std.specs.Prelude.{ℕ, ◌≤◌, List, [], ◌∷◌}
use Rattle.std.specs.List.{AllByRecursion}
use Rattle.case_step.specs.Entries.{EntryView}

-- no entry of a list is behind an address
abbrev pub AreBefore : ℕ → List EntryView → Type 0
AreBefore at entries = AllByRecursion (λ e. e.at ≤ at) entries

-- none is behind a later one
abbrev pub Ascends : List EntryView → Type 0
Ascends [] = Unit {0}
Ascends (e ∷ es) = AllByRecursion (λ later. e.at ≤ later.at) es × Ascends es
