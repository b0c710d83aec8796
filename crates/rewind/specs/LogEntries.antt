-- The replay log as contracts see it: what was played of it, what is left, and the room.
use Rattle.std.specs.Prelude.{◌≡◌, ℕ, ◌+◌, List, [], ◌∷◌, ◌++◌}
use Rattle.rewind.specs.declared.entry.Entry.{Entry}
use Rattle.rewind.specs.declared.entry.Entry.TheVariants.{Happens, Instruction}

-- The entries that were played since the log was last rewound, those that are left to play, and how many events there is room for.
pub record LogState : Type 0 where
  pub played : List Entry
  pub left : List Entry
  pub spare : ℕ

-- how many of some entries are instructions
abbrev pub instructions_in : List Entry → ℕ
instructions_in [] = 0
instructions_in (Happens event ∷ later) = instructions_in later
instructions_in (Instruction ∷ later) = instructions_in later + 1

-- and how many are events
abbrev pub events_in : List Entry → ℕ
events_in [] = 0
events_in (Happens event ∷ later) = events_in later + 1
events_in (Instruction ∷ later) = events_in later

-- the entry that came next was played, and the room stays
pub record Plays (entry : Entry) (old new : LogState) : Type 0 where
  pub left : old.left ≡ entry ∷ new.left
  pub played : new.played ≡ old.played ++ entry ∷ []
  pub spare : new.spare ≡ old.spare

-- nothing was left to play, and nothing changed
pub record IsAtEnd (old new : LogState) : Type 0 where
  pub left : old.left ≡ []
  pub stays : new ≡ old
