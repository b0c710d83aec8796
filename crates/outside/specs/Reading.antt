-- What is read of a reader, where the bytes that it has left are known.
use Rattle.std.specs.Prelude.{◌≡◌, ⊤, ℕ, ◌+◌, ◌<◌, List, ◌++◌, length, Option, Result, Ok, Err}
use Rattle.std.specs.Io.KnownBytes.{Consumes, IsAtEnd}
use Rattle.outside.specs.declared.store.FetchFault.{FetchFault}
use Rattle.outside.specs.declared.store.FetchFault.TheVariants.{Failed, TooLong, Memory}

-- a piece of so many bytes was read and appended, and one of none only at the end
pub record PieceRead (old new : Option (List ℕ)) (before after : List ℕ) (count : ℕ) : Type 0 where
  pub piece : List ℕ
  pub appended : after ≡ before ++ piece
  pub size : length piece ≡ count
  pub consumed : Consumes old new piece
  pub ended : count ≡ 0 → IsAtEnd new

-- these are all the bytes
pub record AllRead (old new : Option (List ℕ)) (bytes : List ℕ) : Type 0 where
  pub consumed : Consumes old new bytes
  pub ended : IsAtEnd new

-- more bytes than the limit were there, of which one past it was read
pub record ReadPast (old new : Option (List ℕ)) (limit : ℕ) : Type 0 where
  pub bytes : List ℕ
  pub consumed : Consumes old new bytes
  pub past : length bytes ≡ limit + 1

-- bytes were read, at least one, that found no room
pub record ReadWithoutRoom (old new : Option (List ℕ)) : Type 0 where
  pub bytes : List ℕ
  pub consumed : Consumes old new bytes
  pub some : 0 < length bytes

-- these are all the bytes that a reader gave, of those that it had
pub record GaveAll (had : Option (List ℕ)) (bytes : List ℕ) : Type 0 where
  pub left : Option (List ℕ)
  pub read : AllRead had left bytes

-- it had more bytes than the limit
pub record GaveMore (had : Option (List ℕ)) (limit : ℕ) : Type 0 where
  pub left : Option (List ℕ)
  pub read : ReadPast had left limit

-- it gave bytes, at least one, that found no room
pub record GaveWithoutRoom (had : Option (List ℕ)) : Type 0 where
  pub left : Option (List ℕ)
  pub read : ReadWithoutRoom had left

-- what is said of a call that answers `Memory`
abbrev pub WhereWanting : {T : Type 0} → Result T FetchFault → Type 0 → Type 0
WhereWanting (Ok x) Said = ⊤
WhereWanting (Err Failed) Said = ⊤
WhereWanting (Err TooLong) Said = ⊤
WhereWanting (Err Memory) Said = Said
