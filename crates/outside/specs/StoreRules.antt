-- What is said of a store: the files that it has, where it tells them, its count of faults, and what it was asked for.
use Rattle.std.specs.Prelude.{◌≡◌, ⊤, ℕ, ◌≤◌, ◌<◌, List, length, Option, Some, None, option_map, bytes_eq, IsSome}
use Rattle.std.specs.Prelude.{Result, Ok, Err}
use Rattle.std.specs.List.{find}
use Rattle.outside.specs.Counts.{one_more, raised, Rose}
use Rattle.outside.specs.declared.store.FetchFault.{FetchFault}
use Rattle.outside.specs.declared.store.FetchFault.TheVariants.{Failed, TooLong, Memory}

-- a file by its name, both as bytes
pub record NamedBytes : Type 0 where
  pub name : List ℕ
  pub bytes : List ℕ

-- What a store was asked for: how many files, and how many bytes they may have had at most, all of them together.
pub record Asked : Type 0 where
  pub fetches : ℕ
  pub allowed : ℕ

-- one file more, with at most so many bytes
abbrev pub asked_for : ℕ → Asked → Asked
asked_for limit asked = record { fetches = one_more asked.fetches; allowed = raised asked.allowed limit }

-- What contracts see of a store: its files, where it tells them, its count of faults, and what it was asked for.
pub record Input : Type 0 where
  pub files : Option (List NamedBytes)
  pub faults : ℕ
  pub asked : Asked

-- the bytes of the file of this name
abbrev pub bytes_of : List NamedBytes → List ℕ → Option (List ℕ)
bytes_of files name = option_map (λ f. f.bytes) (find (λ f. bytes_eq f.name name) files)

-- A failed fetch has its cause in the count of faults, which rose, and any other answer leaves the count.
abbrev pub CountsFault : {T : Type 0} → ℕ → ℕ → Result T FetchFault → Type 0
CountsFault before now (Ok x) = now ≡ before
CountsFault before now (Err Failed) = Rose before now
CountsFault before now (Err TooLong) = now ≡ before
CountsFault before now (Err Memory) = now ≡ before

-- What a fetch of a file with at most so many bytes does to a store.
pub record Fetches {T : Type 0} (old new : Input) (name : List ℕ) (limit : ℕ) (outcome : Result T FetchFault) : Type 0 where
  pub counted : new.asked ≡ asked_for limit old.asked
  -- the count of faults never falls
  pub later : old.faults ≤ new.faults
  pub cause : CountsFault old.faults new.faults outcome
  -- What a store tells never changes: it tells after a call what it told before it, or nothing.
  pub same : (files : List NamedBytes) → new.files ≡ Some files → old.files ≡ Some files
  -- after a fetch of a file that it has, it still tells
  pub here : (files : List NamedBytes) → old.files ≡ Some files → IsSome (bytes_of files name) →
      new.files ≡ Some files

-- Where files are told after the call, these are the bytes of the file of this name.
abbrev pub IsFile : Option (List NamedBytes) → List ℕ → List ℕ → Type 0
IsFile None name bytes = ⊤
IsFile (Some files) name bytes = bytes_of files name ≡ Some bytes

-- Where files are told after the call, there is a file of this name, with more bytes than the limit.
abbrev pub IsLong : Option (List NamedBytes) → List ℕ → ℕ → Type 0
IsLong None name limit = ⊤
IsLong (Some files) name limit = (bytes : List ℕ) × (bytes_of files name ≡ Some bytes) × (limit < length bytes)

-- what is said of a call that answers `TooLong`
abbrev pub WhereLong : {T : Type 0} → Result T FetchFault → Type 0 → Type 0
WhereLong (Ok x) Said = ⊤
WhereLong (Err Failed) Said = ⊤
WhereLong (Err TooLong) Said = Said
WhereLong (Err Memory) Said = ⊤
