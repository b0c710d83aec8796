-- What a command wants of its files, as a function of the files: what it asks for, one after another, and how it ends.
use Rattle.std.specs.Prelude.{ℕ, nat_le, if◌then◌else◌, List, [], ◌∷◌, ◌++◌, length, Option, Some, None, Result, Ok}
use Rattle.std.specs.Prelude.{Err}
use Rattle.outside.specs.StoreRules.{NamedBytes, bytes_of}
use Rattle.loader.specs.declared.purposes.Purpose.{Purpose}
use Rattle.loader.specs.declared.refusals.Refusal.{Refusal}
use Rattle.loader.specs.declared.refusals.Refusal.TheVariants.{Long}

-- a file that is asked for: what it is for, its name, and the most bytes that it may have
pub record Ask : Type 0 where
  pub purpose : Purpose
  pub name : List ℕ
  pub limit : ℕ

-- it gives something, or a file is refused, or a file is missing
pub data End (A : Type 0) : Type 0 where
  Gives : A → End A
  Refuses : Refusal → End A
  Lacks : End A

-- the files that are asked for, in order, the last of them that which is missing or refused, if one is; and the end
pub record Course (A : Type 0) : Type 0 where
  pub asks : List Ask
  pub end : End A

abbrev pub Work : Type 0 → Type 0
Work A = List NamedBytes → Course A

-- ---- without a file

abbrev pub gives : {A : Type 0} → A → Work A
gives x files = record { asks = []; end = Gives x }

abbrev pub end_of : {A : Type 0} → Result A Refusal → End A
end_of (Ok x) = Gives x
end_of (Err refusal) = Refuses refusal

-- what is read of bytes that are there
abbrev pub reads : {A : Type 0} → Result A Refusal → Work A
reads read files = record { asks = []; end = end_of read }

-- ---- one file

abbrev pub end_for : Purpose → ℕ → Option (List ℕ) → End (List ℕ)
end_for purpose limit None = Lacks
end_for purpose limit (Some bytes) = if nat_le (length bytes) limit then Gives bytes else Refuses (Long purpose)

-- the bytes of a file
abbrev pub ask : Purpose → List ℕ → ℕ → Work (List ℕ)
ask purpose name limit files = record {
  asks = record { purpose = purpose; name = name; limit = limit } ∷ [];
  end = end_for purpose limit (bytes_of files name);
}

-- ---- one after another

abbrev pub course_behind : {A B : Type 0} → List Ask → End A → (A → Course B) → Course B
course_behind asks (Gives x) f = record { asks = asks ++ (f x).asks; end = (f x).end }
course_behind asks (Refuses refusal) f = record { asks = asks; end = Refuses refusal }
course_behind asks Lacks f = record { asks = asks; end = Lacks }

abbrev pub follow : {A B : Type 0} → Course A → (A → Course B) → Course B
follow course f = course_behind course.asks course.end f

infixl 1 ◌>>=◌
abbrev pub ◌>>=◌ : {A B : Type 0} → Work A → (A → Work B) → Work B
(work >>= f) files = follow (work files) (λ x. f x files)
