-- What a writer took of a piece, where the bytes that it holds are known.
use Rattle.std.specs.Prelude.{◌≡◌, ℕ, List, ◌++◌, Option}
use Rattle.std.specs.Io.KnownBytes.{Appends}

-- it holds a first part of the piece more, which may be none of it or all
pub record AppendsPart (old new : Option (List ℕ)) (piece : List ℕ) : Type 0 where
  pub part : List ℕ
  pub rest : List ℕ
  pub whole : piece ≡ part ++ rest
  pub appended : Appends old new part
