-- Pieces that were read, one after another.
use Rattle.std.proofs.Common.{ℕ, List, [], ◌++◌, Option, sym, subst, arith, length-append}
use Rattle.std.specs.Io.KnownBytes.{Consumes}
use Rattle.std.proofs.KnownBytes.{Consumes-nil, Consumes-trans}
use Rattle.outside.specs.Reading.{PieceRead, ReadWithoutRoom}

pub reads_none : (told : Option (List ℕ)) → Consumes told told []
reads_none told = Consumes-nil told

pub reads_more : (a b c : Option (List ℕ)) (before after : List ℕ) (count : ℕ) → Consumes a b before → PieceRead b c before after count → Consumes a c after
reads_more a b c before after count first read =
    subst (Consumes a c) (sym read.appended) (Consumes-trans a b c before read.piece first read.consumed)

pub reads_without_room : (a b c : Option (List ℕ)) (before : List ℕ) → Consumes a b before → ReadWithoutRoom b c → ReadWithoutRoom a c
reads_without_room a b c before first last = record {
  bytes = before ++ last.bytes;
  consumed = Consumes-trans a b c before last.bytes first last.consumed;
  some = omega (arith, length-append before last.bytes, last.some);
}
