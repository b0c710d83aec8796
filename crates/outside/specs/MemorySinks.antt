-- The sinks in memory, as contracts see them.
use Rattle.std.specs.Prelude.{ℕ, ◌+◌, ◌-◌, ◌^◌, Bool, not, ◌&&◌, ◌==◌, nat_le, if◌then◌else◌, min, List, ◌++◌, length}
use Rattle.std.specs.Prelude.{take, Option, Some, None, is_some, option_map}
use Rattle.std.specs.List.{find}
use Rattle.outside.specs.Counts.{one_more}
use Rattle.outside.specs.SinkRules.{Output}
use Rattle.outside.specs.declared.cut_list.Cut.{Cut}

-- how many bytes go out first at a call that is to fail; of two entries for one call the first counts
abbrev pub sent_at : List Cut → ℕ → Option ℕ
sent_at cuts call = option_map (λ cut. cut.sent) (find (λ cut. cut.call == call) cuts)

-- A sink that can fail: the bytes kept, how many bytes it has room for, the calls that are to fail, how many calls there were, and its
-- count of faults.
pub record KeptBytes : Type 0 where
  pub bytes : List ℕ
  pub room : ℕ
  pub failing : List Cut
  pub calls : ℕ
  pub faults : ℕ

-- it tells all that it kept
abbrev pub output_of : KeptBytes → Output
output_of s = record { written = Some s.bytes; faults = s.faults }

-- the call that comes is to fail, once so many bytes went out
abbrev pub next_cut : KeptBytes → Option ℕ
next_cut s = sent_at s.failing (one_more s.calls)

abbrev pub room_left : KeptBytes → ℕ
room_left s = s.room - length s.bytes

-- the put that comes succeeds with this piece
abbrev pub takes_whole : KeptBytes → List ℕ → Bool
takes_whole s piece = not (is_some (next_cut s)) && nat_le (length piece) (room_left s)

-- how many bytes of a piece go out at a fault, where it has so many: what there is room for, and no more than the cut says
abbrev pub most_sent : Option ℕ → ℕ → ℕ
most_sent None left = left
most_sent (Some sent) left = min sent left

-- The sink after a put: the whole piece more, or at a fault a first part of it, which is the whole piece where that is short.
abbrev pub after_put : KeptBytes → List ℕ → KeptBytes
after_put s piece =
    if takes_whole s piece then record s { calls = one_more s.calls; bytes = s.bytes ++ piece } else
    record s {
      calls = one_more s.calls;
      faults = one_more s.faults;
      bytes = s.bytes ++ take (most_sent (next_cut s) (room_left s)) piece;
    }

-- A sink that never fails: the bytes kept, how many bytes it has room for, and how many came that it did not keep.
pub record SureBytes : Type 0 where
  pub bytes : List ℕ
  pub room : ℕ
  pub lost : ℕ

-- it tells what it kept while nothing is lost, and has no fault
abbrev pub sure_output_of : SureBytes → Output
sure_output_of s = record { written = if s.lost == 0 then Some s.bytes else None; faults = 0 }

-- the sink after a put: once a piece is past the room, it and all later ones are only counted, up to the greatest u64
abbrev pub after_sure_put : SureBytes → List ℕ → SureBytes
after_sure_put s piece =
    if (s.lost == 0) && nat_le (length piece) (s.room - length s.bytes) then record s { bytes = s.bytes ++ piece } else
    record s { lost = min (s.lost + length piece) (2 ^ 64 - 1) }
