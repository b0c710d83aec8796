-- What the sinks in memory keep, put by put, worked out by hand and computed from the definitions.
use Rattle.std.proofs.Common.{◌≡◌, true, List, [], ◌∷◌, refl}
use Rattle.std.specs.Prelude.{codes, Some, None}
use Rattle.outside.specs.MemorySinks.{KeptBytes, SureBytes, sent_at, most_sent, takes_whole, after_put, output_of, after_sure_put}
use Rattle.outside.specs.MemorySinks.{sure_output_of}
use Rattle.outside.specs.declared.cut_list.Cut.{Cut}

-- ---- which calls fail, and what goes out of them

-- the second call is to fail with nothing, the third with two bytes, the fourth with nine, and the seventh with three
abbrev cuts : List Cut
cuts =
    record { call = 2; sent = 0 } ∷ record { call = 3; sent = 2 } ∷ record { call = 4; sent = 9 } ∷ record { call = 7; sent = 3 } ∷ []

whole_call : sent_at cuts 1 ≡ None
whole_call = refl

cut_call : sent_at cuts 3 ≡ Some 2
cut_call = refl

first_entry_counts : sent_at (record { call = 3; sent = 1 } ∷ cuts) 3 ≡ Some 1
first_entry_counts = refl

by_the_room : most_sent None 5 ≡ 5
by_the_room = refl

by_the_cut : most_sent (Some 2) 5 ≡ 2
by_the_cut = refl

by_the_room_where_it_is_less : most_sent (Some 9) 5 ≡ 5
by_the_room_where_it_is_less = refl

-- ---- a sink of eight bytes

abbrev start : KeptBytes
start = record { bytes = []; room = 8; failing = cuts; calls = 0; faults = 0 }

abbrev first : KeptBytes
first = after_put start (codes "AB")

put_whole : output_of first ≡ record { written = Some (codes "AB"); faults = 0 }
put_whole = refl

abbrev second : KeptBytes
second = after_put first (codes "C")

nothing_goes_out : output_of second ≡ record { written = Some (codes "AB"); faults = 1 }
nothing_goes_out = refl

abbrev third : KeptBytes
third = after_put second (codes "DEF")

two_bytes_go_out : output_of third ≡ record { written = Some (codes "ABDE"); faults = 2 }
two_bytes_go_out = refl

-- a piece that is shorter than its cut goes out whole, and the call fails
abbrev fourth : KeptBytes
fourth = after_put third (codes "G")

short_piece : output_of fourth ≡ record { written = Some (codes "ABDEG"); faults = 3 }
short_piece = refl

-- no byte is a piece too
abbrev fifth : KeptBytes
fifth = after_put fourth []

empty_piece : takes_whole fourth [] ≡ true
empty_piece = refl

-- three bytes fill the room
abbrev sixth : KeptBytes
sixth = after_put fifth (codes "HIJKL")

room_is_full : output_of sixth ≡ record { written = Some (codes "ABDEGHIJ"); faults = 4 }
room_is_full = refl

after_the_room : output_of (after_put sixth (codes "M")) ≡ record { written = Some (codes "ABDEGHIJ"); faults = 5 }
after_the_room = refl

seven_calls : (after_put sixth (codes "M")).calls ≡ 7
seven_calls = refl

-- ---- a sink that never fails, of four bytes

abbrev sure_start : SureBytes
sure_start = record { bytes = []; room = 4; lost = 0 }

abbrev sure_second : SureBytes
sure_second = after_sure_put (after_sure_put sure_start (codes "AB")) (codes "C")

sure_tells : sure_output_of sure_second ≡ record { written = Some (codes "ABC"); faults = 0 }
sure_tells = refl

-- a piece past the room is counted and not kept, and so is all behind it
sure_lost : after_sure_put (after_sure_put sure_second (codes "DEF")) (codes "G") ≡ record { bytes = codes "ABC"; room = 4; lost = 4 }
sure_lost = refl

sure_tells_no_more : sure_output_of (after_sure_put sure_second (codes "DEF")) ≡ record { written = None; faults = 0 }
sure_tells_no_more = refl
