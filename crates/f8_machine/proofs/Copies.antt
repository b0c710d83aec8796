-- The chips of a rack and the copies of their counters, along bus steps.
use Rattle.std.proofs.Common.{◌≡◌, ℕ, zero, suc, ◌+◌, Bool, true, false, List, [], ◌∷◌, map, refl, ap, ◌∙◌, sym, subst}
use Rattle.std.specs.Prelude.{if◌then◌else◌, Some, None, slice_get}
use Rattle.std.specs.List.{enumerate_from}
use Rattle.f8_spec.specs.BusCodes.{Count, count_at, counter_of, moved_by}
use Rattle.f8_spec.specs.ChipState.{ChipView, after_step, has_counters, has_second_counter}
use Rattle.f8_spec.specs.BusArbitration.{Seat, seat_of, place_by, place_in, named_placed, ruling, view_ruling}
use Rattle.f8_spec.specs.declared.bus.Counter.{Counter}
use Rattle.f8_spec.specs.declared.bus.Counter.TheVariants.{Pc0, Pc1, Dc0, NoCounter}
use Rattle.f8_spec.specs.declared.chips.ChipKind.{ChipKind}
use Rattle.f8_spec.specs.declared.instructions.Row.{Row}
use Rattle.console_spec.specs.Processor.{Flow, Inputs, counters_after}
use Rattle.console_spec.specs.CounterCopies.{Copy, copies_after, own_counts}
use Rattle.console_spec.specs.BusAccesses.{Access}
use Rattle.console_spec.specs.Services.{own_place, placed_copy, access_ruling}
use Rattle.console_spec.specs.Run.{seats_of}
use Rattle.console_spec.specs.CounterCopies.{fetched}
use Rattle.f8_spec.specs.ChipState.{IsFilled}
use Rattle.f8_machine.specs.RackViews.{IsCopy, AreCopies}
use Rattle.f8_machine.proofs.Slots.{plain_step, seat_of-after, counters-after, filled-after}

-- ---- what the bus reads of them

pub seats_same : (now : Bool → Flow → Count) (last : ℕ) (cs : List Copy) (vs : List ChipView) →
    AreCopies now last cs vs → map seat_of vs ≡ seats_of cs
seats_same now last [] [] are = refl
seats_same now last [] (v ∷ vs) are = absurd are
seats_same now last (c ∷ cs) [] are = absurd are
seats_same now last (c ∷ cs) (v ∷ vs) are = rw (are.0.seat, seats_same now last cs vs are.1) refl

pub all_filled : (now : Bool → Flow → Count) (last : ℕ) (cs : List Copy) (vs : List ChipView) →
    AreCopies now last cs vs →
    (k : ℕ) (v : ChipView) → slice_get vs k ≡ Some v → IsFilled v
all_filled now last [] [] are k v here = cc
all_filled now last [] (w ∷ vs) are k v here = absurd are
all_filled now last (c ∷ cs) [] are k v here = absurd are
all_filled now last (c ∷ cs) (w ∷ vs) are zero v here = let same : w ≡ v = cc in subst IsFilled same are.0.filled
all_filled now last (c ∷ cs) (w ∷ vs) are (suc k) v here = all_filled now last cs vs are.1 k v here

pub all_heard : (now : Bool → Flow → Count) (last : ℕ) (cs : List Copy) (vs : List ChipView) →
    AreCopies now last cs vs →
    (k : ℕ) (v : ChipView) → slice_get vs k ≡ Some v → v.last ≡ last
all_heard now last [] [] are k v here = cc
all_heard now last [] (w ∷ vs) are k v here = absurd are
all_heard now last (c ∷ cs) [] are k v here = absurd are
all_heard now last (c ∷ cs) (w ∷ vs) are zero v here = let same : w ≡ v = cc in
    ap (λ (x : ChipView). x.last) (sym same) ∙ are.0.heard
all_heard now last (c ∷ cs) (w ∷ vs) are (suc k) v here = all_heard now last cs vs are.1 k v here

-- a place in a step is the same by the place that another set of counters has in it
idle_place : (counter : Counter) (own other : Count) (last : ℕ) →
    place_by counter own (place_by counter other last) ≡ place_by counter own last
idle_place Pc0 own other last = refl
idle_place Pc1 own other last = refl
idle_place Dc0 own other last = refl
idle_place NoCounter own other last = refl

-- the place of a chip that has counters, and of one that has none
place_is : (now : Bool → Flow → Count) (last romc : ℕ) (a : Access) → a.romc ≡ romc →
    ((second : Bool) (c : Flow) → place_in romc (now second c) last ≡ a.place second c) → (kind : ChipKind) (c : Flow) →
    place_in romc (own_counts kind (now (has_second_counter kind) c)) last ≡ own_place a kind c
place_is now last romc a code place kind c = by (has_counters kind)
  where
    by : (has : Bool) → place_in romc (if has then now (has_second_counter kind) c else count_at 0) last
        ≡ (if has then a.place (has_second_counter kind) c else place_in a.romc (count_at 0) (a.place true c))
    by true = place (has_second_counter kind) c
    by false = sym (
        ap (λ (n : ℕ). place_in n (count_at 0) (a.place true c)) code
        ∙ ap (place_in romc (count_at 0)) (sym (place true c)) ∙ idle_place (counter_of romc) (count_at 0) (now true c) last)

-- a chip's own place in a step is the place of the access on its copy
placed_same : (now : Bool → Flow → Count) (last romc : ℕ) (a : Access) → a.romc ≡ romc →
    ((second : Bool) (c : Flow) → place_in romc (now second c) last ≡ a.place second c) →
    (n : ℕ) (cs : List Copy) (vs : List ChipView) → AreCopies now last cs vs →
    map (named_placed romc) (enumerate_from n vs) ≡ enumerate_from n (map (placed_copy a) cs)
placed_same now last romc a code place n [] [] are = refl
placed_same now last romc a code place n [] (v ∷ vs) are = absurd are
placed_same now last romc a code place n (c ∷ cs) [] are = absurd are
placed_same now last romc a code place n (c ∷ cs) (v ∷ vs) are =
    rw (
      are.0.seat,
      are.0.counters,
      are.0.heard,
      place_is now last romc a code place c.seat.kind c.flow,
      placed_same now last romc a code place (n + 1) cs vs are.1,
    ) refl

-- the bus rule on the chips is the rule on the access
pub ruling_same : (now : Bool → Flow → Count) (last romc reference : ℕ) (a : Access) (c : Flow) (cs : List Copy)
    (vs : List ChipView) →
    a.romc ≡ romc → ((second : Bool) (x : Flow) → place_in romc (now second x) last ≡ a.place second x) →
    reference ≡ a.place true c → AreCopies now last cs vs →
    view_ruling romc None reference (enumerate_from 0 vs) ≡ access_ruling c cs a
ruling_same now last romc reference a c cs vs code place at are =
    ap (λ xs. ruling romc None reference xs) (placed_same now last romc a code place 0 cs vs are)
    ∙ ap (λ (r : ℕ). ruling romc None r (enumerate_from 0 (map (placed_copy a) cs))) at
    ∙ ap (λ (r : ℕ). ruling r None (a.place true c) (enumerate_from 0 (map (placed_copy a) cs))) (sym code)

-- ---- a step

-- the counters of a chip without any stay
own_moved : (kind : ChipKind) (romc byte : ℕ) (c : Count) →
    (if has_counters kind then moved_by romc byte (has_second_counter kind) (own_counts kind c) else own_counts kind c)
    ≡ own_counts kind (moved_by romc byte (has_second_counter kind) c)
own_moved kind romc byte c = by (has_counters kind)
  where
    by : (has : Bool) → (if has then moved_by romc byte (has_second_counter kind) (if has then c else count_at 0) else
        if has then c else count_at 0) ≡ (if has then moved_by romc byte (has_second_counter kind) c else count_at 0)
    by true = refl
    by false = refl

copy_more : (now : Bool → Flow → Count) (last romc byte clocks : ℕ) (c : Copy) (v : ChipView) → IsCopy now last c v →
    IsCopy (λ second x. moved_by romc byte second (now second x)) byte c (after_step (plain_step romc byte clocks) v)
copy_more now last romc byte clocks c v is = record {
  seat = seat_of-after romc byte clocks v ∙ is.seat;
  counters = counters-after romc byte clocks v
      ∙ ap (λ (s : Seat). if has_counters s.kind then moved_by romc byte (has_second_counter s.kind) v.counters else v.counters) is.seat
      ∙ ap (λ (x : Count). if has_counters c.seat.kind then moved_by romc byte (has_second_counter c.seat.kind) x else x) is.counters
      ∙ own_moved c.seat.kind romc byte (now (has_second_counter c.seat.kind) c.flow);
  heard = refl;
  filled = filled-after romc byte clocks v is.filled;
}

pub copies_more : (now : Bool → Flow → Count) (last romc byte clocks : ℕ) (cs : List Copy) (vs : List ChipView) →
    AreCopies now last cs vs →
    AreCopies (λ second x. moved_by romc byte second (now second x)) byte cs
    (map (after_step (plain_step romc byte clocks)) vs)
copies_more now last romc byte clocks [] [] are = tt
copies_more now last romc byte clocks [] (v ∷ vs) are = absurd are
copies_more now last romc byte clocks (c ∷ cs) [] are = absurd are
copies_more now last romc byte clocks (c ∷ cs) (v ∷ vs) are =
    (copy_more now last romc byte clocks c v are.0, copies_more now last romc byte clocks cs vs are.1)

-- at the end of an instruction the chips stand at the copies after it
pub copies_end : (now : Bool → Flow → Count) (last : ℕ) (row : Row) (i : Inputs) (cs : List Copy) (vs : List ChipView) →
    ((second : Bool) (c : Flow) → now second c ≡ fetched (counters_after row i second c)) → AreCopies now last cs vs →
    AreCopies (λ second c. fetched c) last (copies_after row i cs) vs
copies_end now last row i [] [] moves are = tt
copies_end now last row i [] (v ∷ vs) moves are = absurd are
copies_end now last row i (c ∷ cs) [] moves are = absurd are
copies_end now last row i (c ∷ cs) (v ∷ vs) moves are = (
  record {
    seat = are.0.seat;
    counters = are.0.counters ∙ ap (own_counts c.seat.kind) (moves (has_second_counter c.seat.kind) c.flow);
    heard = are.0.heard;
    filled = are.0.filled;
  },
  copies_end now last row i cs vs moves are.1,
)

-- the same counters, said otherwise
pub copies_same : (now other : Bool → Flow → Count) (last : ℕ) (cs : List Copy) (vs : List ChipView) →
    ((second : Bool) (c : Flow) → now second c ≡ other second c) → AreCopies now last cs vs → AreCopies other last cs vs
copies_same now other last [] [] same are = tt
copies_same now other last [] (v ∷ vs) same are = absurd are
copies_same now other last (c ∷ cs) [] same are = absurd are
copies_same now other last (c ∷ cs) (v ∷ vs) same are = (
  record {
    seat = are.0.seat;
    counters = are.0.counters ∙ ap (own_counts c.seat.kind) (same (has_second_counter c.seat.kind) c.flow);
    heard = are.0.heard;
    filled = are.0.filled;
  },
  copies_same now other last cs vs same are.1,
)
