-- In every reached state, where the DC0 of every 3851 is D0, what is known of it is known of D0.
use Rattle.std.proofs.Common.{◌≡◌, ℕ, Bool, true, false, List, [], ◌∷◌, refl, ap, sym, subst}
use Rattle.std.specs.Prelude.{Option, Some, None, Ok, if◌then◌else◌, flat_map, map, option_and_then}
use Rattle.std.specs.List.{AllByRecursion}
use Rattle.std.proofs.lemmas.Bool.{and_parts, eqb-true}
use Rattle.f8_spec.specs.Instructions.{row_of}
use Rattle.f8_spec.specs.declared.instructions.Op.{Op}
use Rattle.f8_spec.specs.declared.instructions.Row.{Row}
use Rattle.f8_spec.specs.declared.instructions.Row.TheVariants.{DataFromQ, DataFromH, ReadData, StoreData, LoadData, Exchange, AddData}
use Rattle.abs_domain.specs.AbstractState.{AbstractState, KnownCounters}
use Rattle.abs_domain.specs.Joins.{joined_state, joined_counters}
use Rattle.abs_domain.specs.Lattice.{Below, common, same_number}
use Rattle.abs_domain.specs.declared.points.Point.{Point}
use Rattle.abs_domain.specs.declared.reason.Reason.{Reason}
use Rattle.abs_step.specs.CartridgeAnalysis.{analysis, answer_by, entry_of}
use Rattle.abs_step.specs.Known.{agree}
use Rattle.abs_step.specs.KnownFlow.{KnownInputs, with_loaded, with_moved, known_counters}
use Rattle.abs_step.specs.MapView.{MapView}
use Rattle.abs_step.specs.ReachedStates.{Reached, start, joined, next}
use Rattle.abs_step.specs.Safety.{op_at, unsafe_reason}
use Rattle.abs_step.specs.Successors.{Invariant, inputs_at, state_after, exits_of, along, all_along, same_point}
use Rattle.abs_step.specs.Successors.{with_invariant, with_invariants, successors}
use Rattle.abs_step.specs.declared.exits.Exit.{Exit}
use Rattle.abs_step.proofs.Covering.{all_flat, along_holds}
use Rattle.abs_step.proofs.Members.{in_of_contains, from_all, all_mapped}

-- where every DC0 of a 3851 is D0, what is known of it is known of D0
abbrev pub TiesCounters : AbstractState → Type 0
TiesCounters s = s.counters.p0 ≡ true → Below s.counters.d0 s.counters.c

-- and where it is D1 of D1, which XDC exchanges with D0
record TiesBoth (k : KnownCounters) : Type 0 where
  pub first : k.p0 ≡ true → Below k.d0 k.c
  pub second : k.p1 ≡ true → Below k.d1 k.c

-- ---- joins

below_itself : (o : Option ℕ) → Below o o
below_itself None = tt
below_itself (Some value) = refl

joined_tie : (a b c d : Option ℕ) → Below a c → Below b d → Below (common same_number a b) (common same_number c d)
joined_tie a b None d first second = tt
joined_tie a b (Some c) None first second = tt
joined_tie a b (Some c) (Some d) first second = rw (first, second) (below_itself (common same_number (Some c) (Some d)))

joined_ties : (k l : KnownCounters) → TiesBoth k → TiesBoth l → TiesBoth (joined_counters k l)
joined_ties k l h g = record {
  first = λ both. let parts = and_parts k.p0 l.p0 both in joined_tie k.d0 l.d0 k.c l.c (h.first parts.0) (g.first parts.1);
  second = λ both. let parts = and_parts k.p1 l.p1 both in joined_tie k.d1 l.d1 k.c l.c (h.second parts.0) (g.second parts.1);
}

-- ---- steps

agreed_tie : (c d : Option ℕ) → agree c d ≡ true → Below d c
agreed_tie None d same = tt
agreed_tie (Some c) None same = absurd (cc)
agreed_tie (Some c) (Some d) same = ap Some (sym (eqb-true c d same))

loaded_ties : (at : Option ℕ) (k : KnownCounters) → TiesBoth (with_loaded at k)
loaded_ties at k = record { first = λ is. below_itself at; second = λ same. agreed_tie at k.d1 same }

moved_tie : (moved : ℕ → Option ℕ) (d c : Option ℕ) → Below d c → Below (option_and_then moved d) (option_and_then moved c)
moved_tie moved d None tie = tt
moved_tie moved d (Some c) tie = rw tie (below_itself (moved c))

moved_ties : (moved : ℕ → Option ℕ) (k : KnownCounters) → TiesBoth k → TiesBoth (with_moved moved k)
moved_ties moved k h = record {
  first = λ is. moved_tie moved k.d0 k.c (h.first is);
  second = λ same. agreed_tie (option_and_then moved k.c) k.d1 same;
}

ties_after : (row : Row) (i : KnownInputs) (k : KnownCounters) → TiesBoth k → TiesBoth (known_counters row i k)
ties_after DataFromQ i k h = loaded_ties _ k
ties_after DataFromH i k h = loaded_ties _ k
ties_after LoadData i k h = loaded_ties _ k
ties_after ReadData i k h = moved_ties _ k h
ties_after StoreData i k h = moved_ties _ k h
ties_after AddData i k h = moved_ties _ k h
ties_after Exchange i k h = record { first = h.second; second = h.first }
ties_after row i k h = h

-- ---- what holds next

abbrev IsTied : Invariant → Type 0
IsTied x = TiesBoth x.state.counters

one_tied : (x : Invariant) (done : List Invariant) → IsTied x → AllByRecursion IsTied done → AllByRecursion IsTied (with_invariant x done)
one_tied x [] h all = (h, tt)
one_tied x (d ∷ ds) h all = by (same_point x.point d.point) (one_tied x ds h all.1)
  where
    by : (b : Bool) → AllByRecursion IsTied (with_invariant x ds) →
        AllByRecursion IsTied (if b then record d { state = joined_state d.state x.state } ∷ ds else d ∷ with_invariant x ds)
    by true rest = (joined_ties d.state.counters x.state.counters all.0 h, all.1)
    by false rest = (all.0, rest)

all_tied : (xs done : List Invariant) → AllByRecursion IsTied xs → AllByRecursion IsTied done →
    AllByRecursion IsTied (with_invariants xs done)
all_tied [] done more all = all
all_tied (x ∷ xs) done more all = all_tied xs (with_invariant x done) more.1 (one_tied x done more.0 all)

along_tied : (tracked vectors : List ℕ) (s : AbstractState) (es : List Exit) → TiesBoth s.counters →
    AllByRecursion IsTied (flat_map (along tracked vectors s) es)
along_tied tracked vectors s es h = all_flat IsTied (along tracked vectors s) es (by es)
  where
    by : (fs : List Exit) → AllByRecursion (λ f. AllByRecursion IsTied (along tracked vectors s f)) fs
    by [] = tt
    by (f ∷ fs) = (along_holds IsTied tracked vectors s f h (λ timer vector. h), by fs)

successors_tied : (op : Op) (m : MapView) (tracked : List ℕ) (x : Invariant) → IsTied x → AllByRecursion IsTied (successors op m tracked x)
unfolding successors
successors_tied op m tracked x h =
    let after = ties_after (row_of op) (inputs_at op m x) x.state.counters h in
    all_tied (all_along op m tracked x) [] (along_tied tracked _ (state_after op m x) (exits_of op m x) after) tt

-- ---- reached states

abbrev IsTiedEntry : Point × AbstractState → Type 0
IsTiedEntry e = TiesBoth e.1.counters

answers_tied : (m : MapView) (tracked : List ℕ) (x : Invariant) → IsTied x → (reason : Option Reason) (op : Option Op)
    (ways : List (Point × AbstractState)) → answer_by reason op m tracked x ≡ Ok ways → AllByRecursion IsTiedEntry ways
answers_tied m tracked x h (Some reason) op ways is = absurd (cc)
answers_tied m tracked x h None None ways is =
    let same : [] ≡ ways = cc in subst (AllByRecursion IsTiedEntry) same tt
answers_tied m tracked x h None (Some op) ways is =
    let same : map entry_of (successors op m tracked x) ≡ ways = cc in
    subst (AllByRecursion IsTiedEntry) same
    (all_mapped entry_of IsTiedEntry (successors op m tracked x) (successors_tied op m tracked x h))

module _ (m : MapView) (tracked : List ℕ) where
  both_tied : {p : Point} {s : AbstractState} → Reached (analysis m tracked) p s → TiesBoth s.counters
  both_tied start = record { first = λ is. absurd (cc); second = λ is. absurd (cc) }
  both_tied (joined {p} {s} {t} first second) = joined_ties s.counters t.counters (both_tied first) (both_tied second)
  both_tied (next {p} {q} {s} {t} {ways} before is way) =
      let x : Invariant = record { point = p; state = s } in
      let all = answers_tied m tracked x (both_tied before) (unsafe_reason m tracked x) (op_at m x) ways is in
      from_all IsTiedEntry ways (q, t) all (in_of_contains ways (q, t) way)

  pub least_ties : {p : Point} {s : AbstractState} → Reached (analysis m tracked) p s → TiesCounters s
  least_ties reached = (both_tied reached).first
