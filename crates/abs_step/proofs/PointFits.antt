-- States fit their points: at the start, where two at one point are joined, and in all that holds next.
use Rattle.std.proofs.Common.{◌≡◌, ℕ, zero, suc, ◌<◌, Bool, true, false, List, [], ◌∷◌, ◌++◌, refl, subst, arith}
use Rattle.std.specs.Prelude.{Option, Some, None, option_map, slice_index_or, if◌then◌else◌, flat_map, replicate}
use Rattle.std.specs.List.{AllByRecursion}
use Rattle.f8_spec.specs.Words.{places_on, displaced}
use Rattle.f8_spec.specs.Instructions.{row_of, row_length}
use Rattle.f8_spec.specs.declared.instructions.Op.{Op}
use Rattle.f8_spec.specs.declared.instructions.Row.{Row}
use Rattle.f8_spec.specs.declared.instructions.Row.TheVariants.{StackFromK, CallK, JumpQ, Return, Call, Jump, Branch, BranchIsar}
use Rattle.abs_domain.specs.AbstractState.{AbstractState, HasScratchpad}
use Rattle.abs_domain.specs.Joins.{joined_state}
use Rattle.abs_domain.specs.declared.points.Point.{Point}
use Rattle.abs_domain.proofs.Bounds.{join_laws}
use Rattle.abs_step.specs.KnownFlow.{KnownInputs, exit_to, branch_exits, branch_target, exits}
use Rattle.abs_step.specs.declared.exits.Exit.{Exit}
use Rattle.abs_step.specs.MapView.{MapView}
use Rattle.abs_step.specs.Successors.{Invariant, start_point, start_state, state_after, exits_of, inputs_at, along, all_along}
use Rattle.abs_step.specs.Successors.{same_point, with_invariant, with_invariants, successors}
use Rattle.abs_step.specs.Safety.{op_at}
use Rattle.abs_step.specs.CartridgeAnalysis.{IsWithinRange, FitsPoint, TellsBytes}
use Rattle.abs_step.specs.Vectors.{with_interrupts_off}
use Rattle.abs_step.proofs.Covering.{all_flat, along_holds, same_by, pad_after}
use Rattle.abs_step.proofs.TrackedFits.{fits}
use Rattle.abs_step.proofs.Ranges.{GetsBytes, displaced_small}
use Rattle.abs_step.proofs.KnownNumbers.{IsBelow, none_below, some_below, common_below, common_each_below, word_below}
use Rattle.abs_step.proofs.KnownRanges.{filled_inputs, inputs_small, after_in_range}

-- ---- exits

record IsSmallExit (e : Exit) : Type 0 where
  pub at : e.at < 65536
  pub ret : IsBelow 65536 e.ret

small_to : (at ret : Option ℕ) → IsBelow 65536 at → IsBelow 65536 ret → AllByRecursion IsSmallExit (exit_to at ret)
small_to None ret p q = tt
small_to (Some at) ret p q = (record { at = p at refl; ret = q }, tt)

both_small : (es fs : List Exit) → AllByRecursion IsSmallExit es → AllByRecursion IsSmallExit fs → AllByRecursion IsSmallExit (es ++ fs)
both_small [] fs p q = q
both_small (e ∷ es) fs p q = (p.0, both_small es fs p.1 q)

branch_small : (taken : Option Bool) (target : Option ℕ) (next : ℕ) (ret : Option ℕ) → IsBelow 65536 target → next < 65536 →
    IsBelow 65536 ret →
    AllByRecursion IsSmallExit (branch_exits taken target next ret)
branch_small (Some true) target next ret p q r = small_to target ret p r
branch_small (Some false) target next ret p q r = small_to (Some next) ret (some_below 65536 next q) r
branch_small None target next ret p q r = both_small (exit_to target ret) (exit_to (Some next) ret) (small_to target ret p r)
    (small_to (Some next) ret (some_below 65536 next q) r)

target_small : (at : ℕ) (i : KnownInputs) → IsBelow 65536 (branch_target at i)
target_small at i = by i.operand
  where
    by : (o : Option ℕ) → IsBelow 65536 (option_map (displaced (places_on at 1)) o)
    by None = none_below 65536
    by (Some byte) = some_below 65536 (displaced (places_on at 1) byte) (displaced_small (places_on at 1) byte)

on_small : (at n : ℕ) → IsBelow 65536 (Some (places_on at n))
on_small at n = some_below 65536 (places_on at n) (omega arith)

exits_small : (row : Row) (i : KnownInputs) (at : ℕ) (ret : Option ℕ) → GetsBytes (filled_inputs i) → IsBelow 65536 ret →
    AllByRecursion IsSmallExit (exits row i at ret)
exits_small StackFromK i at ret g h = small_to (Some (places_on at 1)) _ (on_small at 1) (word_below i.k_high i.k_low g.k_high g.k_low)
exits_small CallK i at ret g h = small_to _ (Some (places_on at 1)) (word_below i.k_high i.k_low g.k_high g.k_low) (on_small at 1)
exits_small JumpQ i at ret g h = small_to _ ret (word_below i.q_high i.q_low g.q_high g.q_low) h
exits_small Return i at ret g h = small_to ret ret h h
exits_small Call i at ret g h = small_to _ (Some (places_on at 3)) (word_below i.operand i.second g.operand g.second) (on_small at 3)
exits_small Jump i at ret g h = small_to _ ret (word_below i.operand i.second g.operand g.second) h
exits_small Branch i at ret g h = branch_small i.taken _ (places_on at 2) ret (target_small at i) (omega arith) h
exits_small BranchIsar i at ret g h = branch_small i.taken _ (places_on at 2) ret (target_small at i) (omega arith) h
exits_small row i at ret g h = small_to (Some (places_on at (row_length row))) ret (on_small at (row_length row)) h

-- ---- the start and joins

none_at : (n k : ℕ) → IsBelow 256 (slice_index_or (replicate n None) k None)
none_at zero k = none_below 256
none_at (suc n) zero = none_below 256
none_at (suc n) (suc k) = none_at n k

pub start_fits : (tracked : List ℕ) → FitsPoint tracked start_point start_state
start_fits tracked = record {
  split = fits.start tracked;
  scratchpad = refl;
  range = record {
    accumulator = none_below 256;
    high = none_below 8;
    low = none_below 8;
    scratchpad = none_at 64;
    d0 = some_below 65536 0 (omega arith);
    d1 = some_below 65536 0 (omega arith);
    c = none_below 65536;
  };
  at = omega arith;
  ret = none_below 65536;
}

pub joined_fits : (tracked : List ℕ) (p : Point) (s t : AbstractState) → FitsPoint tracked p s → FitsPoint tracked p t →
    FitsPoint tracked p (joined_state s t)
joined_fits tracked p s t first second =
    let range = first.range in
    record {
      split = fits.joined tracked p s t first.scratchpad second.scratchpad first.split second.split;
      scratchpad = join_laws.scratchpad s t first.scratchpad second.scratchpad;
      range = record {
        accumulator = common_below 256 s.registers.accumulator t.registers.accumulator range.accumulator;
        high = common_below 8 s.registers.high t.registers.high range.high;
        low = common_below 8 s.registers.low t.registers.low range.low;
        scratchpad = common_each_below 256 s.registers.scratchpad t.registers.scratchpad range.scratchpad;
        d0 = common_below 65536 s.counters.d0 t.counters.d0 range.d0;
        d1 = common_below 65536 s.counters.d1 t.counters.d1 range.d1;
        c = common_below 65536 s.counters.c t.counters.c range.c;
      };
      at = first.at;
      ret = first.ret;
    }

-- ---- what holds next

module _ (tracked : List ℕ) where
  abbrev pub IsFitting : Invariant → Type 0
  IsFitting x = FitsPoint tracked x.point x.state

  one_fits : (x : Invariant) (done : List Invariant) → IsFitting x → AllByRecursion IsFitting done →
      AllByRecursion IsFitting (with_invariant x done)
  one_fits x [] h all = (h, tt)
  one_fits x (d ∷ ds) h all = by (same_point x.point d.point) refl (one_fits x ds h all.1)
    where
      by : (b : Bool) → same_point x.point d.point ≡ b → AllByRecursion IsFitting (with_invariant x ds) →
          AllByRecursion IsFitting (if b then record d { state = joined_state d.state x.state } ∷ ds else d ∷ with_invariant x ds)
      by true e rest =
          let same : x.point ≡ d.point = same_by x.point d.point _ refl e in
          (joined_fits tracked d.point d.state x.state all.0 (subst (λ (p : Point). FitsPoint tracked p x.state) same h), all.1)
      by false e rest = (all.0, rest)

  all_fit : (xs done : List Invariant) → AllByRecursion IsFitting xs → AllByRecursion IsFitting done →
      AllByRecursion IsFitting (with_invariants xs done)
  all_fit [] done more all = all
  all_fit (x ∷ xs) done more all = all_fit xs (with_invariant x done) more.1 (one_fits x done more.0 all)

  off_range : (s : AbstractState) → IsWithinRange s → IsWithinRange (with_interrupts_off s)
  off_range s range = record {
    accumulator = range.accumulator;
    high = range.high;
    low = range.low;
    scratchpad = range.scratchpad;
    d0 = range.d0;
    d1 = range.d1;
    c = range.c;
  }

  along_fits : (vectors : List ℕ) (s : AbstractState) (es : List Exit) → HasScratchpad s → IsWithinRange s →
      AllByRecursion IsSmallExit es → AllByRecursion IsFitting (flat_map (along tracked vectors s) es)
  along_fits vectors s es pad range small = all_flat IsFitting (along tracked vectors s) es (by es small)
    where
      by : (fs : List Exit) → AllByRecursion IsSmallExit fs → AllByRecursion (λ f. AllByRecursion IsFitting (along tracked vectors s f)) fs
      by [] h = tt
      by (f ∷ fs) h = (
        along_holds IsFitting tracked vectors s f (record { split = refl; scratchpad = pad; range = range; at = h.0.at; ret = h.0.ret })
            (λ timer vector.
            record { split = refl; scratchpad = pad; range = off_range s range; at = omega arith; ret = some_below 65536 f.at h.0.at }),
        by fs h.1,
      )

  pub successors_fit : (m : MapView) → TellsBytes m → (x : Invariant) → IsFitting x → (op : Op) → op_at m x ≡ Some op →
      AllByRecursion IsFitting (successors op m tracked x)
  unfolding successors
  successors_fit m tells x h op is =
      let small =
      exits_small (row_of op) (inputs_at op m x) x.point.at x.point.ret (inputs_small m tells tracked x.point x.state h op is) h.ret in
      all_fit (all_along op m tracked x) [] (along_fits _ (state_after op m x) (exits_of op m x) (pad_after op m x h.scratchpad)
      (after_in_range m tells tracked x.point x.state h op is) small) tt
