-- What is safe where no vector is followed, and each chip that can interrupt counts as written, is safe where vectors are followed: there no
-- interrupt is let in.
use Rattle.std.proofs.Common.{◌≡◌, ℕ, Bool, true, false, ◌&&◌, ◌||◌, List, [], ◌∷◌, map, refl, ap, sym, ◌∙◌, subst}
use Rattle.std.specs.Prelude.{Option, Some, None, not, if◌then◌else◌, flat_map, Result, Ok}
use Rattle.std.specs.List.{Contains, cons_option}
use Rattle.f8_spec.specs.ChipState.{ChipView, has_fixed_vector}
use Rattle.f8_spec.specs.Instructions.{decoded, row_of}
use Rattle.f8_spec.specs.Words.{places_on}
use Rattle.f8_spec.specs.declared.instructions.Op.{Op}
use Rattle.f8_spec.specs.declared.instructions.Row.{Row}
use Rattle.f8_spec.specs.declared.instructions.Row.TheVariants.{PortIn, PortOut, ShortIn, ShortOut, StackToK}
use Rattle.console_spec.specs.Processor.{port_field}
use Rattle.memory_map.specs.MapKinds.{some_wired, some_written, told_vectors}
use Rattle.memory_map.specs.MapOf.{views_of}
use Rattle.chip_face.specs.declared.specification.ChipSpec.{ChipSpec}
use Rattle.abs_domain.specs.AbstractState.{AbstractState, KnownCounters}
use Rattle.abs_domain.specs.declared.points.Point.{Point}
use Rattle.abs_domain.specs.declared.reason.Reason.{Reason}
use Rattle.abs_step.specs.CartridgeAnalysis.{analysis, answer_at, as_invariant, entry_of}
use Rattle.abs_step.specs.WithoutVectors.{WithoutVectorsLaw, has_vectors, without_vectors}
use Rattle.abs_step.specs.MapView.{MapView, chips_view, holds_every_address}
use Rattle.abs_step.specs.ReachedStates.{IsSafelyClosed}
use Rattle.abs_step.specs.Safety.{goes_by_data, is_answered, is_fault_free, is_op_fault_free, may_be_held_by_psu, may_be_shared, may_part}
use Rattle.abs_step.specs.Safety.{op_at}
use Rattle.abs_step.specs.Safety.{port_is_bad, reads_at_data, return_is_unheld, unsafe_reason, vector_is_lost}
use Rattle.abs_step.specs.Successors.{Invariant, along, exits_of, state_after, successors, with_invariants}
use Rattle.abs_step.specs.Vectors.{keeps_interrupts_out, vectors_let_in}
use Rattle.console_spec.specs.Run.{Position, gets_at, opcode_at}
use Rattle.abs_step.specs.SoundSteps.{IsBeside}
use Rattle.abs_step.proofs.CartridgeLaws.{next_is}
use Rattle.abs_step.proofs.Members.{IsIn}
use Rattle.abs_step.proofs.Opcodes.{decoded_in_range}
use Rattle.abs_step.proofs.SafeSteps.{IsSafeHere, chosen_is_followed}
use Rattle.abs_step.proofs.Standing.{opcode_told}
use Rattle.abs_step.proofs.Reasons.{IsSafeState, safe_state}
use Rattle.abs_step.proofs.SafeBelow.{safe_of}

-- ---- some chip can interrupt

wired_of : (vs : List ChipView) → (has_vectors (told_vectors vs) || some_written vs) ≡ some_wired vs
wired_of [] = refl
wired_of (v ∷ vs) = by v.wired (has_fixed_vector v.kind) (told_vectors vs) (wired_of vs)
  where
    by : (wired fixed : Bool) (told : List ℕ) → (has_vectors told || some_written vs) ≡ some_wired vs →
        (has_vectors (cons_option (if wired && fixed then Some v.vector else None) told) || ((wired && not fixed) || some_written vs))
        ≡ (wired || some_wired vs)
    by true true told later = refl
    by true false [] later = refl
    by true false (n ∷ ns) later = refl
    by false fixed told later = later

wired_told : (chips : List ChipSpec) → (without_vectors (chips_view chips)).written ≡ some_wired (views_of chips)
unfolding chips_view
wired_told chips = wired_of (views_of chips)

-- ---- one step

-- where no interrupt may be taken, no vector is followed and none is lost
kept_out : (keeps written : Bool) (vectors : List ℕ) → (not keeps && (has_vectors vectors || written)) ≡ false →
    ((not keeps && written) ≡ false) × ((if keeps then [] else vectors) ≡ [])
kept_out true written vectors e = (refl, refl)
kept_out false written [] e = (e, refl)
kept_out false written (v ∷ vs) e = absurd (cc)

alike : (keeps : Bool) (vectors : List ℕ) → (if keeps then vectors else vectors) ≡ vectors
alike true vectors = refl
alike false vectors = refl

module _ (m : MapView) where
  abbrev old : MapView
  old = without_vectors m

  same_held : (at : Option ℕ) → may_be_held_by_psu old at ≡ may_be_held_by_psu m at
  same_held None = refl
  same_held (Some at) = refl

  same_part : (row : Row) (k : KnownCounters) → may_part row old k ≡ may_part row m k
  same_part row k = rw (same_held k.c) refl

  same_unheld : (row : Row) (ret : Option ℕ) → return_is_unheld row old ret ≡ return_is_unheld row m ret
  same_unheld StackToK None = refl
  same_unheld StackToK (Some ret) = refl
  same_unheld row ret = refl

  same_port : (row : Row) (operand : Option ℕ) (field : ℕ) → port_is_bad row old operand field ≡ port_is_bad row m operand field
  same_port PortIn operand field = refl
  same_port PortOut operand field = refl
  same_port ShortIn operand field = refl
  same_port ShortOut operand field = refl
  same_port row operand field = refl

  same_shared : (at : Option ℕ) → may_be_shared old at ≡ may_be_shared m at
  same_shared None = refl
  same_shared (Some at) = refl

  same_answered : (at : Option ℕ) (p0 : Bool) → is_answered old at p0 ≡ is_answered m at p0
  unfolding holds_every_address
  same_answered None p0 = refl
  same_answered (Some at) p0 = refl

  same_free : (x : Invariant) → is_fault_free old x ≡ is_fault_free m x
  unfolding is_fault_free
  same_free x = by (op_at m x)
    where
      by : (o : Option Op) → is_op_fault_free o old x.state.counters ≡ is_op_fault_free o m x.state.counters
      by None = refl
      by (Some op) = ap (λ (b : Bool). not (reads_at_data (row_of op)) || b) (same_answered x.state.counters.d0 x.state.counters.p0)

  module _ (tracked : List ℕ) (x : Invariant) (op : Op) (safe : IsSafeState old tracked x op) where
    abbrev icb : Option Bool
    icb = (state_after op m x).registers.status.icb

    kept : (vector_is_lost op m icb ≡ false) × (vectors_let_in op m icb ≡ [])
    kept = kept_out (keeps_interrupts_out op icb) m.written m.vectors safe.later.1.1.1.1.1.1.0

    safe_now : IsSafeState m tracked x op
    safe_now =
        let l = safe.later in
        record {
          is = safe.is;
          code = record { once = safe.code.once; stays = safe.code.stays };
          operands = safe.operands;
          later = (
            l.0,
            (
              l.1.0,
              (
                l.1.1.0,
                (
                  sym (same_part (row_of op) x.state.counters) ∙ l.1.1.1.0,
                  (
                    sym (same_unheld (row_of op) x.point.ret) ∙ l.1.1.1.1.0,
                    (
                      sym (same_port (row_of op) (m.byte (places_on x.point.at 1)) (port_field op)) ∙ l.1.1.1.1.1.0,
                      (
                        kept.0,
                        (
                          ap (λ (b : Bool). goes_by_data (row_of op) && b) (sym (same_shared x.state.counters.d0))
                              ∙ l.1.1.1.1.1.1.1.0,
                          (l.1.1.1.1.1.1.1.1.0, tt),
                        ),
                      ),
                    ),
                  ),
                ),
              ),
            ),
          );
        }

    same_next : successors op old tracked x ≡ successors op m tracked x
    unfolding successors
    same_next =
        ap (λ (vectors : List ℕ). with_invariants (flat_map (along tracked vectors (state_after op m x)) (exits_of op m x)) [])
        (alike (keeps_interrupts_out op icb) [] ∙ sym kept.1)

  -- a chip that is chosen would be followed, and none is
  none_taken : (tracked : List ℕ) (x : Invariant) (here : Position) (op : Op) → unsafe_reason old tracked x ≡ None → IsBeside m x here →
      decoded (opcode_at here) ≡ Some op → (gets_at op here).chosen ≡ None
  none_taken tracked x here op none beside is =
      let safe = safe_state old tracked x none in
      let now = safe_now tracked x safe.0 safe.1 in
      let same : safe.0 ≡ op = one_op (opcode_told m x here safe.0 beside now.is) is in
      subst (λ (o : Op). (gets_at o here).chosen ≡ None) same
      (by safe.0 (kept tracked x safe.0 safe.1).1
      (record {
        beside = beside;
        state = now;
        range = decoded_in_range (opcode_at here) safe.0 (beside.range.memory here.flat.state.flow.p)
            (opcode_told m x here safe.0 beside now.is);
      })
      (gets_at safe.0 here).chosen refl)
    where
      one_op : {o : Option Op} {a b : Op} → o ≡ Some a → o ≡ Some b → a ≡ b
      one_op p q = cc

      by : (a : Op) → vectors_let_in a m (state_after a m x).registers.status.icb ≡ [] → IsSafeHere m tracked x a here →
          (chosen : Option ℕ) → (gets_at a here).chosen ≡ chosen → (gets_at a here).chosen ≡ None
      by a nothing safe None chosen = chosen
      by a nothing safe (Some socket) chosen =
          let f = chosen_is_followed m tracked x a here safe socket chosen in
          let among : IsIn f.seat.vector [] = rw nothing at f.among in
          absurd among

  next_now : (tracked : List ℕ) (x : Invariant) (ways : List (Point × AbstractState)) → answer_at old tracked x ≡ Ok ways →
      answer_at m tracked x ≡ Ok ways
  next_now tracked x ways is =
      let next = next_is old tracked x ways is in
      let safe = safe_state old tracked x next.safe in
      let same : safe.0 ≡ next.op = cc (safe.1.is, next.is) in
      let now = safe_now tracked x safe.0 safe.1 in
      let none : unsafe_reason m tracked x ≡ None = safe_of m tracked x safe.0 now in
      rw (none, now.is)
      (ap Ok (ap (map entry_of) (sym (same_next tracked x safe.0 safe.1)) ∙ ap (λ (o : Op). map entry_of (successors o old tracked x)) same ∙ next.same))

  closed_now : (tracked : List ℕ) (notes : List (Point × AbstractState)) → IsSafelyClosed (analysis old tracked) notes →
      IsSafelyClosed (analysis m tracked) notes
  closed_now tracked notes h = record {
    is_map = record { ascends = h.is_map.ascends; few = h.is_map.few; fits = h.is_map.fits };
    closed = record {
      start =
          let s = h.closed.start in
          record { upper = s.upper; noted = s.noted; below = s.below };
      next = λ p s ways noted next q t among.
          let before = h.safe p s noted in
          let same : before.0 ≡ ways = one_answer _ _ _ (next_now tracked (as_invariant (p, s)) before.0 before.1) next in
          let above = h.closed.next p s before.0 noted before.1 q t
          (subst (λ (ws : List (Point × AbstractState)). Contains ws (q, t)) (sym same) among) in
          record { upper = above.upper; noted = above.noted; below = above.below };
    };
    safe = λ p s noted.
        let before = h.safe p s noted in
        (before.0, next_now tracked (as_invariant (p, s)) before.0 before.1);
  }
    where
      one_answer : (answer : Result (List (Point × AbstractState)) Reason) (ways others : List (Point × AbstractState)) →
          answer ≡ Ok ways → answer ≡ Ok others → ways ≡ others
      one_answer answer ways others p q = cc

pub without_vectors_kept : WithoutVectorsLaw
without_vectors_kept = record {
  wired = wired_told;
  next = λ m tracked p s ways is. next_now m tracked (as_invariant (p, s)) ways is;
  untaken = λ m tracked x here op none beside is. none_taken m tracked x here op none beside is;
  fault_free = λ m x. same_free m x;
  closed = λ m tracked notes h. closed_now m tracked notes h;
}
