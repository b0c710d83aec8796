-- What holds next after a state that says more is covered by what holds next after one that says less.
use Rattle.std.proofs.Common.{◌≡◌, ℕ, Bool, true, false, List, [], ◌∷◌, refl, sym, ap, ◌∙◌, subst, ◌⊎◌, inl, inr}
use Rattle.std.specs.Prelude.{Option, Some, None, ◌||◌, if◌then◌else◌, flat_map}
use Rattle.std.specs.List.{AllByRecursion}
use Rattle.std.specs.declared.cmp.Ordering.{Ordering}
use Rattle.std.specs.declared.cmp.Ordering.TheVariants.{Less, Equal, Greater}
use Rattle.std.specs.Ordering.{ordering_reverse}
use Rattle.f8_spec.specs.Instructions.{is_shielding, row_of}
use Rattle.f8_spec.specs.BusArbitration.{Seat}
use Rattle.f8_spec.specs.declared.instructions.Op.{Op}
use Rattle.abs_domain.specs.AbstractState.{AbstractState, StateBelow}
use Rattle.abs_domain.specs.Lattice.{Below}
use Rattle.abs_domain.specs.Joins.{joined_state}
use Rattle.abs_domain.specs.PointOrder.{point_cmp}
use Rattle.abs_domain.specs.declared.points.Point.{Point}
use Rattle.abs_domain.proofs.Orders.{below_refl, order_laws}
use Rattle.abs_domain.proofs.Bounds.{join_laws}
use Rattle.abs_domain.proofs.PointOrders.{point_laws}
use Rattle.abs_step.specs.declared.exits.Exit.{Exit}
use Rattle.abs_step.specs.MapView.{MapView, IsViewOf}
use Rattle.abs_step.specs.Known.{is_known_false}
use Rattle.abs_step.specs.Safety.{writes_of, op_at}
use Rattle.abs_step.specs.Vectors.{vector_address, vector_exit, vectors_let_in, with_interrupts_off}
use Rattle.abs_step.specs.Successors.{Invariant, tracked_bytes, inputs_at, state_after, exits_of, at_exit, at_vector, along, all_along}
use Rattle.abs_step.specs.Successors.{same_point, with_invariant, with_invariants, successors}
use Rattle.abs_step.specs.StepOrder.{IsOrdered, StepOrderLaw, Covers}
use Rattle.abs_step.proofs.Members.{IsIn, all_map}
use Rattle.abs_step.proofs.ExitLaws.{HasMatch, Matched, ExitBelow, exits_below}
use Rattle.abs_step.proofs.Reasons.{IsSafeState, safe_state}
use Rattle.abs_step.proofs.Ready.{ready}
use Rattle.abs_step.proofs.Covering.{HasPad, both_hold, same_by, pads_kept, pads_along, pad_after}
use Rattle.abs_step.proofs.Vectoring.{in_along_vector, in_flat}
use Rattle.abs_step.proofs.Blurs.{tracked_after}
use Rattle.abs_step.proofs.SafeBelow.{at_point, inputs_ordered, after_ordered, writes_ordered, reason_below, free_below}

-- ---- the first invariant at a point

itself : (o : Ordering) → o ≡ ordering_reverse o → o ≡ Equal
itself Less e = absurd (cc)
itself Equal e = refl
itself Greater e = absurd (cc)

pub equal_itself : (p : Point) → point_cmp p p ≡ Equal
equal_itself p = itself (point_cmp p p) (point_laws.total.antisymm p p)

different : (p q : Point) → same_point p q ≡ false → p ≡ q → ⊥
different p q other same =
    let equal : point_cmp p q ≡ Equal = subst (λ (x : Point). point_cmp p x ≡ Equal) same (equal_itself p) in
    absurd (cc (rw equal at other))

-- the first invariant of the list at the point says no more
abbrev FirstCovers : List Invariant → Invariant → Type 0
FirstCovers [] y = ⊥
FirstCovers (z ∷ zs) y = ((z.point ≡ y.point) × StateBelow y.state z.state) ⊎ ((z.point ≡ y.point → ⊥) × FirstCovers zs y)

first_covers : (zs : List Invariant) (y : Invariant) → FirstCovers zs y → Covers zs y
first_covers [] y h = absurd h
first_covers (z ∷ zs) y (inl here) = inl here
first_covers (z ∷ zs) y (inr later) = inr (first_covers zs y later.1)

first_below : (zs : List Invariant) (x y : Invariant) → x.point ≡ y.point → StateBelow y.state x.state → FirstCovers zs x → FirstCovers zs y
first_below [] x y point below h = absurd h
first_below (z ∷ zs) x y point below (inl here) =
    inl (here.0 ∙ point, order_laws.transitive y.state x.state z.state below here.1)
first_below (z ∷ zs) x y point below (inr later) =
    inr (λ same. later.0 (same ∙ sym point), first_below zs x y point below later.1)

first_of_both : (zs : List Invariant) (d x : Invariant) → d.point ≡ x.point → FirstCovers zs d → FirstCovers zs x →
    FirstCovers zs (record d { state = joined_state d.state x.state })
first_of_both [] d x same p q = absurd p
first_of_both (z ∷ zs) d x same (inl first) (inl second) = inl (first.0, join_laws.least d.state x.state z.state first.1 second.1)
first_of_both (z ∷ zs) d x same (inl first) (inr second) = absurd (second.0 (first.0 ∙ same))
first_of_both (z ∷ zs) d x same (inr first) (inl second) = absurd (first.0 (second.0 ∙ sym same))
first_of_both (z ∷ zs) d x same (inr first) (inr second) = inr (first.0, first_of_both zs d x same first.1 second.1)

-- ---- one more invariant, and all

first_kept : (x : Invariant) (done : List Invariant) (y : Invariant) → HasPad x → AllByRecursion HasPad done → FirstCovers done y →
    FirstCovers (with_invariant x done) y
first_kept x [] y pad pads h = absurd h
first_kept x (d ∷ ds) y pad pads h = by (same_point x.point d.point) h (first_kept x ds y pad pads.1)
  where
    by : (b : Bool) → FirstCovers (d ∷ ds) y → (FirstCovers ds y → FirstCovers (with_invariant x ds) y) →
        FirstCovers (if b then record d { state = joined_state d.state x.state } ∷ ds else d ∷ with_invariant x ds) y
    by true (inl here) rest = inl (here.0, order_laws.transitive y.state d.state _ here.1 (join_laws.first d.state x.state pads.0 pad))
    by true (inr later) rest = inr later
    by false (inl here) rest = inl here
    by false (inr later) rest = inr (later.0, rest later.1)

first_added : (x : Invariant) (done : List Invariant) → HasPad x → AllByRecursion HasPad done → FirstCovers (with_invariant x done) x
first_added x [] pad pads = inl (refl, order_laws.reflexive x.state)
first_added x (d ∷ ds) pad pads = by (same_point x.point d.point) refl (first_added x ds pad pads.1)
  where
    by : (b : Bool) → same_point x.point d.point ≡ b → FirstCovers (with_invariant x ds) x →
        FirstCovers (if b then record d { state = joined_state d.state x.state } ∷ ds else d ∷ with_invariant x ds) x
    by true e rest = inl (sym (same_by x.point d.point _ refl e), join_laws.second d.state x.state pads.0 pad)
    by false e rest = inr (λ same. different x.point d.point e (sym same), rest)

all_first_kept : (xs done : List Invariant) (y : Invariant) → AllByRecursion HasPad xs → AllByRecursion HasPad done → FirstCovers done y →
    FirstCovers (with_invariants xs done) y
all_first_kept [] done y more pads h = h
all_first_kept (x ∷ xs) done y more pads h =
    all_first_kept xs (with_invariant x done) y more.1 (pads_kept x done more.0 pads) (first_kept x done y more.0 pads h)

all_first_added : (xs done : List Invariant) (x : Invariant) → AllByRecursion HasPad xs → AllByRecursion HasPad done → IsIn x xs →
    FirstCovers (with_invariants xs done) x
all_first_added [] done x more pads is = absurd is
all_first_added (y ∷ ys) done x more pads (inl here) =
    subst (λ (z : Invariant). FirstCovers (with_invariants ys (with_invariant y done)) z) here
    (all_first_kept ys (with_invariant y done) y more.1 (pads_kept y done more.0 pads) (first_added y done more.0 pads))
all_first_added (y ∷ ys) done x more pads (inr later) =
    all_first_added ys (with_invariant y done) x more.1 (pads_kept y done more.0 pads) later

-- what is joined is covered where each is
module _ (notes : List Invariant) where
  one_covered : (x : Invariant) (done : List Invariant) → FirstCovers notes x → AllByRecursion (FirstCovers notes) done →
      AllByRecursion (FirstCovers notes) (with_invariant x done)
  one_covered x [] h all = (h, tt)
  one_covered x (d ∷ ds) h all = by (same_point x.point d.point) refl (one_covered x ds h all.1)
    where
      by : (b : Bool) → same_point x.point d.point ≡ b → AllByRecursion (FirstCovers notes) (with_invariant x ds) →
          AllByRecursion (FirstCovers notes) (if b then record d { state = joined_state d.state x.state } ∷ ds else d ∷ with_invariant x ds)
      by true e rest = (first_of_both notes d x (sym (same_by x.point d.point _ refl e)) all.0 h, all.1)
      by false e rest = (all.0, rest)

  all_covered : (xs done : List Invariant) → AllByRecursion (FirstCovers notes) xs → AllByRecursion (FirstCovers notes) done →
      AllByRecursion (FirstCovers notes) (with_invariants xs done)
  all_covered [] done more all = all
  all_covered (x ∷ xs) done more all = all_covered xs (with_invariant x done) more.1 (one_covered x done more.0 all)

-- ---- successors

-- what is let in where more is known is let in where less is, or it is nothing
let_in_below : (op : Op) (m : MapView) (x y : Option Bool) → Below x y →
    (vectors_let_in op m x ≡ []) ⊎ (vectors_let_in op m x ≡ vectors_let_in op m y)
let_in_below op m x (Some b) below = inr (ap (vectors_let_in op m) below)
let_in_below op m (Some b) None below = by (is_shielding op) b
  where
    by : (shields set : Bool) →
        ((if shields || is_known_false (Some set) then [] else m.vectors) ≡ [])
        ⊎ ((if shields || is_known_false (Some set) then [] else m.vectors) ≡ (if shields || is_known_false None then [] else m.vectors))
    by true set = inl refl
    by false true = inr refl
    by false false = inl refl
let_in_below op m None None below = inr refl

off_ordered : (s t : AbstractState) → StateBelow s t → StateBelow (with_interrupts_off s) (with_interrupts_off t)
off_ordered s t h = record {
  registers = record {
    accumulator = h.registers.accumulator;
    high = h.registers.high;
    low = h.registers.low;
    status = record {
      sign = h.registers.status.sign;
      carry = h.registers.status.carry;
      zero = h.registers.status.zero;
      overflow = h.registers.status.overflow;
      icb = refl;
    };
    scratchpad = h.registers.scratchpad;
  };
  counters = h.counters;
}

-- where an exit is matched, what holds along its way is covered
module _ (tracked vectors : List ℕ) (s t : AbstractState) (fs : List Exit) (notes : List Invariant) (below : StateBelow s t)
    (same : tracked_bytes tracked s.registers ≡ tracked_bytes tracked t.registers)
    (covered : (f : Exit) → IsIn f fs → (y : Invariant) → IsIn y (along tracked vectors t f) → FirstCovers notes y) where
  abbrev Same : Option ℕ → Option ℕ → Type 0
  Same x y = x ≡ y

  record Match (e : Exit) : Type 0 where
    pub exit : Exit
    pub is : IsIn exit fs
    pub at : e.at ≡ exit.at
    pub ret : e.ret ≡ exit.ret

  match_of : (e : Exit) (gs : List Exit) → ((f : Exit) → IsIn f gs → IsIn f fs) → HasMatch (ExitBelow Same (λ v. refl)) e gs → Match e
  match_of e [] within h = absurd h
  match_of e (f ∷ gs) within (inl here) = record { exit = f; is = within f (inl refl); at = here.at; ret = here.ret }
  match_of e (f ∷ gs) within (inr later) = match_of e gs (λ g is. within g (inr is)) later

  own_covered : (e : Exit) → Match e → FirstCovers notes (at_exit tracked s e)
  own_covered e f =
      let point : (at_exit tracked t f.exit).point ≡ (at_exit tracked s e).point =
      λ i. record { at = sym f.at i; ret = sym f.ret i; split = sym same i } in
      first_below notes (at_exit tracked t f.exit) (at_exit tracked s e) point below (covered f.exit f.is _ (inl refl))

  vector_covered : (e : Exit) → Match e → (timer : Bool) (vector : ℕ) → IsIn vector vectors →
      FirstCovers notes (at_exit tracked (with_interrupts_off s) (vector_exit timer vector e))
  vector_covered e f timer vector among =
      let point : (at_exit tracked (with_interrupts_off t) (vector_exit timer vector f.exit)).point
      ≡ (at_exit tracked (with_interrupts_off s) (vector_exit timer vector e)).point =
      λ i. record { at = vector_address timer vector; ret = Some (sym f.at i); split = sym same i } in
      first_below notes _ _ point (off_ordered s t below)
      (covered f.exit f.is _ (in_along_vector tracked vectors t f.exit timer vector among))

  vectors_covered : (e : Exit) → Match e → (vs : List ℕ) → ((v : ℕ) → IsIn v vs → IsIn v vectors) →
      AllByRecursion (FirstCovers notes) (flat_map (at_vector tracked s e) vs)
  vectors_covered e f [] within = tt
  vectors_covered e f (v ∷ vs) within =
      let among = within v (inl refl) in (
        vector_covered e f true v among,
        (vector_covered e f false v among, vectors_covered e f vs (λ w is. within w (inr is))),
      )

  -- by vectors of which each is among those
  along_covered : (vs : List ℕ) → ((v : ℕ) → IsIn v vs → IsIn v vectors) → (es : List Exit) →
      Matched (ExitBelow Same (λ v. refl)) es fs → AllByRecursion (FirstCovers notes) (flat_map (along tracked vs s) es)
  along_covered vs within [] h = tt
  along_covered vs within (e ∷ es) h =
      let f = match_of e fs (λ g is. is) h.0 in
      (own_covered e f, both_hold (FirstCovers notes) _ _ (vectors_covered e f vs within) (along_covered vs within es h.1))

module _ (m : MapView) (seats : List Seat) (tracked : List ℕ) (p : Point) (s t : AbstractState) (view : IsViewOf m seats)
    (ordered : IsOrdered tracked p s t) (op : Op) (safe : IsSafeState m tracked (at_point p t) op) where
  same_after : tracked_bytes tracked (state_after op m (at_point p s)).registers
      ≡ tracked_bytes tracked (state_after op m (at_point p t)).registers
  same_after = tracked_after tracked s.registers t.registers (writes_of op m (at_point p s)) (writes_of op m (at_point p t))
      (writes_ordered m p s t ordered.below op) ordered.below.registers.scratchpad safe.later.1.1.1.1.1.1.1.1.0
      (sym ordered.lower_fits ∙ ordered.upper_fits)

  abbrev upper_vectors : List ℕ
  upper_vectors = vectors_let_in op m (state_after op m (at_point p t)).registers.status.icb

  abbrev lower_vectors : List ℕ
  lower_vectors = vectors_let_in op m (state_after op m (at_point p s)).registers.status.icb

  fewer_vectors : (v : ℕ) → IsIn v lower_vectors → IsIn v upper_vectors
  fewer_vectors v is = by (let_in_below op m _ _ (after_ordered m p s t ordered.below op).registers.status.icb)
    where
      by : (lower_vectors ≡ []) ⊎ (lower_vectors ≡ upper_vectors) → IsIn v upper_vectors
      by (inl none) = absurd (rw none at is)
      by (inr all) = rw all at is

  upper_covered : (f : Exit) → IsIn f (exits_of op m (at_point p t)) → (y : Invariant) →
      IsIn y (along tracked upper_vectors (state_after op m (at_point p t)) f) → FirstCovers (successors op m tracked (at_point p t)) y
  unfolding successors
  upper_covered f is y among = all_first_added (all_along op m tracked (at_point p t)) [] y
      (pads_along tracked upper_vectors (state_after op m (at_point p t)) (exits_of op m (at_point p t))
      (pad_after op m (at_point p t) ordered.scratchpad)) tt
      (in_flat (along tracked upper_vectors (state_after op m (at_point p t))) y (exits_of op m (at_point p t)) f is among)

  successors_covered : AllByRecursion (Covers (successors op m tracked (at_point p t))) (successors op m tracked (at_point p s))
  unfolding successors
  successors_covered =
      let upper = successors op m tracked (at_point p t) in
      let matched =
      exits_below (λ (x y : Option ℕ). x ≡ y) (λ v. refl) (row_of op) (inputs_at op m (at_point p s)) (inputs_at op m (at_point p t))
      p.at p.ret p.ret (inputs_ordered m p s t ordered.below op) (below_refl p.ret) refl
      (ready m view.told tracked (at_point p t) op safe.operands safe.later) in
      let each =
      along_covered tracked upper_vectors (state_after op m (at_point p s)) (state_after op m (at_point p t)) (exits_of op m (at_point p t))
      upper (after_ordered m p s t ordered.below op) same_after upper_covered lower_vectors fewer_vectors (exits_of op m (at_point p s))
      matched in
      all_map (FirstCovers upper) (Covers upper) _ (λ y h. first_covers upper y h)
      (all_covered upper (all_along op m tracked (at_point p s)) [] each tt)

-- ---- the law

same_op : (m : MapView) (x : Invariant) (op other : Op) → op_at m x ≡ Some op → op_at m x ≡ Some other → op ≡ other
same_op m x op other p q = cc

pub step_order : StepOrderLaw
step_order = record {
  safe = λ m seats tracked p lower upper view ordered none.
      reason_below m seats tracked p lower upper view ordered.below ordered.address none;
  fault_free = λ m seats tracked p lower upper view ordered free.
      free_below m seats p lower upper view ordered.below ordered.address free;
  successors = λ m seats tracked p lower upper view ordered none op is.
      let safe = safe_state m tracked (at_point p upper) none in
      let same = same_op m (at_point p upper) safe.0 op safe.1.is is in
      successors_covered m seats tracked p lower upper view ordered op
      (subst (λ (o : Op). IsSafeState m tracked (at_point p upper) o) same safe.1);
}
