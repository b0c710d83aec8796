-- Invariants that cover others: what holds next is covered where the invariant map is closed, and what covers stands for no less.
use Rattle.std.proofs.Common.{◌≡◌, ℕ, suc, ◌+◌, Bool, true, false, List, [], ◌∷◌, ◌++◌, length, map, refl, ap, sym, ◌∙◌, subst, inl, inr}
use Rattle.std.specs.Prelude.{Option, Some, if◌then◌else◌, flat_map}
use Rattle.std.specs.List.{AllByRecursion, AllZip}
use Rattle.std.specs.declared.cmp.Ordering.{Ordering}
use Rattle.std.specs.declared.cmp.Ordering.TheVariants.{Less, Equal, Greater}
use Rattle.std.proofs.lemmas.List.{length-map}
use Rattle.f8_spec.specs.declared.chips.ChipKind.{ChipKind}
use Rattle.f8_spec.specs.declared.chips.ChipKind.TheVariants.{Psu, Smi, Pio}
use Rattle.f8_spec.specs.declared.instructions.Op.{Op}
use Rattle.console_spec.specs.Processor.{Flow}
use Rattle.console_spec.specs.CounterCopies.{Copy}
use Rattle.console_spec.specs.Run.{Position}
use Rattle.abs_domain.specs.Lattice.{Below, FactBelow}
use Rattle.abs_domain.specs.AbstractState.{AbstractState, KnownCounters, HasScratchpad, StateBelow, CountersBelow}
use Rattle.abs_domain.specs.Joins.{joined_state}
use Rattle.abs_domain.specs.PointOrder.{point_cmp}
use Rattle.abs_domain.specs.declared.points.Point.{Point}
use Rattle.abs_domain.proofs.Orders.{below_trans, registers_trans, order_laws}
use Rattle.abs_domain.proofs.Bounds.{join_laws}
use Rattle.abs_domain.proofs.PointOrders.{point_laws}
use Rattle.abs_step.specs.RegisterWrites.{RegisterWrite, written_from, written_all}
use Rattle.abs_step.specs.declared.exits.Exit.{Exit}
use Rattle.abs_step.specs.MapView.{MapView}
use Rattle.abs_step.specs.Successors.{Invariant, state_after, exits_of, at_exit, at_vector, along, all_along, is_equal, same_point}
use Rattle.abs_step.specs.Successors.{with_invariant, with_invariants, successors}
use Rattle.abs_step.specs.Safety.{writes_of}
use Rattle.abs_step.specs.Concretization.{Holds, ChipTells, CopyTells, StandsFor}
use Rattle.abs_step.specs.Vectors.{vector_exit, vectors_let_in, with_interrupts_off}
use Rattle.abs_step.specs.StepOrder.{Covers}
use Rattle.abs_step.proofs.Members.{IsIn, all_map}
use Rattle.abs_step.proofs.Vectoring.{in_flat}

-- ---- covers

pub found_cover : (notes : List Invariant) (x : Invariant) → Covers notes x →
    (z : Invariant) × IsIn z notes × (z.point ≡ x.point) × StateBelow x.state z.state
found_cover [] x h = absurd h
found_cover (z ∷ zs) x (inl here) = (z, inl refl, here.0, here.1)
found_cover (z ∷ zs) x (inr later) = let rest = found_cover zs x later in (rest.0, inr rest.1, rest.2, rest.3)

cover_of : (notes : List Invariant) (x z : Invariant) → IsIn z notes → z.point ≡ x.point → StateBelow x.state z.state → Covers notes x
cover_of [] x z is point below = absurd is
cover_of (y ∷ ys) x z (inl here) point below =
    inl (ap (λ (w : Invariant). w.point) here ∙ point, subst (λ (w : Invariant). StateBelow x.state w.state) (sym here) below)
cover_of (y ∷ ys) x z (inr later) point below = inr (cover_of ys x z later point below)

-- what is covered by invariants that are covered
pub cover_through : (notes others : List Invariant) (x : Invariant) → AllByRecursion (Covers notes) others → Covers others x →
    Covers notes x
cover_through notes [] x all h = absurd h
cover_through notes (y ∷ ys) x all (inl here) =
    let above = found_cover notes y all.0 in
    cover_of notes x above.0 above.1 (above.2 ∙ here.0) (order_laws.transitive x.state y.state above.0.state here.1 above.3)
cover_through notes (y ∷ ys) x all (inr later) = cover_through notes ys x all.1 later

-- ---- each point once

abbrev pub HasPad : Invariant → Type 0
HasPad x = HasScratchpad x.state

pub same_by : (p q : Point) (o : Ordering) → point_cmp p q ≡ o → is_equal o ≡ true → p ≡ q
same_by p q Less e same = absurd (cc)
same_by p q Equal e same = point_laws.exact p q e
same_by p q Greater e same = absurd (cc)

pub pads_kept : (x : Invariant) (done : List Invariant) → HasPad x → AllByRecursion HasPad done →
    AllByRecursion HasPad (with_invariant x done)
pads_kept x [] pad pads = (pad, tt)
pads_kept x (d ∷ ds) pad pads = by (same_point x.point d.point) (pads_kept x ds pad pads.1)
  where
    by : (b : Bool) → AllByRecursion HasPad (with_invariant x ds) →
        AllByRecursion HasPad (if b then record d { state = joined_state d.state x.state } ∷ ds else d ∷ with_invariant x ds)
    by true rest = (join_laws.scratchpad d.state x.state pads.0 pad, pads.1)
    by false rest = (pads.0, rest)

kept : (x : Invariant) (done : List Invariant) (y : Invariant) → HasPad x → AllByRecursion HasPad done → Covers done y →
    Covers (with_invariant x done) y
kept x [] y pad pads h = absurd h
kept x (d ∷ ds) y pad pads h = by (same_point x.point d.point) h (kept x ds y pad pads.1)
  where
    by : (b : Bool) → Covers (d ∷ ds) y → (Covers ds y → Covers (with_invariant x ds) y) →
        Covers (if b then record d { state = joined_state d.state x.state } ∷ ds else d ∷ with_invariant x ds) y
    by true (inl here) rest =
        inl (here.0, order_laws.transitive y.state d.state _ here.1 (join_laws.first d.state x.state pads.0 pad))
    by true (inr later) rest = inr later
    by false (inl here) rest = inl here
    by false (inr later) rest = inr (rest later)

added : (x : Invariant) (done : List Invariant) → HasPad x → AllByRecursion HasPad done → Covers (with_invariant x done) x
added x [] pad pads = inl (refl, order_laws.reflexive x.state)
added x (d ∷ ds) pad pads = by (same_point x.point d.point) refl (added x ds pad pads.1)
  where
    by : (b : Bool) → same_point x.point d.point ≡ b → Covers (with_invariant x ds) x →
        Covers (if b then record d { state = joined_state d.state x.state } ∷ ds else d ∷ with_invariant x ds) x
    by true e rest = inl (sym (same_by x.point d.point _ refl e), join_laws.second d.state x.state pads.0 pad)
    by false e rest = inr rest

all_kept : (xs done : List Invariant) (y : Invariant) → AllByRecursion HasPad xs → AllByRecursion HasPad done → Covers done y →
    Covers (with_invariants xs done) y
all_kept [] done y more pads h = h
all_kept (x ∷ xs) done y more pads h =
    all_kept xs (with_invariant x done) y more.1 (pads_kept x done more.0 pads) (kept x done y more.0 pads h)

all_added : (xs done : List Invariant) (x : Invariant) → AllByRecursion HasPad xs → AllByRecursion HasPad done → IsIn x xs →
    Covers (with_invariants xs done) x
all_added [] done x more pads is = absurd is
all_added (y ∷ ys) done x more pads (inl here) =
    subst (λ (z : Invariant). Covers (with_invariants ys (with_invariant y done)) z) here
    (all_kept ys (with_invariant y done) y more.1 (pads_kept y done more.0 pads) (added y done more.0 pads))
all_added (y ∷ ys) done x more pads (inr later) =
    all_added ys (with_invariant y done) x more.1 (pads_kept y done more.0 pads) later

-- ---- successors

pub both_hold : {A : Type 0} → (P : A → Type 0) (xs ys : List A) → AllByRecursion P xs → AllByRecursion P ys → AllByRecursion P (xs ++ ys)
both_hold P [] ys p q = q
both_hold P (x ∷ xs) ys p q = (p.0, both_hold P xs ys p.1 q)

pub all_flat : {A B : Type 0} → (P : B → Type 0) (f : A → List B) (xs : List A) → AllByRecursion (λ x. AllByRecursion P (f x)) xs →
    AllByRecursion P (flat_map f xs)
all_flat P f [] all = tt
all_flat P f (x ∷ xs) all = both_hold P (f x) (flat_map f xs) all.0 (all_flat P f xs all.1)

-- what holds at an exit and at each vector behind it holds along the way
pub along_holds : (P : Invariant → Type 0) (tracked vectors : List ℕ) (s : AbstractState) (e : Exit) → P (at_exit tracked s e) →
    ((timer : Bool) (vector : ℕ) → P (at_exit tracked (with_interrupts_off s) (vector_exit timer vector e))) →
    AllByRecursion P (along tracked vectors s e)
along_holds P tracked vectors s e own each = (own, all_flat P (at_vector tracked s e) vectors (by vectors))
  where
    by : (vs : List ℕ) → AllByRecursion (λ v. AllByRecursion P (at_vector tracked s e v)) vs
    by [] = tt
    by (v ∷ vs) = ((each true v, (each false v, tt)), by vs)

pub pads_along : (tracked vectors : List ℕ) (s : AbstractState) (es : List Exit) → HasScratchpad s →
    AllByRecursion HasPad (flat_map (along tracked vectors s) es)
pads_along tracked vectors s es pad = all_flat HasPad (along tracked vectors s) es (by es)
  where
    by : (fs : List Exit) → AllByRecursion (λ f. AllByRecursion HasPad (along tracked vectors s f)) fs
    by [] = tt
    by (f ∷ fs) = (along_holds HasPad tracked vectors s f pad (λ timer vector. pad), by fs)

-- what holds along a way is covered by the successors
pub way_covered : (op : Op) (m : MapView) (tracked : List ℕ) (x : Invariant) (e : Exit) (y : Invariant) → HasScratchpad (state_after op m x) →
    IsIn e (exits_of op m x) →
    IsIn y (along tracked (vectors_let_in op m (state_after op m x).registers.status.icb) (state_after op m x) e) →
    Covers (successors op m tracked x) y
unfolding successors
way_covered op m tracked x e y pad is among =
    let s = state_after op m x in
    let vectors = vectors_let_in op m s.registers.status.icb in
    all_added (all_along op m tracked x) [] y (pads_along tracked vectors s (exits_of op m x) pad) tt
    (in_flat (along tracked vectors s) y (exits_of op m x) e is among)

-- the scratchpad keeps its registers
length-written_from : (n : ℕ) (w : RegisterWrite) (xs : List (Option ℕ)) → length (written_from n w xs) ≡ length xs
length-written_from n w [] = refl
length-written_from n w (x ∷ xs) = ap suc (length-written_from (n + 1) w xs)

length-written_all : (ws : List RegisterWrite) (xs : List (Option ℕ)) → length (written_all ws xs) ≡ length xs
length-written_all [] xs = refl
length-written_all (w ∷ ws) xs = length-written_all ws (written_from 0 w xs) ∙ length-written_from 0 w xs

pub pad_after : (op : Op) (m : MapView) (x : Invariant) → HasScratchpad x.state → HasScratchpad (state_after op m x)
pad_after op m x pad = length-written_all (writes_of op m x) x.state.registers.scratchpad ∙ pad

same_lengths : (xs ys : List (Option ℕ)) → AllZip Below xs ys → length ys ≡ length xs
same_lengths [] [] h = refl
same_lengths [] (y ∷ ys) h = absurd h
same_lengths (x ∷ xs) [] h = absurd h
same_lengths (x ∷ xs) (y ∷ ys) h = ap suc (same_lengths xs ys h.1)

pub pad_of : (x : Invariant) (here : Position) → StandsFor x here → length here.flat.state.registers.scratchpad ≡ 64 → HasScratchpad x.state
pad_of x here h size =
    same_lengths (map Some here.flat.state.registers.scratchpad) x.state.registers.scratchpad h.registers.scratchpad
    ∙ length-map here.flat.state.registers.scratchpad Some ∙ size

-- ---- what is above stands for no less

holds_above : (P : Type 0) (lower upper : Bool) → FactBelow lower upper → Holds lower P → Holds upper P
holds_above P lower false p h = tt
holds_above P true true p h = h
holds_above P false true p h = absurd (cc)

chip_above : (kind : ChipKind) (k l : KnownCounters) (r c : Flow) → CountersBelow k l → ChipTells kind k r c → ChipTells kind l r c
chip_above Psu k l r c p h = record {
  value = below_trans (Some c.d0) k.c l.c h.value p.c;
  first = holds_above (c.d0 ≡ r.d0) k.p0 l.p0 p.p0 h.first;
  second = holds_above (c.d0 ≡ r.d1) k.p1 l.p1 p.p1 h.second;
}
chip_above Smi k l r c p h = record {
  first = holds_above (c.d0 ≡ r.d0) k.s0 l.s0 p.s0 h.first;
  second = holds_above (c.d1 ≡ r.d1) k.s1 l.s1 p.s1 h.second;
}
chip_above Pio k l r c p h = tt

pub stands_above : (y z : Invariant) (here : Position) → StandsFor y here → z.point ≡ y.point → StateBelow y.state z.state →
    StandsFor z here
stands_above y z here h point below = record {
  at = h.at ∙ ap (λ (p : Point). p.at) (sym point);
  ret = rw (point) h.ret;
  registers = registers_trans _ y.state.registers z.state.registers h.registers below.registers;
  counters = record {
    d0 = below_trans _ y.state.counters.d0 z.state.counters.d0 h.counters.d0 below.counters.d0;
    d1 = below_trans _ y.state.counters.d1 z.state.counters.d1 h.counters.d1 below.counters.d1;
  };
  copies = all_map (CopyTells y.point.ret y.state.counters here.flat.state.flow) _ here.copies
      (λ (c : Copy) t. record {
        at = t.at;
        back = rw (point) t.back;
        chip = chip_above c.seat.kind y.state.counters z.state.counters here.flat.state.flow c.flow below.counters t.chip;
      }) h.copies;
}
