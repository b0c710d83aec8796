-- A step from a case of what is known at a point: it is safe where the state is, and each way on from it is one from the state.
use Rattle.std.proofs.Common.{◌≡◌, ℕ, ◌/◌, ◌%◌, Bool, true, false, List, [], ◌∷◌, map, refl, ap, sym, ◌∙◌, subst, ◌⊎◌, inl, inr, replicate}
use Rattle.std.specs.Prelude.{Option, Some, None}
use Rattle.f8_spec.specs.BusArbitration.{Seat}
use Rattle.f8_spec.specs.declared.instructions.Op.{Op}
use Rattle.abs_domain.specs.Lattice.{Below}
use Rattle.abs_domain.specs.AbstractState.{AbstractState, HasScratchpad, StateBelow}
use Rattle.abs_domain.specs.declared.points.Point.{Point}
use Rattle.abs_domain.specs.declared.reason.Reason.{Reason}
use Rattle.abs_step.specs.CartridgeAnalysis.{FitsPoint}
use Rattle.abs_step.specs.MapView.{MapView, IsViewOf}
use Rattle.abs_step.specs.RegisterWrites.{Target}
use Rattle.abs_step.specs.Safety.{code_reasons, first_reason, instruction_reason, op_at, reason_behind, reasons, unsafe_reason}
use Rattle.abs_step.specs.Safety.{is_fault_free}
use Rattle.abs_step.specs.StepOrder.{Covers, IsOrdered}
use Rattle.abs_step.specs.Successors.{Invariant, state_after, successors, tracked_bytes}
use Rattle.abs_step.specs.Vectors.{with_icb}
use Rattle.abs_step.specs.WaysOn.{at_way}
use Rattle.abs_step.specs.declared.ways.Way.{Way}
use Rattle.abs_step.proofs.Covering.{found_cover}
use Rattle.abs_step.proofs.Knowing.{left_of, right_of}
use Rattle.abs_step.proofs.Members.{IsIn, from_all}
use Rattle.abs_step.proofs.SafeBelow.{at_point}
use Rattle.abs_step.proofs.SuccessorOrder.{step_order}
use Rattle.case_step.specs.Effects.{writes_isar}
use Rattle.noted_cases.specs.NotedEntries.{numbers_by}
use Rattle.noted_cases.proofs.CasesBelow.{IsCaseUnder, IsNumbered, digits_of}
use Rattle.noted_cases.proofs.IsarApart.{without_isar, reads_isar, apart_kept, apart_written, alike_ways, alike_reasons, alike_freedom}
use Rattle.noted_cases.proofs.NumberSets.{digit_told, number_allowed}
use Rattle.noted_cases.proofs.WaysAlike.{ways_at, successors_along, untracked_safe}

pub in_mapped : {A B : Type 0} → (f : A → B) (xs : List A) (y : B) → IsIn y (map f xs) → (x : A) × IsIn x xs × (f x ≡ y)
in_mapped f [] y is = absurd is
in_mapped f (x ∷ xs) y (inl here) = (x, inl refl, here)
in_mapped f (x ∷ xs) y (inr later) = let rest = in_mapped f xs y later in (rest.0, inr rest.1, rest.2)

-- ---- points at one address and return, at which no register is tracked

abbrev pub untracked : Point → Point
untracked p = record { at = p.at; ret = p.ret; split = replicate 8 None }

same_reason : (m : MapView) (p : Point) (s : AbstractState) (o : Option Op) →
    instruction_reason o m [] (at_point (untracked p) s) ≡ instruction_reason o m [] (at_point p s)
unfolding reasons
same_reason m p s None = refl
same_reason m p s (Some op) = refl

reason_there : (m : MapView) (p : Point) (s : AbstractState) →
    unsafe_reason m [] (at_point (untracked p) s) ≡ unsafe_reason m [] (at_point p s)
unfolding unsafe_reason
reason_there m p s = by (first_reason (code_reasons m p.at))
  where
    by : (o : Option Reason) → reason_behind o m [] (at_point (untracked p) s) ≡ reason_behind o m [] (at_point p s)
    by None = same_reason m p s (op_at m (at_point p s))
    by (Some reason) = refl

free_there : (m : MapView) (p : Point) (s : AbstractState) → is_fault_free m (at_point (untracked p) s) ≡ is_fault_free m (at_point p s)
unfolding is_fault_free
free_there m p s = refl

-- ---- the state that says no more than a case does: it knows of ISAR where that is read

abbrev pub upper_by : Bool → AbstractState → AbstractState
upper_by true s = s
upper_by false s = without_isar s

abbrev pub upper_of : Op → AbstractState → AbstractState
upper_of op s = upper_by (reads_isar op) s

-- the digits of one of the numbers
numbered_below : (isar : Target) (high low : Option ℕ) → IsNumbered (numbers_by isar) high low → Below high isar.high × Below low isar.low
numbered_below isar high low (number, is, first, second) =
    let allowed = number_allowed isar number is in (
      rw first (digit_told isar.high (number / 8) (left_of _ _ allowed)),
      rw second (digit_told isar.low (number % 8) (right_of _ _ allowed)),
    )

pub digits_below : (op : Op) (s c : AbstractState) → IsCaseUnder op s c → reads_isar op ≡ true →
    Below c.registers.high s.registers.high × Below c.registers.low s.registers.low
digits_below op s c case reads = numbered_below (digits_of s) c.registers.high c.registers.low (case.numbered reads)

pub case_below : (op : Op) (s c : AbstractState) → IsCaseUnder op s c → StateBelow c (upper_of op s)
case_below op s c case = by (reads_isar op) refl
  where
    by : (b : Bool) → reads_isar op ≡ b → StateBelow c (upper_by b s)
    by false apart = case.own.below
    by true reads =
        let digits = digits_below op s c case reads in
        let below = case.own.below.registers in
        record {
          registers = record {
            accumulator = below.accumulator;
            high = digits.0;
            low = digits.1;
            status = below.status;
            scratchpad = below.scratchpad;
          };
          counters = case.own.below.counters;
        }

upper_pad : (op : Op) (s : AbstractState) → HasScratchpad s → HasScratchpad (upper_of op s)
upper_pad op s pad = by (reads_isar op)
  where
    by : (b : Bool) → HasScratchpad (upper_by b s)
    by true = pad
    by false = pad

-- ---- behind an instruction

module _ (m : MapView) (p : Point) (s : AbstractState) (op : Op) where
  abbrev here : Invariant
  here = at_point (untracked p) s

  -- the state behind it, from the state that says no more and from the state
  abbrev pub after_upper : AbstractState
  after_upper = state_after op m (at_point (untracked p) (upper_of op s))

  abbrev pub after : AbstractState
  after = state_after op m (at_point p s)

  -- both are the same, or ISAR isn't written, and they are the same but for it
  pub afters_alike : (after_upper ≡ after) ⊎ ((writes_isar op ≡ false) × (after_upper ≡ without_isar after))
  afters_alike = by (reads_isar op) refl (writes_isar op) refl
    where
      by : (reads : Bool) → reads_isar op ≡ reads → (writes : Bool) → writes_isar op ≡ writes →
          (state_after op m (at_point (untracked p) (upper_by reads s)) ≡ after)
          ⊎ ((writes_isar op ≡ false) × (state_after op m (at_point (untracked p) (upper_by reads s)) ≡ without_isar after))
      by true reads writes wrote = inl refl
      by false apart true wrote = inl (apart_written op m here apart wrote)
      by false apart false kept = inr (kept, apart_kept op m here apart kept)

  ways_alike : ways_at op m (at_point (untracked p) (upper_of op s)) ≡ ways_at op m (at_point p s)
  ways_alike = by (reads_isar op) refl
    where
      by : (b : Bool) → reads_isar op ≡ b → ways_at op m (at_point (untracked p) (upper_by b s)) ≡ ways_at op m (at_point p s)
      by true reads = refl
      by false apart = alike_ways op m here apart

  upper_safe : op_at m (at_point p s) ≡ Some op → unsafe_reason m [] (at_point p s) ≡ None →
      unsafe_reason m [] (at_point (untracked p) (upper_of op s)) ≡ None
  upper_safe is safe = by (reads_isar op) refl
    where
      by : (b : Bool) → reads_isar op ≡ b → unsafe_reason m [] (at_point (untracked p) (upper_by b s)) ≡ None
      by true reads = reason_there m p s ∙ safe
      by false apart = alike_reasons op m here apart is ∙ reason_there m p s ∙ safe

  upper_free : is_fault_free m (at_point p s) ≡ true → is_fault_free m (at_point (untracked p) (upper_of op s)) ≡ true
  upper_free free = by (reads_isar op)
    where
      by : (b : Bool) → is_fault_free m (at_point (untracked p) (upper_by b s)) ≡ true
      by true = free_there m p s ∙ free
      by false = alike_freedom m here ∙ free_there m p s ∙ free

-- ---- from a case

-- what holds behind a case holds along a way on from the state, and says no less
pub record IsLed (m : MapView) (p : Point) (s : AbstractState) (op : Op) (c : AbstractState) (to : Invariant) : Type 0 where
  pub way : Way
  pub is : IsIn way (ways_at op m (at_point p s))
  pub at : to.point.at ≡ way.exit.at
  pub ret : to.point.ret ≡ way.exit.ret
  pub below : StateBelow to.state (with_icb way.icb (after_upper m p s op))
  pub high : to.state.registers.high ≡ (state_after op m (at_point (untracked p) c)).registers.high
  pub low : to.state.registers.low ≡ (state_after op m (at_point (untracked p) c)).registers.low

module _ (m : MapView) (seats : List Seat) (tracked : List ℕ) (view : IsViewOf m seats) (p : Point) (s : AbstractState) (op : Op)
    (fits : FitsPoint tracked p s) (is : op_at m (at_point p s) ≡ Some op) (safe : unsafe_reason m tracked (at_point p s) ≡ None)
    (c : AbstractState) (case : IsCaseUnder op s c) where
  ordered : IsOrdered [] (untracked p) c (upper_of op s)
  ordered = record {
    below = case_below op s c case;
    lower_fits = refl;
    upper_fits = refl;
    scratchpad = upper_pad op s fits.scratchpad;
    address = case.own.range.d0;
  }

  above_safe : unsafe_reason m [] (at_point (untracked p) (upper_of op s)) ≡ None
  above_safe = upper_safe m p s op is (untracked_safe m tracked (at_point p s) safe)

  pub case_safe : unsafe_reason m [] (at_point (untracked p) c) ≡ None
  case_safe = step_order.safe m seats [] (untracked p) c (upper_of op s) view ordered above_safe

  pub case_free : is_fault_free m (at_point p s) ≡ true → is_fault_free m (at_point (untracked p) c) ≡ true
  case_free free = step_order.fault_free m seats [] (untracked p) c (upper_of op s) view ordered (upper_free m p s op free)

  along_upper : (to z : Invariant) → IsIn z (successors op m [] (at_point (untracked p) (upper_of op s))) →
      (w : Way) × IsIn w (ways_at op m (at_point p s))
      × (at_way (tracked_bytes [] (after_upper m p s op).registers) (after_upper m p s op) w ≡ z)
  along_upper to z among =
      let found =
      in_mapped (at_way (tracked_bytes [] (after_upper m p s op).registers) (after_upper m p s op))
      (ways_at op m (at_point (untracked p) (upper_of op s))) z
      (subst (IsIn z) (successors_along op m [] (at_point (untracked p) (upper_of op s))) among) in
      (found.0, subst (IsIn found.0) (ways_alike m p s op) found.1, found.2)

  along_case : (to : Invariant) → IsIn to (successors op m [] (at_point (untracked p) c)) →
      (to.state.registers.high ≡ (state_after op m (at_point (untracked p) c)).registers.high)
      × (to.state.registers.low ≡ (state_after op m (at_point (untracked p) c)).registers.low)
  along_case to among =
      let behind : AbstractState = state_after op m (at_point (untracked p) c) in
      let found =
      in_mapped (at_way (tracked_bytes [] behind.registers) behind) (ways_at op m (at_point (untracked p) c)) to
      (subst (IsIn to) (successors_along op m [] (at_point (untracked p) c)) among) in (
        ap (λ (x : Invariant). x.state.registers.high) (sym found.2),
        ap (λ (x : Invariant). x.state.registers.low) (sym found.2),
      )

  pub led : (to : Invariant) → IsIn to (successors op m [] (at_point (untracked p) c)) → IsLed m p s op c to
  led to among =
      let upper = successors op m [] (at_point (untracked p) (upper_of op s)) in
      let covered =
      from_all (Covers upper) (successors op m [] (at_point (untracked p) c)) to
      (step_order.successors m seats [] (untracked p) c (upper_of op s) view ordered above_safe op is) among in
      let found = found_cover upper to covered in
      let along = along_upper to found.0 found.1 in
      let digits = along_case to among in
      record {
        way = along.0;
        is = along.1;
        at = ap (λ (q : Point). q.at) (sym found.2) ∙ ap (λ (x : Invariant). x.point.at) (sym along.2);
        ret = ap (λ (q : Point). q.ret) (sym found.2) ∙ ap (λ (x : Invariant). x.point.ret) (sym along.2);
        below = subst (λ (x : Invariant). StateBelow to.state x.state) (sym along.2) found.3;
        high = digits.0;
        low = digits.1;
      }
