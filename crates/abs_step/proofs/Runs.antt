-- Runs with free inputs over a closed and safe invariant map: at every position some invariant of the map stands for it.
use Rattle.std.proofs.Common.{◌≡◌, ℕ, zero, suc, List, [], ◌∷◌, length, map, replicate, refl, ap, sym, ◌∙◌, subst, inl, inr}
use Rattle.std.specs.Prelude.{Option, Some, None, slice_get}
use Rattle.std.specs.List.{AllByRecursion, AllZip, Contains}
use Rattle.f8_spec.specs.Instructions.{decoded, row_of}
use Rattle.f8_spec.specs.Flags.{clear_status}
use Rattle.f8_spec.specs.BusArbitration.{Seat}
use Rattle.f8_spec.specs.declared.chips.ChipKind.{ChipKind}
use Rattle.f8_spec.specs.declared.chips.ChipKind.TheVariants.{Psu, Smi, Pio}
use Rattle.f8_spec.specs.declared.instructions.Op.{Op}
use Rattle.console_spec.specs.Processor.{Flow}
use Rattle.console_spec.specs.CounterCopies.{Copy}
use Rattle.console_spec.specs.Run.{Position, seats_of, opcode_at, gets_at, position_after, pulse_in}
use Rattle.console_spec.specs.Telling.{with_event, with_events}
use Rattle.console_spec.specs.declared.Event.{Event}
use Rattle.console_spec.specs.declared.Event.TheVariants.{Keys, Pulse}
use Rattle.abs_domain.specs.AbstractState.{AbstractState, StateBelow}
use Rattle.abs_domain.specs.declared.points.Point.{Point}
use Rattle.abs_domain.specs.Lattice.{Below}
use Rattle.abs_domain.proofs.Orders.{order_laws, status_refl}
use Rattle.abs_step.proofs.CartridgeLaws.{next_is}
use Rattle.abs_step.specs.MapView.{MapView, IsViewOf}
use Rattle.abs_step.specs.Successors.{Invariant, start_invariant, start_state, successors}
use Rattle.abs_step.specs.Safety.{unsafe_reason}
use Rattle.abs_step.specs.Concretization.{ChipTells, StandsFor, whole_status}
use Rattle.console_spec.specs.FreeRuns.{IsFreeStart, HasByte, IsReached}
use Rattle.abs_step.specs.CartridgeAnalysis.{analysis, entry_of}
use Rattle.abs_step.specs.ReachedStates.{CoversAt, state_at}
use Rattle.abs_step.specs.Soundness.{IsSafeMap}
use Rattle.abs_step.specs.SoundSteps.{IsBeside, IsLedTo, SoundStepLaw}
use Rattle.abs_step.proofs.Members.{IsIn, all_map, contains_of_in, in_of_contains}
use Rattle.abs_step.proofs.Opcodes.{decoded_in_range}
use Rattle.abs_step.proofs.Reasons.{safe_state}
use Rattle.abs_step.proofs.Standing.{opcode_told}
use Rattle.abs_step.proofs.SafeSteps.{IsSafeHere}
use Rattle.abs_step.proofs.Leads.{led, taken}
use Rattle.abs_step.proofs.Covering.{found_cover, pad_of, pad_after, stands_above, way_covered}
use Rattle.abs_step.proofs.Ranges.{set_bytes}
use Rattle.abs_step.proofs.RunRanges.{range_after, memory_keeps, seats_after}

-- ---- the start

nothing_told : (xs : List ℕ) → AllZip Below (map Some xs) (replicate (length xs) None)
nothing_told [] = tt
nothing_told (x ∷ xs) = (tt, nothing_told xs)

start_chip : (kind : ChipKind) (r c : Flow) → ChipTells kind start_state.counters r c
start_chip Psu r c = record { value = tt; first = tt; second = tt }
start_chip Smi r c = record { first = tt; second = tt }
start_chip Pio r c = tt

start_stands : (bytes : ℕ → Option ℕ) (seats : List Seat) (here : Position) → IsFreeStart bytes seats here → StandsFor start_invariant here
start_stands bytes seats here h = record {
  at = ap (λ (f : Flow). f.p) h.counters;
  ret = tt;
  registers = record {
    accumulator = tt;
    high = tt;
    low = tt;
    status = rw (h.status) (status_refl (whole_status clear_status));
    scratchpad = subst (λ (n : ℕ). AllZip Below (map Some here.flat.state.registers.scratchpad) (replicate n None)) h.range.registers.size
        (nothing_told here.flat.state.registers.scratchpad);
  };
  counters = record { d0 = ap (λ (f : Flow). Some f.d0) h.counters; d1 = ap (λ (f : Flow). Some f.d1) h.counters };
  copies = all_map (λ (c : Copy). c.flow.p ≡ 0) _ here.copies (λ (c : Copy) at. record {
    at = at ∙ sym (ap (λ (f : Flow). f.p) h.counters);
    back = tt;
    chip = start_chip c.seat.kind here.flat.state.flow c.flow;
  }) h.copies;
}

-- ---- events change nothing that an invariant or a map tells

module _ (m : MapView) (x : Invariant) where
  pulse_beside : (o : Option ℕ) (here : Position) → IsBeside m x here → IsBeside m x (pulse_in o here)
  pulse_beside None here h = h
  pulse_beside (Some socket) here h = record {
    view = h.view;
    tells =
        record { at = h.tells.at; ret = h.tells.ret; registers = h.tells.registers; counters = h.tells.counters; copies = h.tells.copies };
    range = record {
      registers = h.range.registers;
      keys = h.range.keys;
      writes = h.range.writes;
      memory = h.range.memory;
      counters = h.range.counters;
      copies = h.range.copies;
    };
    fixed = h.fixed;
  }

  event_beside : (e : Event) (here : Position) → HasByte e → IsBeside m x here → IsBeside m x (with_event e here)
  event_beside (Keys port byte) here small h = record {
    view = h.view;
    tells =
        record { at = h.tells.at; ret = h.tells.ret; registers = h.tells.registers; counters = h.tells.counters; copies = h.tells.copies };
    range = record {
      registers = h.range.registers;
      keys = set_bytes here.flat.state.keys port byte h.range.keys small;
      writes = h.range.writes;
      memory = h.range.memory;
      counters = h.range.counters;
      copies = h.range.copies;
    };
    fixed = h.fixed;
  }
  event_beside (Pulse chip) here small h = pulse_beside (slice_get here.chain chip) here h

  events_beside : (es : List Event) (here : Position) → AllByRecursion HasByte es → IsBeside m x here → IsBeside m x (with_events es here)
  events_beside [] here small h = h
  events_beside (e ∷ es) here small h = events_beside es (with_event e here) small.1 (event_beside e here small.0 h)

-- the chips stay as they are
pulse_seats : (o : Option ℕ) (here : Position) → seats_of (pulse_in o here).copies ≡ seats_of here.copies
pulse_seats None here = refl
pulse_seats (Some socket) here = refl

event_seats : (e : Event) (here : Position) → seats_of (with_event e here).copies ≡ seats_of here.copies
event_seats (Keys port byte) here = refl
event_seats (Pulse chip) here = pulse_seats (slice_get here.chain chip) here

events_seats : (es : List Event) (here : Position) → seats_of (with_events es here).copies ≡ seats_of here.copies
events_seats [] here = refl
events_seats (e ∷ es) here = events_seats es (with_event e here) ∙ event_seats e here

-- ---- a position of a run

-- a state of the map stands for it, and no reason holds against it
pub record Stands (m : MapView) (seats : List Seat) (tracked : List ℕ) (notes : List (Point × AbstractState)) (here : Position) : Type 0 where
  pub note : Invariant
  pub noted : state_at (analysis m tracked) notes note.point ≡ Some note.state
  pub op : Op
  pub safe : IsSafeHere m tracked note op here
  pub chips : seats_of here.copies ≡ seats

-- an invariant that is safe and beside a position is safe there
pub safe_here : (m : MapView) (tracked : List ℕ) (x : Invariant) (here : Position) → unsafe_reason m tracked x ≡ None → IsBeside m x here →
    (op : Op) × IsSafeHere m tracked x op here
safe_here m tracked x here none beside =
    let state = safe_state m tracked x none in
    let opcode = opcode_told m x here state.0 beside state.1.is in (
      state.0,
      record {
        beside = beside;
        state = state.1;
        range = decoded_in_range (opcode_at here) state.0 (beside.range.memory here.flat.state.flow.p) opcode;
      },
    )

same_op : (here : Position) (op other : Op) → decoded (opcode_at here) ≡ Some op → decoded (opcode_at here) ≡ Some other → op ≡ other
same_op here op other p q = cc

-- whatever instruction stands there
pub safe_there : (m : MapView) (tracked : List ℕ) (x : Invariant) (here : Position) (op : Op) → unsafe_reason m tracked x ≡ None →
    IsBeside m x here → decoded (opcode_at here) ≡ Some op → IsSafeHere m tracked x op here
safe_there m tracked x here op none beside is =
    let found = safe_here m tracked x here none beside in
    let same : found.0 ≡ op = same_op here found.0 op (opcode_told m x here found.0 beside found.1.state.is) is in
    subst (λ (o : Op). IsSafeHere m tracked x o here) same found.1

-- ---- one step

start_beside : (m : MapView) (seats : List Seat) (here : Position) → IsViewOf m seats → IsFreeStart m.byte seats here →
    IsBeside m start_invariant here
start_beside m seats here view h = record {
  view = subst (IsViewOf m) (sym h.chips) view;
  tells = start_stands m.byte seats here h;
  range = h.range;
  fixed = λ at byte small is. h.fixed at byte small is;
}

-- one that covers what is beside a position is beside it
above_beside : (m : MapView) (x above : Invariant) (here : Position) → above.point ≡ x.point → StateBelow x.state above.state →
    IsBeside m x here → IsBeside m above here
above_beside m x above here point below beside = record {
  view = beside.view;
  tells = stands_above x above here beside.tells point below;
  range = beside.range;
  fixed = beside.fixed;
}

module _ (m : MapView) (tracked : List ℕ) (x : Invariant) (op : Op) (here : Position) (safe : IsSafeHere m tracked x op here) where
  -- what holds along the way that is taken is beside the position there
  led_beside : (y : Invariant) → StandsFor y (position_after op here) → IsBeside m y (position_after op here)
  led_beside y stands =
      let i = gets_at op here in
      record {
        view = subst (IsViewOf m) (sym (seats_after (row_of op) i here.copies)) safe.beside.view;
        tells = stands;
        range = range_after op here safe.range safe.beside.range;
        fixed = λ at byte small is.
            memory_keeps (row_of op) (seats_of here.copies) i here.flat.state.flow at here.flat.memory
            (safe.beside.view.stays at byte small is)
            ∙ safe.beside.fixed at byte small is;
      }

  -- an invariant that holds next is beside it
  pub led_to : IsLedTo m tracked x op (position_after op here)
  led_to =
      let way = led m tracked x op here safe (taken m tracked x op here safe) in
      let pad = pad_after op m x (pad_of x here safe.beside.tells safe.beside.range.registers.size) in
      let above = found_cover (successors op m tracked x) way.to
      (way_covered op m tracked x (taken m tracked x op here safe).exit way.to pad (taken m tracked x op here safe).is way.is) in
      record {
        to = above.0;
        is = contains_of_in (successors op m tracked x) above.0 above.1;
        beside = above_beside m way.to above.0 (position_after op here) above.2 above.3 (led_beside way.to way.stands);
      }

-- and beside the position with any events behind the instruction
step_sound : (m : MapView) (tracked : List ℕ) (x : Invariant) (here : Position) (op : Op) (events : List Event) →
    unsafe_reason m tracked x ≡ None → IsBeside m x here → decoded (opcode_at here) ≡ Some op → AllByRecursion HasByte events →
    IsLedTo m tracked x op (with_events events (position_after op here))
step_sound m tracked x here op events none beside is small =
    let there = led_to m tracked x op here (safe_there m tracked x here op none beside is) in
    record { to = there.to; is = there.is; beside = events_beside m there.to events (position_after op here) small there.beside }

pub sound_steps : SoundStepLaw
sound_steps = record {
  start = start_beside;
  next = λ m tracked x here op events none beside is small. step_sound m tracked x here op events none beside is small;
}

-- ---- over a closed and safe map

in_mapped : {A B : Type 0} → (f : A → B) (x : A) (xs : List A) → IsIn x xs → IsIn (f x) (map f xs)
in_mapped f x [] is = absurd is
in_mapped f x (y ∷ ys) (inl here) = inl (ap f here)
in_mapped f x (y ∷ ys) (inr later) = inr (in_mapped f x ys later)

module _ (m : MapView) (seats : List Seat) (tracked : List ℕ) (notes : List (Point × AbstractState))
    (map_safe : IsSafeMap m seats tracked notes) where
  -- one that covers what is beside a position
  stands_by : (x : Invariant) (here : Position) → CoversAt (analysis m tracked) notes x.point x.state → IsBeside m x here →
      seats_of here.copies ≡ seats → Stands m seats tracked notes here
  stands_by x here covers beside chips =
      let above : Invariant = record { point = x.point; state = covers.upper } in
      let ways = map_safe.safe x.point covers.upper covers.noted in
      let none = (next_is m tracked above ways.0 ways.1).safe in
      let safe = safe_here m tracked above here none
      (above_beside m x above here refl ((order_laws.test x.state covers.upper).0 covers.below) beside) in
      record { note = above; noted = covers.noted; op = safe.0; safe = safe.1; chips = chips }

  pub at_start : (here : Position) → IsFreeStart m.byte seats here → Stands m seats tracked notes here
  at_start here h = stands_by start_invariant here map_safe.closed.start (start_beside m seats here map_safe.view h) h.chips

  -- what holds next is covered
  next_covered : (here : Position) (s : Stands m seats tracked notes here) (to : Invariant) →
      Contains (successors s.op m tracked s.note) to → CoversAt (analysis m tracked) notes to.point to.state
  next_covered here s to among =
      let ways = map_safe.safe s.note.point s.note.state s.noted in
      let next = next_is m tracked s.note ways.0 ways.1 in
      let same : next.op ≡ s.op = one_op next.is s.safe.state.is in
      let all : map entry_of (successors s.op m tracked s.note) ≡ ways.0 =
      subst (λ (o : Op). map entry_of (successors o m tracked s.note) ≡ ways.0) same next.same in
      let entry = contains_of_in (map entry_of (successors s.op m tracked s.note)) (entry_of to)
      (in_mapped entry_of to (successors s.op m tracked s.note) (in_of_contains (successors s.op m tracked s.note) to among)) in
      map_safe.closed.next s.note.point s.note.state ways.0 s.noted ways.1 to.point to.state
      (subst (λ (es : List (Point × AbstractState)). Contains es (entry_of to)) all entry)
    where
      one_op : {x : Option Op} {op other : Op} → x ≡ Some op → x ≡ Some other → op ≡ other
      one_op p q = cc

  -- some invariant stands for the position after an instruction and the events behind it
  pub next_stands : (here : Position) → (s : Stands m seats tracked notes here) → (es : List Event) → AllByRecursion HasByte es →
      Stands m seats tracked notes (with_events es (position_after s.op here))
  next_stands here s es small =
      let there = position_after s.op here in
      let led = led_to m tracked s.note s.op here s.safe in
      stands_by led.to (with_events es there) (next_covered here s led.to led.is) (events_beside m led.to es there small led.beside)
      (events_seats es there ∙ seats_after (row_of s.op) (gets_at s.op here) here.copies ∙ s.chips)

  pub after_stands : (here : Position) → (s : Stands m seats tracked notes here) → Stands m seats tracked notes (position_after s.op here)
  after_stands here s = next_stands here s [] tt

  pub reached_stands : (n : ℕ) (here : Position) → IsReached m.byte seats n here → Stands m seats tracked notes here
  reached_stands zero here h = at_start here h
  reached_stands (suc n) here h =
      let before = h.0 in
      let s = reached_stands n before h.3 in
      let told = opcode_told m s.note before s.op s.safe.beside s.safe.state.is in
      let same = same_op before s.op h.1 told h.4 in
      let stands = next_stands before s h.2 h.6 in
      subst (λ (z : Position). Stands m seats tracked notes z) (sym h.7)
      (subst (λ (op : Op). Stands m seats tracked notes (with_events h.2 (position_after op before))) same stands)
