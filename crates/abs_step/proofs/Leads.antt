-- Where a safe instruction goes: to one of its exits, or to a vector behind one, and what is known there stands for the position after it.
use Rattle.std.proofs.Common.{◌≡◌, ℕ, ◌/◌, ◌%◌, Bool, true, false, List, [], ◌∷◌, ◌++◌, refl, ap, sym, ◌∙◌, subst, inl, inr}
use Rattle.std.specs.Prelude.{Option, Some, None, is_some}
use Rattle.std.specs.List.{AllByRecursion}
use Rattle.f8_spec.specs.Words.{places_on, word}
use Rattle.f8_spec.specs.ChipState.{admits_expiries, has_second_counter}
use Rattle.f8_spec.specs.declared.chips.ChipKind.{ChipKind}
use Rattle.f8_spec.specs.declared.chips.ChipKind.TheVariants.{Psu, Smi, Pio}
use Rattle.f8_spec.specs.Instructions.{row_of}
use Rattle.f8_spec.specs.declared.instructions.Op.{Op}
use Rattle.f8_spec.specs.declared.instructions.Row.{Row}
use Rattle.f8_spec.specs.declared.instructions.Row.TheVariants.{StackFromK, CallK, JumpQ, Return, Call, Jump, Branch, BranchIsar, Exchange}
use Rattle.console_spec.specs.Processor.{Registers, Flow, Inputs, flow_after, interrupted_by, result_of, vectored_by}
use Rattle.console_spec.specs.CounterCopies.{Copy, copy_after}
use Rattle.console_spec.specs.InterruptChoice.{control_of, vector_of}
use Rattle.console_spec.specs.Run.{Position, gets_at, position_after, seats_of}
use Rattle.abs_domain.specs.Lattice.{Below}
use Rattle.abs_domain.specs.AbstractState.{AbstractState, KnownCounters, RegistersBelow}
use Rattle.abs_step.specs.Known.{known_word}
use Rattle.abs_step.specs.KnownFlow.{KnownInputs, exit_to, branch_exits, branch_target, exits}
use Rattle.abs_step.specs.declared.exits.Exit.{Exit}
use Rattle.abs_step.specs.MapView.{MapView}
use Rattle.abs_step.specs.Safety.{return_is_unset}
use Rattle.abs_step.specs.Successors.{Invariant, inputs_at, state_after, exits_of, along, at_exit}
use Rattle.abs_step.specs.Concretization.{ChipTells, DataTells, Holds, CopyTells, StandsFor, whole_registers}
use Rattle.abs_step.specs.Vectors.{vector_address, vector_exit, vectors_let_in, with_interrupts_off}
use Rattle.abs_step.proofs.Members.{all_mapped, IsIn, from_all, all_map}
use Rattle.abs_step.proofs.Exact.{results_tell}
use Rattle.abs_step.proofs.InputLaws.{whole_inputs, InputsBelow, used_tells}
use Rattle.abs_step.proofs.CounterLaws.{data_tells, chip_tells}
use Rattle.abs_step.proofs.ExitLaws.{HasMatch, Matched, ExitBelow, is_ready, exits_below, exits_whole, same_next}
use Rattle.abs_step.proofs.SafeRows.{holds_if_known}
use Rattle.abs_step.proofs.Ready.{ready}
use Rattle.abs_step.proofs.SafeSteps.{IsSafeHere, chosen_is_followed, gets_tell}
use Rattle.abs_step.proofs.Vectoring.{in_along_vector, vector_is}

-- ---- the stack registers at an exit

holds_of : {P : Type 0} (b : Bool) → P → Holds b P
holds_of true h = h
holds_of false h = tt

-- where the return is set there, a copy's stack register is the flat machine's
abbrev IsBackAt : Flow → Flow → Exit → Type 0
IsBackAt r c e = Holds (is_some e.ret) (c.p1 ≡ r.p1)

each_to : (r c : Flow) (x ret : Option ℕ) → Holds (is_some ret) (c.p1 ≡ r.p1) → AllByRecursion (IsBackAt r c) (exit_to x ret)
each_to r c None ret h = tt
each_to r c (Some at) ret h = (h, tt)

each_of_both : (r c : Flow) (es fs : List Exit) → AllByRecursion (IsBackAt r c) es → AllByRecursion (IsBackAt r c) fs →
    AllByRecursion (IsBackAt r c) (es ++ fs)
each_of_both r c [] fs p q = q
each_of_both r c (e ∷ es) fs p q = (p.0, each_of_both r c es fs p.1 q)

each_branch : (r c : Flow) (taken : Option Bool) (x : Option ℕ) (next : ℕ) (ret : Option ℕ) → Holds (is_some ret) (c.p1 ≡ r.p1) →
    AllByRecursion (IsBackAt r c) (branch_exits taken x next ret)
each_branch r c (Some true) x next ret h = each_to r c x ret h
each_branch r c (Some false) x next ret h = each_to r c (Some next) ret h
each_branch r c None x next ret h = each_of_both r c (exit_to x ret) _ (each_to r c x ret h) (each_to r c (Some next) ret h)

backs : (row : Row) (i : Inputs) (j : KnownInputs) (at : ℕ) (ret : Option ℕ) (second : Bool) (r c : Flow) → c.p ≡ r.p →
    Holds (is_some ret) (c.p1 ≡ r.p1) →
    AllByRecursion (IsBackAt (flow_after row i true r) (flow_after row i second c)) (exits row j at ret)
backs StackFromK i j at ret second r c p back =
    each_to (flow_after StackFromK i true r) (flow_after StackFromK i second c) (Some (places_on at 1)) _ (holds_of _ refl)
backs CallK i j at ret second r c p back =
    each_to (flow_after CallK i true r) (flow_after CallK i second c) (known_word j.k_high j.k_low) _ (ap (λ a. places_on a 1) p)
backs JumpQ i j at ret second r c p back =
    each_to (flow_after JumpQ i true r) (flow_after JumpQ i second c) (known_word j.q_high j.q_low) ret back
backs Return i j at ret second r c p back =
    each_to (flow_after Return i true r) (flow_after Return i second c) ret ret back
backs Call i j at ret second r c p back =
    each_to (flow_after Call i true r) (flow_after Call i second c) (known_word j.operand j.second) _ (ap (λ a. places_on a 3) p)
backs Jump i j at ret second r c p back =
    each_to (flow_after Jump i true r) (flow_after Jump i second c) (known_word j.operand j.second) ret back
backs Branch i j at ret second r c p back =
    each_branch (flow_after Branch i true r) (flow_after Branch i second c) j.taken (branch_target at j) (places_on at 2) ret back
backs BranchIsar i j at ret second r c p back =
    each_branch (flow_after BranchIsar i true r) (flow_after BranchIsar i second c) j.taken (branch_target at j) (places_on at 2) ret back
backs Exchange i j at ret second r c p back = by second
  where
    by : (s : Bool) → AllByRecursion (IsBackAt (flow_after Exchange i true r) (flow_after Exchange i s c)) (exits Exchange j at ret)
    by true = (back, tt)
    by false = (back, tt)
backs row i j at ret second r c p back = (back, tt)

-- ---- with an interrupt at the end

-- the vector is the next address, and the one that would have come is in the stack register
abbrev vectored_flow : ℕ → Flow → Flow
vectored_flow vector c = record c { p = vector; p1 = c.p }

stays_on : (chosen : Option ℕ) (given : ℕ) (c : Flow) → chosen ≡ None → interrupted_by chosen given c ≡ c
stays_on chosen given c none = rw none refl

goes_away : (chosen : Option ℕ) (socket given vector : ℕ) (c : Flow) → chosen ≡ Some socket → given ≡ vector →
    interrupted_by chosen given c ≡ vectored_flow vector c
goes_away chosen socket given vector c is same = rw (is, same) refl

keeps_bit : (chosen : Option ℕ) (m : Registers) → chosen ≡ None → vectored_by chosen m ≡ m
keeps_bit chosen m none = rw none refl

clears_bit : (chosen : Option ℕ) (socket : ℕ) (m : Registers) → chosen ≡ Some socket → vectored_by chosen m ≡ vectored_by (Some socket) m
clears_bit chosen socket m is = rw is refl

off_below : (socket : ℕ) (m : Registers) (s : AbstractState) → RegistersBelow (whole_registers m) s.registers →
    RegistersBelow (whole_registers (vectored_by (Some socket) m)) (with_interrupts_off s).registers
off_below socket m s h = record {
  accumulator = h.accumulator;
  high = h.high;
  low = h.low;
  status = record {
    sign = h.status.sign;
    carry = h.status.carry;
    zero = h.status.zero;
    overflow = h.status.overflow;
    icb = refl;
  };
  scratchpad = h.scratchpad;
}

-- the data counters stay, and so does what is told of them
vectored_chip : (kind : ChipKind) (vector : ℕ) (k : KnownCounters) (r c : Flow) → ChipTells kind k r c →
    ChipTells kind k (vectored_flow vector r) (vectored_flow vector c)
vectored_chip Psu vector k r c h = record { value = h.value; first = h.first; second = h.second }
vectored_chip Smi vector k r c h = record { first = h.first; second = h.second }
vectored_chip Pio vector k r c h = tt

-- a copy that led to the same address leads to the vector, with that address as the return
vectored_copy : (vector : ℕ) (ret : Option ℕ) (back : ℕ) (k : KnownCounters) (r : Flow) (c : Copy) → CopyTells ret k r c →
    CopyTells (Some back) k (vectored_flow vector r) (record c { flow = vectored_flow vector c.flow })
vectored_copy vector ret back k r c h = record { at = refl; back = h.at; chip = vectored_chip c.seat.kind vector k r c.flow h.chip }

-- ---- the exit that is taken

found : (p p1 : ℕ) (es : List Exit) → HasMatch (ExitBelow Below (λ v. refl)) (record { at = p; ret = Some p1 }) es →
    (e : Exit) × IsIn e es × (p ≡ e.at) × Below (Some p1) e.ret
found p p1 [] h = absurd h
found p p1 (e ∷ es) (inl here) = (e, inl refl, here.at, here.ret)
found p p1 (e ∷ es) (inr later) = let rest = found p p1 es later in (rest.0, inr rest.1, rest.2, rest.3)

-- the flat machine goes to one of those known
taken_by : (row : Row) (i : Inputs) (j : KnownInputs) (r : Flow) (at : ℕ) (ret : Option ℕ) → InputsBelow (whole_inputs i) j →
    Below (Some r.p1) ret → is_ready row j ret ≡ true → r.p ≡ at →
    (e : Exit) × IsIn e (exits row j at ret) × ((flow_after row i true r).p ≡ e.at) × Below (Some (flow_after row i true r).p1) e.ret
taken_by row i j r at ret tell back ready here =
    let matched = exits_below Below (λ v. refl) row (whole_inputs i) j r.p (Some r.p1) ret tell back back ready in
    let exact : Matched (ExitBelow Below (λ v. refl)) (exit_to (Some (flow_after row i true r).p) (Some (flow_after row i true r).p1))
    (exits row j r.p ret) = rw (exits_whole row i r) at matched in
    subst (λ (a : ℕ). (e : Exit) × IsIn e (exits row j a ret) × ((flow_after row i true r).p ≡ e.at)
    × Below (Some (flow_after row i true r).p1) e.ret)
    here (found _ _ (exits row j r.p ret) exact.0)

module _ (m : MapView) (tracked : List ℕ) (x : Invariant) (op : Op) (here : Position) (safe : IsSafeHere m tracked x op here) where
  -- ---- the exit that is taken

  -- it is one of those known
  pub record Taken : Type 0 where
    pub exit : Exit
    pub is : IsIn exit (exits_of op m x)
    pub at : (flow_after (row_of op) (gets_at op here) true here.flat.state.flow).p ≡ exit.at
    pub ret : Below (Some (flow_after (row_of op) (gets_at op here) true here.flat.state.flow).p1) exit.ret

  pub taken : Taken
  taken =
      let way = taken_by (row_of op) (gets_at op here) (inputs_at op m x) here.flat.state.flow x.point.at x.point.ret
      (gets_tell m tracked x op here safe) safe.beside.tells.ret
      (ready m safe.beside.view.told tracked x op safe.state.operands safe.state.later) safe.beside.tells.at in
      record { exit = way.0; is = way.1; at = way.2; ret = way.3 }

  -- ---- what is known after the instruction stands for the position there

  registers_stand : RegistersBelow (whole_registers (result_of op (gets_at op here) here.flat.state.registers)) (state_after op m x).registers
  registers_stand =
      let i = gets_at op here in
      let own = gets_tell m tracked x op here safe in
      results_tell op i here.flat.state.registers _ _ _ x.state.registers safe.range
      (used_tells (row_of op) i (inputs_at op m x) own) own.stack_bytes own.counter_bytes safe.beside.tells.registers

  -- a copy of the counters, at an exit
  copy_stands : (e : Exit) → IsIn e (exits_of op m x) → (c : Copy) → CopyTells x.point.ret x.state.counters here.flat.state.flow c →
      CopyTells e.ret (state_after op m x).counters (flow_after (row_of op) (gets_at op here) true here.flat.state.flow)
      (record c { flow = flow_after (row_of op) (gets_at op here) (has_second_counter c.seat.kind) c.flow })
  copy_stands e is c h =
      let i = gets_at op here in
      let row = row_of op in
      let own = gets_tell m tracked x op here safe in
      record {
        at = same_next row i true (has_second_counter c.seat.kind) here.flat.state.flow c.flow h.at
            (back_by row h.back safe.state.later.1.1.0);
        back = from_all _ (exits_of op m x) e
            (backs row i (inputs_at op m x) x.point.at x.point.ret (has_second_counter c.seat.kind) here.flat.state.flow c.flow h.at h.back)
            is;
        chip = chip_tells c.seat.kind row i (inputs_at op m x) x.state.counters here.flat.state.flow c.flow own safe.beside.tells.counters
            h.chip;
      }
    where
      back_by : (row : Row) → Holds (is_some x.point.ret) (c.flow.p1 ≡ here.flat.state.flow.p1) → return_is_unset row x.point.ret ≡ false →
          row ≡ Return → c.flow.p1 ≡ here.flat.state.flow.p1
      back_by row back set is_return =
          let here_set : return_is_unset Return x.point.ret ≡ false = rw is_return at set in
          holds_if_known x.point.ret here_set back

  counters_stand : DataTells (state_after op m x).counters (flow_after (row_of op) (gets_at op here) true here.flat.state.flow)
  counters_stand =
      data_tells (row_of op) (gets_at op here) (inputs_at op m x) x.state.counters here.flat.state.flow (gets_tell m tracked x op here safe)
      safe.beside.tells.counters

  -- the exit's invariant, where no interrupt is taken
  led_on : (way : Taken) → (gets_at op here).chosen ≡ None →
      StandsFor (at_exit tracked (state_after op m x) way.exit) (position_after op here)
  led_on way none =
      let i = gets_at op here in
      let row = row_of op in
      let stays = λ (second : Bool) (c : Flow). stays_on i.chosen (word i.vector_high i.vector_low) (flow_after row i second c) none in
      let flow = stays true here.flat.state.flow in
      record {
        at = ap (λ (f : Flow). f.p) flow ∙ way.at;
        ret = rw (ap (λ (f : Flow). f.p1) flow) way.ret;
        registers = subst (λ (z : Registers). RegistersBelow (whole_registers z) (state_after op m x).registers)
            (sym (keeps_bit i.chosen (result_of op i here.flat.state.registers) none)) registers_stand;
        counters = subst (λ (f : Flow). DataTells (state_after op m x).counters f) (sym flow) counters_stand;
        copies = all_mapped (copy_after row i) _ here.copies (all_map _ _ here.copies
            (λ (c : Copy) h.
            subst (λ (f : Flow). CopyTells way.exit.ret (state_after op m x).counters f (copy_after row i c)) (sym flow)
            (subst (λ (f : Flow). CopyTells way.exit.ret (state_after op m x).counters (flow_after row i true here.flat.state.flow)
            (record c { flow = f })) (sym (stays (has_second_counter c.seat.kind) c.flow)) (copy_stands way.exit way.is c h)))
            safe.beside.tells.copies);
      }

  -- the invariant of a vector, where the interrupt leads there
  led_away : (way : Taken) (socket vector : ℕ) (timer : Bool) → (gets_at op here).chosen ≡ Some socket →
      word (gets_at op here).vector_high (gets_at op here).vector_low ≡ vector_address timer vector →
      StandsFor (at_exit tracked (with_interrupts_off (state_after op m x)) (vector_exit timer vector way.exit)) (position_after op here)
  led_away way socket vector timer chosen given =
      let i = gets_at op here in
      let row = row_of op in
      let to = vector_address timer vector in
      let goes =
      λ (second : Bool) (c : Flow).
      goes_away i.chosen socket (word i.vector_high i.vector_low) to (flow_after row i second c) chosen given in
      let flow = goes true here.flat.state.flow in
      record {
        at = ap (λ (f : Flow). f.p) flow;
        ret = ap Some (ap (λ (f : Flow). f.p1) flow ∙ way.at);
        registers = subst (λ (z : Registers). RegistersBelow (whole_registers z) (with_interrupts_off (state_after op m x)).registers)
            (sym (clears_bit i.chosen socket (result_of op i here.flat.state.registers) chosen))
            (off_below socket (result_of op i here.flat.state.registers) (state_after op m x) registers_stand);
        counters = subst (λ (f : Flow). DataTells (state_after op m x).counters f) (sym flow)
            (record { d0 = counters_stand.d0; d1 = counters_stand.d1 });
        copies = all_mapped (copy_after row i) _ here.copies (all_map _ _ here.copies
            (λ (c : Copy) h.
            subst (λ (f : Flow). CopyTells (Some way.exit.at) (state_after op m x).counters f (copy_after row i c)) (sym flow)
            (subst (λ (f : Flow). CopyTells (Some way.exit.at) (state_after op m x).counters
            (vectored_flow to (flow_after row i true here.flat.state.flow)) (record c { flow = f }))
            (sym (goes (has_second_counter c.seat.kind) c.flow))
            (vectored_copy to way.exit.ret way.exit.at (state_after op m x).counters (flow_after row i true here.flat.state.flow)
            (record c { flow = flow_after row i (has_second_counter c.seat.kind) c.flow }) (copy_stands way.exit way.is c h))))
            safe.beside.tells.copies);
      }

  -- one of the invariants of the way stands for the position
  pub record Led (way : Taken) : Type 0 where
    pub to : Invariant
    pub is : IsIn to
        (along tracked (vectors_let_in op m (state_after op m x).registers.status.icb) (state_after op m x) way.exit)
    pub stands : StandsFor to (position_after op here)

  pub led : (way : Taken) → Led way
  led way = by (gets_at op here).chosen refl
    where
      by : (chosen : Option ℕ) → (gets_at op here).chosen ≡ chosen → Led way
      by None none = record { to = at_exit tracked (state_after op m x) way.exit; is = inl refl; stands = led_on way none }
      by (Some socket) chosen =
          let vectors = vectors_let_in op m (state_after op m x).registers.status.icb in
          let seats = seats_of here.copies in
          let writes = here.flat.state.writes in
          let f = chosen_is_followed m tracked x op here safe socket chosen in
          let timer = admits_expiries (control_of f.seat.ports writes) in
          let given : word (gets_at op here).vector_high (gets_at op here).vector_low ≡ vector_address timer f.seat.vector =
          ap (λ (o : Option ℕ). word (vector_of o seats writes / 256 % 256) (vector_of o seats writes % 256)) chosen
          ∙ vector_is vectors seats socket writes f in
          record {
            to = at_exit tracked (with_interrupts_off (state_after op m x)) (vector_exit timer f.seat.vector way.exit);
            is = in_along_vector tracked vectors (state_after op m x) way.exit timer f.seat.vector f.among;
            stands = led_away way socket f.seat.vector timer chosen given;
          }
