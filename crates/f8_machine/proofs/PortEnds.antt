-- At the end of an instruction the writes are the flat machine's: those of the steps, and that to a port of the processor's own.
use Rattle.std.proofs.Common.{◌≡◌, ℕ, zero, suc, Bool, true, false, List, [], ◌∷◌, ◌++◌, map, refl, sym, ap, ◌∙◌, subst}
use Rattle.std.proofs.Common.{arith, eqb-true}
use Rattle.std.specs.Prelude.{◌==◌, nat_lt, if◌then◌else◌, Option, Some, None, slice_index}
use Rattle.std.proofs.lemmas.Bool.{ltb-true}
use Rattle.f8_spec.specs.BusArbitration.{Seat, seat_of, seat_has_port}
use Rattle.f8_spec.specs.ChipState.{ChipView, data_port, port_role}
use Rattle.f8_spec.specs.Instructions.{row_of}
use Rattle.f8_spec.specs.declared.instructions.Op.{Op}
use Rattle.f8_spec.specs.declared.instructions.Op.TheVariants.{Ins, Outs}
use Rattle.f8_spec.specs.declared.instructions.Row.TheVariants.{Idle, ShortIn, ShortOut}
use Rattle.console_spec.specs.FlatMachine.{FlatState, gets_all}
use Rattle.console_spec.specs.Processor.{Flow, Inputs, if_taken, write_at, write_of, with_write, port_field, own_inputs}
use Rattle.console_spec.specs.BusAccesses.{accesses_before_fetch, last_access}
use Rattle.console_spec.specs.BusTrace.{TracedStep, course_of, steps_with}
use Rattle.console_spec.specs.CounterCopies.{Copy}
use Rattle.console_spec.specs.Run.{seats_of}
use Rattle.console_spec.specs.Writes.{latch_of, takers}
use Rattle.console_spec.specs.declared.PortWrite.{PortWrite}
use Rattle.cpu3850.specs.OwnWrites.{LeaveOwnPorts}
use Rattle.f8_machine.specs.RackViews.{HoldsPorts}
use Rattle.f8_machine.specs.PortWrites.{chip_write, done_write}
use Rattle.f8_machine.specs.Rounds.{heard_of}
use Rattle.f8_machine.proofs.PortSteps.{counts_one, has_port}
use Rattle.f8_machine.proofs.PortValues.{bus_port}
use Rattle.f8_machine.proofs.Rows.{row_facts}

-- the number of its port
pub port_gets : (op : Op) (seats : List Seat) (chain : List ℕ) (f : FlatState) →
    (gets_all op seats chain f).port ≡ port_field op
unfolding own_inputs
port_gets op seats chain f = refl

-- no chip has the processor's own ports
pub free_of : (n : ℕ) (seats : List Seat) → LeaveOwnPorts seats → nat_lt n 2 ≡ true → takers n seats ≡ 0
free_of zero seats free small = free.port_0
free_of (suc zero) seats free small = free.port_1
free_of (suc (suc n)) seats free small = absurd (omega (arith, ltb-true (suc (suc n)) 2 small))

latch_other : (phi byte n port : ℕ) (writes : List PortWrite) (b : Bool) → (n == port) ≡ b → (b ≡ true → ⊥) →
    latch_of port (record { phi = phi; port = n; byte = byte } ∷ writes) ≡ latch_of port writes
latch_other phi byte n port writes true is other = absurd (other refl)
latch_other phi byte n port writes false is other = rw is refl

own_write : (n phi byte : ℕ) (keys : List ℕ) (writes : List PortWrite) (vs : List ChipView) →
    takers n (map seat_of vs) ≡ 0 → HoldsPorts keys writes vs →
    HoldsPorts keys (record { phi = phi; port = n; byte = byte } ∷ writes) vs
own_write n phi byte keys writes vs none holds place v port latch lies found once =
    let is = holds place v port latch lies found once in
    let apart : (n == port) ≡ true → ⊥ = λ same. let has : seat_has_port (seat_of v) n ≡ true =
    has_port (port_role v n) latch (ap (data_port v) (eqb-true n port same) ∙ found) in
    let some = counts_one (λ s. seat_has_port s n) vs place v lies has in omega (arith, some, none) in
    record {
      latches = is.latches;
      key_bytes = is.key_bytes;
      written = is.written ∙ sym (latch_other phi byte n port writes (n == port) refl apart);
      key = is.key;
    }

ins_none : (b : Bool) (i : Inputs) (seats : List Seat) (phi : ℕ) (keys : List ℕ) (writes : List PortWrite)
    (vs : List ChipView) →
    HoldsPorts keys (with_write (write_at phi i.accumulator (bus_port (if b then Idle else ShortIn) i seats)) writes)
    vs → HoldsPorts keys writes vs
ins_none true i seats phi keys writes vs holds = holds
ins_none false i seats phi keys writes vs holds = holds

outs_write : (b : Bool) (n : ℕ) (i : Inputs) (seats : List Seat) (phi : ℕ) (keys : List ℕ) (writes : List PortWrite)
    (vs : List ChipView) → nat_lt n 2 ≡ b → i.port ≡ n → LeaveOwnPorts (map seat_of vs) →
    HoldsPorts keys (with_write (write_at phi i.accumulator (bus_port (if b then Idle else ShortOut) i seats)) writes)
    vs →
    HoldsPorts keys (with_write (write_at phi i.accumulator (if b then Some n else if_taken n seats)) writes) vs
outs_write true n i seats phi keys writes vs own port free holds =
    own_write n phi i.accumulator keys writes vs (free_of n (map seat_of vs) free own) holds
outs_write false n i seats phi keys writes vs own port free holds =
    subst (λ (p : ℕ). HoldsPorts keys (with_write (write_at phi i.accumulator (if_taken p seats)) writes) vs) port holds

pub flat_writes : (op : Op) (i : Inputs) (seats : List Seat) (phi : ℕ) (keys : List ℕ) (writes : List PortWrite)
    (vs : List ChipView) → i.port ≡ port_field op → LeaveOwnPorts (map seat_of vs) →
    HoldsPorts keys (with_write (write_at phi i.accumulator (bus_port (row_of op) i seats)) writes) vs →
    HoldsPorts keys (with_write (write_of op i seats phi) writes) vs
flat_writes (Ins n) i seats phi keys writes vs port free holds = ins_none (nat_lt n 2) i seats phi keys writes vs holds
flat_writes (Outs n) i seats phi keys writes vs port free holds =
    outs_write (nat_lt n 2) n i seats phi keys writes vs refl port free holds
flat_writes op i seats phi keys writes vs port free holds = holds

-- ---- the write of an instruction, as the machine tells it

-- `OUTS` of port 0 or 1 leaves the accumulator in the latch
abbrev pub OwnLatch : Op → ℕ → List ℕ → Type 0
OwnLatch (Outs n) accumulator latches = nat_lt n 2 ≡ true → slice_index latches n ≡ accumulator
OwnLatch op accumulator latches = Unit {0}

ins_nothing : (b : Bool) (i : Inputs) (seats : List Seat) (phi : ℕ) →
    write_at phi i.accumulator (bus_port (if b then Idle else ShortIn) i seats) ≡ None
ins_nothing true i seats phi = refl
ins_nothing false i seats phi = refl

outs_done : (b : Bool) (n : ℕ) (i : Inputs) (seats : List Seat) (phi : ℕ) (latches : List ℕ)
    (found : Option PortWrite) → i.port ≡ n → (b ≡ true → slice_index latches n ≡ i.accumulator) →
    found ≡ write_at phi i.accumulator (bus_port (if b then Idle else ShortOut) i seats) →
    (if b then Some (record { phi = phi; port = n; byte = slice_index latches n }) else found)
    ≡ write_at phi i.accumulator (if b then Some n else if_taken n seats)
outs_done true n i seats phi latches found port latch e =
    ap (λ (k : ℕ). Some (record { phi = phi; port = n; byte = k })) (latch refl)
outs_done false n i seats phi latches found port latch e =
    e ∙ ap (λ (p : ℕ). write_at phi i.accumulator (if_taken p seats)) port

pub op_write : (op : Op) (i : Inputs) (c : Flow) (copies : List Copy) (phi : ℕ) (latches : List ℕ)
    (so_far : List TracedStep) → i.port ≡ port_field op → OwnLatch op i.accumulator latches →
    course_of i c copies (steps_with (row_of op) i)
    (accesses_before_fetch (row_of op) i ++ last_access (row_of op) i ∷ [])
    ≡ record { steps = so_far; fault = None } →
    done_write (Some op) phi latches (map heard_of so_far) ≡ write_of op i (seats_of copies) phi
op_write (Ins n) i c copies phi latches so_far port latch e =
    (row_facts (row_of (Ins n))).ports.wrote i c copies phi so_far e ∙ ins_nothing (nat_lt n 2) i (seats_of copies) phi
op_write (Outs n) i c copies phi latches so_far port latch e =
    outs_done (nat_lt n 2) n i (seats_of copies) phi latches (chip_write phi (map heard_of so_far)) port latch
    ((row_facts (row_of (Outs n))).ports.wrote i c copies phi so_far e)
op_write op i c copies phi latches so_far port latch e = (row_facts (row_of op)).ports.wrote i c copies phi so_far e
