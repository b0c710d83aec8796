-- Facts by row of the instruction table. A new row of it has its facts in `row_facts`.
use Rattle.std.proofs.Common.{◌≡◌, ℕ, Bool, true, false, List, [], ◌∷◌, ◌++◌, map, Option, None, Some, refl, ap, ◌∙◌}
use Rattle.f8_spec.specs.Words.{word}
use Rattle.std.proofs.Common.{sym, arith}
use Rattle.std.specs.Prelude.{sum_by, ◌+◌, ◌-◌, if◌then◌else◌}
use Rattle.std.specs.List.{list_all}
use Rattle.f8_spec.specs.BusArbitration.{Seat}
use Rattle.f8_spec.specs.Instructions.{row_of, row_clocks, has_long_fetch, interrupt_clocks, step_clocks}
use Rattle.f8_spec.specs.declared.instructions.Op.{Op}
use Rattle.console_spec.specs.FlatStep.{clocks_by}
use Rattle.f8_spec.specs.MicroSteps.{Accumulator, Operand, PortNumber, long_step, clocks_along}
use Rattle.f8_spec.specs.MicroSteps.{steps_before_fetch, steps_of}
use Rattle.f8_spec.specs.declared.instructions.Row.{Row}
use Rattle.f8_spec.specs.declared.instructions.Row.TheVariants.{Plain, PlainLong, Idle, StackToK, StackFromK, CallK}
use Rattle.f8_spec.specs.declared.instructions.Row.TheVariants.{JumpQ, DataToPair, DataFromQ, DataFromH, ReadData}
use Rattle.f8_spec.specs.declared.instructions.Row.TheVariants.{StoreData, Return, Immediate, PortIn, PortOut, Call}
use Rattle.f8_spec.specs.declared.instructions.Row.TheVariants.{Jump, LoadData, Exchange, AddData, Branch, BranchIsar}
use Rattle.f8_spec.specs.declared.instructions.Row.TheVariants.{ShortIn, ShortOut}
use Rattle.console_spec.specs.BusAccesses.{Access, accesses_before_fetch, ahead, at_port, last_access}
use Rattle.console_spec.specs.BusTrace.{TracedStep, Course, course_by, course_of, ending_steps, steps_with}
use Rattle.console_spec.specs.CounterCopies.{Copy, fetched}
use Rattle.console_spec.specs.FlatMachine.{memory_after}
use Rattle.console_spec.specs.Processor.{Flow, Inputs, flow_after, with_write, write_at, interrupted, interrupted_by, counters_after}
use Rattle.console_spec.specs.Run.{seats_of}
use Rattle.console_spec.specs.Services.{access_ruling}
use Rattle.console_spec.specs.declared.PortWrite.{PortWrite}
use Rattle.console_spec.proofs.Walks.{HasBytes, rests, places_on-places_on}
use Rattle.cpu3850.specs.declared.steps.Step.{Step}
use Rattle.cpu3850.specs.CpuSteps.{bus_step}
use Rattle.f8_machine.specs.PortWrites.{chip_write}
use Rattle.f8_machine.specs.Refinement.{AreAddresses}
use Rattle.f8_machine.specs.Rounds.{heard_of}
use Rattle.f8_machine.proofs.Bounds.{GetsBytes, AreAt, branch_small, displaced_small, word_small}
use Rattle.std.proofs.lemmas.List.{map-append}
use Rattle.f8_spec.specs.BusCodes.{Count}
use Rattle.console_spec.proofs.Walks.{moved_along}
use Rattle.f8_machine.proofs.Places.{last_along, named_place, places_along, places_along-append}
use Rattle.f8_machine.proofs.PortValues.{FromPort, PortValues, PortValues-append, bus_port, no_port_values}
use Rattle.f8_machine.proofs.PortValues.{writes_along, writes_along-append, writes_stay}
use Rattle.f8_machine.proofs.Endings.{ending_portless, ending_memory, ending_places, ending_values}
use Rattle.f8_machine.proofs.StepTests.{by_taken, all-append, is_portless, is_plain, puts_last}
use Rattle.f8_machine.proofs.Values.{FromFlat, Values, Values-append, memory_along, memory_along-append}
use Rattle.f8_machine.proofs.Written.{FirstBy, FirstServed, ends, first_by, first_idle, puts_nothing}
use Rattle.f8_machine.proofs.Written.{row_none, written_by}

-- ---- what computes for each row

-- no step before the last fetch acknowledges an interrupt
pub plain_before : (row : Row) (taken : Bool) → list_all is_plain (steps_before_fetch row taken) ≡ true
plain_before Branch true = refl
plain_before Branch false = refl
plain_before BranchIsar true = refl
plain_before BranchIsar false = refl
plain_before row taken = refl

pub clocks_listed : (row : Row) (taken : Bool) →
    sum_by (λ (step : Step). step_clocks step.long) (map bus_step (steps_of row taken)) ≡ row_clocks row taken
clocks_listed Branch true = refl
clocks_listed Branch false = refl
clocks_listed BranchIsar true = refl
clocks_listed BranchIsar false = refl
clocks_listed row taken = refl

-- the clocks of a row with an interrupt at its end, or none
abbrev clocks_in : Option ℕ → Row → Bool → ℕ
clocks_in None row taken = row_clocks row taken
clocks_in (Some socket) row taken = row_clocks row taken - (if has_long_fetch row then 6 else 4) + interrupt_clocks

pub clocks_before_are : (row : Row) (taken : Bool) →
    sum_by (λ (step : Step). step_clocks step.long) (map bus_step (steps_before_fetch row taken))
    ≡ row_clocks row taken - (if has_long_fetch row then 6 else 4)
clocks_before_are Branch true = refl
clocks_before_are Branch false = refl
clocks_before_are BranchIsar true = refl
clocks_before_are BranchIsar false = refl
clocks_before_are row taken = refl

-- A row that writes a port of a chip has no interrupt at its end, so that the write stands a short step before the end.
abbrev pub has_put : Row → Bool
has_put PortOut = true
has_put ShortOut = true
has_put row = false

pub puts_of : (row : Row) (taken : Bool) (chosen : Option ℕ) → (has_put row ≡ true → chosen ≡ None) →
    puts_last (steps_before_fetch row taken ++ ending_steps row chosen) ≡ true
puts_of PortOut taken None free = refl
puts_of PortOut taken (Some socket) free = let none = free refl in cc
puts_of ShortOut taken None free = refl
puts_of ShortOut taken (Some socket) free = let none = free refl in cc
puts_of Branch true None free = refl
puts_of Branch true (Some socket) free = refl
puts_of Branch false None free = refl
puts_of Branch false (Some socket) free = refl
puts_of BranchIsar true None free = refl
puts_of BranchIsar true (Some socket) free = refl
puts_of BranchIsar false None free = refl
puts_of BranchIsar false (Some socket) free = refl
puts_of row taken None free = refl
puts_of row taken (Some socket) free = refl

-- the clocks of all steps
pub clocks_with : (op : Op) (taken : Bool) (chosen : Option ℕ) →
    clocks_along (steps_before_fetch (row_of op) taken ++ ending_steps (row_of op) chosen) ≡ clocks_by chosen op taken
clocks_with op taken chosen = by (row_of op) taken chosen ∙ same chosen
  where
    same : (chosen : Option ℕ) → clocks_in chosen (row_of op) taken ≡ clocks_by chosen op taken
    same None = refl
    same (Some socket) = refl

    by : (row : Row) (taken : Bool) (chosen : Option ℕ) →
        clocks_along (steps_before_fetch row taken ++ ending_steps row chosen) ≡ clocks_in chosen row taken
    by Branch true None = refl
    by Branch true (Some socket) = refl
    by Branch false None = refl
    by Branch false (Some socket) = refl
    by BranchIsar true None = refl
    by BranchIsar true (Some socket) = refl
    by BranchIsar false None = refl
    by BranchIsar false (Some socket) = refl
    by row taken None = refl
    by row taken (Some socket) = refl

-- before the last fetch the memory is that after the instruction
memory_before : (row : Row) (taken : Bool) (seats : List Seat) (i : Inputs) (c : Flow) (last : ℕ) (memory : List ℕ) →
    memory_along seats i (steps_before_fetch row taken) (fetched c) last memory ≡ memory_after row seats i c memory
memory_before Branch true seats i c last memory = refl
memory_before Branch false seats i c last memory = refl
memory_before BranchIsar true seats i c last memory = refl
memory_before BranchIsar false seats i c last memory = refl
memory_before row taken seats i c last memory = refl

-- before the last fetch the places of the steps are those of the accesses
branch_places : (i : Inputs) (taken second : Bool) (c : Flow) (last : ℕ) → i.taken ≡ taken →
    places_along second i (steps_before_fetch Branch i.taken) (fetched c) last
    ≡ map (named_place second c) (accesses_before_fetch Branch i)
branch_places i true second c last e = rw e refl
branch_places i false second c last e = rw e refl

branch_isar_places : (i : Inputs) (taken second : Bool) (c : Flow) (last : ℕ) → i.taken ≡ taken →
    places_along second i (steps_before_fetch BranchIsar i.taken) (fetched c) last
    ≡ map (named_place second c) (accesses_before_fetch BranchIsar i)
branch_isar_places i true second c last e = rw e refl
branch_isar_places i false second c last e = rw e refl

places_before : (row : Row) (i : Inputs) (second : Bool) (c : Flow) (last : ℕ) →
    places_along second i (steps_before_fetch row i.taken) (fetched c) last
    ≡ map (named_place second c) (accesses_before_fetch row i)
places_before Call i second c last = rw places_on-places_on
places_before Jump i second c last = rw places_on-places_on
places_before LoadData i second c last = rw places_on-places_on
places_before Branch i second c last = branch_places i i.taken second c last refl
places_before BranchIsar i second c last = branch_isar_places i i.taken second c last refl
places_before row i second c last = refl

-- ---- what differs by row

-- what a row does to the ports of chips before the steps at its end
pub record PortFacts (row : Row) : Type 0 where
  -- the byte that a chip's port gives is the flat machine's
  pub port_values : (taken : Bool) (seats : List Seat) (keys : List ℕ) (phi : ℕ) (i : Inputs) (last : ℕ)
      (writes : List PortWrite) →
      FromPort row i seats keys writes → PortValues seats keys phi i (steps_before_fetch row taken) last writes
  -- the writes become the flat machine's
  pub writes : (taken : Bool) (seats : List Seat) (phi : ℕ) (i : Inputs) (last : ℕ) (writes : List PortWrite) →
      writes_along seats phi i (steps_before_fetch row taken) last writes
      ≡ with_write (write_at phi i.accumulator (bus_port row i seats)) writes
  -- where all steps are served, the machine finds the write in their record
  pub wrote : (i : Inputs) (c : Flow) (copies : List Copy) (phi : ℕ) (so_far : List TracedStep) →
      course_of i c copies (steps_with row i) (accesses_before_fetch row i ++ last_access row i ∷ [])
      ≡ ends so_far →
      chip_write phi (map heard_of so_far) ≡ write_at phi i.accumulator (bus_port row i (seats_of copies))

pub record RowFacts (row : Row) : Type 0 where
  -- before the last fetch every byte that a chip drives is the flat machine's
  pub values : (taken : Bool) (seats : List Seat) (i : Inputs) (c : Flow) (last : ℕ) (memory : List ℕ) →
      FromFlat row seats i memory c →
      Values seats i (steps_before_fetch row taken) (fetched c) last memory
  -- after the instruction the counters are addresses again
  pub flow : (i : Inputs) (second : Bool) (c : Flow) → GetsBytes i → AreAddresses c →
      AreAddresses (flow_after row i second c)
  -- the places of reads are addresses
  pub places : (i : Inputs) (c : Flow) (later : List Access) → AreAddresses c → AreAt c later →
      AreAt c (accesses_before_fetch row i ++ later)
  pub ports : PortFacts row

-- a row whose steps leave the ports of chips alone
no_ports : (row : Row) → ((taken : Bool) → list_all is_portless (steps_before_fetch row taken) ≡ true) →
    ((i : Inputs) (seats : List Seat) → bus_port row i seats ≡ None) → PortFacts row
no_ports row portless none = record {
  port_values = λ taken seats keys phi i last writes f. no_port_values seats keys phi i (steps_before_fetch row taken)
      last writes (portless taken);
  writes = λ taken seats phi i last writes. writes_stay seats phi i (steps_before_fetch row taken) last writes
      (portless taken)
      ∙ ap (λ (port : Option ℕ). with_write (write_at phi i.accumulator port) writes) (sym (none i seats));
  wrote = λ i c copies phi so_far e. row_none row i c copies phi so_far e
      (puts_nothing (steps_with row i) (all-append is_portless (steps_before_fetch row i.taken)
      (ending_steps row i.chosen) (portless i.taken) (ending_portless row i.chosen)))
      ∙ ap (write_at phi i.accumulator) (sym (none i (seats_of copies)));
}

-- `OUT`, and `OUTS` of a chip's port
out_wrote : (i : Inputs) (c : Flow) (copies : List Copy) (phi : ℕ) (so_far : List TracedStep) →
    course_of i c copies (steps_with PortOut i) (accesses_before_fetch PortOut i ++ last_access PortOut i ∷ [])
    ≡ ends so_far →
    chip_write phi (map heard_of so_far) ≡ write_at phi i.accumulator (bus_port PortOut i (seats_of copies))
out_wrote i c copies phi so_far e =
    let rest : Course = course_of i c copies (ending_steps PortOut i.chosen) (last_access PortOut i ∷ []) in
    let put : Course = course_by i (long_step 0x1A Accumulator)
    (access_ruling c copies (at_port 0x1A i.operand)) rest in
    let first : FirstBy i (long_step 0x03 Operand) (access_ruling c copies (ahead 0x03 1)) put so_far =
    first_by i (long_step 0x03 Operand) (access_ruling c copies (ahead 0x03 1)) put so_far e in
    written_by phi i (long_step 0x03 Operand) i.operand c copies first.socket rest so_far first.are first.rest_ends refl

short_out_wrote : (i : Inputs) (c : Flow) (copies : List Copy) (phi : ℕ) (so_far : List TracedStep) →
    course_of i c copies (steps_with ShortOut i) (accesses_before_fetch ShortOut i ++ last_access ShortOut i ∷ [])
    ≡ ends so_far →
    chip_write phi (map heard_of so_far) ≡ write_at phi i.accumulator (bus_port ShortOut i (seats_of copies))
short_out_wrote i c copies phi so_far e =
    let rest : Course = course_of i c copies (ending_steps ShortOut i.chosen) (last_access ShortOut i ∷ []) in
    let put : Course = course_by i (long_step 0x1A Accumulator) (access_ruling c copies (at_port 0x1A i.port)) rest in
    let first : FirstServed i (long_step 0x1C PortNumber) put so_far =
    first_idle i (long_step 0x1C PortNumber) None put so_far e in
    written_by phi i (long_step 0x1C PortNumber) i.port c copies first.socket rest so_far first.are first.rest_ends refl

exchange_small : (second : Bool) (c : Flow) → AreAddresses c → (i : Inputs) →
    AreAddresses (flow_after Exchange i second c)
exchange_small true c s i = record { p = omega arith; p1 = s.p1; d0 = s.d1; d1 = s.d0 }
exchange_small false c s i = record { p = omega arith; p1 = s.p1; d0 = s.d0; d1 = s.d1 }

-- ---- the table

pub row_facts : (row : Row) → RowFacts row
row_facts StackToK = record {
  values = λ taken seats i c last memory f. (f.stack_high, (f.stack_low, tt));
  flow = λ i second c b s. record { p = omega arith; p1 = s.p1; d0 = s.d0; d1 = s.d1 };
  places = λ i c later s l. (λ read. s.p1, (λ read. s.p1, l));
  ports = no_ports StackToK (λ taken. refl) (λ i seats. refl);
}
row_facts StackFromK = record {
  values = λ taken seats i c last memory f. (tt, (tt, tt));
  flow = λ i second c b s. record { p = omega arith; p1 = word_small _ _ b.k_high b.low.k_low; d0 = s.d0; d1 = s.d1 };
  places = λ i c later s l. l;
  ports = no_ports StackFromK (λ taken. refl) (λ i seats. refl);
}
row_facts CallK = record {
  values = λ taken seats i c last memory f. (tt, (tt, tt));
  flow = λ i second c b s. record { p = word_small _ _ b.k_high b.low.k_low; p1 = omega arith; d0 = s.d0; d1 = s.d1 };
  places = λ i c later s l. l;
  ports = no_ports CallK (λ taken. refl) (λ i seats. refl);
}
row_facts JumpQ = record {
  values = λ taken seats i c last memory f. (tt, (tt, tt));
  flow = λ i second c b s. record { p = word_small _ _ b.q_high b.low.q_low; p1 = s.p1; d0 = s.d0; d1 = s.d1 };
  places = λ i c later s l. l;
  ports = no_ports JumpQ (λ taken. refl) (λ i seats. refl);
}
row_facts DataToPair = record {
  values = λ taken seats i c last memory f. (f.data_high, (f.data_low, tt));
  flow = λ i second c b s. record { p = omega arith; p1 = s.p1; d0 = s.d0; d1 = s.d1 };
  places = λ i c later s l. (λ read. s.d0, (λ read. s.d0, l));
  ports = no_ports DataToPair (λ taken. refl) (λ i seats. refl);
}
row_facts DataFromQ = record {
  values = λ taken seats i c last memory f. (tt, (tt, tt));
  flow = λ i second c b s. record { p = omega arith; p1 = s.p1; d0 = word_small _ _ b.q_high b.low.q_low; d1 = s.d1 };
  places = λ i c later s l. l;
  ports = no_ports DataFromQ (λ taken. refl) (λ i seats. refl);
}
row_facts DataFromH = record {
  values = λ taken seats i c last memory f. (tt, (tt, tt));
  flow = λ i second c b s. record { p = omega arith; p1 = s.p1; d0 = word_small _ _ b.h_high b.low.h_low; d1 = s.d1 };
  places = λ i c later s l. l;
  ports = no_ports DataFromH (λ taken. refl) (λ i seats. refl);
}
row_facts ReadData = record {
  values = λ taken seats i c last memory f. (f.data_byte, tt);
  flow = λ i second c b s. record { p = omega arith; p1 = s.p1; d0 = omega arith; d1 = s.d1 };
  places = λ i c later s l. (λ read. s.d0, l);
  ports = no_ports ReadData (λ taken. refl) (λ i seats. refl);
}
row_facts StoreData = record {
  values = λ taken seats i c last memory f. (tt, tt);
  flow = λ i second c b s. record { p = omega arith; p1 = s.p1; d0 = omega arith; d1 = s.d1 };
  places = λ i c later s l. (λ read. s.d0, l);
  ports = no_ports StoreData (λ taken. refl) (λ i seats. refl);
}
row_facts Return = record {
  values = λ taken seats i c last memory f. (refl, tt);
  flow = λ i second c b s. record { p = s.p1; p1 = s.p1; d0 = s.d0; d1 = s.d1 };
  places = λ i c later s l. l;
  ports = no_ports Return (λ taken. refl) (λ i seats. refl);
}
row_facts Immediate = record {
  values = λ taken seats i c last memory f. (f.operand, tt);
  flow = λ i second c b s. record { p = omega arith; p1 = s.p1; d0 = s.d0; d1 = s.d1 };
  places = λ i c later s l. (λ read. omega arith, l);
  ports = no_ports Immediate (λ taken. refl) (λ i seats. refl);
}
row_facts PortIn = record {
  values = λ taken seats i c last memory f. (f.operand, (tt, tt));
  flow = λ i second c b s. record { p = omega arith; p1 = s.p1; d0 = s.d0; d1 = s.d1 };
  places = λ i c later s l. (λ read. omega arith, (λ read. cc, l));
  ports = record {
    port_values = λ taken seats keys phi i last writes f. (tt, (f, tt));
    writes = λ taken seats phi i last writes. refl;
    wrote = λ i c copies phi so_far e. row_none PortIn i c copies phi so_far e refl;
  };
}
row_facts PortOut = record {
  values = λ taken seats i c last memory f. (f.operand, (tt, tt));
  flow = λ i second c b s. record { p = omega arith; p1 = s.p1; d0 = s.d0; d1 = s.d1 };
  places = λ i c later s l. (λ read. omega arith, (λ read. cc, l));
  ports = record {
    port_values = λ taken seats keys phi i last writes f. (tt, (tt, tt));
    writes = λ taken seats phi i last writes. refl;
    wrote = out_wrote;
  };
}
row_facts Call = record {
  values = λ taken seats i c last memory f. (f.operand, (refl, (rw places_on-places_on f.second, (tt, tt))));
  flow = λ i second c b s. record { p = word_small _ _ b.operand b.low.second; p1 = omega arith; d0 = s.d0; d1 = s.d1 };
  places = λ i c later s l. (λ read. omega arith, (λ read. omega arith, l));
  ports = no_ports Call (λ taken. refl) (λ i seats. refl);
}
row_facts Jump = record {
  values = λ taken seats i c last memory f. (f.operand, (rw places_on-places_on f.second, (tt, tt)));
  flow = λ i second c b s. record { p = word_small _ _ b.operand b.low.second; p1 = s.p1; d0 = s.d0; d1 = s.d1 };
  places = λ i c later s l. (λ read. omega arith, (λ read. omega arith, l));
  ports = no_ports Jump (λ taken. refl) (λ i seats. refl);
}
row_facts LoadData = record {
  values = λ taken seats i c last memory f. (
    f.operand,
    (f.operand, (rw places_on-places_on f.second, (rw places_on-places_on f.second, tt))),
  );
  flow = λ i second c b s. record { p = omega arith; p1 = s.p1; d0 = word_small _ _ b.operand b.low.second; d1 = s.d1 };
  places = λ i c later s l. (
    λ read. omega arith,
    (λ read. omega arith, (λ read. omega arith, (λ read. omega arith, l))),
  );
  ports = no_ports LoadData (λ taken. refl) (λ i seats. refl);
}
row_facts Exchange = record {
  values = λ taken seats i c last memory f. (refl, tt);
  flow = λ i second c b s. exchange_small second c s i;
  places = λ i c later s l. l;
  ports = no_ports Exchange (λ taken. refl) (λ i seats. refl);
}
row_facts AddData = record {
  values = λ taken seats i c last memory f. (tt, tt);
  flow = λ i second c b s. record { p = omega arith; p1 = s.p1; d0 = displaced_small c.d0 i.accumulator; d1 = s.d1 };
  places = λ i c later s l. l;
  ports = no_ports AddData (λ taken. refl) (λ i seats. refl);
}
row_facts Branch = record {
  values = λ taken seats i c last memory f.
      by_taken (λ t. Values seats i (steps_before_fetch Branch t) (fetched c) last memory) (tt, (f.operand, tt))
      (tt, (f.operand, tt)) taken;
  flow = λ i second c b s. record { p = branch_small i.taken c.p i.operand; p1 = s.p1; d0 = s.d0; d1 = s.d1 };
  places = λ i c later s l. (λ read. omega arith, l);
  ports = no_ports Branch (by_taken (λ taken. list_all is_portless (steps_before_fetch Branch taken) ≡ true) refl refl)
      (λ i seats. refl);
}
row_facts BranchIsar = record {
  values = λ taken seats i c last memory f.
      by_taken (λ t. Values seats i (steps_before_fetch BranchIsar t) (fetched c) last memory) (f.operand, tt)
      (f.operand, tt) taken;
  flow = λ i second c b s. record { p = branch_small i.taken c.p i.operand; p1 = s.p1; d0 = s.d0; d1 = s.d1 };
  places = λ i c later s l. (λ read. omega arith, l);
  ports = no_ports BranchIsar (by_taken (λ taken. list_all is_portless (steps_before_fetch BranchIsar taken) ≡ true) refl refl)
      (λ i seats. refl);
}
row_facts ShortIn = record {
  values = λ taken seats i c last memory f. (tt, (tt, tt));
  flow = λ i second c b s. record { p = omega arith; p1 = s.p1; d0 = s.d0; d1 = s.d1 };
  places = λ i c later s l. (λ read. cc, l);
  ports = record {
    port_values = λ taken seats keys phi i last writes f. (tt, (f, tt));
    writes = λ taken seats phi i last writes. refl;
    wrote = λ i c copies phi so_far e. row_none ShortIn i c copies phi so_far e refl;
  };
}
row_facts ShortOut = record {
  values = λ taken seats i c last memory f. (tt, (tt, tt));
  flow = λ i second c b s. record { p = omega arith; p1 = s.p1; d0 = s.d0; d1 = s.d1 };
  places = λ i c later s l. (λ read. cc, l);
  ports = record {
    port_values = λ taken seats keys phi i last writes f. (tt, (tt, tt));
    writes = λ taken seats phi i last writes. refl;
    wrote = short_out_wrote;
  };
}
row_facts Plain = record {
  values = λ taken seats i c last memory f. tt;
  flow = λ i second c b s. record { p = omega arith; p1 = s.p1; d0 = s.d0; d1 = s.d1 };
  places = λ i c later s l. l;
  ports = no_ports Plain (λ taken. refl) (λ i seats. refl);
}
row_facts PlainLong = record {
  values = λ taken seats i c last memory f. tt;
  flow = λ i second c b s. record { p = omega arith; p1 = s.p1; d0 = s.d0; d1 = s.d1 };
  places = λ i c later s l. l;
  ports = no_ports PlainLong (λ taken. refl) (λ i seats. refl);
}
row_facts Idle = record {
  values = λ taken seats i c last memory f. (tt, tt);
  flow = λ i second c b s. record { p = omega arith; p1 = s.p1; d0 = s.d0; d1 = s.d1 };
  places = λ i c later s l. l;
  ports = no_ports Idle (λ taken. refl) (λ i seats. refl);
}

-- ---- all steps of a row

pub memory_goes : (seats : List Seat) (row : Row) (i : Inputs) (c : Flow) (last : ℕ) (memory : List ℕ) →
    memory_along seats i (steps_with row i) (fetched c) last memory ≡ memory_after row seats i c memory
memory_goes seats row i c last memory =
    memory_along-append seats i (steps_before_fetch row i.taken) (ending_steps row i.chosen) (fetched c) last memory
    ∙ ending_memory seats i row i.chosen (moved_along true i (steps_before_fetch row i.taken) (fetched c))
    (last_along i (steps_before_fetch row i.taken) last) _
    ∙ memory_before row i.taken seats i c last memory

pub values_of : (seats : List Seat) (row : Row) (i : Inputs) → HasBytes i → (c : Flow) (last : ℕ) (memory : List ℕ) →
    FromFlat row seats i memory c → Values seats i (steps_with row i) (fetched c) last memory
values_of seats row i b c last memory f =
    Values-append seats i (steps_before_fetch row i.taken) (ending_steps row i.chosen) (fetched c) last memory
    ((row_facts row).values i.taken seats i c last memory f)
    (rw (rests row i b true c, memory_before row i.taken seats i c last memory)
    (ending_values seats row i b (flow_after row i true c) (last_along i (steps_before_fetch row i.taken) last)
    (memory_after row seats i c memory) f.opcode))

pub port_values_of : (seats : List Seat) (keys : List ℕ) (phi : ℕ) (row : Row) (i : Inputs) (last : ℕ)
    (writes : List PortWrite) →
    FromPort row i seats keys writes → PortValues seats keys phi i (steps_with row i) last writes
port_values_of seats keys phi row i last writes f =
    PortValues-append seats keys phi i (steps_before_fetch row i.taken) (ending_steps row i.chosen) last writes
    ((row_facts row).ports.port_values i.taken seats keys phi i last writes f)
    (no_port_values seats keys phi i (ending_steps row i.chosen) _ _ (ending_portless row i.chosen))

pub writes_of : (seats : List Seat) (phi : ℕ) (row : Row) (i : Inputs) (last : ℕ) (writes : List PortWrite) →
    writes_along seats phi i (steps_with row i) last writes
    ≡ with_write (write_at phi i.accumulator (bus_port row i seats)) writes
writes_of seats phi row i last writes =
    writes_along-append seats phi i (steps_before_fetch row i.taken) (ending_steps row i.chosen) last writes
    ∙ writes_stay seats phi i (ending_steps row i.chosen) _ _ (ending_portless row i.chosen)
    ∙ (row_facts row).ports.writes i.taken seats phi i last writes

-- the counters after an interrupt are addresses again
interrupted_small : (i : Inputs) (c : Flow) → GetsBytes i → AreAddresses c → AreAddresses (interrupted i c)
interrupted_small i c b s = by i.chosen
  where
    by : (chosen : Option ℕ) → AreAddresses (interrupted_by chosen (word i.vector_high i.vector_low) c)
    by None = s
    by (Some socket) = record {
      p = word_small _ _ b.vector_high b.low.vector_low;
      p1 = s.p;
      d0 = s.d0;
      d1 = s.d1;
    }

pub counters_small : (row : Row) (i : Inputs) (second : Bool) (c : Flow) → GetsBytes i → AreAddresses c →
    AreAddresses (counters_after row i second c)
counters_small row i second c b s =
    interrupted_small i (flow_after row i second c) b ((row_facts row).flow i second c b s)

pub places_small : (row : Row) (i : Inputs) (c : Flow) → GetsBytes i → AreAddresses c →
    AreAt c (accesses_before_fetch row i ++ last_access row i ∷ [])
places_small row i c b s =
    (row_facts row).places i c (last_access row i ∷ []) s (λ read. (counters_small row i true c b s).p, tt)

-- the places of the accesses
pub places_follow : (row : Row) (i : Inputs) → HasBytes i → (second : Bool) (c : Flow) (last : ℕ) →
    places_along second i (steps_with row i) (fetched c) last
    ≡ map (named_place second c) (accesses_before_fetch row i ++ last_access row i ∷ [])
places_follow row i b second c last =
    places_along-append second i (steps_before_fetch row i.taken) (ending_steps row i.chosen) (fetched c) last
    ∙ ap (λ places. places ++ places_along second i (ending_steps row i.chosen)
    (moved_along second i (steps_before_fetch row i.taken) (fetched c))
    (last_along i (steps_before_fetch row i.taken) last)) (places_before row i second c last)
    ∙ ap (λ (d : Count). map (named_place second c) (accesses_before_fetch row i)
    ++ places_along second i (ending_steps row i.chosen) d (last_along i (steps_before_fetch row i.taken) last))
    (rests row i b second c)
    ∙ ap (λ places. map (named_place second c) (accesses_before_fetch row i) ++ places)
    (ending_places row i b second (flow_after row i second c) (last_along i (steps_before_fetch row i.taken) last))
    ∙ sym (map-append (named_place second c) (accesses_before_fetch row i) (last_access row i ∷ []))
