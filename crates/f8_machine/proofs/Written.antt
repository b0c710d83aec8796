-- The port write that a machine finds in the record of an instruction's bus steps is that which one chip took.
use Rattle.std.proofs.Common.{◌≡◌, ℕ, ◌+◌, Bool, true, false, List, [], ◌∷◌, ◌++◌, map, length, Option, Some, None}
use Rattle.std.proofs.Common.{refl, sym, ap, ◌∙◌, subst}
use Rattle.std.specs.Prelude.{◌==◌, if◌then◌else◌, option_map}
use Rattle.std.specs.List.{enumerate_from, list_all}
use Rattle.f8_spec.specs.BusArbitration.{Seat, Ruling, Served, Conflict, Undriven, Astray, seat_has_port, parties}
use Rattle.f8_spec.specs.BusArbitration.{port_write_ruling, rule_of}
use Rattle.f8_spec.specs.ChipState.{has_counters}
use Rattle.f8_spec.specs.declared.bus.BusRule.TheVariants.{PortWrite as WriteRule}
use Rattle.f8_spec.specs.declared.bus.Party.{Party}
use Rattle.f8_spec.specs.MicroSteps.{Accumulator, Step, long_step}
use Rattle.f8_spec.specs.declared.instructions.Row.{Row}
use Rattle.console_spec.specs.Processor.{Flow, Inputs, byte_of, if_taken, write_at}
use Rattle.console_spec.specs.CounterCopies.{Copy}
use Rattle.console_spec.specs.BusAccesses.{Access, at_port, accesses_before_fetch, last_access}
use Rattle.console_spec.specs.Services.{placed_copy, access_ruling}
use Rattle.console_spec.specs.BusTrace.{TracedStep, Course, traced, with_step, course_by, course_of, is_access}
use Rattle.console_spec.specs.BusTrace.{unaccessed, with_unaccessed, steps_with}
use Rattle.console_spec.specs.Run.{seats_of}
use Rattle.console_spec.specs.Writes.{takers}
use Rattle.f8_machine.specs.PortWrites.{chip_write}
use Rattle.f8_machine.specs.Rounds.{heard_of}
use Rattle.f8_machine.proofs.PortReads.{count_more}
use Rattle.f8_machine.proofs.StepTests.{both_true, is_portless, writes_no_port}

-- ---- a course in which every step is served

abbrev pub ends : List TracedStep → Course
ends so_far = record { steps = so_far; fault = None }

-- its first step, and the others
pub record FirstServed (i : Inputs) (s : Step) (rest : Course) (so_far : List TracedStep) : Type 0 where
  pub socket : Option ℕ
  pub are : so_far ≡ traced i s socket ∷ rest.steps
  pub rest_ends : rest ≡ ends rest.steps

pub first_idle : (i : Inputs) (s : Step) (socket : Option ℕ) (rest : Course) (so_far : List TracedStep) →
    with_step (traced i s socket) rest ≡ ends so_far → FirstServed i s rest so_far
first_idle i s socket rest so_far e = record {
  socket = socket;
  are = sym (ap (λ (c : Course). c.steps) e);
  rest_ends = ap (λ f. record rest { fault = f }) (ap (λ (c : Course). c.fault) e);
}

-- a step by its ruling, which is served
pub record FirstBy (i : Inputs) (s : Step) (v : Ruling) (rest : Course) (so_far : List TracedStep) : Type 0 where
  pub socket : Option ℕ
  pub served : v ≡ Served socket
  pub are : so_far ≡ traced i s socket ∷ rest.steps
  pub rest_ends : rest ≡ ends rest.steps

pub first_by : (i : Inputs) (s : Step) (v : Ruling) (rest : Course) (so_far : List TracedStep) →
    course_by i s v rest ≡ ends so_far → FirstBy i s v rest so_far
first_by i s (Served socket) rest so_far e =
    let first = first_idle i s socket rest so_far e in
    record { socket = socket; served = refl; are = sym (ap (λ (c : Course). c.steps) e); rest_ends = first.rest_ends }
first_by i s (Conflict ps) rest so_far e = let none = ap (λ (c : Course). c.fault) e in cc
first_by i s (Undriven at) rest so_far e = let none = ap (λ (c : Course). c.fault) e in cc
first_by i s (Astray socket at reference) rest so_far e = let none = ap (λ (c : Course). c.fault) e in cc

-- ---- no port write

-- each step is in the trace
abbrev AreTraced : Inputs → List Step → List TracedStep → Type 0
AreTraced i [] [] = Unit {0}
AreTraced i [] (t ∷ ts) = ⊥
AreTraced i (s ∷ ss) [] = ⊥
AreTraced i (s ∷ ss) (t ∷ ts) = ((socket : Option ℕ) × (t ≡ traced i s socket)) × AreTraced i ss ts

traced_more : (i : Inputs) (s : Step) (ss : List Step) (socket : Option ℕ) (rest so_far : List TracedStep) →
    so_far ≡ traced i s socket ∷ rest → AreTraced i ss rest → AreTraced i (s ∷ ss) so_far
traced_more i s ss socket rest [] e traced_are = cc
traced_more i s ss socket rest (t ∷ ts) e traced_are =
    let first : t ≡ traced i s socket = cc in
    let later : ts ≡ rest = cc in
    ((socket, first), subst (λ (l : List TracedStep). AreTraced i ss l) (sym later) traced_are)

course_traced : (i : Inputs) (c : Flow) (copies : List Copy) (steps : List Step) (accesses : List Access)
    (so_far : List TracedStep) → course_of i c copies steps accesses ≡ ends so_far → AreTraced i steps so_far
course_traced i c copies [] accesses [] e = tt
course_traced i c copies [] accesses (t ∷ ts) e = let none = ap (λ (k : Course). k.steps) e in cc
course_traced i c copies (s ∷ later) [] so_far e =
    let first = first_idle i s (unaccessed (rule_of s.romc) i) (course_of i c copies later []) so_far e in
    traced_more i s later first.socket _ so_far first.are (course_traced i c copies later [] _ first.rest_ends)
course_traced i c copies (s ∷ later) (a ∷ accesses) so_far e = by (is_access (rule_of s.romc)) e
    (λ ts there. course_traced i c copies later accesses ts there)
    (λ ts there. course_traced i c copies later (a ∷ accesses) ts there)
  where
    by : (b : Bool) → (if b then course_by i s (access_ruling c copies a)
        (course_of i c copies later accesses) else with_unaccessed i s
        (course_of i c copies later (a ∷ accesses))) ≡ ends so_far →
        ((ts : List TracedStep) → course_of i c copies later accesses ≡ ends ts → AreTraced i later ts) →
        ((ts : List TracedStep) → course_of i c copies later (a ∷ accesses) ≡ ends ts → AreTraced i later ts) →
        AreTraced i (s ∷ later) so_far
    by true e access idle =
        let first = first_by i s (access_ruling c copies a) (course_of i c copies later accesses) so_far e in
        traced_more i s later first.socket _ so_far first.are (access _ first.rest_ends)
    by false e access idle =
        let first = first_idle i s (unaccessed (rule_of s.romc) i) (course_of i c copies later (a ∷ accesses)) so_far e
        in
        traced_more i s later first.socket _ so_far first.are (idle _ first.rest_ends)

-- the second step is no port write
abbrev pub PutsNothing : List Step → Type 0
PutsNothing [] = Unit {0}
PutsNothing (s ∷ []) = Unit {0}
PutsNothing (s ∷ (t ∷ later)) = (t.romc == 0x1A) ≡ false

no_write : (i : Inputs) (steps : List Step) (so_far : List TracedStep) (phi : ℕ) → AreTraced i steps so_far →
    PutsNothing steps → chip_write phi (map heard_of so_far) ≡ None
no_write i [] [] phi traced_are puts = refl
no_write i [] (t ∷ ts) phi traced_are puts = absurd traced_are
no_write i (s ∷ ss) [] phi traced_are puts = absurd traced_are
no_write i (s ∷ []) (t ∷ []) phi traced_are puts = refl
no_write i (s ∷ []) (t ∷ (u ∷ ts)) phi traced_are puts = absurd traced_are.1
no_write i (s ∷ (r ∷ ss)) (t ∷ []) phi traced_are puts = absurd traced_are.1
no_write i (s ∷ (r ∷ ss)) (t ∷ (u ∷ ts)) phi traced_are puts =
    let romc : (u.romc == 0x1A) ≡ false = ap (λ (w : TracedStep). w.romc == 0x1A) traced_are.1.0.1 ∙ puts in
    rw romc refl

pub puts_nothing : (steps : List Step) → list_all is_portless steps ≡ true → PutsNothing steps
puts_nothing [] all = tt
puts_nothing (s ∷ []) all = tt
puts_nothing (s ∷ (t ∷ later)) all =
    let behind = both_true (is_portless s) (list_all is_portless (t ∷ later)) all in
    writes_no_port t (both_true (is_portless t) (list_all is_portless later) behind.1).0

-- ---- a port write

-- with counters or without, a chip goes by the port
same_port : (has : Bool) (port : ℕ) → (if has then port else port) ≡ port
same_port true port = refl
same_port false port = refl

-- as many copies take the byte as have the port
copies_count : (port n : ℕ) (cs : List Copy) →
    length (parties WriteRule (enumerate_from n (map (placed_copy (at_port 0x1A port)) cs))) ≡ takers port (seats_of cs)
copies_count port n [] = refl
copies_count port n (c ∷ cs) =
    count_more (seat_has_port c.seat (if has_counters c.seat.kind then port else port)) (seat_has_port c.seat port)
    (ap (seat_has_port c.seat) (same_port (has_counters c.seat.kind) port)) n
    (if has_counters c.seat.kind then port else port) _ c.seat _ (copies_count port (n + 1) cs)

taken_by_one : (phi port byte : ℕ) (ps : List Party) (socket : Option ℕ) (seats : List Seat) →
    port_write_ruling ps ≡ Served socket → length ps ≡ takers port seats →
    option_map (λ k. record { phi = phi; port = port; byte = byte }) socket ≡ write_at phi byte (if_taken port seats)
taken_by_one phi port byte [] socket seats served count =
    let none : None ≡ socket = cc in
    let few : (takers port seats == 1) ≡ false = ap (λ (n : ℕ). n == 1) (sym count) in
    rw (few, ← none) refl
taken_by_one phi port byte (p ∷ []) socket seats served count =
    let some : Some p.socket ≡ socket = cc in
    let one : (takers port seats == 1) ≡ true = ap (λ (n : ℕ). n == 1) (sym count) in
    rw (one, ← some) refl
taken_by_one phi port byte (p ∷ (q ∷ ps)) socket seats served count = cc

-- a step that names the port, and the port write
pub written_by : (phi : ℕ) (i : Inputs) (names : Step) (port : ℕ) (c : Flow) (copies : List Copy) (socket : Option ℕ)
    (rest : Course) (so_far : List TracedStep) →
    so_far ≡ traced i names socket ∷ (course_by i (long_step 0x1A Accumulator)
    (access_ruling c copies (at_port 0x1A port)) rest).steps →
    course_by i (long_step 0x1A Accumulator) (access_ruling c copies (at_port 0x1A port)) rest
    ≡ ends (course_by i (long_step 0x1A Accumulator) (access_ruling c copies (at_port 0x1A port)) rest).steps →
    byte_of i names.source ≡ port → chip_write phi (map heard_of so_far)
    ≡ write_at phi i.accumulator (if_taken port (seats_of copies))
written_by phi i names port c copies socket rest so_far are put named =
    let second : FirstBy i (long_step 0x1A Accumulator) (access_ruling c copies (at_port 0x1A port)) rest
    (course_by i (long_step 0x1A Accumulator) (access_ruling c copies (at_port 0x1A port)) rest).steps =
    first_by i (long_step 0x1A Accumulator) (access_ruling c copies (at_port 0x1A port)) rest
    (course_by i (long_step 0x1A Accumulator) (access_ruling c copies (at_port 0x1A port)) rest).steps put in
    ap (λ (l : List TracedStep). chip_write phi (map heard_of l))
    (are ∙ ap (λ (l : List TracedStep). traced i names socket ∷ l) second.are)
    ∙ ap (λ (n : ℕ). option_map (λ (k : ℕ). record { phi = phi; port = n; byte = i.accumulator }) second.socket) named
    ∙ taken_by_one phi port i.accumulator (parties WriteRule
    (enumerate_from 0 (map (placed_copy (at_port 0x1A port)) copies))) second.socket (seats_of copies) second.served
    (copies_count port 0 copies)

-- the steps of a row in which none writes a port
pub row_none : (row : Row) (i : Inputs) (c : Flow) (copies : List Copy) (phi : ℕ) (so_far : List TracedStep) →
    course_of i c copies (steps_with row i) (accesses_before_fetch row i ++ last_access row i ∷ []) ≡ ends so_far →
    PutsNothing (steps_with row i) → chip_write phi (map heard_of so_far) ≡ None
row_none row i c copies phi so_far e puts =
    no_write i (steps_with row i) so_far phi
    (course_traced i c copies (steps_with row i) (accesses_before_fetch row i ++ last_access row i ∷ []) so_far e)
    puts
