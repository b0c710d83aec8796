-- The machine follows the trace with the inputs that are read off it, and the dictated run is over where it is.
use Rattle.std.proofs.Common.{◌≡◌, ℕ, ◌+◌, List, length, map, drop, ap, sym, subst, ◌∙◌, arith}
use Rattle.std.specs.Prelude.{sum_by}
use Rattle.std.proofs.lemmas.List.{length-map, drop_all}
use Rattle.console_spec.specs.Telling.{with_events}
use Rattle.data_bus.specs.Racks.{views}
use Rattle.f8_machine.specs.Refinement.{Represents}
use Rattle.pad_script.specs.Reading.{seen}
use Rattle.bus_audit.specs.Answers.{answer_in, setup_of, steps_of}
use Rattle.bus_audit.specs.Audits.{LivesSoFar, beginning}
use Rattle.bus_audit.specs.FreeRuns.{own_behind}
use Rattle.bus_audit.specs.ReadInputs.{read_inputs}
use Rattle.bus_audit.specs.Turns.{GoesOnward, IsOver}
use Rattle.bus_audit.specs.declared.step.TraceStep.{TraceStep}
use Rattle.bus_audit.specs.declared.trace.ToldLine.{ToldLine}
use Rattle.bus_audit.proofs.AuditLaws.{rest_told, length-part, follows_first, over_first, over_all, over_here, follows_on}
use Rattle.bus_audit.proofs.AuditLaws.{accepts_records, leaves_first, leaves_here}
use Rattle.bus_audit.proofs.LivedLaws.{audits_all}
use Rattle.bus_audit.proofs.auditing.audit.Goals as goal

pub returns-in-Over-clause-answer : goal.returns-in-Over-clause-answer
returns-in-Over-clause-answer g c =
    let olds = map (λ b. (goal.Chip-dyn g (b.vtable, b.value)).state b.value) c.args.rack.now.items in
    let setup = setup_of (views olds) c.args.chain c.args.cart.now.powers (seen c.args.script.now) in
    let trace = steps_of c.args.trace.now.told in
    let small = c.told-told.ensures.bytes in
    let turns = rw c.in-Over.is at c.begin-machine.ensures.turns in
    let over = rw c.told-told.ensures.value at turns in
    c.answer.ensures ∙ ap (answer_in c.args.trace.now) (sym (over_first setup trace small c.in-Over.told over))

pub returns-in-Over-clause-accepts : goal.returns-in-Over-clause-accepts
returns-in-Over-clause-accepts g c = λ n.
    let olds = map (λ b. (goal.Chip-dyn g (b.vtable, b.value)).state b.value) c.args.rack.now.items in
    let setup = setup_of (views olds) c.args.chain c.args.cart.now.powers (seen c.args.script.now) in
    accepts_records c.determinacy_law.ensures setup c.args.trace.now n c.answer.result (returns-in-Over-clause-answer g c) c.told-told.ensures.bytes

pub returns-in-Over-clause-audits : goal.returns-in-Over-clause-audits
returns-in-Over-clause-audits g c =
    let lives = rw c.in-Over.is at c.begin-machine.ensures.lived in
    let lived = rw c.told-told.ensures.value at lives in
    lived c.answer.result (leaves_first c.args.trace.now 0 c.in-Over.told c.answer.result c.answer.ensures)

pub loop-count-init : goal.loop-count-init
loop-count-init g c =
    let olds = map (λ b. (goal.Chip-dyn g (b.vtable, b.value)).state b.value) c.args.rack.now.items in
    let setup = setup_of (views olds) c.args.chain c.args.cart.now.powers (seen c.args.script.now) in
    let trace = steps_of c.args.trace.now.told in
    let small = c.told-told.ensures.bytes in
    let nows = map (λ b. (goal.Chip-dyn g (b.vtable, b.value)).state b.value) c.begin-machine.new.rack.items in
    let before = sum_by (λ b. (goal.Chip-dyn g (b.vtable, b.value)).queries b.value) c.args.rack.now.items in
    let now = sum_by (λ b. (goal.Chip-dyn g (b.vtable, b.value)).queries b.value) c.begin-machine.new.rack.items in
    let machine = c.begin-machine.result.0 in
    let turns = rw c.in-Onward.is at c.begin-machine.ensures.turns in
    let onward = rw c.told-told.ensures.value at turns in
    let lives = rw c.in-Onward.is at c.begin-machine.ensures.lived in
    let lived = rw c.told-told.ensures.value at lives in
    let within = rw c.in-Onward.is at c.begin-machine.ensures.within in
    let same = ap (λ (lines : List ToldLine). length lines) c.told-told.ensures.value in
    let zero : 0 + c.in-Onward.told ≡ c.in-Onward.told = omega arith in
    record {
      same = c.told-told.ensures.value;
      follows = follows_first setup trace small c.in-Onward.told machine nows onward;
      lived =
          subst (λ (n : ℕ). LivesSoFar (beginning c.args.script.now.power c.args.chain c.args.cart.now.powers trace olds before) n
          (length c.begin-machine.new.rack.items) machine.index nows now) zero lived;
      chain = c.begin-machine.ensures.chain;
      fits = c.begin-machine.ensures.fits;
      mode = c.begin-machine.ensures.mode;
      within = omega (arith, same, within);
      few = omega arith;
      clocks = omega (arith, c.begin-machine.ensures.clocks);
      chips = c.begin-machine.ensures.chips;
    }

pub returns-in-Over-go_on-clause-answer : goal.returns-in-Over-go_on-clause-answer
returns-in-Over-go_on-clause-answer g c =
    let olds = map (λ b. (goal.Chip-dyn g (b.vtable, b.value)).state b.value) c.args.rack.now.items in
    let setup = setup_of (views olds) c.args.chain c.args.cart.now.powers (seen c.args.script.now) in
    let trace = steps_of c.args.trace.now.told in
    let small = c.told-told.ensures.bytes in
    let nows = map (λ b. (goal.Chip-dyn g (b.vtable, b.value)).state b.value) c.loop-count.rack.items in
    let i = c.loop-count.invariant in
    let same = ap (λ (lines : List ToldLine). length lines) c.told-told.ensures.value in
    let part = rest_told c.told-told.result.now c.args.trace.now.told c.loop-count.count c.told-told.ensures.value in
    let size = length-map c.args.trace.now.told (λ (l : ToldLine). l.step) in
    let over =
    subst (λ (rest : List TraceStep). IsOver i.follows.position rest c.in-Over-go_on.told) part
    (c.in-Over-go_on.ensures.turns i.follows.position i.follows.represents) in
    c.answer-in-Over-go_on.ensures
    ∙ ap (answer_in c.args.trace.now)
    (sym (over_here setup trace small c.loop-count.instructions c.loop-count.count c.loop-count.machine nows i.follows c.in-Over-go_on.told
    (omega (arith, same, size, c.loop-count-test.true)) over))

pub returns-in-Over-go_on-clause-accepts : goal.returns-in-Over-go_on-clause-accepts
returns-in-Over-go_on-clause-accepts g c = λ n.
    let olds = map (λ b. (goal.Chip-dyn g (b.vtable, b.value)).state b.value) c.args.rack.now.items in
    let setup = setup_of (views olds) c.args.chain c.args.cart.now.powers (seen c.args.script.now) in
    accepts_records c.determinacy_law.ensures setup c.args.trace.now n c.answer-in-Over-go_on.result
    (returns-in-Over-go_on-clause-answer g c) c.told-told.ensures.bytes

pub returns-in-Over-go_on-clause-audits : goal.returns-in-Over-go_on-clause-audits
returns-in-Over-go_on-clause-audits g c =
    let olds = map (λ b. (goal.Chip-dyn g (b.vtable, b.value)).state b.value) c.args.rack.now.items in
    let before = sum_by (λ b. (goal.Chip-dyn g (b.vtable, b.value)).queries b.value) c.args.rack.now.items in
    let first = beginning c.args.script.now.power c.args.chain c.args.cart.now.powers (steps_of c.args.trace.now.told) olds before in
    let part = rest_told c.told-told.result.now c.args.trace.now.told c.loop-count.count c.told-told.ensures.value in
    let same = ap (λ (lines : List ToldLine). length lines) c.told-told.ensures.value in
    let size = length-map c.args.trace.now.told (λ (l : ToldLine). l.step) in
    c.in-Over-go_on.ensures.lived first c.loop-count.count c.loop-count.invariant.chain part c.loop-count.invariant.lived
    c.answer-in-Over-go_on.result
    (leaves_here c.args.trace.now c.loop-count.instructions c.loop-count.count c.in-Over-go_on.told c.answer-in-Over-go_on.result
    (omega (arith, same, size, c.loop-count-test.true)) c.answer-in-Over-go_on.ensures)

pub loop-count-preserved : goal.loop-count-preserved
loop-count-preserved g c =
    let olds = map (λ b. (goal.Chip-dyn g (b.vtable, b.value)).state b.value) c.args.rack.now.items in
    let setup = setup_of (views olds) c.args.chain c.args.cart.now.powers (seen c.args.script.now) in
    let trace = steps_of c.args.trace.now.told in
    let small = c.told-told.ensures.bytes in
    let nows = map (λ b. (goal.Chip-dyn g (b.vtable, b.value)).state b.value) c.loop-count.rack.items in
    let i = c.loop-count.invariant in
    let same = ap (λ (lines : List ToldLine). length lines) c.told-told.ensures.value in
    let part = rest_told c.told-told.result.now c.args.trace.now.told c.loop-count.count c.told-told.ensures.value in
    let before = sum_by (λ b. (goal.Chip-dyn g (b.vtable, b.value)).queries b.value) c.args.rack.now.items in
    let first = beginning c.args.script.now.power c.args.chain c.args.cart.now.powers (steps_of c.args.trace.now.told) olds before in
    let news = map (λ b. (goal.Chip-dyn g (b.vtable, b.value)).state b.value) c.go_on.new.rack.items in
    let told = c.in-Onward-go_on.told in
    let goes =
    subst (λ (rest : List TraceStep). GoesOnward (λ y. Represents c.go_on.new.machine news
    (with_events (read_inputs i.follows.position.chain (drop told rest)) (own_behind (seen c.args.script.now) i.follows.position y)))
    i.follows.position rest told) part (c.in-Onward-go_on.ensures.turns i.follows.position i.follows.represents) in
    let size = length-part c.loop-count.count c.told-told.result.now in
    record {
      same = c.told-told.ensures.value;
      follows =
          follows_on setup trace small c.loop-count.instructions c.loop-count.count c.loop-count.machine nows i.follows told
          c.go_on.new.machine news goes;
      lived = c.in-Onward-go_on.ensures.lived first c.loop-count.count i.chain part i.lived;
      chain = c.go_on.ensures.chain ∙ i.chain;
      fits = c.go_on.ensures.fits;
      mode = c.go_on.ensures.mode;
      within = omega (arith, same, size, c.loop-count-test.true, c.in-Onward-go_on.ensures.within);
      few = omega (arith, i.few, goes.some);
      clocks = omega (arith, i.clocks, c.go_on.ensures.clocks);
      chips = c.go_on.ensures.chips ∙ i.chips;
    }

pub returns-clause-answer : goal.returns-clause-answer
returns-clause-answer g c =
    let olds = map (λ b. (goal.Chip-dyn g (b.vtable, b.value)).state b.value) c.args.rack.now.items in
    let setup = setup_of (views olds) c.args.chain c.args.cart.now.powers (seen c.args.script.now) in
    let trace = steps_of c.args.trace.now.told in
    let small = c.told-told.ensures.bytes in
    let nows = map (λ b. (goal.Chip-dyn g (b.vtable, b.value)).state b.value) c.loop-count.rack.items in
    let i = c.loop-count.invariant in
    let same = ap (λ (lines : List ToldLine). length lines) c.told-told.ensures.value in
    let size = length-map c.args.trace.now.told (λ (l : ToldLine). l.step) in
    c.answer-2.ensures
    ∙ ap (answer_in c.args.trace.now)
    (sym (over_all setup trace small c.loop-count.instructions c.loop-count.count c.loop-count.machine nows i.follows
    (omega (arith, same, size, c.loop-count-test.false))))

pub returns-clause-accepts : goal.returns-clause-accepts
returns-clause-accepts g c = λ n.
    let olds = map (λ b. (goal.Chip-dyn g (b.vtable, b.value)).state b.value) c.args.rack.now.items in
    let setup = setup_of (views olds) c.args.chain c.args.cart.now.powers (seen c.args.script.now) in
    accepts_records c.determinacy_law.ensures setup c.args.trace.now n c.answer-2.result (returns-clause-answer g c) c.told-told.ensures.bytes

pub returns-clause-audits : goal.returns-clause-audits
returns-clause-audits g c =
    let olds = map (λ b. (goal.Chip-dyn g (b.vtable, b.value)).state b.value) c.args.rack.now.items in
    let nows = map (λ b. (goal.Chip-dyn g (b.vtable, b.value)).state b.value) c.loop-count.rack.items in
    let before = sum_by (λ b. (goal.Chip-dyn g (b.vtable, b.value)).queries b.value) c.args.rack.now.items in
    let first = beginning c.args.script.now.power c.args.chain c.args.cart.now.powers (steps_of c.args.trace.now.told) olds before in
    let same = ap (λ (lines : List ToldLine). length lines) c.told-told.ensures.value in
    let size = length-map c.args.trace.now.told (λ (l : ToldLine). l.step) in
    audits_all first c.loop-count.count (length c.loop-count.rack.items) c.loop-count.machine.index nows
    (sum_by (λ b. (goal.Chip-dyn g (b.vtable, b.value)).queries b.value) c.loop-count.rack.items) c.loop-count.invariant.lived.0
    c.answer-2.result
    (drop_all c.loop-count.count (steps_of c.args.trace.now.told) (omega (arith, same, size, c.loop-count-test.false)))
