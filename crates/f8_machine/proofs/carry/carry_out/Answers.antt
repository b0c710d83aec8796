-- A turn takes one step of what is left before the end; then comes the end, with the interrupt that is chosen. At a step that isn't served
-- the instruction is cut short.
use Rattle.std.proofs.Common.{◌≡◌, ℕ, ◌+◌, ◌-◌, ◌<◌, ◌≤◌, Bool, true, false, List, take, Option, Some, None, refl, length, ap, sym, subst}
use Rattle.std.proofs.Common.{◌∙◌, arith, rules}
use Rattle.std.specs.Prelude.{if◌then◌else◌, not, ◌&&◌, IfSome, IsSome, slice_get}
use Rattle.f8_spec.specs.ChipState.{ChipState}
use Rattle.f8_machine.specs.Choosing.{chosen_by, first_in}
use Rattle.std.proofs.lemmas.List.{length-append, length-map}
use Rattle.f8_spec.specs.Instructions.{decoded, is_shielding, row_of}
use Rattle.f8_spec.specs.MicroSteps.{last_fetch, steps_before_fetch}
use Rattle.f8_spec.specs.declared.instructions.Op.{Op}
use Rattle.f8_spec.specs.declared.instructions.Row.{Row}
use Rattle.f8_spec.specs.declared.instructions.Row.TheVariants.{Branch, BranchIsar}
use Rattle.console_spec.specs.Processor.{is_taken}
use Rattle.console_spec.specs.Run.{gets_all_at}
use Rattle.cpu3850.proofs.KeepingLaws.{IsRestorable-start, IsRestorable-taken}
use Rattle.cpu3850.proofs.PlanLaws.{is_no_last, planned-taken}
use Rattle.cpu3850.specs.declared.steps.Step.{Step}
use Rattle.cpu3850.specs.CpuSteps.{CpuState, bus_step, last_step, planned, planned_as, taken, taken_as}
use Rattle.cpu3850.specs.Keeping.{IsRestorable}
use Rattle.f8_machine.specs.Carrying.{planned_before, planned_before_as, vectored}
use Rattle.f8_machine.specs.BusSteps.{IsPlain}
use Rattle.f8_machine.specs.Vectoring.{fetch_by}
use Rattle.f8_machine.proofs.Instructions.{some_of}
use Rattle.f8_machine.proofs.Counting.{counts_none, counts_both, counts_then_tried}
use Rattle.f8_machine.proofs.Carried.{before_planned, carried_out, cut_short, last_planned, length-planned}
use Rattle.f8_machine.proofs.Carried.{remaining_first, remaining_over}
use Rattle.f8_machine.proofs.RackLaws.{rack_runs_none}
use Rattle.f8_machine.proofs.Resets.{on_err}
use Rattle.f8_machine.proofs.RackRuns.{ran_chosen, ran_more, ran_still}
use Rattle.f8_machine.proofs.Remains.{planned_before_plain, split_plan, remaining_more, remaining_stops}
use Rattle.f8_machine.proofs.Starts.{instruction_aim}
use Rattle.f8_machine.proofs.StepTests.{ArePlain}
use Rattle.f8_machine.proofs.carry.carry_out.Goals as goal

-- the steps before the last are those that are planned
before_is : (cpu : CpuState) (plan before : List Step) → plan ≡ planned cpu → before ≡ take (length plan - 1) plan →
    before ≡ planned_before cpu
before_is cpu plan before is taken_are =
    taken_are ∙ ap (λ (l : List Step). take (length l - 1) l) is ∙ before_planned cpu

-- how many come before the last
length-before : (row : Row) (branched : Bool) → length (steps_before_fetch row branched) ≡ last_step row
length-before Branch true = refl
length-before Branch false = refl
length-before BranchIsar true = refl
length-before BranchIsar false = refl
length-before row branched = refl

-- they are one less than all
one_more : (cpu : CpuState) (plan before : List Step) → plan ≡ planned cpu → before ≡ take (length plan - 1) plan →
    IsSome (decoded cpu.opcode) → length before + 1 ≡ length (planned cpu)
one_more cpu plan before is taken_are held =
    let op = some_of (decoded cpu.opcode) held in
    let all = length-planned cpu op.0 op.1 in
    ap (λ (l : List Step). length l + 1) (before_is cpu plan before is taken_are)
    ∙ ap (λ (found : Option Op). length (planned_before_as found cpu.registers) + 1) op.1
    ∙ ap (λ (n : ℕ). n + 1) (length-map (steps_before_fetch (row_of op.0) (is_taken op.0 cpu.registers)) bus_step
    ∙ length-before (row_of op.0) (is_taken op.0 cpu.registers))
    ∙ sym all

-- a step before the last leaves the opcode held
opcode-taken_as : (found : Option Op) (index byte : ℕ) (c : CpuState) → decoded c.opcode ≡ found →
    index + 1 < length (planned_as found c.registers) → (taken_as found index byte c).opcode ≡ c.opcode
opcode-taken_as None index byte c held later = refl
opcode-taken_as (Some op) index byte c held later =
    rw (is_no_last index op (is_taken op c.registers) later) refl

opcode-taken : (index byte : ℕ) (c : CpuState) → index + 1 < length (planned c) → (taken index byte c).opcode ≡ c.opcode
opcode-taken index byte c later = opcode-taken_as (decoded c.opcode) index byte c refl later

-- a step before the last is no last one
shorter : (before planned : ℕ) (index : ℕ) → before + 1 ≡ planned → index < before → index + 1 < planned
shorter before planned index longer within = omega arith

pub loop-index-init : goal.loop-index-init
loop-index-init g c =
    let before = before_is c.args.cpu.now c.args.plan.now c.before_last-before.result.now c.requires.plan
    c.before_last-before.ensures.value in
    record {
      short = c.before_last-before.ensures.few;
      chips = refl;
      count = ap length c.requires.none;
      within = search rules;
      plain = subst ArePlain (sym before) (planned_before_plain c.args.cpu.now);
      plan = refl;
      longer = one_more c.args.cpu.now c.args.plan.now c.before_last-before.result.now c.requires.plan
          c.before_last-before.ensures.value c.requires.instruction;
      opcode = refl;
      restorable = IsRestorable-start c.args.cpu.now;
      ran = rw c.requires.none (rack_runs_none 0 _);
      reference = rw c.requires.none refl;
      stands = c.requires.stands;
      counted = counts_none _ _;
      left = λ op x holds. rw c.requires.none (remaining_first c.args.cpu.now c.args.bus.now.probe _ c.args.chain.now op x
          c.before_last-before.result.now before holds);
    }

pub drive-placed-requires : goal.drive-placed-requires
drive-placed-requires g c =
    rw c.loop-index.invariant.plan (omega (arith, c.loop-index.invariant.longer, c.loop-index-test.true))

pub bus_step-requires-clause-room : goal.bus_step-requires-clause-room
bus_step-requires-clause-room g c =
    omega (arith, c.loop-index.invariant.count, c.loop-index.invariant.short, c.loop-index-test.true)

pub take-requires : goal.take-requires
take-requires g c =
    rw c.loop-index.invariant.plan (omega (arith, c.loop-index.invariant.longer, c.loop-index-test.true))

pub returns-in_err-byte-clause-cut : goal.returns-in_err-byte-clause-cut
returns-in_err-byte-clause-cut g c = λ op x holds.
    let stopped = remaining_stops (row_of op) x (gets_all_at op x) (instruction_aim op x) _
    c.before_last-before.result.now c.index-before-index.result c.loop-index.index
    c.loop-index.cpu c.loop-index.bus.probe _ c.loop-index.steps
    c.bus_step.new.unserved.fault c.bus_step.new.bus.probe _ c.bus_step.new.steps c.loop-index-test.true c.index-before-index.is
    c.in_err-byte.ensures.refused (c.loop-index.invariant.left op x holds) in
    on_err c.from_residual.result _ (record {
      unserved = stopped.fault_is;
      so_far = stopped.so_far;
      recorded = stopped.recorded;
      trace = rw c.in_err-byte.ensures.long stopped.course_is;
    })

pub returns-in_err-byte-clause-ran : goal.returns-in_err-byte-clause-ran
returns-in_err-byte-clause-ran g c =
    (ran_still c.args.bus.now.probe _ c.index-before-index.result c.bus_step.new.unserved.fault c.loop-index.bus.probe c.bus_step.new.bus.probe _ _
    c.loop-index.steps c.bus_step.new.steps
    (record { rack = c.loop-index.invariant.ran; reference = c.loop-index.invariant.reference })
    c.in_err-byte.ensures.refused).rack

pub returns-in_err-byte-clause-reference : goal.returns-in_err-byte-clause-reference
returns-in_err-byte-clause-reference g c =
    (ran_still c.args.bus.now.probe _ c.index-before-index.result c.bus_step.new.unserved.fault c.loop-index.bus.probe c.bus_step.new.bus.probe _ _
    c.loop-index.steps c.bus_step.new.steps
    (record { rack = c.loop-index.invariant.ran; reference = c.loop-index.invariant.reference })
    c.in_err-byte.ensures.refused).reference

pub bus_step-requires-clause-stands : goal.bus_step-requires-clause-stands
bus_step-requires-clause-stands g c = c.loop-index.invariant.stands

pub returns-in_err-byte-clause-tried : goal.returns-in_err-byte-clause-tried
returns-in_err-byte-clause-tried g c =
    on_err c.from_residual.result _
    (counts_then_tried _ _ c.bus_step.new.unserved.fault _ _ _ c.loop-index.invariant.chips c.loop-index.invariant.counted c.in_err-byte.ensures.tried)

pub loop-index-preserved : goal.loop-index-preserved
loop-index-preserved g c =
    let served = c.in_ok-byte.ensures.served in
    let codes = subst ArePlain (split_plan c.before_last-before.result.now c.loop-index.index
    c.index-before-index.result c.loop-index-test.true c.index-before-index.is) c.loop-index.invariant.plain in
    let more : c.loop-index.index + 1 < length (planned c.loop-index.cpu) =
    rw c.loop-index.invariant.plan (shorter _ _ c.loop-index.index c.loop-index.invariant.longer
    c.loop-index-test.true) in
    let ran = ran_more c.args.bus.now.probe _ c.index-before-index.result c.drive-placed.result c.in_ok-byte.byte
    c.loop-index.bus.probe c.bus_step.new.bus.probe _ _ c.loop-index.steps c.bus_step.new.steps codes.0
    (record { rack = c.loop-index.invariant.ran; reference = c.loop-index.invariant.reference }) served in
    record {
      short = c.loop-index.invariant.short;
      chips = c.bus_step.ensures.chips ∙ c.loop-index.invariant.chips;
      count = ap length served.recorded ∙ length-append c.loop-index.steps _
          ∙ ap (λ n. n + 1) c.loop-index.invariant.count;
      within = omega (arith, c.loop-index-test.true);
      plain = codes.1;
      plan = ap planned c.take.ensures ∙ planned-taken c.loop-index.index c.in_ok-byte.byte c.loop-index.cpu more
          ∙ c.loop-index.invariant.plan;
      longer = c.loop-index.invariant.longer;
      opcode = ap (λ (k : CpuState). k.opcode) c.take.ensures
          ∙ opcode-taken c.loop-index.index c.in_ok-byte.byte c.loop-index.cpu more ∙ c.loop-index.invariant.opcode;
      restorable = subst (λ (cpu : CpuState). IsRestorable c.args.cpu.now cpu) (sym c.take.ensures)
          (IsRestorable-taken c.args.cpu.now c.loop-index.cpu c.loop-index.index c.in_ok-byte.byte more
          c.loop-index.invariant.restorable);
      ran = ran.rack;
      reference = ran.reference;
      stands = c.bus_step.ensures.stands;
      counted = counts_both _ _ _ _ _ c.loop-index.invariant.chips c.loop-index.invariant.counted c.in_ok-byte.ensures.counted;
      left = λ op x holds.
          remaining_more (row_of op) x (gets_all_at op x) (instruction_aim op x) _ c.before_last-before.result.now
          c.index-before-index.result c.loop-index.index c.loop-index.cpu
          c.loop-index.bus.probe _ c.loop-index.steps
          c.drive-placed.result c.in_ok-byte.byte c.take.new.self c.bus_step.new.bus.probe _ c.bus_step.new.steps codes.0
          c.loop-index-test.true
          c.index-before-index.is c.drive-placed.ensures c.take.ensures served
          (c.loop-index.invariant.left op x holds);
    }

pub acknowledge_chosen-requires-clause-room : goal.acknowledge_chosen-requires-clause-room
acknowledge_chosen-requires-clause-room g c =
    omega (arith, c.loop-index.invariant.count, c.loop-index.invariant.short, c.loop-index.invariant.within)

-- the place of the last step
at_end : (index before planned len : ℕ) → index ≤ before → before ≤ index → before + 1 ≡ planned → len ≡ planned →
    len - 1 ≡ index
at_end index before planned len within past longer is = omega arith

pub conclude-requires : goal.conclude-requires
conclude-requires g c =
    let past : length c.before_last-before.result.now ≤ c.loop-index.index = search rules in
    rw (
      c.loop-index.invariant.plan,
      at_end c.loop-index.index _ _ c.len.result c.loop-index.invariant.within past
          c.loop-index.invariant.longer (c.len.ensures.value ∙ ap length c.requires.plan),
    )
    (omega (arith, c.loop-index.invariant.longer, c.loop-index.invariant.within))

last_is : (cpu : CpuState) (plan : List Step) (op : Op) (found : Option Step) (last : Step) → plan ≡ planned cpu →
    decoded cpu.opcode ≡ Some op → found ≡ slice_get plan (length plan - 1) → found ≡ Some last →
    last ≡ bus_step (last_fetch (row_of op))
last_is cpu plan op found last is held got some =
    let both : Some last ≡ Some (bus_step (last_fetch (row_of op))) =
    sym some ∙ got ∙ ap (λ (l : List Step). slice_get l (length l - 1)) is ∙ last_planned cpu op held in
    cc

-- the fetch acknowledges nothing
fetch_plain_by : (chosen : Option ℕ) (last : Step) (op : Op) → last ≡ bus_step (last_fetch (row_of op)) →
    IsPlain (fetch_by chosen last).romc
fetch_plain_by None last op is = rw is refl
fetch_plain_by (Some socket) last op is = refl

fetch_plain : (cpu : CpuState) (plan : List Step) (held : IsSome (decoded cpu.opcode)) (found : Option Step)
    (last fetch : Step) (chosen : Option ℕ) → plan ≡ planned cpu → found ≡ slice_get plan (length plan - 1) →
    found ≡ Some last → fetch ≡ fetch_by chosen last → IsPlain fetch.romc
fetch_plain cpu plan held found last fetch chosen is got some fetch_is =
    let op = some_of (decoded cpu.opcode) held in
    subst (λ (s : Step). IsPlain s.romc) (sym fetch_is)
    (fetch_plain_by chosen last op.0 (last_is cpu plan op.0 found last is op.1 got some))

last_at : (index before planned last : ℕ) → index ≤ before → before ≤ index → before + 1 ≡ planned →
    planned ≡ last + 1 → index ≡ last
last_at index before planned last within past longer is = omega arith

pub returns-clause-done : goal.returns-clause-done
returns-clause-done g c = λ op x holds.
    let past : length c.before_last-before.result.now ≤ c.loop-index.index = search rules in
    let ended = remaining_over (row_of op) x (gets_all_at op x) (instruction_aim op x) _
    c.before_last-before.result.now c.loop-index.index c.loop-index.cpu c.loop-index.bus.probe _ c.loop-index.steps past
    (c.loop-index.invariant.left op x holds) in
    let index_is = at_end c.loop-index.index _ _ c.len.result c.loop-index.invariant.within past
    c.loop-index.invariant.longer (c.len.ensures.value ∙ ap length c.requires.plan) in
    carried_out c.args.cpu.now c.loop-index.cpu c.args.chain.now op x c.loop-index.index c.loop-index.bus.probe
    c.acknowledge_chosen.new.bus.probe c.bus_step-2.new.bus.probe _ _ _ c.loop-index.steps c.acknowledge_chosen.new.steps
    c.bus_step-2.new.steps c.choose-chosen.result c.fetch_by-fetch.result c.in-Some.last c.args.bus.now.probe _ holds
    c.loop-index.invariant.opcode
    (last_at c.loop-index.index _ _ _ c.loop-index.invariant.within past c.loop-index.invariant.longer
    (length-planned c.args.cpu.now op holds.instruction))
    ended c.choose-chosen.ensures.chosen c.choose-chosen.ensures.asking c.acknowledge_chosen.ensures.acknowledged
    c.fetch_by-fetch.ensures
    (last_is c.args.cpu.now c.args.plan.now op _ c.in-Some.last c.requires.plan holds.instruction c.last.ensures
    c.in-Some.is)
    c.in_ok-opcode.opcode c.conclude.new.cpu c.in_ok-opcode.ensures.served
    (c.conclude.ensures ∙ ap (λ (n : ℕ). vectored c.choose-chosen.result
    (taken n c.in_ok-opcode.opcode c.loop-index.cpu)) index_is)

-- only an instruction that doesn't shield its end is interrupted
open_by : (op : Op) (icb : Bool) (states : List ChipState) (chain : List ℕ) →
    IfSome (chosen_by (Some op) icb states chain) (λ socket. is_shielding op ≡ false)
open_by op icb states chain = by (is_shielding op) icb refl
  where
    by : (shields icb : Bool) → is_shielding op ≡ shields →
        IfSome (if not shields && icb then first_in states chain else None) (λ socket. is_shielding op ≡ false)
    by true icb is = tt
    by false true is = some (first_in states chain)
      where
        some : (o : Option ℕ) → IfSome o (λ socket. is_shielding op ≡ false)
        some None = tt
        some (Some socket) = is
    by false false is = tt

open_from : (op : Op) (code start : ℕ) (icb : Bool) (states : List ChipState) (chain : List ℕ) (chosen : Option ℕ) →
    chosen ≡ chosen_by (decoded code) icb states chain → code ≡ start → decoded start ≡ Some op →
    IfSome chosen (λ socket. is_shielding op ≡ false)
open_from op code start icb states chain chosen e same held =
    subst (λ (o : Option ℕ). IfSome o (λ socket. is_shielding op ≡ false))
    (sym (e ∙ ap (λ (found : Option Op). chosen_by found icb states chain) (ap decoded same ∙ held)))
    (open_by op icb states chain)

pub returns-clause-open : goal.returns-clause-open
returns-clause-open g c = λ op held.
    open_from op c.loop-index.cpu.opcode c.args.cpu.now.opcode c.loop-index.cpu.registers.status.icb _
    c.args.chain.now c.choose-chosen.result c.choose-chosen.ensures.chosen c.loop-index.invariant.opcode held

pub returns-clause-ran : goal.returns-clause-ran
returns-clause-ran g c =
    (ran_more c.args.bus.now.probe _ c.fetch_by-fetch.result 0 c.in_ok-opcode.opcode c.acknowledge_chosen.new.bus.probe
    c.bus_step-2.new.bus.probe _ _ c.acknowledge_chosen.new.steps c.bus_step-2.new.steps
    (fetch_plain c.args.cpu.now c.args.plan.now c.requires.instruction _ c.in-Some.last c.fetch_by-fetch.result
    c.choose-chosen.result c.requires.plan c.last.ensures c.in-Some.is c.fetch_by-fetch.ensures)
    (ran_chosen c.args.bus.now.probe _ c.choose-chosen.result c.loop-index.bus.probe c.acknowledge_chosen.new.bus.probe _ _
    c.loop-index.steps c.acknowledge_chosen.new.steps
    (record { rack = c.loop-index.invariant.ran; reference = c.loop-index.invariant.reference })
    c.acknowledge_chosen.ensures.acknowledged) c.in_ok-opcode.ensures.served).rack

pub returns-clause-reference : goal.returns-clause-reference
returns-clause-reference g c =
    (ran_more c.args.bus.now.probe _ c.fetch_by-fetch.result 0 c.in_ok-opcode.opcode c.acknowledge_chosen.new.bus.probe
    c.bus_step-2.new.bus.probe _ _ c.acknowledge_chosen.new.steps c.bus_step-2.new.steps
    (fetch_plain c.args.cpu.now c.args.plan.now c.requires.instruction _ c.in-Some.last c.fetch_by-fetch.result
    c.choose-chosen.result c.requires.plan c.last.ensures c.in-Some.is c.fetch_by-fetch.ensures)
    (ran_chosen c.args.bus.now.probe _ c.choose-chosen.result c.loop-index.bus.probe c.acknowledge_chosen.new.bus.probe _ _
    c.loop-index.steps c.acknowledge_chosen.new.steps
    (record { rack = c.loop-index.invariant.ran; reference = c.loop-index.invariant.reference })
    c.acknowledge_chosen.ensures.acknowledged) c.in_ok-opcode.ensures.served).reference

pub returns-in_err-opcode-clause-cut : goal.returns-in_err-opcode-clause-cut
returns-in_err-opcode-clause-cut g c = λ op x holds.
    let past : length c.before_last-before.result.now ≤ c.loop-index.index = search rules in
    let ended = remaining_over (row_of op) x (gets_all_at op x) (instruction_aim op x) _
    c.before_last-before.result.now c.loop-index.index c.loop-index.cpu c.loop-index.bus.probe _ c.loop-index.steps past
    (c.loop-index.invariant.left op x holds) in
    on_err c.from_residual-in_err-opcode.result _ (cut_short c.args.cpu.now c.loop-index.cpu c.args.chain.now op x c.loop-index.index c.loop-index.bus.probe
    c.acknowledge_chosen.new.bus.probe c.bus_step-2.new.bus.probe _ _ _ c.loop-index.steps c.acknowledge_chosen.new.steps
    c.bus_step-2.new.steps c.choose-chosen.result c.fetch_by-fetch.result c.in-Some.last c.args.bus.now.probe _ holds
    c.loop-index.invariant.opcode
    (last_at c.loop-index.index _ _ _ c.loop-index.invariant.within past c.loop-index.invariant.longer
    (length-planned c.args.cpu.now op holds.instruction))
    ended c.choose-chosen.ensures.chosen c.choose-chosen.ensures.asking c.acknowledge_chosen.ensures.acknowledged
    c.fetch_by-fetch.ensures
    (last_is c.args.cpu.now c.args.plan.now op _ c.in-Some.last c.requires.plan holds.instruction c.last.ensures
    c.in-Some.is)
    c.bus_step-2.new.unserved.fault c.bus_step-2.new.unserved.long c.in_err-opcode.ensures.refused c.in_err-opcode.ensures.long)

pub returns-in_err-opcode-clause-ran : goal.returns-in_err-opcode-clause-ran
returns-in_err-opcode-clause-ran g c =
    (ran_still c.args.bus.now.probe _ c.fetch_by-fetch.result c.bus_step-2.new.unserved.fault c.acknowledge_chosen.new.bus.probe
    c.bus_step-2.new.bus.probe _ _ c.acknowledge_chosen.new.steps c.bus_step-2.new.steps
    (ran_chosen c.args.bus.now.probe _ c.choose-chosen.result c.loop-index.bus.probe c.acknowledge_chosen.new.bus.probe _ _
    c.loop-index.steps c.acknowledge_chosen.new.steps
    (record { rack = c.loop-index.invariant.ran; reference = c.loop-index.invariant.reference })
    c.acknowledge_chosen.ensures.acknowledged) c.in_err-opcode.ensures.refused).rack

pub returns-in_err-opcode-clause-reference : goal.returns-in_err-opcode-clause-reference
returns-in_err-opcode-clause-reference g c =
    (ran_still c.args.bus.now.probe _ c.fetch_by-fetch.result c.bus_step-2.new.unserved.fault c.acknowledge_chosen.new.bus.probe
    c.bus_step-2.new.bus.probe _ _ c.acknowledge_chosen.new.steps c.bus_step-2.new.steps
    (ran_chosen c.args.bus.now.probe _ c.choose-chosen.result c.loop-index.bus.probe c.acknowledge_chosen.new.bus.probe _ _
    c.loop-index.steps c.acknowledge_chosen.new.steps
    (record { rack = c.loop-index.invariant.ran; reference = c.loop-index.invariant.reference })
    c.acknowledge_chosen.ensures.acknowledged) c.in_err-opcode.ensures.refused).reference

pub acknowledge_chosen-requires-clause-stands : goal.acknowledge_chosen-requires-clause-stands
acknowledge_chosen-requires-clause-stands g c = c.loop-index.invariant.stands

pub returns-clause-counted : goal.returns-clause-counted
returns-clause-counted g c =
    let one = c.loop-index.invariant.chips in
    let two = c.acknowledge_chosen.ensures.chips ∙ one in
    counts_both _ _ _ _ _ two (counts_both _ _ _ _ _ one c.loop-index.invariant.counted c.acknowledge_chosen.ensures.counted)
    c.in_ok-opcode.ensures.counted

pub returns-in_err-opcode-clause-tried : goal.returns-in_err-opcode-clause-tried
returns-in_err-opcode-clause-tried g c =
    let one = c.loop-index.invariant.chips in
    let two = c.acknowledge_chosen.ensures.chips ∙ one in
    on_err c.from_residual-in_err-opcode.result _ (counts_then_tried _ _ c.bus_step-2.new.unserved.fault _ _ _ two
    (counts_both _ _ _ _ _ one c.loop-index.invariant.counted c.acknowledge_chosen.ensures.counted)
    c.in_err-opcode.ensures.tried)
