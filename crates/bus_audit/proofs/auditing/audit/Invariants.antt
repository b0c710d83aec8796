-- The machine follows the trace, up to the steps that are told so far.
use Rattle.std.proofs.Common.{◌≡◌, ◌+◌, ◌-◌, ◌*◌, ◌≤◌, length, map}
use Rattle.std.specs.Prelude.{sum_by}
use Rattle.data_bus.specs.Racks.{views}
use Rattle.f8_machine.specs.Fitting.{Fits}
use Rattle.f8_machine.specs.MachineState.{IsReset}
use Rattle.f8_ops.specs.declared.table.TheConstants.{MOST_INTERRUPTED_PHI, RESET_PHI}
use Rattle.pad_script.specs.Reading.{seen}
use Rattle.bus_audit.specs.Answers.{setup_of, steps_of}
use Rattle.bus_audit.specs.Audits.{LivesSoFar, beginning}
use Rattle.bus_audit.proofs.AuditLaws.{Follows}
use Rattle.bus_audit.proofs.auditing.audit.Given as goal

abbrev pub invariant-loop-count : goal.invariant-loop-count
invariant-loop-count g l =
    let olds = map (λ b. (goal.Chip-dyn g (b.vtable, b.value)).state b.value) l.fn.rack.items in
    let nows = map (λ b. (goal.Chip-dyn g (b.vtable, b.value)).state b.value) l.rack.items in
    let trace = steps_of l.fn.trace.told in
    record {
      same : l.told ≡ l.fn.trace.told;
      follows : Follows (setup_of (views olds) l.fn.chain l.fn.cart.powers (seen l.fn.script)) trace l.instructions l.count l.machine nows;
      lived : LivesSoFar
          (beginning l.fn.script.power l.fn.chain l.fn.cart.powers trace olds
          (sum_by (λ b. (goal.Chip-dyn g (b.vtable, b.value)).queries b.value) l.fn.rack.items))
          l.count (length l.rack.items) l.machine.index nows
          (sum_by (λ b. (goal.Chip-dyn g (b.vtable, b.value)).queries b.value) l.rack.items);
      chain : l.machine.chain ≡ l.fn.chain;
      fits : Fits l.machine nows;
      mode : IsReset l.machine.mode;
      within : l.count ≤ length l.fn.trace.told;
      few : l.instructions ≤ l.count;
      clocks : l.machine.phi ≤ RESET_PHI + MOST_INTERRUPTED_PHI * l.instructions;
      chips : length l.rack.items ≡ length l.fn.rack.items;
    }

abbrev pub decreases-loop-count : goal.decreases-loop-count
decreases-loop-count g l = length l.told - l.count
