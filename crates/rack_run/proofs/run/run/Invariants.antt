-- What is left of the run leads from here to its end.
use Rattle.std.proofs.Common.{◌≡◌, ◌+◌, ◌*◌, ◌≤◌, length, map}
use Rattle.std.specs.Prelude.{sum_by}
use Rattle.console_spec.specs.Run.{Position}
use Rattle.f8_ops.specs.declared.table.TheConstants.{MOST_INTERRUPTED_PHI, RESET_PHI}
use Rattle.pad_script.specs.Reading.{seen}
use Rattle.rack_run.specs.Asking.{AsksOn}
use Rattle.rack_run.specs.Progressing.{Keeps}
use Rattle.rack_run.proofs.RunLaws.{Reached}
use Rattle.rack_run.proofs.run.run.Given as goal

abbrev pub invariant-loop : goal.invariant-loop
invariant-loop g l =
    let olds = map (λ b. (goal.Chip-dyn g (b.vtable, b.value)).state b.value) l.fn.rack.items in
    let nows = map (λ b. (goal.Chip-dyn g (b.vtable, b.value)).state b.value) l.rack.items in
    record {
      reached : (x : Position) → g.P.Player.at l.fn.player olds x → Keeps l.fn.progress x.flat.state →
          Reached l.detail (g.P.Player.way l.detail) (seen l.script) x
          (λ codes. AsksOn (g.P.Player.allowed (length l.fn.rack.items) l.fn.player)
          (g.P.Player.allowed (length l.fn.rack.items) l.player)
          (sum_by (λ b. (goal.Chip-dyn g (b.vtable, b.value)).queries b.value) l.fn.rack.items)
          (sum_by (λ b. (goal.Chip-dyn g (b.vtable, b.value)).queries b.value) l.rack.items) codes)
          (g.P.Player.at l.player nows) l.counter
          l.progress olds nows
          (g.K.Sink.output l.fn.sink) (g.K.Sink.output l.sink);
      ready : g.P.Player.ready l.player;
      fits : g.P.Player.fits l.player nows;
      chips : length l.rack.items ≡ length l.fn.rack.items;
      count : l.progress.count ≡ l.counter;
      phi : l.progress.phi ≡ (g.P.Player.readout l.player).phi;
      clocks : (g.P.Player.readout l.player).phi ≤ RESET_PHI + MOST_INTERRUPTED_PHI * l.counter;
    }
