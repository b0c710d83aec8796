-- The events so far have come.
use Rattle.std.proofs.Common.{◌≡◌, [], length, map, take}
use Rattle.std.specs.Prelude.{sum_by}
use Rattle.console_spec.specs.Run.{Position}
use Rattle.console_spec.specs.Scripts.{events_at}
use Rattle.console_spec.specs.Telling.{with_events}
use Rattle.rack_run.specs.Asking.{AsksOn}
use Rattle.rack_run.specs.Lives.{Come}
use Rattle.rack_run.proofs.events.happen_at.Given as goal

abbrev pub invariant-loop-at : goal.invariant-loop-at
invariant-loop-at g l =
    let olds = map (λ b. (goal.Chip-dyn g (b.vtable, b.value)).state b.value) l.fn.rack.items in
    let nows = map (λ b. (goal.Chip-dyn g (b.vtable, b.value)).state b.value) l.rack.items in
    let events = events_at l.frame (take l.at-index l.events) in
    record {
      begins : (x : Position) → g.P.Player.begins l.fn.player olds x →
          g.P.Player.begins l.player nows (with_events events x);
      at : (x : Position) → g.P.Player.at l.fn.player olds x → g.P.Player.at l.player nows (with_events events x);
      came_first : (x : Position) → g.P.Player.begins l.fn.player olds x → Come x.chain events olds nows;
      came : (x : Position) → g.P.Player.at l.fn.player olds x → Come x.chain events olds nows;
      asked : AsksOn (g.P.Player.allowed (length l.fn.rack.items) l.fn.player)
          (g.P.Player.allowed (length l.fn.rack.items) l.player)
          (sum_by (λ b. (goal.Chip-dyn g (b.vtable, b.value)).queries b.value) l.fn.rack.items)
          (sum_by (λ b. (goal.Chip-dyn g (b.vtable, b.value)).queries b.value) l.rack.items) [];
      ready : g.P.Player.ready l.fn.player → g.P.Player.ready l.player;
      fits : g.P.Player.fits l.player nows;
      phi : (g.P.Player.readout l.player).phi ≡ (g.P.Player.readout l.fn.player).phi;
      chips : length l.rack.items ≡ length l.fn.rack.items;
    }
