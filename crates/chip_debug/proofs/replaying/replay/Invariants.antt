-- The tape after so many instructions that were done again, with the last of them that is looked for.
use Rattle.std.proofs.Common.{◌≡◌, ◌≤◌, IfSome, List, length, map}
use Rattle.std.specs.Prelude.{sum_by}
use Rattle.f8_spec.specs.ChipState.{ChipView}
use Rattle.f8_machine.specs.Fitting.{Fits}
use Rattle.rewind.specs.Standing.{patches}
use Rattle.rewind.specs.Tape.{IsTaped}
use Rattle.chip_debug.specs.Searching.{IsReplayed}
use Rattle.chip_debug.proofs.Replays.{IsAgain}
use Rattle.chip_debug.proofs.replaying.replay.Given as goal

abbrev pub invariant-loop-done : goal.invariant-loop-done
invariant-loop-done g l =
    let olds = map (λ b. (goal.Chip-dyn g (b.vtable, b.value)).state b.value) l.fn.rack.items in
    let nows = map (λ b. (goal.Chip-dyn g (b.vtable, b.value)).state b.value) l.rack.items in
    record {
      again : IsAgain l.done l.fn.tape l.tape;
      replayed : (first : List ChipView) → IsTaped l.fn.tape olds first → IsReplayed l.sought l.done l.found l.fn.tape l.tape nows first
          (sum_by (λ b. (goal.Chip-dyn g (b.vtable, b.value)).queries b.value) l.fn.rack.items)
          (sum_by (λ b. (goal.Chip-dyn g (b.vtable, b.value)).queries b.value) l.rack.items);
      most : IfSome l.found (λ n. n ≤ l.done);
      same : patches nows ≡ patches olds;
      fits : Fits l.tape.machine nows;
      chips : length l.rack.items ≡ length l.fn.rack.items;
    }
