-- A chip of the kind counts one more, and another leaves the count.
use Rattle.std.proofs.Common.{◌∙◌, ◌+◌, sym, ap, arith}
use Rattle.rack_run.proofs.Counts.{counted_yes, counted_no}
use Rattle.rack_run.proofs.sockets.sockets.Goals.{then-is_of, else-is_of}
use Rattle.rack_run.proofs.sockets.sockets.Goals as goal

pub loop-chip-preserved : goal.loop-chip-preserved
loop-chip-preserved g c =
    elim c.if-is_of.branch [
      | then-is_of w ↦
          record {
            count = w.count-is ∙ ap (λ n. n + 1) c.loop-chip.invariant.count
                ∙ sym
                (counted_yes (λ b. (goal.Chip-dyn g (b.vtable, b.value)).state b.value) c.args.kind _ c.loop-chip.chip-index
                c.chip-item.result c.loop-chip-test.true c.chip-item.is (sym c.is_of.ensures ∙ w.if-is_of.true));
            few = omega (arith, w.count-is, c.loop-chip.invariant.few);
          }
      | else-is_of w ↦
          record {
            count = w.count-is ∙ c.loop-chip.invariant.count
                ∙ sym
                (counted_no (λ b. (goal.Chip-dyn g (b.vtable, b.value)).state b.value) c.args.kind _ c.loop-chip.chip-index
                c.chip-item.result c.loop-chip-test.true c.chip-item.is (sym c.is_of.ensures ∙ w.if-is_of.false));
            few = omega (arith, w.count-is, c.loop-chip.invariant.few);
          }
    ]
