use Rattle.std.proofs.Common.{◌≡◌, ℕ, ◌+◌, ◌<◌, List, ◌++◌, length, map, take, drop, get_or, arith}
use Rattle.std.specs.Prelude.{slice_set}
use Rattle.std.proofs.lemmas.List.{get_or_default}
use Rattle.std.proofs.lemmas.List.Edits.{map_over_more}
use Rattle.console_spec.specs.declared.PortWrite.{PortWrite}
use Rattle.f8_isa.specs.Requests.{after_port_write}
use Rattle.f8_isa.specs.declared.requests.ChipRequests.{ChipRequests}
use Rattle.f8_isa.proofs.requests.write_all.Goals as goal

-- one more chip has the write
write_more : (w : PortWrite) (xs ys : List ChipRequests) (i : ℕ) (y d : ChipRequests) → i < length xs → length ys ≡ length xs →
    ys ≡ map (after_port_write w) (take i xs) ++ drop i xs → y ≡ after_port_write w (get_or ys i d) →
    slice_set ys i y ≡ map (after_port_write w) (take (i + 1) xs) ++ drop (i + 1) xs
write_more w xs ys i y d within long before e =
    let inside : i < length ys = omega arith in
    rw e (map_over_more (after_port_write w) xs ys i (get_or ys i d) within before (get_or_default ys i d (get_or ys i d) inside))

pub loop-chip-preserved : goal.loop-chip-preserved
loop-chip-preserved c =
    write_more c.args.write c.args.chips.now c.loop-chip.chips c.loop-chip.chip-index c.after_port_write.result _ c.loop-chip-test.true
    c.loop-chip.auto.chips c.loop-chip.invariant c.after_port_write.ensures
