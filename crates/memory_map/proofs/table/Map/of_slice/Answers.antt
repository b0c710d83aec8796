use Rattle.std.proofs.Common.{◌≡◌, arith}
use Rattle.memory_map.proofs.Mapping.{Mapped-more, IsMapOf-all}
use Rattle.memory_map.proofs.table.Map.of_slice.Goals as goal

pub loop-number-preserved : goal.loop-number-preserved
loop-number-preserved c =
    rw (c.entry.ensures, c.in_ok-add_bytes.ensures, c.of-holder.ensures) (
    Mapped-more c.args.chips.now c.loop-number.pages c.loop-number.bytes.items c.loop-number.number c.requires.specified c.loop-number-test.true
    c.loop-number.invariant)

pub returns : goal.returns
returns c =
    let end : c.loop-number.number ≡ 256 = omega arith in
    IsMapOf-all c.args.chips.now
    (record {
      pages = c.loop-number.pages;
      bytes = c.loop-number.bytes.items;
      readers = c.all_readers.result;
      takers = c.all_takers.result;
      psu = c.of.result;
      smi = c.of-2.result;
      pio = c.of-3.result;
      covered = c.all_held_once.result;
      overlaps = c.any_shared.result;
      wired = c.some_wired.result;
      vectors = c.in_ok-vectors.vectors.items;
      written = c.some_written.result;
    })
    c.requires.specified (rw end at c.loop-number.invariant)
    (record {
      readers = c.all_readers.ensures;
      takers = c.all_takers.ensures;
      psu = c.of.ensures;
      smi = c.of-2.ensures;
      pio = c.of-3.ensures;
      covered = c.all_held_once.ensures;
      overlaps = c.any_shared.ensures;
      wired = c.some_wired.ensures;
      vectors = c.in_ok-vectors.ensures.each;
      written = c.some_written.ensures;
    })
