use Rattle.std.proofs.Common.{◌≡◌, ap, arith, length, length-drop, []}
use Rattle.std.proofs.lemmas.List.{nil_from_length, take_rest}
use Rattle.f8_asm.proofs.Entries.{listed_all, listed_step}
use Rattle.f8_asm.proofs.listing.list.Goals as goal

pub loop-byte-preserved : goal.loop-byte-preserved
loop-byte-preserved c = record {
  lists = listed_step c.next_piece-piece.result c.in-Some.byte.now c.in-Some.behind.now c.loop-byte.rest.now
      c.push_entry.new.text.items c.next_piece-piece.ensures.value c.in-Some.ensures.cases.0
      c.next_piece-piece.ensures.some c.in_ok-push_entry.ensures c.loop-byte.invariant.lists;
  place = omega (
    arith,
    ap length (take_rest c.loop-byte.rest.now c.next_piece-piece.result.length),
    length-drop c.next_piece-piece.result.length c.loop-byte.rest.now,
    ap length c.in-Some.ensures.cases.0,
    c.next_piece-piece.ensures.within,
    c.loop-byte.invariant.place,
  );
}

pub returns : goal.returns
returns c =
    let none : c.loop-byte.rest.now ≡ [] = nil_from_length c.loop-byte.rest.now c.in_default.ensures.cases in
    listed_all (rw none at c.loop-byte.invariant.lists)
