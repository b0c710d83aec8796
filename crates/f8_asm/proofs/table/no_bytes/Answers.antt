use Rattle.std.proofs.Common.{◌≡◌, ◌∙◌, ap, arith, ◌++◌, ◌∷◌, [], None}
use Rattle.f8_asm.proofs.Tables.{are_no_bytes, all_addresses, slot_more}
use Rattle.f8_asm.proofs.table.no_bytes.Goals as goal

pub loop-count-preserved : goal.loop-count-preserved
loop-count-preserved c = c.in_ok-push.ensures.items ∙ ap (λ r. r ++ None ∷ []) c.loop-count.invariant ∙ slot_more c.loop-count._count None

pub returns : goal.returns
returns c =
    let all : c.loop-count._count ≡ 65536 = omega arith in
    record {
      value = are_no_bytes c.loop-count._count c.loop-count.table.items all c.loop-count.invariant;
      length = all_addresses c.loop-count._count c.loop-count.table.items all c.loop-count.invariant;
    }
