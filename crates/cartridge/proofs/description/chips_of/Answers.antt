use Rattle.std.proofs.Common.{◌∷◌, [], arith, map, Vec, Global, sym, ap, ◌∙◌}
use Rattle.std.proofs.lemmas.List.{length-map, map-append}
use Rattle.std.proofs.Math.ListN.{get_or-map}
use Rattle.cartridge.specs.declared.chip_table.ChipPlan.{ChipPlan}
use Rattle.cartridge.specs.Plans.{seen_chip, seen_table}
use Rattle.cartridge.proofs.ChipsRead.{chips_more, chips_stop, chips_all}
use Rattle.cartridge.proofs.description.chips_of.Goals as goal

pub returns-in-Err : goal.returns-in-Err
returns-in-Err c =
    let size = length-map c.args.tables.now seen_table in
    let at = get_or-map seen_table c.args.tables.now c.loop-index.index c.index-tables-index.result ∙ ap seen_table (sym c.index-tables-index.is) in
    rw c.answer_at.ensures
    (chips_stop c.args.format (λ (chips : Vec ChipPlan Global). map seen_chip chips.items)
    (map seen_table c.args.tables.now) c.loop-index.index (seen_table c.index-tables-index.result) c.in-Err.stop
    (map seen_chip c.loop-index.chips.items) (omega (arith, size)) at c.in-Err.ensures c.loop-index.invariant)

pub loop-index-preserved : goal.loop-index-preserved
loop-index-preserved c =
    let size = length-map c.args.tables.now seen_table in
    let at = get_or-map seen_table c.args.tables.now c.loop-index.index c.index-tables-index.result ∙ ap seen_table (sym c.index-tables-index.is) in
    rw (c.in-Ok-push.ensures.items, map-append seen_chip c.loop-index.chips.items (c.in-Ok.chip ∷ []))
    (chips_more c.args.format (map seen_table c.args.tables.now) c.loop-index.index (seen_table c.index-tables-index.result) (seen_chip c.in-Ok.chip)
    (map seen_chip c.loop-index.chips.items) (omega (arith, size)) at c.in-Ok.ensures c.loop-index.invariant)

pub returns : goal.returns
returns c =
    let size = length-map c.args.tables.now seen_table in
    chips_all c.args.format (map seen_table c.args.tables.now) c.loop-index.index (map seen_chip c.loop-index.chips.items) (omega (arith, size))
    c.loop-index.invariant
