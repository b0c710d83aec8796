-- The lines that were read once give the image of the text. It has no more names than the text has bytes, is what its lines say, ascends and
-- lies in its room.
use Rattle.std.proofs.Common.{◌≤◌, arith}
use Rattle.std.proofs.lemmas.Result.{err_from_is_err_and}
use Rattle.f8_asm.proofs.FewNames.{few_symbols}
use Rattle.f8_asm.proofs.FirstFault.{fault_answer, no_fault_at}
use Rattle.f8_asm.proofs.ImageRooms.{ascending_ascends, image_lies_in}
use Rattle.f8_asm.proofs.ImageIs.{image_is}
use Rattle.f8_asm.proofs.ParsedOnce.{image_whole, stops_reading, stops_placing, stops_emitting}
use Rattle.f8_asm.proofs.image.assemble.Goals as goal

pub invariant_of-result : goal.invariant_of-result
invariant_of-result c =
    let whole = image_whole c.args.text.now c.args.room c.in_ok-parsing.parsing c.in_ok-layout.layout c.in_ok-table.table
    c.in_ok-parsing.ensures (rw c.into_lines.ensures at c.in_ok-layout.ensures) c.in_ok-table.ensures in
    let few = few_symbols c.args.text.now c.args.room _ whole in
    rw c.into_symbols-symbols.ensures (omega arith)

pub returns-clause-value : goal.returns-clause-value
returns-clause-value c =
    rw (c.in_ok-bytes.ensures, c.into_symbols-symbols.ensures)
    (image_whole c.args.text.now c.args.room c.in_ok-parsing.parsing c.in_ok-layout.layout c.in_ok-table.table
    c.in_ok-parsing.ensures (rw c.into_lines.ensures at c.in_ok-layout.ensures) c.in_ok-table.ensures)

pub returns-clause-ascent : goal.returns-clause-ascent
returns-clause-ascent c = rw c.in_ok-bytes.ensures (ascending_ascends 0 c.in_ok-table.table)

pub returns-clause-room : goal.returns-clause-room
returns-clause-room c =
    let whole = image_whole c.args.text.now c.args.room c.in_ok-parsing.parsing c.in_ok-layout.layout c.in_ok-table.table
    c.in_ok-parsing.ensures (rw c.into_lines.ensures at c.in_ok-layout.ensures) c.in_ok-table.ensures in
    rw c.in_ok-bytes.ensures (image_lies_in c.args.text.now c.args.room _ whole)

pub returns-clause-law : goal.returns-clause-law
returns-clause-law c =
    let whole = image_whole c.args.text.now c.args.room c.in_ok-parsing.parsing c.in_ok-layout.layout c.in_ok-table.table
    c.in_ok-parsing.ensures (rw c.into_lines.ensures at c.in_ok-layout.ensures) c.in_ok-table.ensures in
    let last : c.args.room.last ≤ 65535 = omega arith in
    rw (c.in_ok-bytes.ensures, c.into_symbols-symbols.ensures) (image_is c.args.text.now c.args.room _ last whole)

pub returns-clause-fault : goal.returns-clause-fault
returns-clause-fault c =
    no_fault_at c.args.text.now c.args.room _
    (image_whole c.args.text.now c.args.room c.in_ok-parsing.parsing c.in_ok-layout.layout c.in_ok-table.table
    c.in_ok-parsing.ensures (rw c.into_lines.ensures at c.in_ok-layout.ensures) c.in_ok-table.ensures)

pub returns-in_err-parsing-clause-value : goal.returns-in_err-parsing-clause-value
returns-in_err-parsing-clause-value c =
    let told = err_from_is_err_and c.from_residual.result c.from_residual.ensures.1 in
    rw (told.1, told.2) (stops_reading c.args.text.now c.args.room c.in_err-parsing.field-0.0 c.in_err-parsing.ensures)

pub returns-in_err-parsing-clause-fault : goal.returns-in_err-parsing-clause-fault
returns-in_err-parsing-clause-fault c = fault_answer c.args.text.now c.args.room c.from_residual.result (returns-in_err-parsing-clause-value c)

pub returns-in_err-layout-clause-value : goal.returns-in_err-layout-clause-value
returns-in_err-layout-clause-value c =
    let told = err_from_is_err_and c.from_residual-in_err-layout.result c.from_residual-in_err-layout.ensures.1 in
    rw (told.1, told.2) (stops_placing c.args.text.now c.args.room c.in_err-layout.field-0.0 c.in_ok-parsing.parsing c.in_ok-parsing.ensures
    (rw c.into_lines.ensures at c.in_err-layout.ensures))

pub returns-in_err-layout-clause-fault : goal.returns-in_err-layout-clause-fault
returns-in_err-layout-clause-fault c = fault_answer c.args.text.now c.args.room c.from_residual-in_err-layout.result (returns-in_err-layout-clause-value c)

pub returns-in_err-table-clause-value : goal.returns-in_err-table-clause-value
returns-in_err-table-clause-value c =
    let told = err_from_is_err_and c.from_residual-in_err-table.result c.from_residual-in_err-table.ensures.1 in
    let laid = rw c.into_lines.ensures at c.in_ok-layout.ensures in
    rw (told.1, told.2) (stops_emitting c.args.text.now c.args.room c.in_err-table.field-0.0 c.in_ok-parsing.parsing c.in_ok-layout.layout
    c.in_ok-parsing.ensures laid c.in_err-table.ensures)

pub returns-in_err-table-clause-fault : goal.returns-in_err-table-clause-fault
returns-in_err-table-clause-fault c = fault_answer c.args.text.now c.args.room c.from_residual-in_err-table.result (returns-in_err-table-clause-value c)
