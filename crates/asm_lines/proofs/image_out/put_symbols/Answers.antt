-- A turn puts the line of the next name; where that fails, a first part of all lines was put.
use Rattle.std.proofs.Common.{◌≤◌, ◌<◌, sym, arith, rules, length, w64}
use mir.Val.{SFits}
use Rattle.std.proofs.lemmas.Result.{err_from_is_err_and}
use Rattle.std.proofs.lemmas.Int.{to_z-of_z}
use Rattle.outside.proofs.SinkLaws.{put_so_far_more, put_so_far_all, put_so_far_part}
use Rattle.asm_lines.proofs.SymbolLaws.{text_symbol, text_no_symbol, symbol_within}
use Rattle.asm_lines.proofs.image_out.put_symbols.Goals as goal
use Rattle.asm_lines.proofs.image_out.put_symbols.Goals.{in-Some+in_ok-put, in_default}

pub loop-k-preserved : goal.loop-k-preserved
loop-k-preserved g c = elim c.match-get.branch [
  | in-Some+in_ok-put w ↦
      let begins =
      text_symbol c.args.symbols.now c.loop-k.k (w.in-Some.name.now, w.in-Some.value)
      (sym w.in-Some.ensures.entry) in
      let fits : SFits w64 w.in-Some.value = search rules in
      let value = to_z-of_z w64 w.in-Some.value fits in
      rw w.sink-is
      (put_so_far_more _ _ _ _ _ _ (rw begins at c.loop-k.invariant) (rw (w.as_bytes.ensures.value, w.symbol_line.ensures, value) at w.in_ok-put.ensures.ok))
  | in_default w ↦
      let within : c.loop-k.k < length c.args.symbols.now = omega (arith, c.len-k-end.ensures) in
      absurd (symbol_within c.args.symbols.now c.loop-k.k within w.in_default.ensures.entry)
]

pub returns-clause-ok : goal.returns-clause-ok
returns-clause-ok g c =
    let past : length c.args.symbols.now ≤ c.loop-k.k = omega (arith, c.len-k-end.ensures) in
    put_so_far_all _ _ _ (rw (text_no_symbol _ _ past) at c.loop-k.invariant)

pub returns-in_err-put-clause-err : goal.returns-in_err-put-clause-err
returns-in_err-put-clause-err g c =
    let p = err_from_is_err_and c.from_residual.result c.from_residual.ensures.1 in
    let begins =
    text_symbol c.args.symbols.now c.loop-k.k (c.in-Some.name.now, c.in-Some.value)
    (sym c.in-Some.ensures.entry) in
    let fits : SFits w64 c.in-Some.value = search rules in
    let value = to_z-of_z w64 c.in-Some.value fits in
    rw p.1
    (put_so_far_part _ _ _ _ _ _ (rw begins at c.loop-k.invariant) (rw (c.as_bytes.ensures.value, c.symbol_line.ensures, value) at c.in_err-put.ensures.err))
