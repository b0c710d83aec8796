-- A word that isn't decoded is out of form, or has more bytes than fit.
use Rattle.std.proofs.Common.{◌≡◌, ◌/◌, length, sym, arith}
use Rattle.case_text.proofs.DecodedBytes.{form_or_room, none_decoded}
use Rattle.case_text.proofs.numbers.bytes_of.Goals as goal

pub returns-in_err-ok : goal.returns-in_err-ok
returns-in_err-ok g c =
    rw c.from_residual.ensures
    (form_or_room c.args.word.now g.row.N
    (λ fits.
    let sized : length c.as_mut_slice.result.now ≡ length c.args.word.now / 2 =
    rw c.as_mut_slice.ensures.value (omega (arith, c.truncate.ensures.len, c.from-bytes.ensures.1, fits)) in
    none_decoded _ c.decode_to_slice.result c.decode_to_slice.new.out (rw sized at c.decode_to_slice.ensures.value)
    (sym c.in_err-ok.ensures.value)))
