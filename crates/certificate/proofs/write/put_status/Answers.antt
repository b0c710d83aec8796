-- Five bits one after another are the text of all of them.
use Rattle.std.proofs.Common.{append_assoc, arith}
use Rattle.std.proofs.lemmas.Result.{on_ok_weaker}
use Rattle.certificate.specs.Entries.{status_text}
use Rattle.certificate.proofs.BitReads.{bit_known}
use Rattle.certificate.proofs.write.put_status.Goals as goal

pub returns : goal.returns
unfolding status_text
returns c =
    let bits = c.args.bits.now in
    on_ok_weaker c.put_known_bit-5.result
    (λ last. rw (
      last,
      c.in_ok-put_known_bit-4.ensures,
      c.in_ok-put_known_bit-3.ensures,
      c.in_ok-put_known_bit-2.ensures,
      c.in_ok-put_known_bit.ensures,
      bit_known bits 0 _ _ (omega (arith, c.told-bits)) c.known.ensures,
      bit_known bits 1 _ _ (omega (arith, c.told-bits)) c.known-2.ensures,
      bit_known bits 2 _ _ (omega (arith, c.told-bits)) c.known-3.ensures,
      bit_known bits 3 _ _ (omega (arith, c.told-bits)) c.known-4.ensures,
      bit_known bits 4 _ _ (omega (arith, c.told-bits)) c.known-5.ensures,
    ) (simp append_assoc))
    c.put_known_bit-5.ensures
