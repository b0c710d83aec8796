-- Five flags one after another are the text of all of them.
use Rattle.std.proofs.Common.{◌≡◌, false, length, append_assoc, arith}
use Rattle.std.proofs.lemmas.List.{get_or_default}
use Rattle.std.proofs.lemmas.Result.{on_ok_weaker}
use Rattle.abs_domain.specs.declared.values.Bit.TheVariants.{Known, Any}
use Rattle.certificate.specs.Entries.{status_text}
use Rattle.case_text.proofs.written_entry.put_status.Goals as goal

pub returns : goal.returns
unfolding status_text
returns c =
    let bits = c.args.bits.now in
    let five : length bits ≡ 5 = c.told-bits in
    on_ok_weaker c.put_flag-5.result
    (λ last. rw (
      last,
      c.in_ok-put_flag-4.ensures,
      c.in_ok-put_flag-3.ensures,
      c.in_ok-put_flag-2.ensures,
      c.in_ok-put_flag.ensures,
      get_or_default bits 0 (Known false) Any (omega (arith, five)),
      get_or_default bits 1 (Known false) Any (omega (arith, five)),
      get_or_default bits 2 (Known false) Any (omega (arith, five)),
      get_or_default bits 3 (Known false) Any (omega (arith, five)),
      get_or_default bits 4 (Known false) Any (omega (arith, five)),
    ) (simp append_assoc))
    c.put_flag-5.ensures
