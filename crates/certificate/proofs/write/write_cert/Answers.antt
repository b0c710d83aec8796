-- What is written is read as the map.
use Rattle.std.proofs.Common.{◌≡◌, ◌≤◌, length, ◌∙◌, arith}
use Rattle.certificate.specs.CertificateText.{certificate_text}
use Rattle.certificate.specs.CertificateLaws.{AllInRange}
use Rattle.certificate.proofs.RoundTrip.{again_in_range}
use Rattle.certificate.proofs.TextSizes.{text_size, whole_in_range}
use Rattle.certificate.proofs.write.write_cert.Goals as goal

pub returns-in-Ok-clause-round_trip : goal.returns-in-Ok-clause-round_trip
unfolding certificate_text
returns-in-Ok-clause-round_trip c =
    let tracked = c.args.split.now in
    let notes = c.args.notes.now in
    let same = c.len-tracked.ensures.count in
    let few : length tracked ≤ 8 = omega (arith, same, c.len-tracked.ensures.limit) in
    let most : length notes ≤ 65536 = omega (arith, c.len-count.ensures.few, c.len-count.ensures.count) in
    let ranges : AllInRange notes = c.in-Ok.ensures.ranges in
    let written : c.from_vec.result ≡ certificate_text tracked notes = c.from_vec.ensures ∙ rw same at c.in-Ok.ensures.text in
    λ fits some. rw written (again_in_range tracked notes few most c.len-count.ensures.ascends ranges fits some)

pub returns-in-Ok-clause-size : goal.returns-in-Ok-clause-size
unfolding certificate_text
returns-in-Ok-clause-size c =
    let tracked = c.args.split.now in
    let notes = c.args.notes.now in
    let same = c.len-tracked.ensures.count in
    let few : length tracked ≤ 8 = omega (arith, same, c.len-tracked.ensures.limit) in
    let most : length notes ≤ 65536 = omega (arith, c.len-count.ensures.few, c.len-count.ensures.count) in
    let ranges : AllInRange notes = c.in-Ok.ensures.ranges in
    let written : c.from_vec.result ≡ certificate_text tracked notes = c.from_vec.ensures ∙ rw same at c.in-Ok.ensures.text in
    rw written (text_size tracked notes few most (whole_in_range notes ranges))
