-- What is read fits.
use Rattle.std.proofs.Common.{◌≤◌, length, rules}
use Rattle.certificate.specs.CertificateText.{certificate_of}
use Rattle.certificate.proofs.ClosedMaps.{split_of}
use Rattle.certificate.proofs.ReadFits.{certificate_fits}
use Rattle.certificate.proofs.read.read_cert.Goals as goal

pub returns-clause-certificate : goal.returns-clause-certificate
unfolding certificate_of
returns-clause-certificate c = search rules

pub returns-clause-fits : goal.returns-clause-fits
returns-clause-fits c =
    let few : length c.args.split.now ≤ 8 = rw c.as_slice.ensures.value at c.as_slice.ensures.limits.few in
    certificate_fits c.args.split.now c.args.text.now c.from_map.result few (returns-clause-certificate c)

pub returns-clause-split : goal.returns-clause-split
returns-clause-split c = split_of c.args.split.now c.from_map.result (returns-clause-fits c)
