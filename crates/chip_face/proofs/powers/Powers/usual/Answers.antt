-- So many of the usual ones are the first of sixteen.
use Rattle.std.proofs.lemmas.List.{take-replicate}
use Rattle.f8_spec.specs.Powers.{usual_power}
use Rattle.chip_face.proofs.powers.Powers.usual.Goals as goal

pub returns : goal.returns
returns c = take-replicate c.args.len 16 usual_power c.requires
