-- What the call finds is the rest behind the mark.
use Rattle.std.proofs.lemmas.Slice.Eq.{strip_prefix_is}
use Rattle.std.proofs.lemmas.Bool.Decides.{Decides-eqb}
use Rattle.certificate.proofs.Marks.{told_behind}
use Rattle.certificate.proofs.parts.behind.Goals as goal

pub returns : goal.returns
returns c =
    told_behind c.args.mark.now c.args.text.now c.strip_prefix.result
    (strip_prefix_is Decides-eqb c.args.text.now c.args.mark.now c.strip_prefix.result c.strip_prefix.ensures.cases)
