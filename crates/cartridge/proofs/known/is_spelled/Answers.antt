use Rattle.std.proofs.Common.{rules, tests, bytes_eq}
use Rattle.std.proofs.lemmas.Iterator.{YieldsList-from_slice}
use Rattle.std.proofs.lemmas.Iterator.Search.{any_from_yields_List}
use Rattle.cartridge.specs.Keys.{key_word}
use Rattle.cartridge.proofs.known.is_spelled.Goals as goal

pub returns : goal.returns
returns c =
    any_from_yields_List (λ key. bytes_eq c.args.name.now (key_word key)) _ _ _ c.any.ensures.ran
    (YieldsList-from_slice c.args.keys.now cc) (λ x b q k. search (rules, tests))
