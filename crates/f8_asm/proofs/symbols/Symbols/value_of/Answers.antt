use Rattle.std.proofs.Common.{◌∙◌, ap}
use Rattle.f8_asm.specs.Names.{value_of}
use Rattle.f8_asm.proofs.NameLookup.{looked_up}
use Rattle.f8_asm.proofs.symbols.Symbols.value_of.Goals as goal

pub returns : goal.returns
returns g c = c.copied.ensures ∙ c.get.ensures.value ∙ looked_up c.as_str.result.now c.self.inside.entries.entries
    ∙ rw c.as_str.ensures.text (ap (λ names. value_of names c.args.name.now) c.self.view_is)
