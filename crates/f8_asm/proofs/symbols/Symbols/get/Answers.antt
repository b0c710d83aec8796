-- The entry's name is one of the names, which are spelled as names are.
use Rattle.std.proofs.Common.{◌∙◌, sym, ap, map, option_map}
use Rattle.std.specs.Prelude.{string_bytes}
use Rattle.std.proofs.lemmas.Option.{slice_get-map}
use Rattle.f8_asm.proofs.NameLookup.{name_at}
use Rattle.f8_asm.proofs.symbols.Symbols.get.Goals as goal

pub returns-clause-name : goal.returns-clause-name
returns-clause-name g c =
    rw c.as_str.ensures.value (name_at (map (λ e. (string_bytes e.0, e.1)) c.self.inside.entries.entries) c.args.k
    (string_bytes c.in_ok-name.name.now) c.in_ok-name.value.now c.self.invariant
    (ap (option_map (λ e. (string_bytes e.0, e.1))) c.in_ok-name.ensures.entry
    ∙ sym (slice_get-map (λ e. (string_bytes e.0, e.1)) c.self.inside.entries.entries c.args.k)))
