use Rattle.std.proofs.Common.{◌∙◌, sym, ap, subst, map, IsTrue}
use Rattle.std.specs.Prelude.{string_bytes}
use Rattle.f8_asm.specs.Names.{with_name, are_names}
use Rattle.f8_asm.proofs.NameLookup.{inserted, names_kept}
use Rattle.f8_asm.proofs.symbols.Symbols.define.Goals as goal

pub returns-clause-named : goal.returns-clause-named
returns-clause-named g c =
    ap (map (λ e. (string_bytes e.0, e.1))) c.in_ok-insert.ensures.entries
    ∙ inserted c.self.inside.entries.entries c.in_ok-key.key c.args.value
    ∙ rw (c.in_ok-key.ensures.ok, c.as_str.ensures.text)
    (ap (λ names. with_name names c.args.name.now c.args.value) c.self.view_is)

-- the key is a name, and so were the others
pub invariant_of-self-2 : goal.invariant_of-self-2
invariant_of-self-2 g c =
    subst (λ names. IsTrue (are_names names))
    (sym (ap (map (λ e. (string_bytes e.0, e.1))) c.in_ok-insert.ensures.entries
    ∙ inserted c.self.inside.entries.entries c.in_ok-key.key c.args.value))
    (names_kept (map (λ e. (string_bytes e.0, e.1)) c.self.inside.entries.entries)
    (string_bytes c.in_ok-key.key) c.args.value c.self.invariant (rw c.in_ok-key.ensures.ok c.as_str.ensures.name))
