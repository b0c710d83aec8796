-- What is left of a module for linking.
use Rattle.std.specs.Prelude.{ℕ, List}
use Rattle.f8_link.specs.declared.objects.Fixup.{Fixup}
use Rattle.f8_link.specs.declared.values.Named.{Named}

-- The bytes of a module from offset 0, with 00 where linking puts one; its exports and its imports as its text has them; and what linking
-- puts, by ascending offset.
pub record Object : Type 0 where
  pub bytes : List ℕ
  pub exports : List (List ℕ × Named)
  pub imports : List (List ℕ)
  pub fixups : List Fixup
