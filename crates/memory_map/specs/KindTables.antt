-- What the chips of one kind hold, as a table by page.
use Rattle.std.specs.Prelude.{◌≡◌, ℕ, ◌<◌, false, slice_index_or, List}
use Rattle.std.specs.List.{list_any}
use Rattle.f8_spec.specs.declared.chips.ChipKind.{ChipKind}
use Rattle.chip_face.specs.declared.specification.ChipSpec.{ChipSpec}
use Rattle.memory_map.specs.MapKinds.{has_kind_and_page, kind_has_pages}
use Rattle.memory_map.specs.MapOf.{seats_of}
use Rattle.memory_map.specs.declared.kinds.KindPages.{KindPages}

pub record AreKindPages (kind : ChipKind) (chips : List ChipSpec) (pages : KindPages) : Type 0 where
  pub held : (number : ℕ) → number < 256 → slice_index_or pages.held number false ≡ list_any (has_kind_and_page kind number) (seats_of chips)
  pub any : pages.any ≡ kind_has_pages kind (seats_of chips)
