-- The chip in a named socket.
use Rattle.std.proofs.Common.{◌≡◌, ℕ, ◌<◌, true, List, length, get_or, map, refl, ap, ◌∙◌}
use Rattle.std.specs.Prelude.{Option, Some, option_map}
use Rattle.std.proofs.lemmas.Option.{slice_get-map, slice_get_read}
use Rattle.f8_spec.specs.ChipState.{ChipState, is_asking}
use Rattle.data_bus.specs.Racks.{NamesAsking}

-- a chip that stands in a rack and asks is named by its socket
pub names_asking : {X : Type 0} (V : X → ChipState) (xs : List X) (first : Option ℕ) (socket : ℕ) (x : X) → first ≡ Some socket →
    socket < length xs → x ≡ get_or xs socket x → is_asking (V x).view ≡ true → NamesAsking first (map V xs)
names_asking V xs first socket x is within at asks = record {
  socket = socket;
  chip = V x;
  is = is;
  seated = slice_get-map V xs socket ∙ ap (option_map V) (slice_get_read xs (length xs) socket x refl within at);
  asks = asks;
}
