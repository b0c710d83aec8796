-- What a chip's answers say of the bus rule.
use Rattle.std.proofs.Common.{◌≡◌, refl}
use Rattle.std.specs.Prelude.{Option, Some, None, option_map, is_some}

-- a value changed is a value
pub is_some_mapped : {X Y : Type 0} (f : X → Y) (o : Option X) → is_some (option_map f o) ≡ is_some o
is_some_mapped f None = refl
is_some_mapped f (Some x) = refl
