-- Names of files, one by one.
use Rattle.std.proofs.Common.{◌≡◌, not, ◌&&◌, List, ◌∷◌, refl}
use Rattle.outside.specs.StoreRules.{NamedBytes}
use Rattle.outside.specs.MemoryStores.{has_name, names_differ}

pub more_names_differ : (file : NamedBytes) (files : List NamedBytes) → names_differ (file ∷ files) ≡ (not (has_name files file.name) && names_differ files)
unfolding names_differ
more_names_differ file files = refl
