-- What the table of `same_kind` says: a kind is the same as itself and no other, whichever of the two comes first.
use Rattle.std.proofs.Common.{◌≡◌, true, refl}
use Rattle.f8_spec.specs.ChipState.{same_kind}
use Rattle.f8_spec.specs.declared.chips.ChipKind.{ChipKind}
use Rattle.f8_spec.specs.declared.chips.ChipKind.TheVariants.{Psu, Smi, Pio}

pub itself : (kind : ChipKind) → same_kind kind kind ≡ true
itself Psu = refl
itself Smi = refl
itself Pio = refl

pub is_same : (kind other : ChipKind) → same_kind kind other ≡ true → other ≡ kind
is_same Psu Psu e = refl
is_same Psu Smi e = cc
is_same Psu Pio e = cc
is_same Smi Psu e = cc
is_same Smi Smi e = refl
is_same Smi Pio e = cc
is_same Pio Psu e = cc
is_same Pio Smi e = cc
is_same Pio Pio e = refl

pub both_ways : (kind other : ChipKind) → same_kind kind other ≡ same_kind other kind
both_ways Psu Psu = refl
both_ways Psu Smi = refl
both_ways Psu Pio = refl
both_ways Smi Psu = refl
both_ways Smi Smi = refl
both_ways Smi Pio = refl
both_ways Pio Psu = refl
both_ways Pio Smi = refl
both_ways Pio Pio = refl
