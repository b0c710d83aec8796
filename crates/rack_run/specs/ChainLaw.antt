-- The chain of a description names, in its order, the sockets in which its chips sit, where there is one for each of them. So the first chip
-- of the chain that asks for an interrupt is the first of the description. This is this project's own.
use Rattle.std.specs.Prelude.{◌≡◌, ℕ, List, Some, None, slice_get}
use Rattle.std.specs.List.{AllZip}
use Rattle.f8_spec.specs.ChipState.{ChipState}
use Rattle.chip_face.specs.declared.specification.ChipSpec.{ChipSpec}
use Rattle.rack_run.specs.Seating.{kinds_of, seated}
use Rattle.rack_run.specs.Sockets.{shortage_of, chain_of}

-- what sits in a socket is a chip
abbrev pub SitsIn : List ChipSpec → ℕ → ChipSpec → Type 0
SitsIn seats socket chip = slice_get seats socket ≡ Some chip

abbrev pub ChainLaw : Type 0
ChainLaw = (chips : List ChipSpec) (states : List ChipState) → shortage_of chips (kinds_of states) ≡ None →
    AllZip (SitsIn (seated chips states)) (chain_of chips (kinds_of states)) chips
