-- The chips of a description in the sockets of a rack: in another order, and with blank ones between. What is known of them stays so.
use Rattle.std.specs.Prelude.{◌≡◌, ℕ, false, List, [], ◌∷◌, ◌++◌, Option, None}
use Rattle.f8_spec.specs.BusArbitration.{Seat, seat_of}
use Rattle.f8_spec.specs.declared.chips.ChipKind.{ChipKind}
use Rattle.chip_face.specs.Fitting.{fitted}
use Rattle.chip_face.specs.declared.specification.ChipSpec.{ChipSpec}
use Rattle.chip_face.specs.declared.specification.ChipSpec.TheVariants.{Blank}
use Rattle.abs_step.specs.MapView.{MapView, IsViewOf}

-- a blank chip holds nothing, has no port and can't interrupt
pub record IsBlank (s : Seat) : Type 0 where
  pub pages : s.pages ≡ []
  pub ports : s.ports ≡ None
  pub wired : s.wired ≡ false

-- Each socket has a blank chip, or one of the chips that sits in no socket before it; and behind the last socket none is left.
pub data AreSeated : List Seat → List Seat → Type 0 where
  none_left : AreSeated [] []
  blank : {chips sockets : List Seat} {s : Seat} → IsBlank s → AreSeated chips sockets → AreSeated chips (s ∷ sockets)
  chip : (before after : List Seat) → {sockets : List Seat} {s : Seat} → AreSeated (before ++ after) sockets →
      AreSeated (before ++ s ∷ after) (s ∷ sockets)

pub record SeatedViewLaw : Type 0 where
  -- what is right of the chips is right of the sockets
  pub view : (m : MapView) (chips sockets : List Seat) → AreSeated chips sockets → IsViewOf m chips → IsViewOf m sockets
  -- a socket that is fitted as blank has a blank chip, and a patch, which changes a byte alone, makes no difference
  pub blank_is : (patch : Option (ℕ × ℕ)) (kind : ChipKind) → IsBlank (seat_of (fitted patch (Blank kind)))
  pub patched : (patch : Option (ℕ × ℕ)) (spec : ChipSpec) → seat_of (fitted patch spec) ≡ seat_of (fitted None spec)
