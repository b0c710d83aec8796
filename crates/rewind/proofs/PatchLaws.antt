-- What happens to the chips of a rack leaves their patches.
use Rattle.std.proofs.Common.{◌≡◌, ℕ, ◌+◌, Bool, true, false, List, [], ◌∷◌, refl, ap, ap₂}
use Rattle.std.specs.Prelude.{◌==◌, Option, Some, None}
use Rattle.f8_spec.specs.ChipState.{ChipState}
use Rattle.f8_spec.specs.declared.chips.PowerOn.{PowerOn}
use Rattle.data_bus.specs.Racks.{NumberedZip}
use Rattle.console_spec.specs.Powering.{fill_in, start_in}
use Rattle.f8_machine.specs.Keying.{KeysInSocket, RackKeyed, RackKeyedBy, is_own}
use Rattle.f8_machine.specs.RequestsHeld.{PulsesIf, PulsesInSocket, RackPulsed}
use Rattle.f8_machine.specs.Rounds.{PowersInSocket, RackPowers, RackRuns, Runs}
use Rattle.f8_machine.specs.declared.heard.Heard.{Heard}
use Rattle.rewind.specs.Standing.{patches}

patches_stay : (R : ℕ → ChipState → ChipState → Type 0) → ((k : ℕ) (a b : ChipState) → R k a b → b.patch ≡ a.patch) →
    (n : ℕ) (olds news : List ChipState) → NumberedZip R n olds news → patches news ≡ patches olds
patches_stay R each n [] [] all = refl
patches_stay R each n [] (y ∷ ys) all = absurd all
patches_stay R each n (x ∷ xs) [] all = absurd all
patches_stay R each n (x ∷ xs) (y ∷ ys) all =
    ap₂ (λ (patch : Option (ℕ × ℕ)) (others : List (Option (ℕ × ℕ))). patch ∷ others) (each n x y all.0)
    (patches_stay R each (n + 1) xs ys all.1)

pub ran_patches : (steps : List Heard) (olds news : List ChipState) → RackRuns steps olds news → patches news ≡ patches olds
ran_patches steps olds news all = patches_stay (Runs steps) (λ k a b ran. ran.patch) 0 olds news all

pub powered_patches : (fill : ℕ) (chain : List ℕ) (powers : List PowerOn) (olds news : List ChipState) → RackPowers fill chain powers olds news →
    patches news ≡ patches olds
powered_patches fill chain powers olds news all =
    patches_stay (PowersInSocket (fill_in fill chain powers) (start_in fill chain powers)) (λ k a b on. on.patch) 0 olds news all

pub keyed_patches : (port byte : ℕ) (olds news : List ChipState) → RackKeyed port byte olds news → patches news ≡ patches olds
keyed_patches port byte olds news all = by (is_own port) all
  where
    by : (own : Bool) → RackKeyedBy own port byte olds news → patches news ≡ patches olds
    by true same = ap patches same
    by false each = patches_stay (KeysInSocket port byte) (λ k a b keys. keys.patch) 0 olds news each

pulse_patch : (chosen k : ℕ) (a b : ChipState) → PulsesInSocket chosen k a b → b.patch ≡ a.patch
pulse_patch chosen k a b pulses = by (chosen == k) pulses
  where
    by : (here : Bool) → PulsesIf here a b → b.patch ≡ a.patch
    by true takes = takes.patch
    by false same = ap (λ (s : ChipState). s.patch) same

pub pulsed_patches : (socket : Option ℕ) (olds news : List ChipState) → RackPulsed socket olds news → patches news ≡ patches olds
pulsed_patches None olds news same = ap patches same
pulsed_patches (Some chosen) olds news all = patches_stay (PulsesInSocket chosen) (pulse_patch chosen) 0 olds news all
