-- Fitting leaves the patches of a rack's chips.
use Rattle.std.proofs.Common.{◌≡◌, ℕ, zero, suc, ◌+◌, ◌≤◌, ◌<◌, List, [], ◌∷◌, ◌++◌, length, take, drop, refl, sym, ap, ap₂, ◌∙◌, arith}
use Rattle.std.specs.Prelude.{Option, Some, slice_get}
use Rattle.std.proofs.lemmas.List.{length-map}
use Rattle.f8_spec.specs.ChipState.{ChipState}
use Rattle.chip_face.specs.declared.specification.ChipSpec.{ChipSpec}
use Rattle.data_bus.specs.Racks.{NumberedZip}
use Rattle.rack_run.specs.Seating.{FitsWhole, RackFits, RackFitsInPart, kinds_of, no_sockets, seated}
use Rattle.rack_run.proofs.Seats.{seated_length}
use Rattle.rewind.specs.Standing.{patches}

-- something sits in each socket

one_there : {A : Type 0} (xs : List A) (place : ℕ) → place < length xs → (x : A) × (slice_get xs place ≡ Some x)
one_there [] place within = absurd (omega (arith, within))
one_there (x ∷ xs) zero within = (x, refl)
one_there (x ∷ xs) (suc place) within = one_there xs place (omega (arith, within))

patches_fit : (specs : List ChipSpec) (n : ℕ) (olds news : List ChipState) → n + length olds ≤ length specs →
    NumberedZip (FitsWhole specs) n olds news → patches news ≡ patches olds
patches_fit specs n [] [] enough all = refl
patches_fit specs n [] (y ∷ ys) enough all = absurd all
patches_fit specs n (x ∷ xs) [] enough all = absurd all
patches_fit specs n (x ∷ xs) (y ∷ ys) enough all =
    let seat = one_there specs n (omega (arith, enough)) in
    ap₂ (λ (patch : Option (ℕ × ℕ)) (others : List (Option (ℕ × ℕ))). patch ∷ others) (all.0.fits seat.0 seat.1).patch
    (patches_fit specs (n + 1) xs ys (omega (arith, enough)) all.1)

-- a rack

seats_enough : (chips : List ChipSpec) (states : List ChipState) → length states ≤ length (seated chips states)
seats_enough chips states =
    let sockets = seated_length chips no_sockets (kinds_of states) in
    let kinds = length-map states (λ (s : ChipState). s.view.kind) in
    omega (arith, sockets, kinds)

pub fitted_patched : (chips : List ChipSpec) (olds news : List ChipState) → RackFits (seated chips olds) olds news →
    patches news ≡ patches olds
fitted_patched chips olds news fits =
    let enough = seats_enough chips olds in
    patches_fit (seated chips olds) 0 olds news (omega (arith, enough)) fits

split : (place : ℕ) (states : List ChipState) → patches states ≡ patches (take place states) ++ patches (drop place states)
split zero states = refl
split (suc place) [] = refl
split (suc place) (s ∷ states) = ap (λ (l : List (Option (ℕ × ℕ))). s.patch ∷ l) (split place states)

few_taken : (place : ℕ) (states : List ChipState) → length (take place states) ≤ length states
few_taken zero states = omega arith
few_taken (suc place) [] = omega arith
few_taken (suc place) (s ∷ states) = let behind = few_taken place states in omega (arith, behind)

pub partly_patched : (chips : List ChipSpec) (olds news : List ChipState) → RackFitsInPart (seated chips olds) olds news →
    patches news ≡ patches olds
partly_patched chips olds news fits =
    let enough = seats_enough chips olds in
    let taken = few_taken fits.place olds in
    split fits.place news
    ∙ ap₂ (λ (first : List (Option (ℕ × ℕ))) (later : List (Option (ℕ × ℕ))). first ++ later)
    (patches_fit (seated chips olds) 0 (take fits.place olds) (take fits.place news) (omega (arith, enough, taken)) fits.done)
    (ap (λ (states : List ChipState). patches states) fits.left)
    ∙ sym (split fits.place olds)
