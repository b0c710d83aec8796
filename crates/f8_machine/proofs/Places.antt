-- Along the bus steps of an instruction the steps of the accesses go by the places of the accesses, on every set of counters.
use Rattle.std.proofs.Common.{◌≡◌, ℕ, Bool, true, false, List, [], ◌∷◌, ◌++◌, refl, ap, ◌∙◌}
use Rattle.f8_spec.specs.BusCodes.{Count, moved_by}
use Rattle.f8_spec.specs.BusArbitration.{place_in, rule_of}
use Rattle.f8_spec.specs.MicroSteps.{Step}
use Rattle.console_spec.specs.Processor.{Flow, Inputs, byte_of}
use Rattle.console_spec.specs.BusAccesses.{Access}
use Rattle.console_spec.specs.BusTrace.{is_access}
use Rattle.console_spec.proofs.Walks.{moved_along}

abbrev pub with_place : Bool → ℕ × ℕ → List (ℕ × ℕ) → List (ℕ × ℕ)
with_place true place later = place ∷ later
with_place false place later = later

-- the code and the place of each step of an access
abbrev pub places_along : Bool → Inputs → List Step → Count → ℕ → List (ℕ × ℕ)
places_along second i [] c last = []
places_along second i (s ∷ later) c last =
    with_place (is_access (rule_of s.romc)) (s.romc, place_in s.romc c last)
    (places_along second i later (moved_by s.romc (byte_of i s.source) second c) (byte_of i s.source))

-- the byte of the last of some steps
abbrev pub last_along : Inputs → List Step → ℕ → ℕ
last_along i [] last = last
last_along i (s ∷ later) last = last_along i later (byte_of i s.source)

with_place-append : (test : Bool) (place : ℕ × ℕ) (xs ys : List (ℕ × ℕ)) →
    with_place test place (xs ++ ys) ≡ with_place test place xs ++ ys
with_place-append true place xs ys = refl
with_place-append false place xs ys = refl

pub places_along-append : (second : Bool) (i : Inputs) (first later : List Step) (c : Count) (last : ℕ) →
    places_along second i (first ++ later) c last
    ≡ places_along second i first c last ++ places_along second i later (moved_along second i first c)
    (last_along i first last)
places_along-append second i [] later c last = refl
places_along-append second i (s ∷ first) later c last =
    ap (with_place (is_access (rule_of s.romc)) (s.romc, place_in s.romc c last))
    (places_along-append second i first later (moved_by s.romc (byte_of i s.source) second c) (byte_of i s.source))
    ∙ with_place-append (is_access (rule_of s.romc)) (s.romc, place_in s.romc c last) _ _

-- an access on a set of counters
abbrev pub named_place : Bool → Flow → Access → ℕ × ℕ
named_place second c a = (a.romc, a.place second c)
