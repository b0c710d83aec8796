-- A part of the lines, and a socket's place among those that are left of a chain.
use Rattle.std.proofs.Common.{◌≡◌, ℕ, ◌+◌, ◌-◌, List, length, take, drop, Option, arith, length-drop}
use Rattle.std.proofs.lemmas.List.{take_all}
use Rattle.std.specs.Prelude.{option_map}
use Rattle.bus_audit.specs.Choices.{place_in_chain}

-- what stands from a place on, as a part of the whole
pub part_from : {X : Type 0} → (n : ℕ) (xs : List X) → take (length xs - n) (drop n xs) ≡ drop n xs
part_from n xs = let size = length-drop n xs in take_all (length xs - n) (drop n xs) (omega (arith, size))

-- the place counts from the chain's beginning
abbrev pub place_from : ℕ → List ℕ → ℕ → Option ℕ
place_from socket chain i = option_map (λ (k : ℕ). k + i) (place_in_chain socket (drop i chain))
