-- The order law of bus arbitration: it does not matter in which order the chips stand, nor what their sockets are called. This law is
-- of this project's own rule.
use Rattle.std.specs.Prelude.{ℕ, ◌≡◌, ◌⊎◌, List, ◌∷◌, map, Option, option_map, IsPermutation}
use Rattle.f8_spec.specs.ChipState.{ChipView}
use Rattle.f8_spec.specs.BusArbitration.{Ruling, Served, Conflict, Undriven, Astray, rule_of, bystanders, named_placed, view_ruling}
use Rattle.f8_spec.specs.BusArbitration.{bus_byte}
use Rattle.f8_spec.specs.declared.bus.Party.{Party}

-- a named chip whose socket has another name
abbrev pub renamed : {X : Type 0} → (ℕ → ℕ) → ℕ × X → ℕ × X
renamed name x = (name x.0, x.1)

abbrev pub renamed_party : (ℕ → ℕ) → Party → Party
renamed_party name p = record { socket = name p.socket; at = p.at }

-- the one is the first of some parties and the other the first of the same parties, renamed and maybe in another order
pub record AreFirst (name : ℕ → ℕ) (ps qs : List Party) (p q : Party) : Type 0 where
  pub one : (rest : List Party) × (ps ≡ p ∷ rest)
  pub other : (rest : List Party) × (qs ≡ q ∷ rest)
  pub same : IsPermutation (map (renamed_party name) ps) qs

-- Two rulings are one but for the names of the sockets, where ps and qs stand by. Either two chips are away from the probe and are the
-- same chip, or each is the first of those that stand by.
abbrev pub Agree : (ℕ → ℕ) → List Party → List Party → Ruling → Ruling → Type 0
Agree name ps qs (Served socket) (Served other) = other ≡ option_map name socket
Agree name ps qs (Conflict taking_part) (Conflict others) = IsPermutation (map (renamed_party name) taking_part) others
Agree name ps qs (Undriven place) (Undriven other) = other ≡ place
Agree name ps qs (Astray socket at reference) (Astray other_socket other_at other_reference) =
    (other_reference ≡ reference) ×
    (((other_socket ≡ name socket) × (other_at ≡ at)) ⊎
    AreFirst name ps qs (record { socket = socket; at = at }) (record { socket = other_socket; at = other_at }))
Agree name ps qs ruling other = ⊥

-- what stands by in a step, of named chips as contracts see them
abbrev pub standing_by : ℕ → ℕ → List (ℕ × ChipView) → List Party
standing_by romc reference xs = bystanders (rule_of romc) reference (map (named_placed romc) xs)

-- Rearrange the chips and rename their sockets, no two alike, and the acknowledged one with them: the bus byte is the same, and so are
-- the served socket, renamed, or the kind of fault with its parties.
pub record KeepsOrder (name : ℕ → ℕ) (romc : ℕ) (first : Option ℕ) (reference byte : ℕ) (xs ys : List (ℕ × ChipView)) : Type 0 where
  pub bytes : bus_byte romc (option_map name first) byte ys ≡ bus_byte romc first byte xs
  pub rulings : Agree name (standing_by romc reference xs) (standing_by romc reference ys)
      (view_ruling romc first reference xs) (view_ruling romc (option_map name first) reference ys)

abbrev pub OrderLaw : Type 0
OrderLaw =
    (name : ℕ → ℕ) → ((a b : ℕ) → name a ≡ name b → a ≡ b) →
    (xs ys : List (ℕ × ChipView)) → IsPermutation (map (renamed name) xs) ys →
    (romc : ℕ) (first : Option ℕ) (reference byte : ℕ) → KeepsOrder name romc first reference byte xs ys
