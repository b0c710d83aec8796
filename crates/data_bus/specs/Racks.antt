-- A rack of chips by sockets, and what a bus step makes of each chip. A change of what a chip keeps over a step changes the relations of
-- one chip here, and nothing that speaks of racks.
use Rattle.std.specs.Prelude.{ℕ, ◌+◌, ◌≡◌, Bool, true, ◌==◌, ◌||◌, List, [], ◌∷◌, map, slice_get, Option, Some}
use Rattle.std.specs.List.{enumerate_from}
use Rattle.f8_spec.specs.ChipState.{ChipView, ChipState, MayHear, Settles, is_asking}
use Rattle.f8_spec.specs.BusArbitration.{is_first}
use Rattle.f8_spec.specs.Instructions.{step_clocks}

-- two lists in step, each pair with its place
abbrev pub NumberedZip : {A B : Type 0} → (ℕ → A → B → Type 0) → ℕ → List A → List B → Type 0
NumberedZip R n [] [] = Unit {0}
NumberedZip R n [] (y ∷ ys) = ⊥
NumberedZip R n (x ∷ xs) [] = ⊥
NumberedZip R n (x ∷ xs) (y ∷ ys) = R n x y × NumberedZip R (n + 1) xs ys

abbrev pub views : List ChipState → List ChipView
views states = map (λ s. s.view) states

-- the chips of a rack, each with its socket
abbrev pub named_views : List ChipState → List (ℕ × ChipView)
named_views states = enumerate_from 0 (views states)

-- ---- what happens to one chip

-- The chip in a socket hears a step: its code, its length, its byte, and whether it is the chip whose interrupt is acknowledged.
abbrev pub SettlesStep : ℕ → Bool → Option ℕ → ℕ → ℕ → ChipState → ChipState → Type 0
SettlesStep romc long first byte socket old new =
    Settles (record { romc = romc; byte = byte; clocks = step_clocks long; first = is_first first socket }) old new

-- a chip that hears nothing
abbrev pub Stays : ℕ → ChipState → ChipState → Type 0
Stays socket old new = new ≡ old

-- ---- what happens to a rack

-- every chip hears the step once
abbrev pub RackSettles : ℕ → Bool → Option ℕ → ℕ → List ChipState → List ChipState → Type 0
RackSettles romc long first byte olds news = NumberedZip (SettlesStep romc long first byte) 0 olds news

-- no chip hears anything
abbrev pub RackStays : List ChipState → List ChipState → Type 0
RackStays olds news = NumberedZip Stays 0 olds news

-- the socket of a chip that asks for an interrupt
pub record NamesAsking (first : Option ℕ) (states : List ChipState) : Type 0 where
  pub socket : ℕ
  pub chip : ChipState
  pub is : first ≡ Some socket
  pub seated : slice_get states socket ≡ Some chip
  pub asks : is_asking chip.view ≡ true

-- in a step of an acknowledgement the named chip asks
abbrev pub ChosenAsks : ℕ → Option ℕ → List ChipState → Type 0
ChosenAsks romc first states = (romc == 0x0F || romc == 0x13) ≡ true → NamesAsking first states

-- each chip may hear the step, by its socket
abbrev pub AllMayHear : ℕ → Option ℕ → List ChipState → Type 0
AllMayHear romc first states = (k : ℕ) (s : ChipState) → slice_get states k ≡ Some s → MayHear romc (is_first first k) s.view
