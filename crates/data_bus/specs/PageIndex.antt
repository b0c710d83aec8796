-- The index of the pages of a rack: for each page the sockets of the chips that hold it, and of those that have RAM there; and what is
-- known to agree. It is this project's own.
use Rattle.std.specs.Prelude.{ℕ, ◌+◌, ◌*◌, ◌<◌, ◌≤◌, ◌≡◌, Bool, if◌then◌else◌, List, [], ◌∷◌, map, length, slice_index_or}
use Rattle.std.specs.List.{list_any}
use Rattle.f8_spec.specs.BusCodes.{counter_of}
use Rattle.f8_spec.specs.ChipState.{ChipState}
use Rattle.f8_spec.specs.BusArbitration.{Seat, seat_of, would_answer, rule_of}
use Rattle.f8_spec.specs.declared.bus.BusRule.{BusRule}
use Rattle.f8_spec.specs.declared.bus.BusRule.TheVariants.{Read, Store}
use Rattle.probe.specs.ProbeState.{ProbeState}
use Rattle.data_bus.specs.Allowances.{allowance_by}
use Rattle.data_bus.specs.KnownAgreement.{AllAddresses, AllAgree, knows, marks_after, parts}
use Rattle.data_bus.specs.Racks.{views}
use Rattle.data_bus.specs.declared.page_sockets.Sockets.{Sockets}
use Rattle.data_bus.specs.declared.page_sockets.Sockets.TheVariants.{NoOne, One, Several}
use Rattle.data_bus.specs.declared.index.Index.{Index}

-- ---- lists of sockets

-- the sockets, from one on, of the flags that are set
abbrev pub flagged : ℕ → List Bool → List ℕ
flagged n [] = []
flagged n (flag ∷ flags) = if flag then n ∷ flagged (n + 1) flags else flagged (n + 1) flags

abbrev pub listed : Sockets → List ℕ
listed NoOne = []
listed (One socket) = socket ∷ []
listed (Several flags) = flagged 0 flags

-- of several there are two at least, among 16
abbrev pub AreSeveral : Sockets → Type 0
AreSeveral NoOne = Unit {0}
AreSeveral (One socket) = Unit {0}
AreSeveral (Several flags) = (length flags ≡ 16) × (2 ≤ length (flagged 0 flags))

-- the sockets are these
pub record Lists (sockets : Sockets) (these : List ℕ) : Type 0 where
  pub all : listed sockets ≡ these
  pub several : AreSeveral sockets

-- ---- the index

-- the sockets, from one on, of the chips that would drive or take at an address
abbrev pub holding : BusRule → ℕ → ℕ → List Seat → List ℕ
holding rule at n [] = []
holding rule at n (s ∷ seats) =
    if would_answer rule s at then n ∷ holding rule at (n + 1) seats else holding rule at (n + 1) seats

-- the seats of a rack
abbrev pub seats : List ChipState → List Seat
seats states = map seat_of (views states)

-- for each page, the sockets of the chips that hold it and of those that have RAM there; and whether a chip that holds a page has no
-- second data counter
pub record IsIndexOf (index : Index) (these : List Seat) : Type 0 where
  pub holders : (page : ℕ) → page < 256 → Lists (slice_index_or index.holders page NoOne) (holding Read (page * 256) 0 these)
  pub takers : (page : ℕ) → page < 256 → Lists (slice_index_or index.takers page NoOne) (holding Store (page * 256) 0 these)
  pub parted : index.is_parted ≡ list_any parts these

-- An index stands for a rack and a probe where its lists are those of the rack's chips and each mark that is set is true of them. The
-- chips' counters are addresses.
pub record StandsFor (index : Index) (probe : ProbeState) (states : List ChipState) : Type 0 where
  pub lists : IsIndexOf index (seats states)
  pub marks : AllAgree index.marks probe.count (views states)
  pub addresses : AllAddresses (views states)

-- the index after a served step with a code: its lists stay, and its marks go on
abbrev pub followed : ℕ → Index → Index
followed romc index = record index { marks = marks_after index.is_parted romc index.marks }

-- ---- what a step may ask

-- how many questions a step with a code may put to a rack of so many chips, by what is known before it
abbrev pub allowance : ℕ → Index → ℕ → ℕ
allowance romc index chips = allowance_by (rule_of romc) (knows (counter_of romc) index.marks) chips
