-- Which chip of a description sits in which socket of a rack, and what fitting makes of the rack. That the k-th chip of a kind goes to the
-- k-th socket of that kind, and that all other sockets are blank, is this project's own.
use Rattle.std.specs.Prelude.{◌≡◌, ℕ, ◌≤◌, ◌<◌, ◌+◌, ◌⊎◌, if◌then◌else◌, List, [], ◌∷◌, map, take, drop, slice_get}
use Rattle.std.specs.Prelude.{length, Option, Some, None}
use Rattle.std.specs.List.{filter}
use Rattle.data_bus.specs.Racks.{NumberedZip}
use Rattle.f8_spec.specs.ChipState.{ChipView, ChipState, IsWhole, same_kind}
use Rattle.f8_spec.specs.declared.chips.ChipKind.{ChipKind}
use Rattle.f8_spec.specs.declared.chips.ChipKind.TheVariants.{Psu, Smi, Pio}
use Rattle.chip_face.specs.Fitting.{FitsAs, fitted, kind_of}
use Rattle.chip_face.specs.declared.specification.ChipSpec.{ChipSpec}
use Rattle.chip_face.specs.declared.specification.ChipSpec.TheVariants.{Blank}
use Rattle.rack_run.specs.declared.seat.Sockets.{Sockets}

-- the chips of a kind, in the order of the description
abbrev pub of_kind : ChipKind → List ChipSpec → List ChipSpec
of_kind kind chips = filter (λ c. same_kind kind (kind_of c)) chips

abbrev pub or_blank : ChipKind → Option ChipSpec → ChipSpec
or_blank kind (Some chip) = chip
or_blank kind None = Blank kind

-- what sits in a socket of a kind, by the sockets of its kind before it
abbrev pub seat_at : List ChipSpec → ChipKind → ℕ → ChipSpec
seat_at chips kind before = or_blank kind (slice_get (of_kind kind chips) before)

-- the sockets of each kind that were counted
abbrev pub so_far : Sockets → ChipKind → ℕ
so_far s Psu = s.psus
so_far s Smi = s.smis
so_far s Pio = s.pios

-- no socket of any kind
abbrev pub no_sockets : ChipKind → ℕ
no_sockets kind = 0

-- the sockets of each kind, with one more of a kind
abbrev pub counted : ChipKind → (ChipKind → ℕ) → ChipKind → ℕ
counted kind before k = if same_kind k kind then before k + 1 else before k

-- what sits in sockets of these kinds, by the sockets of each kind before them
abbrev pub seated_from : List ChipSpec → (ChipKind → ℕ) → List ChipKind → List ChipSpec
seated_from chips before [] = []
seated_from chips before (kind ∷ kinds) =
    seat_at chips kind (before kind) ∷ seated_from chips (counted kind before) kinds

abbrev pub kinds_of : List ChipState → List ChipKind
kinds_of states = map (λ s. s.view.kind) states

-- what sits in each socket of a rack
abbrev pub seated : List ChipSpec → List ChipState → List ChipSpec
seated chips states = seated_from chips no_sockets (kinds_of states)

-- the ports of a chip begin above those of the processor's own
abbrev pub LeavesOwn : ChipView → Type 0
LeavesOwn v = (first : ℕ) → v.ports ≡ Some first → 2 ≤ first

-- The chip in a socket is fitted as what sits there, has 256 bytes for each of its pages, and leaves the processor its own ports.
pub record FitsWhole (specs : List ChipSpec) (socket : ℕ) (old new : ChipState) : Type 0 where
  pub fits : (spec : ChipSpec) → slice_get specs socket ≡ Some spec → FitsAs spec old new
  pub whole : IsWhole new.view
  pub ports : LeavesOwn new.view

-- every chip is fitted as what sits in its socket
abbrev pub RackFits : List ChipSpec → List ChipState → List ChipState → Type 0
RackFits specs olds news = NumberedZip (FitsWhole specs) 0 olds news

-- so many chips, and not all of them, are fitted as what sits in their sockets, and all behind are as they were; or none is fitted
pub record RackFitsInPart (specs : List ChipSpec) (olds news : List ChipState) : Type 0 where
  pub place : ℕ
  pub there : (place ≡ 0) ⊎ (place < length olds)
  pub done : NumberedZip (FitsWhole specs) 0 (take place olds) (take place news)
  pub left : drop place news ≡ drop place olds

-- the chips that fitting makes of a rack, each from its own patch
abbrev pub fitted_as : List ChipState → List ChipSpec → List ChipView
fitted_as [] specs = []
fitted_as (s ∷ states) [] = []
fitted_as (s ∷ states) (spec ∷ specs) = fitted s.patch spec ∷ fitted_as states specs

abbrev pub fitted_views : List ChipSpec → List ChipState → List ChipView
fitted_views chips states = fitted_as states (seated chips states)
