-- Steps in which every chip is known to be at the probe's place.
use Rattle.std.specs.Prelude.{ℕ, ◌<◌, ◌≡◌, Bool, true, false, List, Option, Some, None}
use Rattle.std.specs.List.{AllByRecursion}
use Rattle.f8_spec.specs.ChipState.{ChipView}
use Rattle.f8_spec.specs.BusArbitration.{place_in}
use Rattle.f8_spec.specs.declared.bus.BusRule.{BusRule}
use Rattle.f8_spec.specs.declared.bus.BusRule.TheVariants.{Read, Store, PortRead, PortWrite, Vector, NoChip}
use Rattle.f8_spec.specs.declared.bus.Party.{Party}
use Rattle.f8_spec.specs.declared.chips.Offer.{Offer}
use Rattle.data_bus.specs.KnownAgreement.{has_page}

-- the steps that go by a counter of the chips
abbrev pub goes_by_counter : BusRule → Bool
goes_by_counter Read = true
goes_by_counter Store = true
goes_by_counter PortRead = false
goes_by_counter PortWrite = false
goes_by_counter Vector = false
goes_by_counter NoChip = false

-- by the chip's own counter a step goes to an address, and to the reference where the chip holds a page
pub record IsAt (romc reference : ℕ) (v : ChipView) : Type 0 where
  pub address : place_in romc v.counters v.last < 65536
  pub same : has_page v.pages ≡ true → place_in romc v.counters v.last ≡ reference

abbrev pub AllAt : ℕ → ℕ → List ChipView → Type 0
AllAt romc reference vs = AllByRecursion (IsAt romc reference) vs

-- a chip that takes part at an address
abbrev pub party_at : ℕ → ℕ → Party
party_at at socket = record { socket = socket; at = at }

-- the byte of an offer, and 0 where there is none
abbrev pub byte_in : Option Offer → ℕ
byte_in None = 0
byte_in (Some offer) = offer.byte
