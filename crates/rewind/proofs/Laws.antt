-- The law that power-on forgets.
use Rattle.std.proofs.Common.{◌≡◌, ℕ, List, map, sym, ap₂, ◌∙◌}
use Rattle.std.specs.List.{enumerate_from}
use Rattle.f8_spec.specs.BusArbitration.{Seat}
use Rattle.f8_spec.specs.ChipState.{ChipView, ChipState}
use Rattle.f8_spec.specs.declared.chips.PowerOn.{PowerOn}
use Rattle.console_spec.specs.CounterCopies.{reset_copy}
use Rattle.console_spec.specs.Powering.{fill_in, start_in}
use Rattle.console_spec.specs.Processor.{at_power}
use Rattle.console_spec.specs.Run.{power_position}
use Rattle.data_bus.specs.Racks.{views}
use Rattle.f8_machine.specs.Rounds.{RackPowers}
use Rattle.f8_machine.proofs.FirstViews.{powered_views, views_powered}
use Rattle.rewind.specs.PowerAlike.{PowerAlike}
use Rattle.rewind.specs.Forgetting.{ForgettingLaw}
use Rattle.rewind.proofs.ChipLaws.{chips_forget}
use Rattle.rewind.proofs.Memories.{first_same, powered_same, seats_same}
use Rattle.rewind.proofs.RackLaws.{racks_forget}

pub position_same : (now first : List ChipView) → PowerAlike now first → (chain : List ℕ) (powers : List PowerOn) (fill : ℕ) →
    power_position now chain powers fill ≡ power_position first chain powers fill
position_same now first alike chain powers fill =
    ap₂ (λ (memory : List ℕ) (seats : List Seat). record {
      flat = record { state = at_power fill; memory = memory };
      copies = map (reset_copy (start_in fill chain powers)) (enumerate_from 0 seats);
      chain = chain;
    })
    (first_same now first alike (fill_in fill chain powers)) (seats_same now first alike.alike)

-- the chips at power-on are those that it makes of them as they were at first
pub chips_at_power : (olds news : List ChipState) (first : List ChipView) → PowerAlike (views olds) first →
    (fill : ℕ) (chain : List ℕ) (powers : List PowerOn) → RackPowers fill chain powers olds news →
    views news ≡ powered_views (fill_in fill chain powers) (start_in fill chain powers) first
chips_at_power olds news first alike fill chain powers on =
    let fills : ℕ → ℕ = fill_in fill chain powers in
    let starts : ℕ → ℕ = start_in fill chain powers in
    views_powered fills starts olds news on ∙ powered_same fills starts (views olds) first alike.alike

chips_same : (olds firsts news others : List ChipState) → PowerAlike (views olds) (views firsts) →
    (fill : ℕ) (chain : List ℕ) (powers : List PowerOn) → RackPowers fill chain powers olds news →
    RackPowers fill chain powers firsts others → views news ≡ views others
chips_same olds firsts news others alike fill chain powers here there =
    chips_at_power olds news (views firsts) alike fill chain powers here
    ∙ sym (views_powered (fill_in fill chain powers) (start_in fill chain powers) firsts others there)

pub forgetting : ForgettingLaw
forgetting = record { chip = chips_forget; rack = racks_forget; position = position_same; chips = chips_same }
