-- One page more is listed.
use Rattle.std.proofs.Common.{◌≡◌, ℕ, ◌*◌, ◌<◌, ◌≤◌, map, List, ◌∙◌, ap, subst, arith, refl, length-set, rules}
use Rattle.std.specs.Prelude.{◌||◌}
use Rattle.std.specs.List.{list_any}
use Rattle.f8_spec.specs.ChipState.{ChipState}
use Rattle.f8_spec.specs.BusArbitration.{Seat}
use Rattle.f8_spec.specs.declared.bus.BusRule.TheVariants.{Read, Store}
use Rattle.data_bus.specs.PageIndex.{Lists, holding, seats}
use Rattle.data_bus.specs.Surveys.{parts_at}
use Rattle.data_bus.proofs.Standing.{stands-unmarked}
use Rattle.data_bus.proofs.Indexing.{lists-more, any-parts-more, any-parts-none, asked-nothing, asked-page, parts_below}
use Rattle.data_bus.proofs.index.Index.of.Goals as goal

pub loop-page-init : goal.loop-page-init
loop-page-init g c = record {
  holder_pages = refl;
  taker_pages = refl;
  holders = λ page below. absurd (omega (arith, below));
  takers = λ page below. absurd (omega (arith, below));
  parted = any-parts-none (seats (map (λ b. (goal.Chip-dyn g (b.vtable, b.value)).state b.value) c.args.rack.now.items));
  stays = search rules;
  asked = asked-nothing 0 _;
  chips = search rules;
}

pub loop-page-preserved : goal.loop-page-preserved
loop-page-preserved g c =
    let same = c.loop-page.invariant.stays in
    let holders = subst (λ (states : List ChipState). Lists c.survey_page-found.result.holders (holding Read (c.loop-page.page * 256) 0 (seats states)))
    same c.survey_page-found.ensures.holders in
    let takers = subst (λ (states : List ChipState). Lists c.survey_page-found.result.takers (holding Store (c.loop-page.page * 256) 0 (seats states)))
    same c.survey_page-found.ensures.takers in
    let parted = subst (λ (states : List ChipState). c.survey_page-found.result.is_parted ≡ list_any (parts_at (c.loop-page.page * 256)) (seats states))
    same c.survey_page-found.ensures.parted in
    let within : c.loop-page.page < 256 = search rules in
    let these : List Seat = seats (map (λ b. (goal.Chip-dyn g (b.vtable, b.value)).state b.value) c.args.rack.now.items) in
    record {
      holder_pages = length-set c.loop-page.holders c.loop-page.page c.survey_page-found.result.holders ∙ c.loop-page.invariant.holder_pages;
      taker_pages = length-set c.loop-page.takers c.loop-page.page c.survey_page-found.result.takers ∙ c.loop-page.invariant.taker_pages;
      holders = lists-more Read these c.loop-page.page c.loop-page.holders c.survey_page-found.result.holders (rw c.loop-page.invariant.holder_pages within)
          c.loop-page.invariant.holders holders;
      takers = lists-more Store these c.loop-page.page c.loop-page.takers c.survey_page-found.result.takers (rw c.loop-page.invariant.taker_pages within)
          c.loop-page.invariant.takers takers;
      parted = ap (λ b. b || c.survey_page-found.result.is_parted) c.loop-page.invariant.parted
          ∙ any-parts-more c.loop-page.page these c.survey_page-found.result.is_parted parted;
      stays = c.survey_page-found.ensures.stays ∙ same;
      asked = asked-page c.loop-page.page (map (λ b. (goal.Chip-dyn g (b.vtable, b.value)).queries b.value) c.args.rack.now.items)
          (map (λ b. (goal.Chip-dyn g (b.vtable, b.value)).queries b.value) c.loop-page.rack.items) _
          c.loop-page.invariant.asked c.survey_page-found.ensures.asked;
      chips = c.survey_page-found.ensures.chips ∙ c.loop-page.invariant.chips;
    }

pub returns-clause-lists : goal.returns-clause-lists
returns-clause-lists g c =
    let past : 256 ≤ c.loop-page.page = search rules in
    let end : c.loop-page.page ≤ 256 = search rules in
    let whole : c.loop-page.page ≡ 256 = omega (arith, past, end) in
    record {
      holders = λ page below. c.loop-page.invariant.holders page (omega (arith, below, past));
      takers = λ page below. c.loop-page.invariant.takers page (omega (arith, below, past));
      parted = subst (λ (n : ℕ). c.loop-page.is_parted ≡ list_any (parts_below n)
          (seats (map (λ b. (goal.Chip-dyn g (b.vtable, b.value)).state b.value) c.args.rack.now.items))) whole c.loop-page.invariant.parted;
    }

pub returns-clause-stands : goal.returns-clause-stands
returns-clause-stands g c =
    λ probe small. stands-unmarked _ probe _ _ c.loop-page.invariant.stays (returns-clause-lists g c) c.none.ensures small
