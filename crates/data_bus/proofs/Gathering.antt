-- One pass over the chips, as a loop: what is left to gather leads from the poll so far to the whole one.
use Rattle.std.proofs.Common.{◌≡◌, ℕ, ◌+◌, ◌<◌, ◌≤◌, List, [], ◌∷◌, length, get_or, map, drop, refl, sym, ap, subst, ◌∙◌, arith, add-one}
use Rattle.std.proofs.Common.{drop-cons}
use Rattle.std.specs.Prelude.{Option, Some, slice_get}
use Rattle.std.proofs.Math.ListN.{get_or-map, drop_of_length-le}
use Rattle.std.proofs.lemmas.List.{length-map}
use Rattle.std.proofs.lemmas.Option.{slice_get-get_or, slice_get_within, get_or_from_slice_get}
use Rattle.f8_spec.specs.ChipState.{ChipView, ChipState}
use Rattle.f8_spec.specs.BusArbitration.{is_first}
use Rattle.f8_spec.specs.declared.bus.BusRule.{BusRule}
use Rattle.data_bus.specs.declared.ask.Answer.{Answer}
use Rattle.data_bus.specs.declared.poll.Poll.{Poll}
use Rattle.data_bus.specs.Racks.{views}
use Rattle.data_bus.specs.Polling.{answer_of, counted, no_poll, polled}

-- the poll so far, before the chip in a socket is asked
pub record Gathered (rule : BusRule) (romc reference : ℕ) (first : Option ℕ) (states : List ChipState) (i : ℕ) (poll : Poll) : Type 0 where
  pub rest : polled rule romc reference first i (drop i (views states)) poll ≡ polled rule romc reference first 0 (views states) no_poll
  pub few : length poll.parties ≤ i

-- what is left begins with the chip at hand
left_at : (states : List ChipState) (i : ℕ) (s : ChipState) → slice_get states i ≡ Some s →
    drop i (views states) ≡ s.view ∷ drop (i + 1) (views states)
left_at states i s at =
    let f : ChipState → ChipView = λ s. s.view in
    let b : i < length states = slice_get_within states i s at in
    let within : i < length (views states) = omega (arith, length-map states f) in
    let here : get_or (views states) i s.view ≡ s.view = get_or-map f states i s ∙ ap f (get_or_from_slice_get states i s s at) in
    rw (add-one, drop-cons (views states) i s.view within, here) refl

-- one more chip is asked
pub gathered-more : (rule : BusRule) (romc reference : ℕ) (first : Option ℕ) (states : List ChipState) (i : ℕ) (s : ChipState)
    (poll after : Poll) (answer : Answer) → slice_get states i ≡ Some s → Gathered rule romc reference first states i poll →
    answer ≡ answer_of rule romc reference (is_first first i) s.view → after ≡ counted i answer poll →
    length after.parties ≤ length poll.parties + 1 → Gathered rule romc reference first states (i + 1) after
gathered-more rule romc reference first states i s poll after answer at gathered says counts few =
    let opened : polled rule romc reference first i (s.view ∷ drop (i + 1) (views states)) poll
    ≡ polled rule romc reference first 0 (views states) no_poll =
    subst (λ l. polled rule romc reference first i l poll
    ≡ polled rule romc reference first 0 (views states) no_poll) (left_at states i s at) gathered.rest in
    record {
      rest = rw (counts, says) opened;
      few = let before = gathered.few in omega arith;
    }

-- every chip is asked
pub gathered-whole : (rule : BusRule) (romc reference : ℕ) (first : Option ℕ) (states : List ChipState) (i : ℕ) (poll : Poll) →
    length states ≤ i → Gathered rule romc reference first states i poll →
    poll ≡ polled rule romc reference first 0 (views states) no_poll
gathered-whole rule romc reference first states i poll past gathered =
    let f : ChipState → ChipView = λ s. s.view in
    let nothing : drop i (views states) ≡ [] = drop_of_length-le (views states) (omega (arith, length-map states f)) in
    subst (λ l. polled rule romc reference first i l poll ≡ polled rule romc reference first 0 (views states) no_poll) nothing gathered.rest

-- ---- the chip in a socket

pub chip-in : {X : Type 0} (V : X → ChipState) (xs : List X) (socket index : ℕ) (x : X) → socket < length xs → index ≡ socket →
    x ≡ get_or xs index x → slice_get (map V xs) socket ≡ Some (V x)
chip-in V xs socket index x within same is =
    let b : socket < length (map V xs) = omega (arith, length-map xs V) in
    slice_get-get_or (map V xs) socket (V x) b
    ∙ ap Some (get_or-map V xs socket x ∙ ap (λ k. V (get_or xs k x)) (sym same) ∙ sym (ap V is))

pub chip-is : (states : List ChipState) (socket : ℕ) (a b : ChipState) → slice_get states socket ≡ Some a → slice_get states socket ≡ Some b → a ≡ b
chip-is states socket a b one other = let same : Some a ≡ Some b = sym one ∙ other in cc
