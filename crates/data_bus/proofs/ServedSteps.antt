-- A step whose counter is known, and which is then answered by the sockets that the index lists.
use Rattle.std.proofs.Common.{◌≡◌, ℕ, ◌<◌, true, List, [], ◌∷◌, length, sym, ap, subst, ◌∙◌}
use Rattle.std.specs.Prelude.{Option, Some, None, Result, Ok, Err, IfSome, slice_get}
use Rattle.f8_spec.specs.BusArbitration.{is_first, rule_of}
use Rattle.f8_spec.specs.BusCodes.{counter_of}
use Rattle.f8_spec.specs.ChipState.{ChipState, offered}
use Rattle.f8_spec.specs.declared.bus.BusRule.{BusRule}
use Rattle.probe.specs.ProbeState.{ProbeState}
use Rattle.data_bus.specs.KnownAgreement.{knows}
use Rattle.data_bus.specs.KnownPlaces.{AllAt, byte_in, goes_by_counter, party_at}
use Rattle.data_bus.specs.PageIndex.{IsIndexOf, Lists, StandsFor, holding, seats}
use Rattle.data_bus.specs.Polling.{no_poll, polled}
use Rattle.data_bus.specs.Racks.{views}
use Rattle.data_bus.specs.Steps.{poll_answer, probe_place, served_of, step_answer}
use Rattle.data_bus.specs.declared.cycle.Cycle.{Cycle}
use Rattle.data_bus.specs.declared.cycle.Served.{Served}
use Rattle.data_bus.specs.declared.fault.BusFault.{BusFault}
use Rattle.data_bus.specs.declared.index.Index.{Index}
use Rattle.data_bus.specs.declared.page_sockets.Sockets.{Sockets}
use Rattle.data_bus.specs.declared.page_sockets.Sockets.TheVariants.{NoOne, One}
use Rattle.data_bus.specs.declared.poll.Poll.{Poll}
use Rattle.data_bus.proofs.Judging.{poll_answer-polled}
use Rattle.data_bus.proofs.KnownPlaces.{places-known, rule-known}
use Rattle.data_bus.proofs.ListedRacks.{one-within, poll-none, poll-one}

-- the step as it is served is the answer
pub served-is : (o : Option Served) (answer : Result Served BusFault) → o ≡ served_of answer → IfSome o (λ served. answer ≡ Ok served)
served-is None answer e = tt
served-is (Some s) (Ok t) e = let same : t ≡ s = cc in cc
served-is (Some s) (Err f) e = cc

module _ (cycle : Cycle) (index : Index) (probe : ProbeState) (states : List ChipState) (below : cycle.romc < 32)
    (stands : StandsFor index probe states) (known : knows (counter_of cycle.romc) index.marks ≡ true) where
  -- every chip is at the probe's address
  pub all-known : (reference : ℕ) → reference ≡ probe_place cycle.romc probe → AllAt cycle.romc reference (views states)
  all-known reference place =
      subst (λ (at : ℕ). AllAt cycle.romc at (views states)) (sym place) (places-known index cycle.romc probe states stands known)

  module _ (rule : BusRule) (reference : ℕ) (is_rule : rule ≡ rule_of cycle.romc) (place : reference ≡ probe_place cycle.romc probe)
      (small : reference < 65536) where
    by_counter : goes_by_counter rule ≡ true
    by_counter = subst (λ (r : BusRule). goes_by_counter r ≡ true) (sym is_rule) (rule-known cycle.romc index.marks below known)

    -- what is listed at the reference
    pub lists-known : (sockets : Sockets) →
        ((these : _) → goes_by_counter rule ≡ true → IsIndexOf index these → Lists sockets (holding rule reference 0 these)) →
        Lists sockets (holding rule reference 0 (seats states))
    lists-known sockets lists = lists (seats states) by_counter stands.lists

    -- what a poll of every chip would answer is the answer of the step
    pub polled-known : (poll : Poll) → poll ≡ polled rule cycle.romc reference cycle.first 0 (views states) no_poll →
        poll_answer rule cycle reference poll ≡ step_answer cycle probe states
    polled-known poll whole = ap (poll_answer rule cycle reference) whole ∙ rw (is_rule, place) (poll_answer-polled cycle _ states below)

    pub one-seated : (socket : ℕ) → Lists (One socket) (holding rule reference 0 (seats states)) → socket < length states
    one-seated socket lists = one-within rule cycle.romc reference cycle.first states by_counter below is_rule small (all-known reference place) socket lists

    pub none-answers : Lists NoOne (holding rule reference 0 (seats states)) →
        poll_answer rule cycle reference no_poll ≡ step_answer cycle probe states
    none-answers lists = polled-known no_poll
        (poll-none rule cycle.romc reference cycle.first states by_counter below is_rule small (all-known reference place) lists)

    pub one-answers : (socket byte : ℕ) → Lists (One socket) (holding rule reference 0 (seats states)) →
        ((s : ChipState) → slice_get states socket ≡ Some s → byte ≡ byte_in (offered cycle.romc (is_first cycle.first socket) s.view)) →
        poll_answer rule cycle reference (record { parties = party_at reference socket ∷ []; byte = byte; bystander = None })
        ≡ step_answer cycle probe states
    one-answers socket byte lists says = polled-known _
        (poll-one rule cycle.romc reference cycle.first states by_counter below is_rule small (all-known reference place) socket byte lists says)
