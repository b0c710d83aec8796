-- The poll of a rack by the sockets that are listed, as many as there are.
use Rattle.std.proofs.Common.{◌≡◌, ℕ, ◌<◌, ◌≤◌, Bool, true, List, [], ◌∷◌, length, map, refl, sym, ap, subst, ◌∙◌, arith}
use Rattle.std.specs.Prelude.{Option, Some, None, option_map, slice_get}
use Rattle.std.proofs.lemmas.Option.{slice_get-map, slice_get_within}
use Rattle.f8_spec.specs.ChipState.{ChipView, ChipState, offered}
use Rattle.f8_spec.specs.BusArbitration.{is_first, rule_of}
use Rattle.f8_spec.specs.declared.bus.BusRule.{BusRule}
use Rattle.data_bus.specs.KnownPlaces.{AllAt, byte_in, goes_by_counter, party_at}
use Rattle.data_bus.specs.PageIndex.{Lists, flagged, holding, seats}
use Rattle.data_bus.specs.Polling.{no_poll, polled}
use Rattle.data_bus.specs.Racks.{views}
use Rattle.data_bus.specs.declared.page_sockets.Sockets.TheVariants.{NoOne, One, Several}
use Rattle.data_bus.proofs.CodeFacts.{FactsBy, code_facts}
use Rattle.data_bus.proofs.ListedPolls.{IsOnly, gathered, offering, only-one, polled-gathered, none-listed, one-listed, several-listed}

-- a chip of a list of views is one of the rack
pub record IsSeated (states : List ChipState) (socket : ℕ) (v : ChipView) : Type 0 where
  pub chip : ChipState
  pub view : chip.view ≡ v
  pub lies : slice_get states socket ≡ Some chip

seated-view : (states : List ChipState) (socket : ℕ) (v : ChipView) → slice_get (views states) socket ≡ Some v → IsSeated states socket v
seated-view states socket v at = by (slice_get states socket) refl
  where
    by : (o : Option ChipState) → slice_get states socket ≡ o → IsSeated states socket v
    by None e =
        let no : None ≡ Some v = sym (slice_get-map (λ (s : ChipState). s.view) states socket ∙ ap (option_map (λ (s : ChipState). s.view)) e) ∙ at in
        cc
    by (Some s) e =
        let same : Some s.view ≡ Some v =
        sym (slice_get-map (λ (s : ChipState). s.view) states socket ∙ ap (option_map (λ (s : ChipState). s.view)) e) ∙ at in
        record { chip = s; view = cc; lies = e }

module _ (rule : BusRule) (romc reference : ℕ) (first : Option ℕ) (states : List ChipState) (by_counter : goes_by_counter rule ≡ true)
    (code : romc < 32) (is_rule : rule ≡ rule_of romc) (small : reference < 65536) (known : AllAt romc reference (views states)) where
  whole : polled rule romc reference first 0 (views states) no_poll
      ≡ gathered rule romc reference first (offering rule romc reference first 0 (views states)) no_poll
  whole = polled-gathered rule romc reference first by_counter
      (λ m v. subst (λ (r : BusRule). FactsBy r romc m v) (sym is_rule) (code_facts romc code m v)) small 0 (views states) known no_poll

  only : (socket : ℕ) → Lists (One socket) (holding rule reference 0 (seats states)) → IsOnly rule romc reference first 0 (views states) socket
  only socket lists = only-one rule romc reference first 0 (views states) socket (sym lists.all)

  seated : (socket : ℕ) → (o : IsOnly rule romc reference first 0 (views states) socket) → IsSeated states socket o.chip
  seated socket o =
      let at : socket ≡ o.place = (let is = o.is in omega (arith, is)) in
      seated-view states socket o.chip (subst (λ (k : ℕ). slice_get (views states) k ≡ Some o.chip) (sym at) o.lies)

  pub one-within : (socket : ℕ) → Lists (One socket) (holding rule reference 0 (seats states)) → socket < length states
  one-within socket lists = slice_get_within states socket _ (seated socket (only socket lists)).lies

  pub poll-none : Lists NoOne (holding rule reference 0 (seats states)) → no_poll ≡ polled rule romc reference first 0 (views states) no_poll
  poll-none lists = sym (whole ∙ none-listed rule romc reference first (views states) (sym lists.all))

  pub poll-one : (socket byte : ℕ) → Lists (One socket) (holding rule reference 0 (seats states)) →
      ((s : ChipState) → slice_get states socket ≡ Some s → byte ≡ byte_in (offered romc (is_first first socket) s.view)) →
      record { parties = record { socket = socket; at = reference } ∷ []; byte = byte; bystander = None }
      ≡ polled rule romc reference first 0 (views states) no_poll
  poll-one socket byte lists says =
      let o = only socket lists in
      let chip = seated socket o in
      let same : byte ≡ byte_in (offered romc (is_first first socket) o.chip) =
      says chip.chip chip.lies ∙ ap (λ (v : ChipView). byte_in (offered romc (is_first first socket) v)) chip.view in
      ap (λ (b : ℕ). record { parties = record { socket = socket; at = reference } ∷ []; byte = b; bystander = None }) same
      ∙ sym (whole ∙ one-listed rule romc reference first (views states) socket o)

  pub poll-several : (flags : List Bool) → Lists (Several flags) (holding rule reference 0 (seats states)) →
      record { parties = map (party_at reference) (flagged 0 flags); byte = 0; bystander = None }
      ≡ polled rule romc reference first 0 (views states) no_poll
  poll-several flags lists = at (flagged 0 flags) refl lists.several.1
    where
      at : (ks : List ℕ) → flagged 0 flags ≡ ks → 2 ≤ length (flagged 0 flags) →
          record { parties = map (party_at reference) (flagged 0 flags); byte = 0; bystander = None }
          ≡ polled rule romc reference first 0 (views states) no_poll
      at [] e two = absurd (omega (arith, rw e at two))
      at (k ∷ []) e two = absurd (omega (arith, rw e at two))
      at (k ∷ (l ∷ ks)) e two =
          ap (λ sockets. record { parties = map (party_at reference) sockets; byte = 0; bystander = None }) e
          ∙ sym (whole ∙ several-listed rule romc reference first (views states) k l ks (sym lists.all ∙ e))
