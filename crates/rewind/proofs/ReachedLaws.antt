-- A machine with its rack is where reset or an instruction led.
use Rattle.std.proofs.Common.{◌≡◌, ℕ, ◌+◌, List, [], ◌∷◌, ◌++◌, length, map, refl, sym, ap, ap₂, subst, ◌∙◌}
use Rattle.std.proofs.lemmas.List.{append-nil, length-map}
use Rattle.std.specs.Prelude.{None}
use Rattle.std.specs.List.{enumerate_from}
use Rattle.f8_spec.specs.ChipState.{ChipView, ChipState}
use Rattle.console_spec.specs.BusTrace.{Course}
use Rattle.console_spec.specs.Run.{Position, Stop, Turn, Goes, Stops}
use Rattle.data_bus.specs.Racks.{views}
use Rattle.f8_machine.specs.Advancing.{Follows}
use Rattle.f8_machine.specs.HeardSteps.{HaveBytes}
use Rattle.f8_machine.specs.MachineState.{MachineState, probe_after_steps, steps_in}
use Rattle.f8_machine.specs.Refinement.{Represents}
use Rattle.f8_machine.specs.Rounds.{Runs, after_steps}
use Rattle.f8_machine.specs.declared.heard.Heard.{Heard}
use Rattle.f8_machine.specs.declared.outcome.Outcome.{Outcome}
use Rattle.rewind.specs.Reached.{Reached, chips_after, hearing, led_by, served_steps}
use Rattle.rewind.specs.Standing.{HasFollowed, HaveHeard, HasReached, IsReady, StopsAt}
use Rattle.rewind.proofs.AskingLaws.{followed_more}
use Rattle.rewind.proofs.KeptChips.{runs_keeps}
use Rattle.rewind.proofs.KeptHearing.{heard_stays, runs_heard}
use Rattle.rewind.proofs.KeptRacks.{views_by, ready_stays}

-- what is said of a machine and its rack there, but for where the flat machine is
pub record Shows (m : MachineState) (states : List ChipState) (r : Reached) : Type 0 where
  pub chain : m.chain ≡ r.position.chain
  pub probe : m.probe ≡ r.probe
  pub chips : views states ≡ r.chips
  pub heard : HaveHeard r.heard 0 states
  pub index : HasFollowed r.heard m.index
  pub ready : IsReady states

pub shows_at : (m : MachineState) (states : List ChipState) (r : Reached) → HasReached m states r → Shows m states r
shows_at m states r at =
    record { chain = at.chain; probe = at.probe; chips = at.chips; heard = at.heard; index = at.index; ready = at.ready }

-- where nothing has stopped it, the machine represents the position
pub represents_at : (m : MachineState) (states : List ChipState) (r : Reached) → HasReached m states r → r.stop ≡ None →
    Represents m states r.position
represents_at m states r at running = rw running at at.machine

-- the chips are as many
pub chips_at : {n : ℕ} (m : MachineState) (states : List ChipState) (r : Reached) → HasReached m states r → length states ≡ n →
    length r.chips ≡ n
chips_at m states r at long =
    ap (λ (vs : List ChipView). length vs) (sym at.chips) ∙ length-map states (λ (x : ChipState). x.view) ∙ long

-- after bus steps
pub shows_heard : (outcome : Outcome) (m after : MachineState) (olds news : List ChipState) (r : Reached)
    (course : Course) →
    Shows m olds r → Follows outcome m after olds news → HaveBytes (steps_in outcome) →
    steps_in outcome ≡ served_steps course → Shows after news (hearing (served_steps course) r)
shows_heard outcome m after olds news r course shows follows bytes heard = record {
  chain = follows.chain ∙ shows.chain;
  probe = follows.reference ∙ ap₂ probe_after_steps heard shows.probe;
  chips = views_by (Runs (steps_in outcome)) (λ k v. after_steps k (steps_in outcome) v) (λ k a b ran. ran.view) 0 olds news follows.ran
      ∙ ap₂ chips_after heard shows.chips;
  heard = subst (λ (steps : List Heard). HaveHeard (r.heard ++ steps) 0 news) heard
      (heard_stays (Runs (steps_in outcome)) r.heard (r.heard ++ steps_in outcome)
      (runs_heard (steps_in outcome) r.heard) 0 olds news follows.ran shows.heard);
  index = subst (λ (steps : List Heard). HasFollowed (r.heard ++ steps) after.index) heard
      (followed_more r.heard (steps_in outcome) m.index after.index shows.index follows.index);
  ready = ready_stays (Runs (steps_in outcome)) (runs_keeps (steps_in outcome) bytes) olds news follows.ran shows.ready;
}

-- ---- no bus steps

seconds : (n : ℕ) (vs : List ChipView) → map (λ x. after_steps x.0 [] x.1) (enumerate_from n vs) ≡ vs
seconds n [] = refl
seconds n (v ∷ vs) = ap (λ (l : List ChipView). v ∷ l) (seconds (n + 1) vs)

-- what hears none is there still
pub hearing_none : (r : Reached) → hearing [] r ≡ r
hearing_none r =
    ap₂ (λ (chips : List ChipView) (heard : List Heard). record r { chips = chips; heard = heard }) (seconds 0 r.chips) (append-nil r.heard)

-- ---- where a turn leads

pub led_heard : (turn : Turn) (r : Reached) → (led_by turn r).heard ≡ r.heard
led_heard (Goes y) r = refl
led_heard (Stops stop) r = refl

pub led_chain : (turn : Turn) (r : Reached) → ((y : Position) → turn ≡ Goes y → y.chain ≡ r.position.chain) →
    (led_by turn r).position.chain ≡ r.position.chain
led_chain (Goes y) r same = same y refl
led_chain (Stops stop) r same = refl

-- the flat machine goes on
pub goes_at : (m : MachineState) (states : List ChipState) (r : Reached) (turn : Turn) (y : Position) →
    turn ≡ Goes y → Shows m states r → r.stop ≡ None → Represents m states y → HasReached m states (led_by turn r)
goes_at m states r turn y goes shows running represents =
    let went : HasReached m states (led_by (Goes y) r) =
    record {
      machine = rw running represents;
      chain = represents.stands.chain;
      probe = shows.probe;
      chips = shows.chips;
      heard = shows.heard;
      index = shows.index;
      ready = shows.ready;
    } in
    subst (λ (t : Turn). HasReached m states (led_by t r)) (sym goes) went

-- or the machine is stopped
pub stops_at : (m : MachineState) (states : List ChipState) (r : Reached) (turn : Turn) (stop : Stop) →
    turn ≡ Stops stop → Shows m states r → StopsAt stop m r.position → HasReached m states (led_by turn r)
stops_at m states r turn stop stops shows machine =
    let stopped : HasReached m states (led_by (Stops stop) r) =
    record {
      machine = machine;
      chain = shows.chain;
      probe = shows.probe;
      chips = shows.chips;
      heard = shows.heard;
      index = shows.index;
      ready = shows.ready;
    } in
    subst (λ (t : Turn). HasReached m states (led_by t r)) (sym stops) stopped
