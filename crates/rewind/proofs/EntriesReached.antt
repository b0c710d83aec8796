-- Where entries lead one after another: what has stopped stays so, and so nothing on the way to a place that goes on has stopped.
use Rattle.std.proofs.Common.{◌≡◌, true, false, List, [], ◌∷◌, ◌++◌, refl, sym, ap, ◌∙◌}
use Rattle.std.specs.Prelude.{Option, Some, None, is_some}
use Rattle.console_spec.specs.Run.{Stop, Turn, Goes, Stops, next}
use Rattle.console_spec.specs.declared.Event.{Event}
use Rattle.rewind.specs.Reached.{Reached, entered, happening, hearing, led_by, next_steps, reached_by}
use Rattle.rewind.specs.declared.entry.Entry.{Entry}
use Rattle.rewind.specs.declared.entry.Entry.TheVariants.{Happens, Instruction}

-- first some entries, and then others
pub reached_both : (a b : List Entry) (r : Reached) → reached_by (a ++ b) r ≡ reached_by b (reached_by a r)
reached_both [] b r = refl
reached_both (entry ∷ a) b r = reached_both a b (entered entry r)

-- ---- what has stopped stays so

happening_stops : (event : Event) (r : Reached) (stop : Option Stop) → is_some stop ≡ true → is_some r.stop ≡ true →
    is_some (happening stop event r).stop ≡ true
happening_stops event r None stopped stops = cc
happening_stops event r (Some stop) stopped stops = stops

led_stops : (turn : Turn) (r : Reached) → is_some r.stop ≡ true → is_some (led_by turn r).stop ≡ true
led_stops (Goes y) r stops = stops
led_stops (Stops stop) r stops = refl

entry_stops : (entry : Entry) (r : Reached) → is_some r.stop ≡ true → is_some (entered entry r).stop ≡ true
entry_stops (Happens event) r stops = happening_stops event r r.stop stops stops
entry_stops Instruction r stops = led_stops (next r.position) (hearing (next_steps r) r) stops

pub stays_stopped : (es : List Entry) (r : Reached) → is_some r.stop ≡ true → is_some (reached_by es r).stop ≡ true
stays_stopped [] r stops = stops
stays_stopped (entry ∷ es) r stops = stays_stopped es (entered entry r) (entry_stops entry r stops)

-- ---- nothing on the way has stopped

-- a place that goes on, though it would be stopped if the one before were, has one that goes on before it
goes_before : (before after : Option Stop) → (is_some before ≡ true → is_some after ≡ true) → after ≡ None → before ≡ None
goes_before None after stays goes = refl
goes_before (Some stop) after stays goes =
    let stopped : is_some after ≡ true = stays refl in
    let went : is_some after ≡ false = ap (λ (o : Option Stop). is_some o) goes in
    absurd (cc)

pub begins_running : (es : List Entry) (r : Reached) → (reached_by es r).stop ≡ None → r.stop ≡ None
begins_running es r goes = goes_before r.stop (reached_by es r).stop (stays_stopped es r) goes

pub on_the_way : (a b : List Entry) (r : Reached) → (reached_by (a ++ b) r).stop ≡ None → (reached_by a r).stop ≡ None
on_the_way a b r goes =
    begins_running b (reached_by a r) (sym (ap (λ (there : Reached). there.stop) (reached_both a b r)) ∙ goes)
