-- Events, one after another.
use Rattle.std.proofs.Common.{◌≡◌, ℕ, ◌+◌, ◌<◌, ◌≤◌, Bool, true, false, List, [], ◌∷◌, ◌++◌, take, length, get_or, refl}
use Rattle.std.proofs.Common.{sym, ap, ◌∙◌, subst}
use Rattle.std.specs.Prelude.{◌==◌, if◌then◌else◌, Option, Some, None, slice_get}
use Rattle.std.proofs.lemmas.List.{take_more, take_all}
use Rattle.f8_spec.specs.ChipState.{ChipState}
use Rattle.console_spec.specs.Run.{Position, Goes, pulse_in}
use Rattle.console_spec.specs.Scripts.{Script, events_at}
use Rattle.console_spec.specs.Telling.{fallen as fallen_at, events_fallen, events_behind, with_event, with_events}
use Rattle.console_spec.specs.declared.At.{At}
use Rattle.console_spec.specs.declared.Event.{Event}
use Rattle.console_spec.specs.declared.Event.TheVariants.{Keys, Pulse}
use Rattle.rack_run.specs.Lives.{Come}
use Rattle.rack_run.specs.Progressing.{ProgressState, Keeps, ends_at}
use Rattle.rack_run.proofs.Progressed.{over_is}

append_if : (b : Bool) (e : Event) (es fs : List Event) →
    (if b then e ∷ (es ++ fs) else es ++ fs) ≡ (if b then e ∷ es else es) ++ fs
append_if true e es fs = refl
append_if false e es fs = refl

pub events-append : (frame : ℕ) (xs ys : List At) →
    events_at frame (xs ++ ys) ≡ events_at frame xs ++ events_at frame ys
events-append frame [] ys = refl
events-append frame (a ∷ xs) ys =
    ap (λ (es : List Event). if a.frame == frame then a.event ∷ es else es) (events-append frame xs ys)
    ∙ append_if (a.frame == frame) a.event (events_at frame xs) (events_at frame ys)

pub with-append : (es fs : List Event) (x : Position) → with_events (es ++ fs) x ≡ with_events fs (with_events es x)
with-append [] fs x = refl
with-append (e ∷ es) fs x = with-append es fs (with_event e x)

pub come_then : (chain : List ℕ) (es fs : List Event) (olds mids news : List ChipState) → Come chain es olds mids →
    Come chain fs mids news → Come chain (es ++ fs) olds news
come_then chain [] fs olds mids news same later =
    subst (λ (states : List ChipState). Come chain fs states news) same later
come_then chain (e ∷ es) fs olds mids news came later =
    (came.0, came.1, come_then chain es fs came.0 mids news came.2 later)

-- events leave the chain
pulse_chain : (socket : Option ℕ) (x : Position) → (pulse_in socket x).chain ≡ x.chain
pulse_chain None x = refl
pulse_chain (Some socket) x = refl

event_chain : (e : Event) (x : Position) → (with_event e x).chain ≡ x.chain
event_chain (Keys port byte) x = refl
event_chain (Pulse chip) x = pulse_chain (slice_get x.chain chip) x

pub events_chain : (es : List Event) (x : Position) → (with_events es x).chain ≡ x.chain
events_chain [] x = refl
events_chain (e ∷ es) x = events_chain es (with_event e x) ∙ event_chain e x

-- and what has been written
pulse_writes : (socket : Option ℕ) (x : Position) → (pulse_in socket x).flat.state.writes ≡ x.flat.state.writes
pulse_writes None x = refl
pulse_writes (Some socket) x = refl

pub event_writes : (e : Event) (x : Position) → (with_event e x).flat.state.writes ≡ x.flat.state.writes
event_writes (Keys port byte) x = refl
event_writes (Pulse chip) x = pulse_writes (slice_get x.chain chip) x

-- the events up to the next of a list
pub events_more : (frame : ℕ) (all : List At) (i : ℕ) (d : At) → i < length all →
    events_at frame (take (i + 1) all) ≡ events_at frame (take i all) ++ events_at frame (get_or all i d ∷ [])
events_more frame all i d within =
    ap (events_at frame) (take_more all i d within) ∙ events-append frame (take i all) (get_or all i d ∷ [])

pub with_more : (frame : ℕ) (all : List At) (i : ℕ) (d : At) (x : Position) → i < length all →
    with_events (events_at frame (take (i + 1) all)) x
    ≡ with_events (events_at frame (get_or all i d ∷ [])) (with_events (events_at frame (take i all)) x)
with_more frame all i d x within =
    ap (λ (es : List Event). with_events es x) (events_more frame all i d within)
    ∙ with-append (events_at frame (take i all)) (events_at frame (get_or all i d ∷ [])) x

pub come_next : (frame : ℕ) (all : List At) (i : ℕ) (d : At) (x : Position) (olds mids news : List ChipState) →
    i < length all → Come x.chain (events_at frame (take i all)) olds mids →
    Come (with_events (events_at frame (take i all)) x).chain (events_at frame (get_or all i d ∷ [])) mids news →
    Come x.chain (events_at frame (take (i + 1) all)) olds news
come_next frame all i d x olds mids news within came next =
    rw (events_more frame all i d within)
    (come_then x.chain (events_at frame (take i all)) (events_at frame (get_or all i d ∷ [])) olds mids news came
    (subst (λ (chain : List ℕ). Come chain (events_at frame (get_or all i d ∷ [])) mids news)
    (events_chain (events_at frame (take i all)) x) next))

pub at_next : (Holds : Position → Type 0) (frame : ℕ) (all : List At) (i : ℕ) (d : At) (x : Position) → i < length all →
    Holds (with_events (events_at frame (get_or all i d ∷ [])) (with_events (events_at frame (take i all)) x)) →
    Holds (with_events (events_at frame (take (i + 1) all)) x)
at_next Holds frame all i d x within holds = subst Holds (sym (with_more frame all i d x within)) holds

pub events_all : (frame : ℕ) (all : List At) (i : ℕ) → length all ≤ i →
    events_at frame (take i all) ≡ events_at frame all
events_all frame all i past = ap (events_at frame) (take_all i all past)

-- ---- the events behind an instruction

pub behind_some : (script : Script) (p : ProgressState) (x y : Position) (fallen : Option ℕ) (frame : ℕ) →
    fallen ≡ Some frame →
    fallen ≡ fallen_at x.flat.state y.flat.state → Keeps p y.flat.state →
    ends_at script.end p ≡ false → events_behind script x (Goes y) ≡ events_at frame script.events
behind_some script p x y fallen frame is same keeps on =
    ap (λ (f : Option ℕ). events_fallen script f y) (sym same ∙ is)
    ∙ ap (λ (b : Bool). if b then [] else events_at frame script.events)
    (sym (over_is script.end p y.flat.state keeps) ∙ on)
