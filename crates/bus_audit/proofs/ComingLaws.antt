-- Inputs that come one after another.
use Rattle.std.proofs.Common.{◌≡◌, ℕ, ◌+◌, ◌<◌, Bool, true, false, List, [], ◌∷◌, ◌++◌, length, take, get_or, filter, refl, ◌∙◌, ap, sym}
use Rattle.std.proofs.Common.{subst}
use Rattle.std.specs.Prelude.{if◌then◌else◌}
use Rattle.f8_spec.specs.ChipState.{ChipState}
use Rattle.console_spec.specs.Scripts.{events_at}
use Rattle.console_spec.specs.Telling.{with_events}
use Rattle.console_spec.specs.declared.At.{At}
use Rattle.console_spec.specs.declared.Event.{Event}
use Rattle.f8_machine.specs.MachineState.{MachineState}
use Rattle.f8_machine.specs.Refinement.{IsPowered, Represents}
use Rattle.rack_run.specs.Lives.{Come}
use Rattle.rack_run.proofs.EventLaws.{with-append, come_then, events_more}
use Rattle.bus_audit.specs.FreeRuns.{is_own_key}
use Rattle.bus_audit.specs.Inputs.{Comes}

pub comes_then : (old mid new : MachineState) (olds mids news : List ChipState) (es fs : List Event) → Comes old mid olds mids es →
    Comes mid new mids news fs → Comes old new olds news (es ++ fs)
comes_then old mid new olds mids news es fs first next = record {
  powered = λ x was. subst (IsPowered new news) (sym (with-append es fs x)) (next.powered (with_events es x) (first.powered x was));
  running = λ x was. subst (Represents new news) (sym (with-append es fs x)) (next.running (with_events es x) (first.running x was));
  came = come_then old.chain es fs olds mids news first.came (subst (λ (chain : List ℕ). Come chain fs mids news) first.chain next.came);
  chain = next.chain ∙ first.chain;
  phi = next.phi ∙ first.phi;
  index = next.index ∙ first.index;
  mode = next.mode ∙ first.mode;
}

-- ---- the key bytes of ports 0 and 1 at a frame

abbrev pub own_at : ℕ → List At → List Event
own_at frame events = filter is_own_key (events_at frame events)

filter_if : (own : Bool) (e : Event) (es fs : List Event) → (if own then e ∷ (es ++ fs) else es ++ fs) ≡ (if own then e ∷ es else es) ++ fs
filter_if true e es fs = refl
filter_if false e es fs = refl

filter-append : (es fs : List Event) → filter is_own_key (es ++ fs) ≡ filter is_own_key es ++ filter is_own_key fs
filter-append [] fs = refl
filter-append (e ∷ es) fs =
    ap (λ (l : List Event). if is_own_key e then e ∷ l else l) (filter-append es fs)
    ∙ filter_if (is_own_key e) e (filter is_own_key es) (filter is_own_key fs)

pub own_more : (frame : ℕ) (all : List At) (i : ℕ) (d : At) → i < length all →
    own_at frame (take (i + 1) all) ≡ own_at frame (take i all) ++ own_at frame (get_or all i d ∷ [])
own_more frame all i d within =
    ap (filter is_own_key) (events_more frame all i d within)
    ∙ filter-append (events_at frame (take i all)) (events_at frame (get_or all i d ∷ []))
