-- A draft has what its lines said.
use Rattle.std.proofs.Common.{◌≡◌, ℕ, ◌+◌, ◌<◌, ◌≤◌, Bool, true, false, cond, List, [], ◌∷◌, ◌++◌, length}
use Rattle.std.proofs.Common.{length-append, Option, Some, None, Ok, Err, refl, sym, ap, ◌∙◌, subst, arith}
use Rattle.std.specs.Prelude.{is_some}
use Rattle.std.specs.List.{filter_map}
use Rattle.std.proofs.lemmas.Bool.Decides.{nat_tests}
use Rattle.std.proofs.lemmas.List.{append-nil}
use Rattle.std.proofs.lemmas.List.Elements.{filter_map-append}
use Rattle.console_spec.specs.declared.At.{At}
use Rattle.console_spec.specs.declared.End.{End}
use Rattle.line_words.specs.Drafts.{draft_by}
use Rattle.line_words.proofs.FirstFault.{same_cause, same_value}
use Rattle.pad_script.specs.declared.answers.ScriptCause.{ScriptCause}
use Rattle.pad_script.specs.declared.answers.ScriptCause.TheVariants.{Twice, TooMany}
use Rattle.pad_script.specs.declared.statement.Statement.{Statement}
use Rattle.pad_script.specs.declared.statement.Statement.TheVariants.{Power, Ends, Comes, Shows}
use Rattle.pad_script.specs.FirstFault.{AreFew, IsTooMuch, counted_lines}
use Rattle.pad_script.specs.Reading.{Draft, is_full, no_draft, read_line, said_with}
use Rattle.pad_script.specs.Statements.{line_of}
use Rattle.pad_script.specs.Telling.{power_in, end_in, event_in, show_in, powers, ends, events, shows}

abbrev pub one_of : {A : Type 0} → Option A → List A
one_of None = []
one_of (Some x) = x ∷ []

one_of-few : {A : Type 0} (x : Option A) → length (one_of x) ≤ 1
one_of-few None = omega arith
one_of-few (Some x) = omega arith

-- a draft has what is said, and has room for it
pub record Stands (ss : List Statement) (d : Draft) : Type 0 where
  pub powers : powers ss ≡ one_of d.power
  pub ends : ends ss ≡ one_of d.end
  pub events : events ss ≡ d.events
  pub shows : shows ss ≡ d.shows
  pub few : length d.events + length d.shows ≤ 1024

pub stands_first : Stands [] no_draft
unfolding no_draft
stands_first = record { powers = refl; ends = refl; events = refl; shows = refl; few = omega arith }

pub by_line : (d : Draft) (l : List ℕ) → read_line d l ≡ draft_by said_with d (line_of l)
unfolding read_line
by_line d l = refl

pub few : (ss : List Statement) (d : Draft) → Stands ss d → AreFew ss
few ss d stands =
    let sizes = ap length stands.events in
    let other = ap length stands.shows in
    let power = ap length stands.powers in
    let end = ap length stands.ends in
    let one = one_of-few d.power in
    let last = one_of-few d.end in
    record {
      one_power = omega (arith, power, one);
      one_end = omega (arith, end, last);
      few = omega (arith, sizes, other, stands.few);
    }

-- a statement that says no such thing, or that says one
other_said : {A : Type 0} (f : Statement → Option A) (ss : List Statement) (s : Statement) (xs : List A) →
    filter_map f (s ∷ []) ≡ [] → filter_map f ss ≡ xs → filter_map f (ss ++ s ∷ []) ≡ xs
other_said f ss s xs none is =
    filter_map-append f ss (s ∷ []) ∙ ap (λ ys. filter_map f ss ++ ys) none ∙ append-nil (filter_map f ss) ∙ is

also_said : {A : Type 0} (f : Statement → Option A) (ss : List Statement) (s : Statement) (x : A) (xs : List A) →
    filter_map f (s ∷ []) ≡ x ∷ [] → filter_map f ss ≡ xs → filter_map f (ss ++ s ∷ []) ≡ xs ++ x ∷ []
also_said f ss s x xs one is =
    filter_map-append f ss (s ∷ []) ∙ ap (λ ys. filter_map f ss ++ ys) one ∙ ap (λ ys. ys ++ x ∷ []) is

module _ (ss : List Statement) (d next : Draft) (stands : Stands ss d) where
  power_goes_on : (byte : ℕ) (had : Option ℕ) → d.power ≡ had →
      cond (is_some had) (Err Twice) (Ok (record d { power = Some byte })) ≡ Ok next → Stands (ss ++ Power byte ∷ []) next
  power_goes_on byte (Some other) is step = absurd cc
  power_goes_on byte None is step =
      subst (λ (d : Draft). Stands (ss ++ Power byte ∷ []) d) (same_value _ next step) (record {
        powers = also_said power_in ss (Power byte) byte [] refl (stands.powers ∙ ap one_of is);
        ends = other_said end_in ss (Power byte) _ refl stands.ends;
        events = other_said event_in ss (Power byte) _ refl stands.events;
        shows = other_said show_in ss (Power byte) _ refl stands.shows;
        few = stands.few;
      })

  end_goes_on : (end : End) (had : Option End) → d.end ≡ had →
      cond (is_some had) (Err Twice) (Ok (record d { end = Some end })) ≡ Ok next → Stands (ss ++ Ends end ∷ []) next
  end_goes_on end (Some other) is step = absurd cc
  end_goes_on end None is step =
      subst (λ (d : Draft). Stands (ss ++ Ends end ∷ []) d) (same_value _ next step) (record {
        powers = other_said power_in ss (Ends end) _ refl stands.powers;
        ends = also_said end_in ss (Ends end) end [] refl (stands.ends ∙ ap one_of is);
        events = other_said event_in ss (Ends end) _ refl stands.events;
        shows = other_said show_in ss (Ends end) _ refl stands.shows;
        few = stands.few;
      })

  event_goes_on : (at : At) (full : Bool) → is_full d ≡ full →
      cond full (Err TooMany) (Ok (record d { events = d.events ++ at ∷ [] })) ≡ Ok next →
      Stands (ss ++ Comes at ∷ []) next
  event_goes_on at true is step = absurd cc
  event_goes_on at false is step =
      subst (λ (d : Draft). Stands (ss ++ Comes at ∷ []) d) (same_value _ next step) (record {
        powers = other_said power_in ss (Comes at) _ refl stands.powers;
        ends = other_said end_in ss (Comes at) _ refl stands.ends;
        events = also_said event_in ss (Comes at) at _ refl stands.events;
        shows = other_said show_in ss (Comes at) _ refl stands.shows;
        few = grind (arith, nat_tests, stands.few, length-append d.events (at ∷ []));
      })

  show_goes_on : (frame : ℕ) (full : Bool) → is_full d ≡ full →
      cond full (Err TooMany) (Ok (record d { shows = d.shows ++ frame ∷ [] })) ≡ Ok next →
      Stands (ss ++ Shows frame ∷ []) next
  show_goes_on frame true is step = absurd cc
  show_goes_on frame false is step =
      subst (λ (d : Draft). Stands (ss ++ Shows frame ∷ []) d) (same_value _ next step) (record {
        powers = other_said power_in ss (Shows frame) _ refl stands.powers;
        ends = other_said end_in ss (Shows frame) _ refl stands.ends;
        events = other_said event_in ss (Shows frame) _ refl stands.events;
        shows = also_said show_in ss (Shows frame) frame _ refl stands.shows;
        few = grind (arith, nat_tests, stands.few, length-append d.shows (frame ∷ []));
      })

-- what is said in addition
pub goes_on : (ss : List Statement) (d next : Draft) (s : Statement) → Stands ss d → said_with d s ≡ Ok next →
    Stands (ss ++ s ∷ []) next
unfolding said_with
goes_on ss d next (Power byte) stands step = power_goes_on ss d next stands byte d.power refl step
goes_on ss d next (Ends end) stands step = end_goes_on ss d next stands end d.end refl step
goes_on ss d next (Comes at) stands step = event_goes_on ss d next stands at (is_full d) refl step
goes_on ss d next (Shows frame) stands step = show_goes_on ss d next stands frame (is_full d) refl step

-- what can't be said in addition
had_one : {A : Type 0} (xs : List A) (had : Option A) (cause : ScriptCause) (d : Draft) → xs ≡ one_of had →
    cond (is_some had) (Err Twice) (Ok d) ≡ Err cause → (0 < length xs) × (cause ≡ Twice)
had_one xs (Some other) cause d is step =
    let size = ap length is in (omega (arith, size), sym (same_cause Twice cause step))
had_one xs None cause d is step = absurd cc

no_room : (ss : List Statement) (d next : Draft) (cause : ScriptCause) (full : Bool) → Stands ss d → is_full d ≡ full →
    cond full (Err TooMany) (Ok next) ≡ Err cause → (counted_lines ss ≡ 1024) × (cause ≡ TooMany)
no_room ss d next cause true stands is step =
    let sizes = ap length stands.events in
    let other = ap length stands.shows in (grind (arith, nat_tests, sizes, other), sym (same_cause TooMany cause step))
no_room ss d next cause false stands is step = absurd cc

pub cant_stand : (ss : List Statement) (d : Draft) (s : Statement) (cause : ScriptCause) → Stands ss d →
    said_with d s ≡ Err cause → IsTooMuch ss s cause
unfolding said_with
cant_stand ss d (Power byte) cause stands step = had_one (powers ss) d.power cause _ stands.powers step
cant_stand ss d (Ends end) cause stands step = had_one (ends ss) d.end cause _ stands.ends step
cant_stand ss d (Comes at) cause stands step = no_room ss d _ cause (is_full d) stands refl step
cant_stand ss d (Shows frame) cause stands step = no_room ss d _ cause (is_full d) stands refl step
