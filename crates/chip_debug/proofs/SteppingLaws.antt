-- A session that stepped back is one that never went further.
use Rattle.std.proofs.Common.{◌≡◌, ℕ, zero, suc, Bool, true, false, List, [], ◌∷◌, ◌++◌, append_assoc, refl, sym, ap, subst, ◌∙◌}
use Rattle.std.proofs.lemmas.List.{append-nil}
use Rattle.std.specs.Prelude.{◌&&◌, if◌then◌else◌, Option, Some, None, is_some}
use Rattle.f8_spec.specs.ChipState.{ChipView}
use Rattle.f8_spec.specs.declared.chips.PowerOn.{PowerOn}
use Rattle.console_spec.specs.Run.{Stop}
use Rattle.console_spec.specs.declared.Event.{Event}
use Rattle.console_spec.specs.declared.Event.TheVariants.{Keys as KeysEvent, Pulse as PulseEvent}
use Rattle.rewind.specs.Reached.{Reached, entered as entered_by, happening, reached_by, turned}
use Rattle.rewind.specs.declared.entry.Entry.{Entry}
use Rattle.rewind.specs.declared.entry.Entry.TheVariants.{Happens, Instruction}
use Rattle.chip_debug.specs.Breaks.{no_breaks}
use Rattle.chip_debug.specs.Carried.{restarted, scene_after, scene_by, scene_on, told_by, with_breaks}
use Rattle.chip_debug.specs.Scenes.{Scene, and_before, begun, entered, going, happened, has_stopped, is_met, reached, stepped, stops, went}
use Rattle.chip_debug.specs.Stepping.{back_by, back_to_break, gone_to, upto}
use Rattle.chip_debug.specs.SteppingLaw.{StepsBack, SteppingBackLaw, again, all_again, all_set, fresh, setting, setting_apart}
use Rattle.chip_debug.specs.declared.breaks.Breaks.{Breaks}
use Rattle.chip_debug.specs.declared.command.Command.{Command}
use Rattle.chip_debug.specs.declared.command.Command.TheVariants.{Power, Keys, Pulse, Step, Run, BreakAt, BreakRomc}
use Rattle.chip_debug.specs.declared.command.Command.TheVariants.{BreakChip, BreakApart, Clear, ShowRegs, ShowChips, Mem}
use Rattle.chip_debug.specs.declared.command.Command.TheVariants.{Back, BackRun, Stored}
use Rattle.rewind.proofs.EntriesReached.{reached_both}
use Rattle.chip_debug.proofs.Halts.{none_of}

-- ---- entries that nothing stops

-- the machine is stopped neither before any of them nor behind it
abbrev NothingStops : List Entry → Reached → Type 0
NothingStops [] r = Unit {0}
NothingStops (entry ∷ later) r = (r.stop ≡ None) × ((entered_by entry r).stop ≡ None) × NothingStops later (entered_by entry r)

done_then : (entries : List Entry) (entry : Entry) (r : Reached) → NothingStops entries r → (reached_by entries r).stop ≡ None →
    (entered_by entry (reached_by entries r)).stop ≡ None → NothingStops (entries ++ entry ∷ []) r
done_then [] entry r done runs goes = (runs, goes, tt)
done_then (e ∷ entries) entry r done runs goes =
    (done.0, done.1, done_then entries entry (entered_by e r) done.2 runs goes)

done_upto : (n : ℕ) (entries : List Entry) (r : Reached) → NothingStops entries r → NothingStops (upto n entries) r
done_upto zero entries r done = tt
done_upto (suc n) [] r done = tt
done_upto (suc n) (Happens event ∷ later) r done = (done.0, done.1, done_upto (suc n) later (entered_by (Happens event) r) done.2)
done_upto (suc n) (Instruction ∷ later) r done = (done.0, done.1, done_upto n later (entered_by Instruction r) done.2)

-- ---- scenes that a fresh session can come to

-- A scene has the chips and what is said of them from the one at which the session began, nothing stopped it on its way, and it has
-- stopped where it says so.
record IsPlayable (began s : Scene) : Type 0 where
  first : s.first ≡ began.first
  chain : s.chain ≡ began.chain
  powers : s.powers ≡ began.powers
  done : NothingStops s.entries (begun s)
  stopped : s.stopped ≡ true → has_stopped s ≡ true

-- one that hasn't stopped doesn't say so
goes_on : (began s : Scene) → IsPlayable began s → has_stopped s ≡ false → s.stopped ≡ false
goes_on began s playable runs = by s.stopped playable.stopped
  where
    by : (b : Bool) → (b ≡ true → has_stopped s ≡ true) → b ≡ false
    by false stopped = refl
    by true stopped = let stops : has_stopped s ≡ true = stopped refl in cc

at_entries : (s : Scene) → s.stopped ≡ false → reached s ≡ entered s
at_entries s goes = rw goes refl

-- one entry more
playable_then : (began s : Scene) (entry : Entry) → IsPlayable began s → has_stopped s ≡ false →
    (entered_by entry (reached s)).stop ≡ None → IsPlayable began (record s { entries = s.entries ++ entry ∷ [] })
playable_then began s entry playable runs goes = record {
  first = playable.first;
  chain = playable.chain;
  powers = playable.powers;
  done = done_then s.entries entry (begun s) playable.done
      (ap (λ (r : Reached). r.stop) (sym there) ∙ none_of (reached s).stop runs)
      (ap (λ (r : Reached). (entered_by entry r).stop) (sym there) ∙ goes);
  stopped = λ (e : s.stopped ≡ true). let no : s.stopped ≡ false = goes_on began s playable runs in cc;
}
  where
    there : reached s ≡ entered s
    there = at_entries s (goes_on began s playable runs)

happened_runs : (event : Event) (r : Reached) → r.stop ≡ None → (entered_by (Happens event) r).stop ≡ None
happened_runs event r runs = by r.stop runs
  where
    by : (stop : Option Stop) → stop ≡ None → (happening stop event r).stop ≡ None
    by None e = runs
    by (Some x) e = cc

playable_happened : (began s : Scene) (event : Event) → IsPlayable began s → IsPlayable began (happened event s)
playable_happened began s event playable = by (has_stopped s) refl
  where
    by : (b : Bool) → has_stopped s ≡ b →
        IsPlayable began (if b then s else record s { entries = s.entries ++ Happens event ∷ [] })
    by true e = playable
    by false e = playable_then began s (Happens event) playable e (happened_runs event (reached s) (none_of (reached s).stop e))

playable_stepped : (began s : Scene) → IsPlayable began s → has_stopped s ≡ false → IsPlayable began (stepped s)
playable_stepped began s playable runs = by (stops s) refl
  where
    by : (b : Bool) → stops s ≡ b →
        IsPlayable began (if b then record s { stopped = true } else record s { entries = s.entries ++ Instruction ∷ [] })
    by true e = record {
      first = playable.first;
      chain = playable.chain;
      powers = playable.powers;
      done = playable.done;
      stopped = λ (_ : true ≡ true).
          ap (λ (r : Reached). is_some (turned r).stop) (sym (at_entries s (goes_on began s playable runs))) ∙ e;
    }
    by false e = playable_then began s Instruction playable runs (none_of (turned (reached s)).stop e)

playable_going : (began : Scene) (heeds : Bool) (n : ℕ) (s : Scene) → IsPlayable began s → IsPlayable began (going heeds n s).scene
unfolding going
playable_going began heeds zero s playable = playable
playable_going began heeds (suc n) s playable =
    by (has_stopped s) (stops s) (heeds && is_met s) (playable_stepped began s playable)
    (λ (runs : has_stopped s ≡ false). playable_going began heeds n (stepped s) (playable_stepped began s playable runs))
    refl
  where
    by : (stopped stops met : Bool) → (stopped ≡ false → IsPlayable began (stepped s)) →
        (stopped ≡ false → IsPlayable began (going heeds n (stepped s)).scene) → has_stopped s ≡ stopped →
        IsPlayable began (if stopped then went s 0 false else if stops then went (stepped s) 0 false else
        if met then went (stepped s) 1 true else and_before 1 (going heeds n (stepped s))).scene
    by true stops met next rest e = playable
    by false true met next rest e = next refl
    by false false true next rest e = next refl
    by false false false next rest e = rest refl

playable_restarted : (began s : Scene) (fill : ℕ) → IsPlayable began s → IsPlayable began (restarted fill s)
playable_restarted began s fill playable = record {
  first = playable.first;
  chain = playable.chain;
  powers = playable.powers;
  done = tt;
  stopped = λ (e : false ≡ true). cc;
}

playable_breaks : (began s : Scene) (breaks : Breaks) → IsPlayable began s → IsPlayable began (with_breaks breaks s)
playable_breaks began s breaks playable = record {
  first = playable.first;
  chain = playable.chain;
  powers = playable.powers;
  done = playable.done;
  stopped = playable.stopped;
}

playable_back : (began s : Scene) (n : ℕ) → IsPlayable began s → IsPlayable began (gone_to n s)
playable_back began s n playable = record {
  first = playable.first;
  chain = playable.chain;
  powers = playable.powers;
  done = done_upto n s.entries (begun s) playable.done;
  stopped = λ (e : false ≡ true). cc;
}

playable_after : (began s : Scene) (command : Command) → IsPlayable began s → IsPlayable began (scene_after command s)
playable_after began s (Power fill) playable = playable_restarted began s fill playable
playable_after began s (Keys port byte) playable = playable_happened began s (KeysEvent port byte) playable
playable_after began s (Pulse chip) playable = playable_happened began s (PulseEvent chip) playable
playable_after began s (Step count) playable = playable_going began false count s playable
playable_after began s (Run count) playable = playable_going began true count s playable
playable_after began s (BreakAt at) playable = playable_breaks began s (record s.breaks { at = Some at }) playable
playable_after began s (BreakRomc romc) playable = playable_breaks began s (record s.breaks { romc = Some romc }) playable
playable_after began s (BreakChip socket) playable = playable_breaks began s (record s.breaks { chip = Some socket }) playable
playable_after began s BreakApart playable = playable_breaks began s (record s.breaks { apart = true }) playable
playable_after began s Clear playable = playable_breaks began s no_breaks playable
playable_after began s ShowRegs playable = playable
playable_after began s ShowChips playable = playable
playable_after began s (Mem at count) playable = playable
playable_after began s (Back count) playable = playable_back began s (back_by count s) playable
playable_after began s (BackRun count) playable = playable_back began s (back_to_break count s) playable
playable_after began s (Stored at) playable = playable

playable_by : (began s : Scene) (commands : List Command) → IsPlayable began s → IsPlayable began (scene_by commands s)
playable_by began s [] playable = playable
playable_by began s (command ∷ commands) playable =
    playable_by began (scene_after command s) commands (playable_after began s command playable)

-- ---- the commands of a fresh session

by_both : (before later : List Command) (s : Scene) → scene_by (before ++ later) s ≡ scene_by later (scene_by before s)
by_both [] later s = refl
by_both (command ∷ before) later s = by_both before later (scene_after command s)

-- the command of an entry adds it
happened_again : (event : Event) (s : Scene) → has_stopped s ≡ false →
    happened event s ≡ record s { entries = s.entries ++ Happens event ∷ [] }
happened_again event s runs = rw runs refl

stepped_again : (s : Scene) → has_stopped s ≡ false → stops s ≡ false →
    (going false 1 s).scene ≡ record s { entries = s.entries ++ Instruction ∷ [] }
unfolding going
stepped_again s runs goes = rw (runs, goes) refl

added : (entry : Entry) (s : Scene) → has_stopped s ≡ false → (entered_by entry (reached s)).stop ≡ None →
    scene_after (again entry) s ≡ record s { entries = s.entries ++ entry ∷ [] }
added (Happens (KeysEvent port byte)) s runs goes = happened_again (KeysEvent port byte) s runs
added (Happens (PulseEvent chip)) s runs goes = happened_again (PulseEvent chip) s runs
added Instruction s runs goes = stepped_again s runs (ap (λ (stop : Option Stop). is_some stop) goes)

-- and those of all add all
added_all : (entries : List Entry) (s : Scene) → s.stopped ≡ false → NothingStops entries (entered s) →
    scene_by (all_again entries) s ≡ record s { entries = s.entries ++ entries }
added_all [] s goes done = ap (λ (l : List Entry). record s { entries = l }) (sym (append-nil s.entries))
added_all (entry ∷ later) s goes done =
    ap (scene_by (all_again later)) (added entry s runs next)
    ∙ added_all later (record s { entries = s.entries ++ entry ∷ [] }) goes
    (subst (NothingStops later) (sym (reached_both s.entries (entry ∷ []) (begun s))) done.2)
    ∙ ap (λ (l : List Entry). record s { entries = l }) (append_assoc s.entries (entry ∷ []) later)
  where
    there : reached s ≡ entered s
    there = at_entries s goes

    runs : has_stopped s ≡ false
    runs = ap (λ (r : Reached). is_some r.stop) there ∙ ap (λ (stop : Option Stop). is_some stop) done.0

    next : (entered_by entry (reached s)).stop ≡ None
    next = ap (λ (r : Reached). (entered_by entry r).stop) there ∙ done.1

-- the commands that set breaks, one kind after another
set_at : (o : Option ℕ) (breaks : Breaks) (s : Scene) →
    scene_by (setting BreakAt o) (with_breaks (record breaks { at = None }) s) ≡ with_breaks (record breaks { at = o }) s
set_at None breaks s = refl
set_at (Some n) breaks s = refl

set_romc : (o : Option ℕ) (breaks : Breaks) (s : Scene) →
    scene_by (setting BreakRomc o) (with_breaks (record breaks { romc = None }) s) ≡ with_breaks (record breaks { romc = o }) s
set_romc None breaks s = refl
set_romc (Some n) breaks s = refl

set_chip : (o : Option ℕ) (breaks : Breaks) (s : Scene) →
    scene_by (setting BreakChip o) (with_breaks (record breaks { chip = None }) s) ≡ with_breaks (record breaks { chip = o }) s
set_chip None breaks s = refl
set_chip (Some n) breaks s = refl

set_apart : (b : Bool) (breaks : Breaks) (s : Scene) →
    scene_by (setting_apart b) (with_breaks (record breaks { apart = false }) s) ≡ with_breaks (record breaks { apart = b }) s
set_apart true breaks s = refl
set_apart false breaks s = refl

set_all : (breaks : Breaks) (s : Scene) → scene_by (all_set breaks) (with_breaks no_breaks s) ≡ with_breaks breaks s
set_all breaks s =
    let ats : List Command = setting BreakAt breaks.at in
    let romcs : List Command = setting BreakRomc breaks.romc in
    let chips : List Command = setting BreakChip breaks.chip in
    let aparts : List Command = setting_apart breaks.apart in
    by_both (ats ++ romcs ++ chips) aparts (with_breaks no_breaks s)
    ∙ ap (scene_by aparts) (by_both (ats ++ romcs) chips (with_breaks no_breaks s))
    ∙ ap (λ (t : Scene). scene_by aparts (scene_by chips t)) (by_both ats romcs (with_breaks no_breaks s))
    ∙ ap (λ (t : Scene). scene_by aparts (scene_by chips (scene_by romcs t))) (set_at breaks.at no_breaks s)
    ∙ ap (λ (t : Scene). scene_by aparts (scene_by chips t)) (set_romc breaks.romc (record no_breaks { at = breaks.at }) s)
    ∙ ap (scene_by aparts) (set_chip breaks.chip (record no_breaks { at = breaks.at; romc = breaks.romc }) s)
    ∙ set_apart breaks.apart (record breaks { apart = false }) s

-- ---- the law

-- the commands of a scene lead to it, but for its stop
fresh_at : (s : Scene) → NothingStops s.entries (begun s) →
    scene_by (fresh s) (scene_on s.chain s.powers s.first) ≡ record s { stopped = false }
fresh_at s done =
    let starts : Scene = restarted s.fill (scene_on s.chain s.powers s.first) in
    by_both (all_again s.entries) (all_set s.breaks) starts
    ∙ ap (scene_by (all_set s.breaks)) (added_all s.entries starts refl done)
    ∙ set_all s.breaks (record starts { entries = s.entries })

gone_back : (command : Command) → StepsBack command → (s : Scene) → (n : ℕ) × (scene_after command s ≡ gone_to n s)
gone_back (Back count) steps s = (back_by count s, refl)
gone_back (BackRun count) steps s = (back_to_break count s, refl)
gone_back (Power fill) steps s = absurd steps
gone_back (Keys port byte) steps s = absurd steps
gone_back (Pulse chip) steps s = absurd steps
gone_back (Step count) steps s = absurd steps
gone_back (Run count) steps s = absurd steps
gone_back (BreakAt at) steps s = absurd steps
gone_back (BreakRomc romc) steps s = absurd steps
gone_back (BreakChip socket) steps s = absurd steps
gone_back BreakApart steps s = absurd steps
gone_back Clear steps s = absurd steps
gone_back ShowRegs steps s = absurd steps
gone_back ShowChips steps s = absurd steps
gone_back (Mem at count) steps s = absurd steps
gone_back (Stored at) steps s = absurd steps

fresh_back : (began s : Scene) (n : ℕ) → IsPlayable began s →
    scene_by (fresh (gone_to n s)) (scene_on began.chain began.powers began.first) ≡ gone_to n s
fresh_back began s n playable =
    rw (← playable.chain, ← playable.powers, ← playable.first)
    (fresh_at (gone_to n s) (done_upto n s.entries (begun s) playable.done))

begins : (chain : List ℕ) (powers : List PowerOn) (vs : List ChipView) →
    IsPlayable (scene_on chain powers vs) (scene_on chain powers vs)
begins chain powers vs = record { first = refl; chain = refl; powers = refl; done = tt; stopped = λ (e : false ≡ true). cc }

stepped_back : (chain : List ℕ) (powers : List PowerOn) (vs : List ChipView) (commands : List Command) (back : Command) →
    StepsBack back →
    scene_by (fresh (scene_after back (scene_by commands (scene_on chain powers vs)))) (scene_on chain powers vs)
    ≡ scene_after back (scene_by commands (scene_on chain powers vs))
stepped_back chain powers vs commands back steps =
    let began : Scene = scene_on chain powers vs in
    let gone : (n : ℕ) × (scene_after back (scene_by commands began) ≡ gone_to n (scene_by commands began)) =
    gone_back back steps (scene_by commands began) in
    subst (λ (s : Scene). scene_by (fresh s) began ≡ s) (sym gone.1)
    (fresh_back began (scene_by commands began) gone.0 (playable_by began began commands (begins chain powers vs)))

pub stepping_back : SteppingBackLaw
stepping_back = record {
  scene = stepped_back;
  told = λ chain powers vs commands back steps later. ap (told_by later) (stepped_back chain powers vs commands back steps);
}
