-- The commands of a session, one after another, and what a session on a rack answers.
use Rattle.std.proofs.Common.{◌≡◌, ◌≢◌, ℕ, ◌+◌, ◌<◌, List, [], ◌∷◌, ◌++◌, ◌≤◌, length, drop, get_or, refl, sym, ap, arith}
use Rattle.std.proofs.Common.{◌∙◌, subst, inl, inr, map}
use Rattle.std.specs.Prelude.{◌⊎◌, Ok, Err}
use Rattle.std.proofs.lemmas.List.{append_assoc, append-nil, drop_more}
use Rattle.std.proofs.lemmas.List.Sums.{sum_by-cons}
use Rattle.f8_spec.specs.ChipState.{ChipView, ChipState}
use Rattle.f8_spec.specs.declared.chips.ChipKind.{ChipKind}
use Rattle.f8_spec.specs.declared.chips.PowerOn.{PowerOn}
use Rattle.console_spec.specs.RunText.{text_of}
use Rattle.data_bus.specs.Racks.{views}
use Rattle.outside.specs.SinkRules.{Output, Adds, AddsPart}
use Rattle.outside.proofs.SinkLaws.{PutSoFar, adds_none, adds_then}
use Rattle.report.proofs.TextLaws.{text_of-nil, text_of-append}
use Rattle.rack_run.proofs.PutLaws.{so_far_cut}
use Rattle.rack_run.specs.Seating.{fitted_views, kinds_of, seated, RackFits, RackFitsInPart}
use Rattle.rack_run.specs.Sockets.{chain_of}
use Rattle.rack_run.specs.Texts.{Puts}
use Rattle.chip_face.specs.declared.specification.ChipSpec.{ChipSpec}
use Rattle.rewind.specs.Asking.{allowed_since_power}
use Rattle.rewind.specs.Standing.{patches}
use Rattle.chip_debug.specs.Asking.{command_allowed, commands_allowed, session_allowed}
use Rattle.chip_debug.specs.Carried.{first_scene, lines_of, scene_after, scene_by, scene_on, told_by}
use Rattle.chip_debug.specs.Limits.{count_of, room_of, rooms_of, total_of}
use Rattle.chip_debug.specs.Scenes.{Scene, reached}
use Rattle.chip_debug.specs.Standing.{SessionState, IsAt}
use Rattle.chip_debug.specs.declared.command.Command.{Command}
use Rattle.chip_debug.specs.declared.command.Command.TheVariants.{Power}
use Rattle.loader.specs.declared.games.Debugging.{Debugging}
use Rattle.channel_f.specs.Answers.{debug_answer}
use Rattle.channel_f.specs.RackDebugged.{AreOf, Debugs, FailedAt}
use Rattle.channel_f.specs.Reports.{Answers, Reports}
use Rattle.channel_f.specs.declared.status.Status.{Status}
use Rattle.channel_f.specs.declared.status.Status.TheVariants as status
use Rattle.channel_f.proofs.Games.{answers_of}

-- ---- the commands that are left

pub total_next : (commands : List Command) (i : ℕ) → i < length commands →
    total_of (drop i commands) ≡ count_of (get_or commands i (Power 0)) + total_of (drop (i + 1) commands)
total_next commands i within =
    ap total_of (drop_more commands i (Power 0) within)
    ∙ sum_by-cons count_of (get_or commands i (Power 0)) (drop (i + 1) commands)

-- and the room that they take
pub rooms_next : (commands : List Command) (i : ℕ) → i < length commands →
    rooms_of (drop i commands) ≡ room_of (get_or commands i (Power 0)) + rooms_of (drop (i + 1) commands)
rooms_next commands i within =
    ap rooms_of (drop_more commands i (Power 0) within)
    ∙ sum_by-cons room_of (get_or commands i (Power 0)) (drop (i + 1) commands)

scene_by-append : (done : List Command) (command : Command) (s : Scene) →
    scene_by (done ++ command ∷ []) s ≡ scene_after command (scene_by done s)
scene_by-append [] command s = refl
scene_by-append (c ∷ done) command s = scene_by-append done command (scene_after c s)

lines_by-append : (done left : List Command) (s : Scene) →
    told_by (done ++ left) s ≡ told_by done s ++ told_by left (scene_by done s)
lines_by-append [] left s = refl
lines_by-append (c ∷ done) left s =
    ap (λ (lines : List (List ℕ)). lines_of c s ++ lines) (lines_by-append done left (scene_after c s))
    ∙ sym (append_assoc (lines_of c s) (told_by done (scene_after c s)) (told_by left (scene_by done (scene_after c s))))

told_by-append : (done left : List Command) (s : Scene) →
    text_of (told_by (done ++ left) s) ≡ text_of (told_by done s) ++ text_of (told_by left (scene_by done s))
told_by-append done left s = ap text_of (lines_by-append done left s) ∙ text_of-append (told_by done s) (told_by left (scene_by done s))

allowed_by-append : (done : List Command) (command : Command) (s : Scene) →
    commands_allowed (done ++ command ∷ []) s ≡ commands_allowed done s + command_allowed command (scene_by done s)
allowed_by-append [] command s = omega arith
allowed_by-append (c ∷ done) command s =
    let behind = allowed_by-append done command (scene_after c s) in
    omega (arith, behind)

-- where a session is at a scene, the chips are the scene's
are_of : (s : SessionState) (states : List ChipState) (scene : Scene) → IsAt s states scene → AreOf scene states
are_of s states scene at = record { chips = at.there.chips; heard = at.there.heard }

-- ---- so far

-- some commands were carried out and told, and the others are left
pub record Along (commands left : List Command) (first : Scene) (s : SessionState) (states : List ChipState)
    (a b : Output) (p q : ℕ) : Type 0 where
  pub done : List Command
  pub are : commands ≡ done ++ left
  pub at : IsAt s states (scene_by done first)
  pub told : Adds a b (text_of (told_by done first))
  pub asked : q ≤ p + commands_allowed done first

pub along_first : (commands : List Command) (first : Scene) (s : SessionState) (states : List ChipState) (a : Output)
    (p : ℕ) → IsAt s states first → Along commands commands first s states a a p p
along_first commands first s states a p at = record {
  done = [];
  are = refl;
  at = at;
  told = subst (λ (text : List ℕ). Adds a a text) (sym text_of-nil) (adds_none a);
  asked = omega arith;
}

module _ (commands left : List Command) (command : Command) (later : List Command) (first : Scene) (s after : SessionState)
    (states news : List ChipState) (a b c : Output) (p q r : ℕ) (along : Along commands left first s states a b p q)
    (next : left ≡ command ∷ later) where
  are_next : commands ≡ along.done ++ command ∷ later
  are_next = along.are ∙ ap (λ (l : List Command). along.done ++ l) next

  -- the lines of the command, which come behind those that were told
  abbrev text_here : List ℕ
  text_here = text_of (lines_of command (scene_by along.done first))

  text_more : text_of (told_by (along.done ++ command ∷ []) first) ≡ text_of (told_by along.done first) ++ text_here
  text_more =
      told_by-append along.done (command ∷ []) first
      ∙ ap (λ (lines : List (List ℕ)). text_of (told_by along.done first) ++ text_of lines)
      (append-nil (lines_of command (scene_by along.done first)))

  asked_more : r ≤ q + command_allowed command (scene_by along.done first) →
      r ≤ p + commands_allowed (along.done ++ command ∷ []) first
  asked_more few =
      let before = along.asked in
      let all = allowed_by-append along.done command first in
      omega (arith, few, before, all)

  pub along_more : IsAt after news (scene_after command (scene_by along.done first)) →
      Adds b c (text_of (lines_of command (scene_by along.done first))) →
      r ≤ q + command_allowed command (scene_by along.done first) → Along commands later first after news a c p r
  along_more at adds few = record {
    done = along.done ++ command ∷ [];
    are = are_next ∙ sym (append_assoc along.done (command ∷ []) later);
    at = subst (λ (scene : Scene). IsAt after news scene) (sym (scene_by-append along.done command first)) at;
    told =
        subst (λ (text : List ℕ). Adds a c text) (sym text_more)
        (adds_then a b c (text_of (told_by along.done first)) text_here along.told adds);
    asked = asked_more few;
  }

  abbrev text_later : List ℕ
  text_later = text_of (told_by later (scene_after command (scene_by along.done first)))

  so_far : PutSoFar a b (text_of (told_by commands first)) (text_of (told_by (command ∷ later) (scene_by along.done first)))
  so_far = record {
    first = text_of (told_by along.done first);
    whole =
        ap (λ (l : List Command). text_of (told_by l first)) are_next
        ∙ told_by-append along.done (command ∷ later) first;
    adds = along.told;
  }

  -- the sink fails at one of its lines
  pub along_cut : {T : Type 0} {F : Type 0} (f : F) →
      AddsPart b c (text_of (lines_of command (scene_by along.done first))) →
      text_of (lines_of command (scene_by along.done first)) ≢ [] →
      Puts {T = T} {E = F} (Err f) a c (text_of (told_by commands first))
  along_cut f part some =
      so_far_cut f a b c (text_of (told_by commands first))
      (text_of (told_by (command ∷ later) (scene_by along.done first))) text_here text_later so_far
      (text_of-append (lines_of command (scene_by along.done first))
      (told_by later (scene_after command (scene_by along.done first)))) some part

  pub failed_at : IsAt after news (scene_after command (scene_by along.done first)) →
      AddsPart b c (text_of (lines_of command (scene_by along.done first))) →
      text_of (lines_of command (scene_by along.done first)) ≢ [] →
      r ≤ q + command_allowed command (scene_by along.done first) → (before : ℕ) → p ≤ before + allowed_since_power (reached first) →
      FailedAt a c commands first news before r
  failed_at at part some few before begun = record {
    before = along.done;
    command = command;
    rest = later;
    are = are_next;
    between = b;
    told = along.told;
    some = λ none. some (ap text_of none ∙ text_of-nil);
    part = part;
    chips = are_of after news (scene_after command (scene_by along.done first)) at;
    asks = let more = asked_more few in omega (arith, more, begun);
  }

module _ (commands left : List Command) (first : Scene) (s : SessionState) (states : List ChipState) (a b : Output)
    (p q : ℕ) (along : Along commands left first s states a b p q) (none : left ≡ []) where
  all_done : along.done ≡ commands
  all_done = sym (along.are ∙ ap (λ (l : List Command). along.done ++ l) none ∙ append-nil along.done)

  pub along_all : {T : Type 0} {F : Type 0} (v : T) → Puts {T = T} {E = F} (Ok v) a b (text_of (told_by commands first))
  along_all v = record {
    ok = subst (λ (l : List Command). Adds a b (text_of (told_by l first))) all_done along.told;
    err = tt;
    some = tt;
  }

  pub whole_all : AreOf (scene_by commands first) states
  whole_all =
      subst (λ (l : List Command). AreOf (scene_by l first) states) all_done
      (are_of s states (scene_by along.done first) along.at)

  pub asked_all : q ≤ p + commands_allowed commands first
  asked_all = subst (λ (l : List Command). q ≤ p + commands_allowed l first) all_done along.asked

-- ---- a session on chips that are fitted

kinds_seen : (states : List ChipState) → kinds_of states ≡ map (λ (v : ChipView). v.kind) (views states)
kinds_seen [] = refl
kinds_seen (s ∷ states) = ap (λ (kinds : List ChipKind). s.view.kind ∷ kinds) (kinds_seen states)

pub starts_at : (chips : List ChipSpec) (powers : List PowerOn) (olds : List ChipState) (s : SessionState) (news : List ChipState) →
    IsAt s news (scene_on (chain_of chips (kinds_of olds)) powers (views olds)) →
    IsAt s news (first_scene chips powers (views olds))
starts_at chips powers olds s news at =
    subst (λ (kinds : List ChipKind). IsAt s news (scene_on (chain_of chips kinds) powers (views olds)))
    (kinds_seen olds) at

-- and so many questions were put until then
pub begun_asks : (chips : List ChipSpec) (powers : List PowerOn) (olds : List ChipState) (p q : ℕ) →
    q ≤ p + allowed_since_power (reached (scene_on (chain_of chips (kinds_of olds)) powers (views olds))) →
    q ≤ p + allowed_since_power (reached (first_scene chips powers (views olds)))
begun_asks chips powers olds p q few =
    subst (λ (kinds : List ChipKind). q ≤ p + allowed_since_power (reached (scene_on (chain_of chips kinds) powers (views olds))))
    (kinds_seen olds) few

-- ---- what it answers

pub reports_done : (a b : Output) (lines : List (List ℕ)) → Adds a b (text_of lines) → Reports a b status.Done status.Done lines
reports_done a b lines adds =
    record { which = inl refl; whole = λ by_sink. adds; part = λ by_sink. cc }

pub reports_cut_short : (a b : Output) (lines : List (List ℕ)) → AddsPart a b (text_of lines) → Reports a b status.Sink status.Done lines
reports_cut_short a b lines part =
    record { which = inr refl; whole = λ by_sink. absurd (by_sink refl); part = λ by_sink. part }

done_not_memory : (said : Status) → (said ≡ status.Done) ⊎ (said ≡ status.Sink) → said ≡ status.Memory → ⊥
done_not_memory said (inl done) by_memory = cc
done_not_memory said (inr cut) by_memory = cc

done_is_not_memory : status.Done ≢ status.Memory
done_is_not_memory e = cc

module _ (a b : Output) (said : Status) (asked : Debugging) (rack fitted : List ChipState)
    (same : views fitted ≡ fitted_views asked.cart.chips rack)
    (reports : Reports a b said status.Done (told_by asked.commands (first_scene asked.cart.chips asked.cart.powers (views fitted)))) where
  pub debug_answers : Answers a b said (debug_answer asked rack)
  debug_answers =
      answers_of a b said status.Done (debug_answer asked rack).lines done_is_not_memory
      (subst (λ (vs : List ChipView). Reports a b said status.Done (told_by asked.commands (first_scene asked.cart.chips asked.cart.powers vs))) same
      reports)

  pub debugs : (news : List ChipState) (before after : ℕ) →
      (said ≢ status.Sink → AreOf (scene_by asked.commands (first_scene asked.cart.chips asked.cart.powers (views fitted))) news) →
      (said ≡ status.Sink → FailedAt a b asked.commands (first_scene asked.cart.chips asked.cart.powers (views fitted)) news before after) →
      (said ≢ status.Sink → after ≤ before + session_allowed asked.commands (first_scene asked.cart.chips asked.cart.powers (views fitted))) →
      patches news ≡ patches rack → Debugs a b said asked rack news before after
  debugs news before after whole failed few patched = record {
    patched = patched;
    asks = λ by_sink by_memory.
        subst (λ (vs : List ChipView). after ≤ before + session_allowed asked.commands (first_scene asked.cart.chips asked.cart.powers vs)) same
        (few by_sink);
    wanting = λ by_memory. absurd (done_not_memory said reports.which by_memory);
    unasked = λ by_memory. absurd (done_not_memory said reports.which by_memory);
    whole = λ by_sink by_memory.
        subst (λ (vs : List ChipView). AreOf (scene_by asked.commands (first_scene asked.cart.chips asked.cart.powers vs)) news) same
        (whole by_sink);
    failed = λ by_sink.
        subst (λ (vs : List ChipView). FailedAt a b asked.commands (first_scene asked.cart.chips asked.cart.powers vs) news before after) same
        (failed by_sink);
  }

pub debugs_wanting : (a b : Output) (asked : Debugging) (rack news : List ChipState) (before after : ℕ) → after ≡ before →
    patches news ≡ patches rack → RackFits (seated asked.cart.chips rack) rack news ⊎ RackFitsInPart (seated asked.cart.chips rack) rack news →
    Debugs a b status.Memory asked rack news before after
debugs_wanting a b asked rack news before after none patched partly = record {
  patched = patched;
  asks = λ by_sink by_memory. absurd (by_memory refl);
  wanting = λ by_memory. partly;
  unasked = λ by_memory. none;
  whole = λ by_sink by_memory. absurd (by_memory refl);
  failed = λ by_sink. cc;
}

-- chips that stay as they were fitted
pub fitted_still : (chips : List ChipSpec) (rack fitted news : List ChipState) → news ≡ fitted → RackFits (seated chips rack) rack fitted →
    RackFits (seated chips rack) rack news
fitted_still chips rack fitted news same fits = subst (λ (states : List ChipState). RackFits (seated chips rack) rack states) (sym same) fits
