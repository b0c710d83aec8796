-- A session that has gone back is at the scene of the entries that stay.
use Rattle.std.proofs.Common.{◌≡◌, ℕ, zero, suc, ◌+◌, ◌*◌, ◌≤◌, Bool, true, false, List, [], ◌∷◌, ◌++◌, refl, sym, ap, ap₂, subst, ◌∙◌}
use Rattle.std.proofs.Common.{arith}
use Rattle.std.proofs.lemmas.List.{append-nil}
use Rattle.std.specs.Prelude.{◌-◌, ◌&&◌, nat_le, if◌then◌else◌, Option, Some, None, is_some, option_map, slice_get}
use Rattle.std.specs.Option.{unwrap_or}
use Rattle.f8_spec.specs.ChipState.{ChipState}
use Rattle.f8_spec.specs.declared.chips.PowerOn.{PowerOn}
use Rattle.console_spec.specs.Run.{Stop}
use Rattle.rack_run.specs.Endings.{stop_of}
use Rattle.rack_run.specs.declared.ending.Halt.{Halt}
use Rattle.rewind.specs.Asking.{allowed_since_power}
use Rattle.rewind.specs.LogEntries.{LogState, instructions_in}
use Rattle.rewind.specs.Reached.{Reached, reached_by}
use Rattle.rewind.specs.Tape.{TapeState, AreDone, IsTaped, IsUnbegun, begin, come, come_by, entries_of, is_begun, mode_rewound, played_from}
use Rattle.rewind.specs.declared.entry.Entry.{Entry}
use Rattle.rewind.specs.declared.entry.Entry.TheVariants.{Happens, Instruction}
use Rattle.rewind.specs.declared.tape_mode.TapeMode.{TapeMode}
use Rattle.rewind.specs.declared.tape_mode.TapeMode.TheVariants.{Faulted, Going, Unbegun}
use Rattle.rewind.proofs.Entries.{instructions-append}
use Rattle.chip_debug.specs.Asking.{behind_allowed, replay_allowed, search_allowed}
use Rattle.chip_debug.specs.Scenes.{Scene, begun, done_in, entered, meets_break, reached}
use Rattle.chip_debug.specs.Searching.{is_sought, last_sought}
use Rattle.chip_debug.specs.Standing.{SessionState, IsAt, IsPlayed}
use Rattle.chip_debug.specs.Stepping.{back_by, back_to_break, found_or, gone_to, is_so, latest, met_before, passes, places, stored_by}
use Rattle.chip_debug.specs.Stepping.{stores_at, upto}
use Rattle.chip_debug.specs.declared.breaks.Breaks.{Breaks}
use Rattle.chip_debug.specs.declared.replaying.Sought.{Sought}
use Rattle.chip_debug.specs.declared.replaying.Sought.TheVariants.{Break, Store}
use Rattle.chip_debug.proofs.Placing.{both_none, come_is, placed, played_goes, rewound_unfaulted}
use Rattle.chip_debug.proofs.SceneLaws.{begin_is, begun_is, entered_is, reached_running}

-- ---- the entries that stay

pub upto_count : (n : ℕ) (es : List Entry) → n ≤ instructions_in es → instructions_in (upto n es) ≡ n
upto_count zero es few = refl
upto_count (suc n) [] few = absurd (omega (arith, few))
upto_count (suc n) (Happens event ∷ later) few = upto_count (suc n) later few
upto_count (suc n) (Instruction ∷ later) few = let rest = upto_count n later (omega (arith, few)) in omega (arith, rest)

pub upto_most : (n : ℕ) (es : List Entry) → instructions_in (upto n es) ≤ instructions_in es
upto_most zero es = omega arith
upto_most (suc n) [] = omega arith
upto_most (suc n) (Happens event ∷ later) = upto_most (suc n) later
upto_most (suc n) (Instruction ∷ later) = let rest = upto_most n later in omega (arith, rest)

-- the entries of a session are those of its scene
pub entries_are : (s : SessionState) (states : List ChipState) (scene : Scene) → IsAt s states scene → s.tape.log.left ≡ [] →
    entries_of s.tape.log ≡ scene.entries
entries_are s states scene at left =
    ap (λ (es : List Entry). s.tape.log.played ++ es) left ∙ append-nil s.tape.log.played ∙ at.entries

-- ---- the session

-- a stop goes, but for one of reset
abbrev pub halt_after : TapeMode → Option Halt → Option Halt
halt_after mode halt = if is_begun mode then None else halt

-- the tape goes on from there
abbrev pub tape_gone : ℕ → TapeState → TapeState → TapeState
tape_gone place tape t = record t {
  machine = tape.machine;
  log = record { played = upto place (entries_of t.log); left = []; spare = tape.log.spare };
  mode = mode_rewound t.mode;
}

module _ (s : SessionState) (tape : TapeState) (halt : Option Halt) (place : ℕ) (is : tape ≡ tape_gone place tape s.tape)
    (halts : halt ≡ halt_after s.tape.mode s.halt) (played : IsPlayed s.tape s.halt) where
  mode_is : tape.mode ≡ mode_rewound s.tape.mode
  mode_is = ap (λ (t : TapeState). t.mode) is

  goes_by : (mode : TapeMode) → s.tape.mode ≡ mode → halt ≡ None → mode_rewound mode ≡ Going
  goes_by Going same none = refl
  goes_by Faulted same none = refl
  goes_by Unbegun same none =
      let kept : halt ≡ s.halt = halts ∙ ap (λ (m : TapeMode). halt_after m s.halt) same in
      let going : s.tape.mode ≡ Going = played.goes (sym kept ∙ none) in
      absurd (let both = sym same ∙ going in cc)

  pub gone_played : IsPlayed tape halt
  gone_played = record {
    left = ap (λ (t : TapeState). t.log.left) is;
    goes = λ none. mode_is ∙ goes_by s.tape.mode refl none;
  }

  -- fewer instructions are done, or as many
  pub gone_count : instructions_in tape.log.played ≤ instructions_in s.tape.log.played
  gone_count =
      let kept : instructions_in tape.log.played ≡ instructions_in (upto place (entries_of s.tape.log)) =
      ap (λ (t : TapeState). instructions_in t.log.played) is in
      let all : instructions_in (entries_of s.tape.log) ≡ instructions_in s.tape.log.played =
      ap instructions_in (ap (λ (es : List Entry). s.tape.log.played ++ es) played.left ∙ append-nil s.tape.log.played) in
      let most = upto_most place (entries_of s.tape.log) in
      omega (arith, kept, all, most)

  module _ (olds news : List ChipState) (scene : Scene) (at : IsAt s olds scene) (taped : IsTaped tape news scene.first)
      (chain : tape.machine.chain ≡ s.tape.machine.chain) where
    chain_is : tape.machine.chain ≡ scene.chain
    chain_is = chain ∙ at.chain

    fill_is : tape.fill ≡ scene.fill
    fill_is = ap (λ (t : TapeState). t.fill) is ∙ at.fill

    powers_is : tape.powers ≡ scene.powers
    powers_is = ap (λ (t : TapeState). t.powers) is ∙ at.powers

    kept_is : tape.log.played ≡ upto place scene.entries
    kept_is = ap (λ (t : TapeState). t.log.played) is ∙ ap (upto place) (entries_are s olds scene at played.left)

    -- where reset wasn't done it stands there still
    unbegun_stop : s.tape.mode ≡ Unbegun → option_map stop_of s.halt ≡ (played_from tape scene.first).stop
    unbegun_stop same =
        let old : IsUnbegun s.tape.log (begin s.tape scene.first) =
        subst (λ (m : TapeMode). AreDone m s.tape.log (begin s.tape scene.first)) same at.taped.entries in
        let new : IsUnbegun tape.log (begin tape scene.first) =
        subst (λ (m : TapeMode). AreDone m tape.log (begin tape scene.first)) (mode_is ∙ ap mode_rewound same) taped.entries in
        let none : s.tape.log.played ≡ [] = both_none s.tape.log.played s.tape.log.left old.none in
        let nothing : tape.log.played ≡ [] = both_none tape.log.played tape.log.left new.none in
        let begins : played_from s.tape scene.first ≡ begin s.tape scene.first =
        ap (λ (es : List Entry). reached_by es (begin s.tape scene.first)) none in
        let began : played_from tape scene.first ≡ begin tape scene.first =
        ap (λ (es : List Entry). reached_by es (begin tape scene.first)) nothing in
        let there : entered scene ≡ begin s.tape scene.first = sym (entered_is s olds scene at) ∙ begins in
        let again : begin tape scene.first ≡ begin s.tape scene.first =
        begin_is tape scene chain_is fill_is powers_is ∙ sym (begun_is s olds scene at) in
        at.stop ∙ ap (λ (r : Reached). r.stop)
        (reached_running scene (unstopped scene.stopped refl old.stops there) ∙ there ∙ sym again ∙ sym began)
      where
        unstopped : (b : Bool) → scene.stopped ≡ b → is_some (begin s.tape scene.first).stop ≡ true →
            entered scene ≡ begin s.tape scene.first → scene.stopped ≡ false
        unstopped true stopped stops there =
            let goes : (begin s.tape scene.first).stop ≡ None = sym (ap (λ (r : Reached). r.stop) there) ∙ at.went stopped in
            absurd (let runs = ap (λ (o : Option Stop). is_some o) goes in cc)
        unstopped false running stops there = running

    stop_by : (mode : TapeMode) → s.tape.mode ≡ mode → option_map stop_of halt ≡ (played_from tape scene.first).stop
    stop_by Going same =
        ap (option_map stop_of) (halts ∙ ap (λ (m : TapeMode). halt_after m s.halt) same)
        ∙ sym (played_goes tape news scene.first taped (mode_is ∙ ap mode_rewound same))
    stop_by Faulted same =
        ap (option_map stop_of) (halts ∙ ap (λ (m : TapeMode). halt_after m s.halt) same)
        ∙ sym (played_goes tape news scene.first taped (mode_is ∙ ap mode_rewound same))
    stop_by Unbegun same =
        ap (option_map stop_of) (halts ∙ ap (λ (m : TapeMode). halt_after m s.halt) same) ∙ unbegun_stop same

    pub gone_at : IsAt (record { tape = tape; halt = halt; breaks = s.breaks }) news (gone_to place scene)
    gone_at =
        placed (record { tape = tape; halt = halt; breaks = s.breaks }) news (gone_to place scene)
        (subst (λ (m : TapeMode). (r : Reached) → come_by m r ≡ r) (sym mode_is) (rewound_unfaulted s.tape.mode)) taped
        chain_is fill_is powers_is kept_is refl (stop_by s.tape.mode refl) at.breaks

    -- and so much was asked
    pub gone_asks : (p q : ℕ) → q ≤ p + allowed_since_power (come tape scene.first) → q ≤ p + replay_allowed place scene
    gone_asks p q few =
        subst (λ (r : Reached). q ≤ p + allowed_since_power r)
        (come_is (record { tape = tape; halt = halt; breaks = s.breaks }) news (gone_to place scene)
        (subst (λ (m : TapeMode). (r : Reached) → come_by m r ≡ r) (sym mode_is) (rewound_unfaulted s.tape.mode)) taped
        chain_is fill_is powers_is kept_is refl) few

-- by so many instructions
pub back_is : (place done count : ℕ) (played : List Entry) (scene : Scene) → place ≡ done - count → done ≡ instructions_in played →
    played ≡ scene.entries → place ≡ back_by count scene
back_is place done count played scene is counts same =
    is ∙ ap (λ n. n - count) (counts ∙ ap instructions_in same)

-- ---- in two passes

-- the entries of a tape that was played again from its start are the same
abbrev pub tape_again : TapeState → TapeState → TapeState
tape_again mid t = record t { machine = mid.machine; log = mid.log; mode = mode_rewound t.mode }

rewound_once : (mode : TapeMode) → mode_rewound (mode_rewound mode) ≡ mode_rewound mode
rewound_once Going = refl
rewound_once Unbegun = refl
rewound_once Faulted = refl

rewound_begun : (mode : TapeMode) → is_begun (mode_rewound mode) ≡ is_begun mode
rewound_begun Going = refl
rewound_begun Unbegun = refl
rewound_begun Faulted = refl

module _ (place : ℕ) (old mid new : TapeState) (again : mid ≡ tape_again mid old) (same : entries_of mid.log ≡ entries_of old.log) where
  pub gone_twice : new ≡ tape_gone place new mid → new ≡ tape_gone place new old
  gone_twice gone =
      let log : List Entry → LogState = λ es. record { played = upto place es; left = []; spare = new.log.spare } in
      let with_all : ℕ → List PowerOn → TapeMode → List Entry → TapeState =
      λ fill powers mode es. record { machine = new.machine; fill = fill; powers = powers; log = log es; mode = mode } in
      gone
      ∙ ap₂ (λ (n : ℕ) (p : List PowerOn). with_all n p (mode_rewound mid.mode) (entries_of mid.log))
      (ap (λ (t : TapeState). t.fill) again) (ap (λ (t : TapeState). t.powers) again)
      ∙ ap₂ (λ (mode : TapeMode) (es : List Entry). with_all old.fill old.powers mode es)
      (ap (λ (t : TapeState). mode_rewound t.mode) again ∙ rewound_once old.mode) same

  pub halts_twice : (before after : Option Halt) → after ≡ halt_after mid.mode before → after ≡ halt_after old.mode before
  halts_twice before after halts =
      halts
      ∙ ap (λ (b : Bool). if b then None else before) (ap (λ (t : TapeState). is_begun t.mode) again ∙ rewound_begun old.mode)

-- so much was asked until the first pass ended
module _ (s : SessionState) (mid : TapeState) (place : ℕ) (again : mid ≡ tape_again mid s.tape)
    (played : mid.log.played ≡ upto place (entries_of s.tape.log)) (olds mids : List ChipState) (scene : Scene) (at : IsAt s olds scene)
    (left : s.tape.log.left ≡ []) (taped : IsTaped mid mids scene.first) (chain : mid.machine.chain ≡ s.tape.machine.chain) where
  pub again_is : come mid scene.first ≡ reached (gone_to place scene)
  again_is =
      come_is (record { tape = mid; halt = s.halt; breaks = s.breaks }) mids (gone_to place scene)
      (subst (λ (m : TapeMode). (r : Reached) → come_by m r ≡ r) (sym (ap (λ (t : TapeState). t.mode) again))
      (rewound_unfaulted s.tape.mode)) taped (chain ∙ at.chain)
      (ap (λ (t : TapeState). t.fill) again ∙ at.fill) (ap (λ (t : TapeState). t.powers) again ∙ at.powers)
      (played ∙ ap (upto place) (entries_are s olds scene at left)) refl

  pub search_asks : (p q each : ℕ) → each ≡ behind_allowed true scene.breaks scene.chain →
      q ≤ p + allowed_since_power (come mid scene.first) + place * each → q ≤ p + search_allowed place scene
  search_asks p q each behind few =
      let most : q ≤ p + replay_allowed place scene + place * each =
      subst (λ (r : Reached). q ≤ p + allowed_since_power r + place * each) again_is few in
      let most_of : q ≤ p + replay_allowed place scene + place * behind_allowed true scene.breaks scene.chain =
      subst (λ n. q ≤ p + replay_allowed place scene + place * n) behind most in
      added p q (replay_allowed place scene) (place * behind_allowed true scene.breaks scene.chain) most_of
    where
      added : (a b c d : ℕ) → b ≤ a + c + d → b ≤ a + (c + d)
      added a b c d few = omega arith

pub two_passes : (p q r a b : ℕ) → q ≤ p + a → r ≤ q + b → r ≤ p + (a + b)
two_passes p q r a b first second = omega arith

-- ---- what was found

latest_same : (test other : ℕ → Bool) → ((n : ℕ) → test n ≡ other n) → (count : ℕ) → latest test count ≡ latest other count
latest_same test other same zero = refl
latest_same test other same (suc n) =
    ap₂ (λ (b : Bool) (o : Option ℕ). if b then Some (suc n) else o) (same (suc n)) (latest_same test other same n)

so_both : (b : Bool) (test : Reached → Bool) (o : Option Reached) → is_so (λ r. b && test r) o ≡ (b && is_so test o)
so_both true test None = refl
so_both false test None = refl
so_both true test (Some r) = refl
so_both false test (Some r) = refl

-- the places of the instructions of a session are those of its scene
module _ (s : SessionState) (states : List ChipState) (scene : Scene) (at : IsAt s states scene) (left : s.tape.log.left ≡ []) where
  places_are : places (entries_of s.tape.log) (begin s.tape scene.first) ≡ places scene.entries (begun scene)
  places_are = ap₂ (λ (es : List Entry) (r : Reached). places es r) (entries_are s states scene at left) (begun_is s states scene at)

  sought_is : (sought : Sought) (count : ℕ) → last_sought sought s.tape.machine.chain count (entries_of s.tape.log) (begin s.tape scene.first)
      ≡ latest (λ n. is_so (is_sought sought scene.chain n) (slice_get (places scene.entries (begun scene)) (n - 1))) count
  sought_is sought count =
      ap₂ (λ (chain : List ℕ) (rs : List Reached). latest (λ n. is_so (is_sought sought chain n) (slice_get rs (n - 1))) count)
      at.chain places_are

  pub met_is : (from done count : ℕ) → from ≡ done - count → done ≡ instructions_in s.tape.log.played →
      last_sought (Break from s.breaks) s.tape.machine.chain (done - 1) (entries_of s.tape.log) (begin s.tape scene.first)
      ≡ met_before count scene
  met_is from done count is counts =
      let all : done ≡ done_in scene = counts ∙ ap instructions_in at.entries in
      sought_is (Break from s.breaks) (done - 1)
      ∙ latest_same (λ n. is_so (is_sought (Break from s.breaks) scene.chain n) (slice_get (places scene.entries (begun scene)) (n - 1)))
      (λ n. nat_le from n && passes (meets_break s.breaks scene.chain) scene n)
      (λ n. so_both (nat_le from n) (meets_break s.breaks scene.chain) (slice_get (places scene.entries (begun scene)) (n - 1)))
      (done - 1)
      ∙ ap₂ (λ (f : ℕ) (k : ℕ). latest (λ n. nat_le f n && passes (meets_break s.breaks scene.chain) scene n) k)
      (is ∙ ap (λ n. n - count) all) (ap (λ n. n - 1) all)
      ∙ ap (λ (b : Breaks). latest (λ n. nat_le (done_in scene - count) n && passes (meets_break b scene.chain) scene n) (done_in scene - 1))
      at.breaks

  pub stored_is : (address done : ℕ) → done ≡ instructions_in s.tape.log.played →
      last_sought (Store address) s.tape.machine.chain done (entries_of s.tape.log) (begin s.tape scene.first)
      ≡ stored_by address scene
  stored_is address done counts =
      sought_is (Store address) done
      ∙ ap (λ k. latest (passes (stores_at address) scene) k) (counts ∙ ap instructions_in at.entries)

pub unwrap_is : (o : Option ℕ) (otherwise : ℕ) → unwrap_or o otherwise ≡ found_or otherwise o
unwrap_is None otherwise = refl
unwrap_is (Some n) otherwise = refl

-- so it goes back there
pub found_is : (met : Option ℕ) (from count : ℕ) (scene : Scene) → met ≡ met_before count scene → from ≡ back_by count scene →
    unwrap_or met from ≡ back_to_break count scene
found_is met from count scene same is =
    unwrap_is met from ∙ ap₂ (λ (otherwise : ℕ) (o : Option ℕ). found_or otherwise o) is same

-- all but the last one that is done
pub less_is : (done : ℕ) (played : List Entry) (scene : Scene) → done ≡ instructions_in played → played ≡ scene.entries →
    done - 1 ≡ done_in scene - 1
less_is done played scene counts same = ap (λ n. n - 1) (counts ∙ ap instructions_in same)

-- the instructions of a tape are at least those that were played
pub many_most : (done place : ℕ) (old mid : TapeState) → done ≡ instructions_in old.log.played →
    entries_of mid.log ≡ entries_of old.log → place ≤ done → place ≤ instructions_in (entries_of mid.log)
many_most done place old mid counts same few =
    let all = ap instructions_in same in
    omega (arith, all, counts, few, instructions-append old.log.played old.log.left)
