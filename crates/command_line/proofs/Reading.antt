-- What a parse of clap's makes of all words, where a command has one flag or none, and no subcommand: it reads the words one by one as
-- `words_of` tells them apart.
use Rattle.std.proofs.Common.{◌≡◌, ◌∙◌, ◌&&◌, ◌||◌, not, ℕ, Bool, true, false, List, [], ◌∷◌, map, Option, Some, None}
use Rattle.std.proofs.Common.{IsUtf8, bytes_eq, fold, is_some, option_map, refl, sym, ap, ap₂, subst, arith, true≢false}
use Rattle.std.specs.Prelude.{if◌then◌else◌, option_and_then}
use Rattle.std.specs.List.{All, find, list_all}
use Rattle.std.specs.Option.{option_map_or}
use Rattle.std.proofs.lemmas.List.Elements.{All-drop}
use Rattle.std.proofs.lemmas.Slice.Eq.{bytes_eq-Decides}
use Rattle.clap.specs.Walk.{Held, Row, Rule, Step, Text, Walk, after_step, arg_by_index, arg_by_long, finished, idle}
use Rattle.clap.specs.Walk.{is_multiple, is_pending, long_met, next_position, positional, positional_held, pushed}
use Rattle.clap.specs.Walk.{settled, takes_several, to_positional, value, walked, word_met}
use Rattle.clap.specs.Simple.{App, entered}
use Rattle.clap.specs.Kinds.{IsAmong, Kinds, or_else}
use Rattle.clap.specs.Faults.{check_fault, defaults_fault, entered_fault, long_fault, settle_fault, step_fault}
use Rattle.clap.specs.Faults.{turn_fault, walk_fault}
use Rattle.clap.specs.declared.error.kind.ErrorKind.{ErrorKind}
use Rattle.clap.proofs.SimpleLemmas.{is_false}
use Rattle.clap.proofs.WalkLemmas.{both}
use Rattle.command_line.specs.CommandLine.{Flag, Plain, Word, is_dashed, words_of}
use Rattle.command_line.proofs.WordSorts.{HasNoOtherFlag, IsFlag, dashed-refused, dashes, flag_word, is_refusal, is_single, plain-met}
use Rattle.command_line.proofs.WordSorts.{flag-fault, flag-keeps, flag-met, plain-passes}

-- ---- the end of a walk

-- the rows, where nothing is at fault
abbrev pub rows_unless : Kinds → List Row → Option (List Row)
rows_unless [] rows = Some rows
rows_unless (kind ∷ kinds) rows = None

pub rows-given : (kinds : Kinds) (rows : List Row) → kinds ≡ [] → rows_unless kinds rows ≡ Some rows
rows-given kinds rows none = rw none refl

pub rows-refused : (kinds : Kinds) (rows : List Row) (kind : ErrorKind) → IsAmong kind kinds →
    rows_unless kinds rows ≡ None
rows-refused [] rows kind among = absurd among
rows-refused (k ∷ ks) rows kind among = refl

refused-first : (a b c : Kinds) (rows : List Row) → is_refusal a ≡ true →
    rows_unless (or_else (or_else a b) c) rows ≡ None
refused-first [] b c rows e = absurd (true≢false (sym e))
refused-first (k ∷ ks) b c rows e = refl

else-same : (a b : Kinds) → (a ≡ [] → b ≡ []) → or_else a b ≡ a
else-same [] b same = same refl
else-same (k ∷ ks) b same = refl

first-refused : (a b : Kinds) → is_refusal a ≡ true → is_refusal (or_else a b) ≡ true
first-refused [] b e = absurd (true≢false (sym e))
first-refused (k ∷ ks) b e = refl

-- ---- between two words

-- what is held, and the place of the next plain word
pub record Stand : Type 0 where
  pub rows : List Row
  pub pending : Option (Text × List Text)
  pub position : ℕ

abbrev pub held_at : Stand → Held
held_at s = record { rows = s.rows; pending = s.pending; skip = 0 }

-- the walk waits for no value of a flag
abbrev pub walk_at : Stand → Bool → Walk
walk_at s is_trailing =
    record { held = held_at s; waiting = idle; position = s.position; is_trailing = is_trailing; stopped = None }

abbrev pub stand_of : Held → ℕ → Stand
stand_of h position = record { rows = h.rows; pending = h.pending; position = position }

abbrev pub at_first : Stand
at_first = record { rows = []; pending = None; position = 1 }

found-passes : (p q : Rule → Bool) (rules : List Rule) → list_all q rules ≡ true →
    option_map_or q (find p rules) true ≡ true
found-passes p q [] all = refl
found-passes p q (a ∷ rules) all = go (p a) refl (found-passes p q rules (both (q a) _ all).1)
  where
    go : (t : Bool) → p a ≡ t → option_map_or q (find p rules) true ≡ true →
        option_map_or q (find p (a ∷ rules)) true ≡ true
    go true e rest = rw e (both (q a) _ all).0
    go false e rest = rw e rest

-- a walk that passes over no flags of a bundle is where its rows and its place say
stands : (h : Held) (position : ℕ) (is_trailing : Bool) → h.skip ≡ 0
    → ◌≡◌ {A = Walk}
    (record {
      held = h;
      waiting = idle;
      position = position;
      is_trailing = is_trailing;
      stopped = None;
    })
    (walk_at (stand_of h position) is_trailing)
stands h position is_trailing none = λ i. record {
  held = record { rows = h.rows; pending = h.pending; skip = none i };
  waiting = idle;
  position = position;
  is_trailing = is_trailing;
  stopped = None;
}

-- a plain word leaves the walk with nothing to wait for
settled-down : (rules : List Rule) (o : Option Rule) (word : Text) (s : Stand) (is_trailing : Bool) →
    option_map_or is_single o true ≡ true
    → let w = to_positional rules o word (walk_at s false) (held_at s) in
    to_positional rules o word (walk_at s is_trailing) (held_at s) ≡ walk_at (stand_of w.held w.position) is_trailing
settled-down rules None word s is_trailing single = refl
settled-down rules (Some a) word s is_trailing single =
    (λ i. record {
      held = positional_held rules a word (held_at s);
      waiting = waits i;
      position = next_position a s.position;
      is_trailing = trails i;
      stopped = None;
    })
    ∙ stands (positional_held rules a word (held_at s)) (next_position a s.position) is_trailing
    (passes_none (is_pending a s.pending && takes_several a))
  where
    waits : (if is_multiple a then positional else idle) ≡ idle
    waits = let none : is_multiple a ≡ false = is_false _ (both _ _ single).0 in rw none refl

    trails : (is_trailing || a.trailing_var_arg) ≡ is_trailing
    trails =
        let none : a.trailing_var_arg ≡ false = is_false _ (both (not (is_multiple a)) _ single).1 in
        rw none (go is_trailing)
      where
        go : (t : Bool) → (t || false) ≡ t
        go true = refl
        go false = refl

    passes_none : (t : Bool) → (pushed a.id word (if t then held_at s else settled rules (held_at s))).skip ≡ 0
    passes_none true = refl
    passes_none false = refl

module _ (a : App) where
  -- what is at fault at the end of a walk
  abbrev pub closing : Walk → Kinds
  closing w = or_else (entered_fault a w.stopped)
      (or_else (settle_fault a.top.rules a.top.args_override_self w.held)
      (or_else (defaults_fault (settled a.top.rules w.held).rows a.top.rules)
      (check_fault a.top (finished a.top.rules w.held) (is_some (entered a w.stopped)))))

  -- what a walk gives that goes on over some words, and nothing where one is refused or the end is
  abbrev pub reading : Walk → List Text → Option (List Row)
  reading w words = rows_unless (or_else (walk_fault a.top [] w words) (closing (fold (walked a.top.rules []) w words)))
      (finished a.top.rules (fold (walked a.top.rules []) w words).held)

  reading-next : (w after : Walk) (word : Text) (rest : List Text) → turn_fault a.top [] w word ≡ [] →
      walked a.top.rules [] w word ≡ after
      → reading w (word ∷ rest) ≡ reading after rest
  unfolding walk_fault
  reading-next w after word rest none is =
      ap₂
      (λ (kinds : Kinds) (next : Walk). rows_unless (or_else (or_else kinds (walk_fault a.top [] next rest)) (closing (fold (walked a.top.rules []) next rest)))
      (finished a.top.rules (fold (walked a.top.rules []) next rest).held)) none is

  reading-refused : (w : Walk) (word : Text) (rest : List Text) → is_refusal (turn_fault a.top [] w word) ≡ true →
      reading w (word ∷ rest) ≡ None
  unfolding walk_fault
  reading-refused w word rest refused = refused-first (turn_fault a.top [] w word) _ _ _ refused

  -- a word is refused by these kinds, and else the walk goes on
  reading-turn : (w after : Walk) (word : Text) (rest : List Text) (kinds : Kinds) → turn_fault a.top [] w word ≡ kinds
      → (kinds ≡ [] → walked a.top.rules [] w word ≡ after) →
      reading w (word ∷ rest) ≡ if is_refusal kinds then None else reading after rest
  reading-turn w after word rest [] is goes = reading-next w after word rest is (goes refl)
  reading-turn w after word rest (kind ∷ kinds) is goes = reading-refused w word rest (ap is_refusal is)

  module _ (name : Text) where
    -- ---- the same, over words that are told apart

    abbrev taken : Option Rule
    taken = arg_by_long a.top.rules name

    abbrev fault_at : Stand → Word → Kinds
    fault_at s Flag = long_fault a.top.rules a.top.args_override_self taken None (held_at s)
    fault_at s (Plain word) = step_fault a.top s.position (held_at s) value

    abbrev placed : Stand → Text → Walk
    placed s word = to_positional a.top.rules (arg_by_index a.top.rules s.position) word (walk_at s false) (held_at s)

    abbrev stand_after : Stand → Word → Stand
    stand_after s Flag = stand_of (long_met a.top.rules taken None (held_at s)).0 s.position
    stand_after s (Plain word) = stand_of (placed s word).held (placed s word).position

    abbrev pub told : Stand → List Word → Option (List Row)
    told s [] = rows_unless (closing (walk_at s false)) (finished a.top.rules (held_at s))
    told s (word ∷ words) = if is_refusal (fault_at s word) then None else told (stand_after s word) words

    module _ (is_flag : IsFlag name) (only : HasNoOtherFlag name a.top.rules) where
      placed-is : (s : Stand) (word : Text) (is_trailing : Bool)
          → after_step a.top.rules word (walk_at s is_trailing) (held_at s) value ≡ walk_at (stand_after s (Plain word))
          is_trailing
      placed-is s word is_trailing =
          settled-down a.top.rules (arg_by_index a.top.rules s.position) word s is_trailing
          (found-passes _ is_single a.top.rules only.single)

      parting-read : (s : Stand) (rest : List Text) →
          reading (walk_at s false) (dashes ∷ rest) ≡ reading (walk_at s true) rest
      unfolding walked
      parting-read s rest = reading-next (walk_at s false) (walk_at s true) dashes rest refl refl

      -- behind `--`
      told-plain : (s : Stand) (rest : List Text) → reading (walk_at s true) rest ≡ told s (map Plain rest)
      unfolding walk_fault walked
      told-plain s [] = refl
      told-plain s (word ∷ rest) =
          reading-turn (walk_at s true) (walk_at (stand_after s (Plain word)) true) word rest (fault_at s (Plain word))
          refl (λ _. placed-is s word true)
          ∙ ap (λ rows. if is_refusal (fault_at s (Plain word)) then None else rows)
          (told-plain (stand_after s (Plain word)) rest)

      -- a word that is told apart goes before the others
      told-more : (s : Stand) (word : Word) (words : Option (List Word))
          → (if is_refusal (fault_at s word) then None else option_and_then (told (stand_after s word)) words)
          ≡ option_and_then (told s) (option_map (λ ws. word ∷ ws) words)
      told-more s word (Some words) = refl
      told-more s word None = go (is_refusal (fault_at s word))
        where
          go : (t : Bool) → ◌≡◌ {A = Option (List Row)} (if t then None else None) None
          go true = refl
          go false = refl

      -- ---- the four sorts of words

      abbrev met : Stand → Held × Step
      met s = word_met a.top.rules [] false idle s.position (flag_word name) (held_at s)

      flag-turn : (s : Stand) → turn_fault a.top [] (walk_at s false) (flag_word name) ≡ fault_at s Flag
      flag-turn s =
          ap (λ (kinds : Kinds). or_else kinds (step_fault a.top s.position (met s).0 (met s).1)) (flag-fault name is_flag a.top (held_at s))
          ∙ else-same (fault_at s Flag) (step_fault a.top s.position (met s).0 (met s).1)
          (λ none. ap (λ (is : Held × Step). step_fault a.top s.position is.0 is.1)
          (flag-met name is_flag a.top.rules a.top.args_override_self s.position (held_at s) only none))

      flag-walked : (s : Stand) → fault_at s Flag ≡ [] →
          walked a.top.rules [] (walk_at s false) (flag_word name) ≡ walk_at (stand_after s Flag) false
      unfolding walked
      flag-walked s none =
          ap (λ (met : Held × Step). after_step a.top.rules (flag_word name) (walk_at s false) met.0 met.1)
          (flag-met name is_flag a.top.rules a.top.args_override_self s.position (held_at s) only none)
          ∙ stands (long_met a.top.rules taken None (held_at s)).0 s.position false
          (flag-keeps name is_flag a.top.rules (held_at s) only)

      plain-turn : (s : Stand) (word : Text) → bytes_eq word dashes ≡ false → is_dashed word ≡ false
          → turn_fault a.top [] (walk_at s false) word ≡ fault_at s (Plain word)
      plain-turn s word apart even =
          ap₂ (λ (kinds : Kinds) (met : Held × Step). or_else kinds (step_fault a.top s.position met.0 met.1))
          (plain-passes a.top word (held_at s) apart even) (plain-met a.top.rules word s.position (held_at s) apart even)

      plain-walked : (s : Stand) (word : Text) → bytes_eq word dashes ≡ false → is_dashed word ≡ false
          → walked a.top.rules [] (walk_at s false) word ≡ walk_at (stand_after s (Plain word)) false
      unfolding walked
      plain-walked s word apart even =
          ap (λ (met : Held × Step). after_step a.top.rules word (walk_at s false) met.0 met.1)
          (plain-met a.top.rules word s.position (held_at s) apart even)
          ∙ placed-is s word false

      module _ (s : Stand) (word : Text) (rest : List Text)
          (on : (s : Stand) → reading (walk_at s false) rest ≡ option_and_then (told s) (words_of (flag_word name) rest)) where
        goes-on : (sort : Word) → turn_fault a.top [] (walk_at s false) word ≡ fault_at s sort
            → (fault_at s sort ≡ [] → walked a.top.rules [] (walk_at s false) word ≡ walk_at (stand_after s sort) false)
            → words_of (flag_word name) (word ∷ rest) ≡ option_map (λ ws. sort ∷ ws) (words_of (flag_word name) rest)
            → reading (walk_at s false) (word ∷ rest) ≡ option_and_then (told s) (words_of (flag_word name) (word ∷ rest))
        goes-on sort is goes sorted =
            reading-turn (walk_at s false) (walk_at (stand_after s sort) false) word rest (fault_at s sort) is goes
            ∙ (ap (λ rows. if is_refusal (fault_at s sort) then None else rows) (on (stand_after s sort)) ∙ told-more s sort (words_of (flag_word name) rest))
            ∙ sym (ap (option_and_then (told s)) sorted)

        next-told : IsUtf8 word → (parts : Bool) → bytes_eq word dashes ≡ parts → (flags : Bool) →
            bytes_eq word (flag_word name) ≡ flags
            → (dashed : Bool) → is_dashed word ≡ dashed →
            reading (walk_at s false) (word ∷ rest) ≡ option_and_then (told s) (words_of (flag_word name) (word ∷ rest))
        next-told utf8 true e flags f dashed g =
            subst (λ word. reading (walk_at s false) (word ∷ rest) ≡ option_and_then (told s) (words_of (flag_word name) (word ∷ rest)))
            (sym ((bytes_eq-Decides word dashes).0 e))
            (parting-read s rest ∙ told-plain s rest)
        next-told utf8 false e true f dashed g =
            let same : (flag_word name) ≡ word = sym ((bytes_eq-Decides word (flag_word name)).0 f) in
            goes-on Flag (subst (λ word. turn_fault a.top [] (walk_at s false) word ≡ fault_at s Flag) same (flag-turn s))
            (λ none. subst (λ word. walked a.top.rules [] (walk_at s false) word ≡ walk_at (stand_after s Flag) false) same (flag-walked s none))
            (rw (e, f) refl)
        next-told utf8 false e false f true g =
            let none : words_of (flag_word name) (word ∷ rest) ≡ None = rw (e, f, g) refl in
            reading-refused (walk_at s false) word rest
            (first-refused _ _ (dashed-refused name is_flag a.top word (held_at s) refl only utf8 e f g))
            ∙ sym (ap (option_and_then (told s)) none)
        next-told utf8 false e false f false g =
            goes-on (Plain word) (plain-turn s word e g) (λ none. plain-walked s word e g) (rw (e, f, g) refl)

      pub told-apart : (s : Stand) (words : List Text) → All IsUtf8 words →
          reading (walk_at s false) words ≡ option_and_then (told s) (words_of (flag_word name) words)
      unfolding walk_fault
      told-apart s [] utf8 = refl
      told-apart s (word ∷ rest) utf8 =
          next-told s word rest (λ s. told-apart s rest (All-drop IsUtf8 1 (word ∷ rest) utf8))
          (utf8 0 word (omega arith))
          (bytes_eq word dashes) refl (bytes_eq word (flag_word name)) refl (is_dashed word) refl
