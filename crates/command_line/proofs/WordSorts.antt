-- What a walk of clap's makes of one word, where a command has one flag or none, and no subcommand.
use Rattle.std.proofs.Common.{◌≡◌, ◌∙◌, ℕ, Bool, true, false, ◌==◌, ◌&&◌, not, List, [], ◌∷◌, Option, Some, None}
use Rattle.std.proofs.Common.{IsUtf8, codes, bytes_eq, suc, ◌+◌, length, take, arith, refl, sym, ap, subst, true≢false}
use Rattle.std.specs.Prelude.{encode_utf8_all}
use Rattle.std.specs.Char.{encode_utf8}
use Rattle.std.specs.List.{list_all}
use Rattle.std.specs.Option.{option_map_or}
use Rattle.std.specs.Str.{chars}
use Rattle.std.proofs.lemmas.Str.{encodes-chars}
use Rattle.std.proofs.lemmas.Bool.{eqb-true}
use Rattle.std.proofs.lemmas.Slice.Eq.{bytes_eq-Decides}
use Rattle.clap.specs.Lexer.{has_byte, long_of, name_and_value, short_of}
use Rattle.clap.specs.Walk.{Held, Rule, Text, after_flag, arg_by_long, arg_by_short, idle, is_empty, is_multiple, long_met, next}
use Rattle.clap.specs.Walk.{takes_values, value, word_met}
use Rattle.clap.specs.Simple.{Shape}
use Rattle.clap.specs.Kinds.{Kinds}
use Rattle.clap.specs.Faults.{flag_word_fault, flags_fault, long_fault, word_fault}
use Rattle.command_line.specs.CommandLine.{is_dashed}

abbrev pub dashes : Text
dashes = codes "--"

-- the word of a flag by its name
abbrev pub flag_word : Text → Text
flag_word flag = 45 ∷ (45 ∷ flag)

-- a name that makes a word: it isn't empty, and has no `=`
pub record IsFlag (flag : Text) : Type 0 where
  pub apart : bytes_eq (flag_word flag) dashes ≡ false
  pub long : long_of (flag_word flag) ≡ Some (flag, None)

-- the flag of `play`

abbrev pub trace : Text
trace = codes "trace"

pub trace_is : IsFlag trace
trace_is = record { apart = refl; long = refl }

-- some kind of error comes
abbrev pub is_refusal : Kinds → Bool
is_refusal [] = false
is_refusal (kind ∷ kinds) = true

-- a positional of one value, behind which flags go on
abbrev pub is_single : Rule → Bool
is_single a = not (is_multiple a) && not a.trailing_var_arg

-- the rules have no flag, or that of this name alone, and it takes no value
pub record HasNoOtherFlag (flag : Text) (rules : List Rule) : Type 0 where
  pub long : (name : Text) → bytes_eq flag name ≡ false → arg_by_long rules name ≡ None
  pub short : (c : ℕ) → arg_by_short rules c ≡ None
  pub valueless : option_map_or takes_values (arg_by_long rules flag) false ≡ false
  pub single : list_all is_single rules ≡ true

-- ---- a plain word

plain-long : (word : Text) → is_dashed word ≡ false → long_of word ≡ None
plain-long [] e = refl
plain-long (x ∷ []) e = go (x == 45) refl
  where
    go : (t : Bool) → (x == 45) ≡ t → long_of (x ∷ []) ≡ None
    go true t = rw t refl
    go false t = rw t refl
plain-long (x ∷ (y ∷ rest)) e = rw e refl

plain-short : (word : Text) → is_dashed word ≡ false → short_of word ≡ None
plain-short [] e = refl
plain-short (x ∷ []) e = go (x == 45) refl
  where
    go : (t : Bool) → (x == 45) ≡ t → short_of (x ∷ []) ≡ None
    go true t = rw t refl
    go false t = rw t refl
plain-short (x ∷ (y ∷ rest)) e = rw e refl

pub plain-met : (rules : List Rule) (word : Text) (position : ℕ) (h : Held) → bytes_eq word dashes ≡ false →
    is_dashed word ≡ false
    → word_met rules [] false idle position word h ≡ (h, value)
plain-met rules word position h apart plain =
    let long = plain-long word plain in
    let short = plain-short word plain in
    rw (apart, long, short) refl

pub plain-passes : (s : Shape) (word : Text) (h : Held) → bytes_eq word dashes ≡ false → is_dashed word ≡ false
    → word_fault s [] false idle word h ≡ []
plain-passes s word h apart plain =
    let long = plain-long word plain in
    let short = plain-short word plain in
    rw (apart, long, short) refl

-- ---- a dashed word

-- text behind `-` begins with a character
first_char : (y : ℕ) (rest : Text) → IsUtf8 (45 ∷ (y ∷ rest)) → chars (y ∷ rest) ≡ [] → ⊥
unfolding chars encode_utf8
first_char y rest utf8 none =
    let whole : chars (45 ∷ (y ∷ rest)) ≡ 45 ∷ [] = ap (λ cs. 45 ∷ cs) none in
    let back : encode_utf8_all (45 ∷ []) ≡ 45 ∷ (y ∷ rest) =
    ap encode_utf8_all (sym whole) ∙ encodes-chars (45 ∷ (y ∷ rest)) utf8 in
    cc

short-refused : (flag : Text) (rules : List Rule) (again : Bool) (y : ℕ) (rest : Text) (k : ℕ) (h : Held) → HasNoOtherFlag flag rules →
    (chars (y ∷ rest) ≡ [] → ⊥)
    → is_refusal (flags_fault rules again (suc k) (y ∷ rest) 0 h) ≡ true
unfolding flags_fault
short-refused flag rules again y rest k h only some = go (chars (y ∷ rest)) refl
  where
    go : (cs : List ℕ) → chars (y ∷ rest) ≡ cs → is_refusal (flags_fault rules again (suc k) (y ∷ rest) 0 h) ≡ true
    go [] e = absurd (some e)
    go (c ∷ cs) e =
        let no : arg_by_short rules c ≡ None = only.short c in
        rw (e, no) refl

-- ---- words that begin with two hyphens

one_more : (n : ℕ) → 1 + n ≡ suc n
one_more n = omega arith

-- a text with no `=` is all name
all_name : (text : Text) → has_byte 61 text ≡ false → (name_and_value text).0 ≡ text
all_name [] lacks = refl
all_name (x ∷ xs) lacks = go (x == 61) refl (all_name xs)
  where
    go : (t : Bool) → (x == 61) ≡ t → (has_byte 61 xs ≡ false → (name_and_value xs).0 ≡ xs) →
        (name_and_value (x ∷ xs)).0 ≡ x ∷ xs
    go true e rest = absurd (true≢false (rw e at lacks))
    go false e rest = rw e (ap (λ n. take n (x ∷ xs)) (one_more _) ∙ ap (λ text. x ∷ text) (rest (rw e at lacks)))

-- a name that isn't empty and has no `=` makes a word
pub flag_of_name : (name : Text) → is_empty name ≡ false → has_byte 61 name ≡ false → IsFlag name
flag_of_name [] some lacks = absurd (true≢false some)
flag_of_name (x ∷ xs) some lacks =
    record { apart = refl; long = rw lacks (ap (λ name. Some (name, None)) (all_name (x ∷ xs) lacks)) }

module _ (flag : Text) (is : IsFlag flag) where
  -- ---- the flag

  -- where it is taken, it is done with, and nothing waits
  pub flag-met : (rules : List Rule) (again : Bool) (position : ℕ) (h : Held) → HasNoOtherFlag flag rules →
      long_fault rules again (arg_by_long rules flag) None h ≡ []
      → word_met rules [] false idle position (flag_word flag) h
      ≡ ((long_met rules (arg_by_long rules flag) None h).0, next idle)
  flag-met rules again position h only passes = rw (is.apart, is.long) (go (arg_by_long rules flag) only.valueless passes)
    where
      go : (o : Option Rule) → option_map_or takes_values o false ≡ false → long_fault rules again o None h ≡ []
          → after_flag rules idle (flag_word flag) (long_met rules o None h).0 (long_met rules o None h).1
          ≡ ((long_met rules o None h).0, next idle)
      go None bare_command passes = cc
      go (Some a) bare_command passes = rw bare_command refl

  pub flag-fault : (s : Shape) (h : Held) →
      word_fault s [] false idle (flag_word flag) h ≡ long_fault s.rules s.args_override_self (arg_by_long s.rules flag) None h
  flag-fault s h = rw (is.apart, is.long) refl

  pub flag-keeps : (rules : List Rule) (h : Held) → HasNoOtherFlag flag rules →
      (long_met rules (arg_by_long rules flag) None h).0.skip ≡ h.skip
  flag-keeps rules h only = go (arg_by_long rules flag) only.valueless
    where
      go : (o : Option Rule) → option_map_or takes_values o false ≡ false → (long_met rules o None h).0.skip ≡ h.skip
      go None bare_command = refl
      go (Some a) bare_command = rw bare_command refl

  -- ---- any other dashed word

  -- the flag with a value is refused, as is any other name
  long-refused : (rules : List Rule) (again : Bool) (text : Text) (h : Held) → HasNoOtherFlag flag rules →
      bytes_eq text flag ≡ false
      → is_refusal (long_fault rules again (arg_by_long rules (name_and_value text).0) (name_and_value text).1 h) ≡ true
  long-refused rules again text h only apart = by_name (bytes_eq flag (name_and_value text).0) refl
    where
      no_value : has_byte 61 text ≡ false → flag ≡ (name_and_value text).0 → ⊥
      no_value lacks same = true≢false (sym ((bytes_eq-Decides text flag).1 (sym (same ∙ all_name text lacks))) ∙ apart)

      valued : (o : Option Rule) → option_map_or takes_values o false ≡ false → (t : Bool) → has_byte 61 text ≡ t
          → flag ≡ (name_and_value text).0 → is_refusal (long_fault rules again o (name_and_value text).1 h) ≡ true
      valued None bare_command t e same = refl
      valued (Some a) bare_command true e same = rw (bare_command, e) refl
      valued (Some a) bare_command false e same = absurd (no_value e same)

      by_name : (t : Bool) → bytes_eq flag (name_and_value text).0 ≡ t
          → is_refusal (long_fault rules again (arg_by_long rules (name_and_value text).0) (name_and_value text).1 h)
          ≡ true
      by_name false e = let none = only.long (name_and_value text).0 e in rw none refl
      by_name true e =
          let same : flag ≡ (name_and_value text).0 = (bytes_eq-Decides flag (name_and_value text).0).0 e in
          subst (λ name. is_refusal (long_fault rules again (arg_by_long rules name) (name_and_value text).1 h) ≡ true)
          same
          (valued (arg_by_long rules flag) only.valueless (has_byte 61 text) refl same)

  -- the word is `-`, y and the rest
  long-or-short : (rules : List Rule) (again : Bool) (y : ℕ) (rest : Text) (h : Held) → h.skip ≡ 0 →
      HasNoOtherFlag flag rules → IsUtf8 (45 ∷ (y ∷ rest))
      → bytes_eq (45 ∷ (y ∷ rest)) dashes ≡ false → bytes_eq (45 ∷ (y ∷ rest)) (flag_word flag) ≡ false → (t : Bool) →
      (y == 45) ≡ t
      → is_refusal (flag_word_fault rules again (long_of (45 ∷ (y ∷ rest))) (45 ∷ (y ∷ rest)) h) ≡ true
  long-or-short rules again y [] h zero only utf8 apart other true second = absurd (true≢false (rw second at apart))
  long-or-short rules again y (z ∷ zs) h zero only utf8 apart other true second =
      rw second (long-refused rules again (z ∷ zs) h only (rw second at other))
  long-or-short rules again y rest h zero only utf8 apart other false second =
      let no_long : long_of (45 ∷ (y ∷ rest)) ≡ None = rw second refl in
      let flags : short_of (45 ∷ (y ∷ rest)) ≡ Some (y ∷ rest) = rw second refl in
      rw (no_long, flags, zero)
      (short-refused flag rules again y rest (length rest) (record h { skip = 0 }) only (first_char y rest utf8))

  flag-refused : (rules : List Rule) (again : Bool) (word : Text) (h : Held) → h.skip ≡ 0 → HasNoOtherFlag flag rules →
      IsUtf8 word
      → bytes_eq word dashes ≡ false → bytes_eq word (flag_word flag) ≡ false → is_dashed word ≡ true
      → is_refusal (flag_word_fault rules again (long_of word) word h) ≡ true
  flag-refused rules again [] h zero only utf8 apart other dashed = absurd (true≢false (sym dashed))
  flag-refused rules again (x ∷ []) h zero only utf8 apart other dashed = absurd (true≢false (sym dashed))
  flag-refused rules again (x ∷ (y ∷ rest)) h zero only utf8 apart other dashed =
      let first : x ≡ 45 = eqb-true x 45 dashed in
      let same : 45 ∷ (y ∷ rest) ≡ x ∷ (y ∷ rest) = ap (λ n. n ∷ (y ∷ rest)) (sym first) in
      subst (λ word. is_refusal (flag_word_fault rules again (long_of word) word h) ≡ true) same
      (long-or-short rules again y rest h zero only (subst IsUtf8 (sym same) utf8) (ap (λ word. bytes_eq word dashes) same ∙ apart)
      (ap (λ word. bytes_eq word (flag_word flag)) same ∙ other) (y == 45) refl)

  pub dashed-refused : (s : Shape) (word : Text) (h : Held) → h.skip ≡ 0 → HasNoOtherFlag flag s.rules → IsUtf8 word
      → bytes_eq word dashes ≡ false → bytes_eq word (flag_word flag) ≡ false → is_dashed word ≡ true →
      is_refusal (word_fault s [] false idle word h) ≡ true
  dashed-refused s word h zero only utf8 apart other dashed =
      rw apart (flag-refused s.rules s.args_override_self word h zero only utf8 apart other dashed)
