-- What the lines that tell of steps have in common: a byte that is one, and a least length.
use Rattle.std.proofs.Common.{◌≡◌, ℕ, ◌+◌, ◌*◌, ◌<◌, ◌≤◌, Bool, true, false, List, [], ◌∷◌, length, length-drop, take, drop}
use Rattle.std.proofs.Common.{Option, Some, None, Result, Ok, Err, refl, ap, subst, ◌∙◌, arith, cond}
use Rattle.std.specs.Prelude.{codes, bytes_eq, option_map, ◌==◌, ◌&&◌}
use Rattle.std.proofs.lemmas.Bool.Decides.{nat_tests}
use Rattle.std.proofs.lemmas.Option.{same_Some}
use Rattle.std.proofs.lemmas.Slice.Eq.{bytes_eq-Decides}
use Rattle.text_lines.specs.Lines.{begins, lines, with_first}
use Rattle.text_lines.specs.Steps.{◌>>=◌}
use Rattle.line_words.specs.Words.{words}
use Rattle.line_words.proofs.FirstFault.{same_value}
use Rattle.console_spec.specs.declared.Who.{Who}
use Rattle.bus_audit.specs.declared.read.TraceFault.{TraceFault}
use Rattle.bus_audit.specs.declared.step.TraceStep.{TraceStep}
use Rattle.bus_audit.specs.declared.step.TraceWhat.{TraceWhat}
use Rattle.bus_audit.specs.declared.step.TraceWhat.TheVariants.{Byte, Fault}
use Rattle.bus_audit.specs.declared.trace.ToldLine.{ToldLine}
use Rattle.bus_audit.specs.Answers.{Trace, steps_of}
use Rattle.bus_audit.specs.PlainSteps.{HasByte, HaveBytes}
use Rattle.bus_audit.specs.TraceText.{below_32, byte_of, code_of, digit_of, is_long, read_in, served, step_of}
use Rattle.bus_audit.specs.TraceText.{step_with, told_by, told_from, trace_of, two_digits, what_of, who_of}

-- ---- words

digit_below : (c d : ℕ) → digit_of c ≡ Some d → d < 16
digit_below c d is = grind (arith, nat_tests)

two_below : (high low : Option ℕ) (b : ℕ) → ((d : ℕ) → high ≡ Some d → d < 16) → ((d : ℕ) → low ≡ Some d → d < 16) →
    two_digits high low ≡ Some b → b < 256
two_below (Some high) (Some low) b first second is =
    let same = same_Some (16 * high + low) b is in
    let one = first high refl in
    let other = second low refl in
    omega (arith, same, one, other)
two_below (Some high) None b first second is = absurd cc
two_below None low b first second is = absurd cc

byte_below : (word : List ℕ) (b : ℕ) → byte_of word ≡ Some b → b < 256
unfolding byte_of
byte_below [] b is = absurd cc
byte_below (high ∷ []) b is = absurd cc
byte_below (high ∷ low ∷ []) b is = two_below (digit_of high) (digit_of low) b (digit_below high) (digit_below low) is
byte_below (high ∷ low ∷ c ∷ cs) b is = absurd cc

byte_size : (word : List ℕ) (b : ℕ) → byte_of word ≡ Some b → length word ≡ 2
unfolding byte_of
byte_size [] b is = absurd cc
byte_size (high ∷ []) b is = absurd cc
byte_size (high ∷ low ∷ []) b is = refl
byte_size (high ∷ low ∷ c ∷ cs) b is = absurd cc

code_size_by : (word : List ℕ) (n : ℕ) (said : Option ℕ) → byte_of word ≡ said → below_32 said ≡ Some n → length word ≡ 2
code_size_by word n (Some b) spelled is = byte_size word b spelled
code_size_by word n None spelled is = absurd cc

code_size : (word : List ℕ) (n : ℕ) → code_of word ≡ Some n → length word ≡ 2
unfolding code_of
code_size word n is = code_size_by word n (byte_of word) refl is

long_size : (word : List ℕ) (long : Bool) → is_long word ≡ Some long → length word ≡ 1
unfolding is_long
long_size [] long is = absurd cc
long_size (c ∷ []) long is = refl
long_size (c ∷ d ∷ ds) long is = grind (arith, nat_tests)

who_size : (word : List ℕ) (who : Who) → who_of word ≡ Some who → 1 ≤ length word
unfolding who_of
who_size [] who is = absurd cc
who_size (c ∷ cs) who is = omega arith

-- ---- a step

-- what the words say of a step that they spell
pub record Spelled (ws : List (List ℕ)) (s : TraceStep) : Type 0 where
  pub code : List ℕ
  pub long : List ℕ
  pub byte : List ℕ
  pub who : List ℕ
  pub parts : ws ≡ code ∷ long ∷ byte ∷ who ∷ []
  pub has_code : code_of code ≡ Some s.romc
  pub has_length : is_long long ≡ Some s.long
  pub has_what : what_of byte who ≡ Some s.what

spelled_by : (code long byte who : List ℕ) (romc : Option ℕ) (is_long_step : Option Bool) (what : Option TraceWhat) (s : TraceStep) →
    code_of code ≡ romc → is_long long ≡ is_long_step → what_of byte who ≡ what → step_with romc is_long_step what ≡ Some s →
    Spelled (code ∷ long ∷ byte ∷ who ∷ []) s
spelled_by code long byte who (Some romc) (Some length) (Some what) s first second third is =
    let same = same_Some (record { romc = romc; long = length; what = what }) s is in
    record {
      code = code;
      long = long;
      byte = byte;
      who = who;
      parts = refl;
      has_code = first ∙ ap (λ (t : TraceStep). Some t.romc) same;
      has_length = second ∙ ap (λ (t : TraceStep). Some t.long) same;
      has_what = third ∙ ap (λ (t : TraceStep). Some t.what) same;
    }
spelled_by code long byte who None length what s first second third is = absurd cc
spelled_by code long byte who (Some romc) None what s first second third is = absurd cc
spelled_by code long byte who (Some romc) (Some length) None s first second third is = absurd cc

pub spelled : (ws : List (List ℕ)) (s : TraceStep) → step_of ws ≡ Some s → Spelled ws s
unfolding step_of
spelled [] s is = absurd cc
spelled (code ∷ []) s is = absurd cc
spelled (code ∷ long ∷ []) s is = absurd cc
spelled (code ∷ long ∷ byte ∷ []) s is = absurd cc
spelled (code ∷ long ∷ byte ∷ who ∷ []) s is =
    spelled_by code long byte who (code_of code) (is_long long) (what_of byte who) s refl refl refl is
spelled (code ∷ long ∷ byte ∷ who ∷ w ∷ ws) s is = absurd cc

served_size : (word other : List ℕ) (byte : Option ℕ) (who : Option Who) (what : TraceWhat) → byte_of word ≡ byte → who_of other ≡ who →
    served byte who ≡ Some what → (length word ≡ 2) × (1 ≤ length other) × HasByte what
served_size word other (Some byte) (Some who) what first second is = (
  byte_size word byte first,
  who_size other who second,
  subst HasByte (same_Some (Byte byte who) what is) (byte_below word byte first),
)
served_size word other None who what first second is = absurd cc
served_size word other (Some byte) None what first second is = absurd cc

what_by : (word other : List ℕ) (fault : Bool) (what : TraceWhat) → (fault ≡ true → (length word ≡ 2) × (1 ≤ length other)) →
    cond fault (Some Fault) (served (byte_of word) (who_of other)) ≡ Some what →
    (length word ≡ 2) × (1 ≤ length other) × HasByte what
what_by word other true what sizes is =
    ((sizes refl).0, (sizes refl).1, subst HasByte (same_Some Fault what is) tt)
what_by word other false what sizes is = served_size word other (byte_of word) (who_of other) what refl refl is

dashes_size : (word other : List ℕ) → bytes_eq word (codes "--") && bytes_eq other (codes "fault") ≡ true →
    (length word ≡ 2) × (1 ≤ length other)
dashes_size word other is =
    let one : bytes_eq word (codes "--") ≡ true = grind arith in
    let two : bytes_eq other (codes "fault") ≡ true = grind arith in (
      ap length ((bytes_eq-Decides word (codes "--")).0 one),
      omega (arith, ap length ((bytes_eq-Decides other (codes "fault")).0 two)),
    )

what_size : (word other : List ℕ) (what : TraceWhat) → what_of word other ≡ Some what →
    (length word ≡ 2) × (1 ≤ length other) × HasByte what
unfolding what_of
what_size word other what is =
    what_by word other (bytes_eq word (codes "--") && bytes_eq other (codes "fault")) what (dashes_size word other) is

-- the bytes of lines or words, with one more for each
size_of : List (List ℕ) → ℕ
size_of [] = 0
size_of (l ∷ ls) = length l + 1 + size_of ls

step_size : (ws : List (List ℕ)) (s : TraceStep) → step_of ws ≡ Some s → (10 ≤ size_of ws) × HasByte s.what
unfolding size_of
step_size ws s is =
    let words_of = spelled ws s is in
    let what = what_size words_of.byte words_of.who s.what words_of.has_what in
    let code = code_size words_of.code s.romc words_of.has_code in
    let long = long_size words_of.long s.long words_of.has_length in
    let size = ap size_of words_of.parts in
    (omega (arith, size, code, long, what.0, what.1), what.2)

-- ---- lines

with_size : (b : ℕ) (ls : List (List ℕ)) (n : ℕ) → size_of ls ≤ n + 1 → size_of (with_first b ls) ≤ n + 1 + 1
unfolding size_of
with_size b [] n most = omega arith
with_size b (l ∷ ls) n most = omega arith

words_by : (blank : Bool) (b : ℕ) (ws : List (List ℕ)) (n : ℕ) → size_of ws ≤ n + 1 →
    size_of (cond blank ([] ∷ ws) (with_first b ws)) ≤ n + 1 + 1
unfolding size_of
words_by true b ws n most = omega arith
words_by false b ws n most = with_size b ws n most

words_size : (text : List ℕ) → size_of (words text) ≤ length text + 1
unfolding size_of
words_size [] = omega arith
words_size (b ∷ bs) = let more = words_by (b == 32) b (words bs) (length bs) (words_size bs) in omega (arith, more)

lines_by : (feed dropped : Bool) (b : ℕ) (ls : List (List ℕ)) (n : ℕ) → size_of ls ≤ n + 1 →
    size_of (cond feed ([] ∷ ls) (cond dropped ls (with_first b ls))) ≤ n + 1 + 1
unfolding size_of
lines_by true dropped b ls n most = omega arith
lines_by false true b ls n most = omega arith
lines_by false false b ls n most = with_size b ls n most

lines_size : (text : List ℕ) → size_of (lines text) ≤ length text + 1
unfolding size_of
lines_size [] = omega arith
lines_size (b ∷ bs) =
    let more = lines_by (b == 10) ((b == 13) && begins 10 bs) b (lines bs) (length bs) (lines_size bs) in omega (arith, more)

pub read_by : (bus : Bool) (text : List ℕ) (s : TraceStep) →
    option_map (λ text. step_of (words text)) (cond bus (Some text) None) ≡ Some (Some s) → step_of (words text) ≡ Some s
read_by true text s is = same_Some (step_of (words text)) (Some s) is
read_by false text s is = absurd cc

line_size : (l : List ℕ) (s : TraceStep) → read_in l ≡ Some (Some s) → (13 ≤ length l) × HasByte s.what
line_size l s is =
    let step = step_size (words (drop 4 l)) s (read_by (bytes_eq (take 4 l) (codes "bus ")) (drop 4 l) s is) in
    let size = words_size (drop 4 l) in
    (omega (arith, step.0, size, length-drop 4 l), step.1)

-- ---- all lines

-- so many lines tell of steps, and their bytes are bytes
abbrev Sized : ℕ → List ToldLine → Type 0
Sized most told = (14 * length told ≤ most) × HaveBytes (steps_of told)

told_size_by : (number : ℕ) (l : List ℕ) (most : ℕ) (said : Option (Option TraceStep)) (later : Result (List ToldLine) TraceFault)
    (told : List ToldLine) → read_in l ≡ said → ((told : List ToldLine) → later ≡ Ok told → Sized most told) →
    told_by number said later ≡ Ok told → Sized (length l + 1 + most) told
told_size_by number l most None later told line sized is =
    let rest = sized told is in (omega (arith, rest.0), rest.1)
told_size_by number l most (Some None) later told line sized is = absurd cc
told_size_by number l most (Some (Some step)) (Err fault) told line sized is = absurd cc
told_size_by number l most (Some (Some step)) (Ok others) told line sized is =
    let rest = sized others refl in
    let here = line_size l step line in
    subst (Sized (length l + 1 + most)) (same_value (record { line = number; step = step } ∷ others) told is)
    (omega (arith, rest.0, here.0), (here.1, rest.1))

told_size : (number : ℕ) (ls : List (List ℕ)) (told : List ToldLine) → told_from number ls ≡ Ok told → Sized (size_of ls) told
unfolding size_of
told_size number [] told is = subst (Sized 0) (same_value [] told is) (omega arith, tt)
told_size number (l ∷ ls) told is =
    told_size_by number l (size_of ls) (read_in l) (told_from (number + 1) ls) told refl (told_size (number + 1) ls) is

trace_by : (said : Result (List ToldLine) TraceFault) (after most : ℕ) (trace : Trace) →
    ((told : List ToldLine) → said ≡ Ok told → Sized most told) →
    (said >>= (λ told. Ok (record { told = told; after = after }))) ≡ Ok trace → Sized most trace.told
trace_by (Ok told) after most trace sized is =
    subst (λ (t : Trace). Sized most t.told) (same_value (record { told = told; after = after }) trace is) (sized told refl)
trace_by (Err fault) after most trace sized is = absurd cc

-- each line that tells of a step has 14 bytes with its LF, which the last may lack
pub trace_size : (text : List ℕ) (trace : Trace) → trace_of text ≡ Ok trace →
    (14 * length trace.told ≤ length text + 1) × HaveBytes (steps_of trace.told)
unfolding trace_of
trace_size text trace is =
    let size = lines_size text in
    let sized =
    trace_by (told_from 1 (lines text)) (length (lines text) + 1) (size_of (lines text)) trace (told_size 1 (lines text)) is in
    (omega (arith, size, sized.0), sized.1)
