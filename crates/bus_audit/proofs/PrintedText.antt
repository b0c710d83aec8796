-- The lines of a text that is printed, one after another.
use Rattle.std.proofs.Common.{◌≡◌, ℕ, zero, suc, ◌+◌, ◌/◌, ◌%◌, ◌≤◌, Bool, true, false, List, [], ◌∷◌, ◌++◌}
use Rattle.std.proofs.Common.{Some, None, Result, Ok, Err, refl, sym, ap, ◌∙◌, arith, append_assoc, cond}
use Rattle.std.specs.Prelude.{codes, decimal, ◌==◌, ◌&&◌, not, flat_map, map}
use Rattle.std.specs.Fmt.{digits, digits_onto, digit_glyph}
use Rattle.std.specs.List.{list_all}
use Rattle.std.proofs.lemmas.Bool.Decides.{nat_tests}
use Rattle.std.proofs.lemmas.Grind.{flat_map-append}
use Rattle.std.proofs.lemmas.List.{append-nil, map-append}
use Rattle.std.proofs.lemmas.List.Folds.{list_all-append}
use Rattle.f8_spec.specs.Spelling.{hex2, hex4, octal2}
use Rattle.text_lines.specs.Lines.{lines}
use Rattle.text_lines.specs.Steps.{◌>>=◌}
use Rattle.console_spec.specs.RunText.{text_of}
use Rattle.bus_audit.specs.declared.read.TraceFault.{TraceFault}
use Rattle.bus_audit.specs.declared.step.TraceStep.{TraceStep}
use Rattle.bus_audit.specs.declared.trace.ToldLine.{ToldLine}
use Rattle.bus_audit.specs.Answers.{steps_of}
use Rattle.bus_audit.specs.TraceText.{read_in, told_by, told_from}

-- ---- texts that end no line

abbrev pub is_inside : ℕ → Bool
is_inside b = not (b == 10) && not (b == 13)

pub record Plain (text : List ℕ) : Type 0 where
  pub is : list_all is_inside text ≡ true

pub joined : {xs ys : List ℕ} → Plain xs → Plain ys → Plain (xs ++ ys)
joined {xs} {ys} first second = record { is = rw (list_all-append is_inside xs ys, first.is, second.is) refl }

pub nothing : Plain []
nothing = record { is = refl }

pub known : (text : List ℕ) → list_all is_inside text ≡ true → Plain text
known text is = record { is = is }

pub one_byte : (b : ℕ) {rest : List ℕ} → is_inside b ≡ true → Plain rest → Plain (b ∷ rest)
one_byte b inside rest = record { is = rw (inside, rest.is) refl }

above : (b : ℕ) → 14 ≤ b → is_inside b ≡ true
above b high = grind (arith, nat_tests)

pub glyph : (upper : Bool) (d : ℕ) → is_inside (digit_glyph upper d) ≡ true
glyph true d = grind (arith, nat_tests)
glyph false d = grind (arith, nat_tests)

pub hex2_plain : (n : ℕ) → Plain (hex2 n)
hex2_plain n = one_byte _ (glyph true (n / 16)) (one_byte _ (glyph true (n % 16)) nothing)

pub hex4_plain : (n : ℕ) → Plain (hex4 n)
hex4_plain n = joined (hex2_plain (n / 256)) (hex2_plain (n % 256))

pub from_48 : (n : ℕ) → is_inside (48 + n) ≡ true
from_48 n = above (48 + n) (omega arith)

pub octal2_plain : (n : ℕ) → Plain (octal2 n)
octal2_plain n = one_byte _ (from_48 (n / 8)) (one_byte _ (from_48 (n % 8)) nothing)

digits_by : (last : Bool) (one more : List ℕ) → Plain one → Plain more → Plain (cond last one more)
digits_by true one more first second = first
digits_by false one more first second = second

digits_plain : (k : ℕ) (n : ℕ) (rest : List ℕ) → Plain rest → Plain (digits_onto k 10 false n rest)
digits_plain zero n rest plain = plain
digits_plain (suc k) n rest plain =
    let here = one_byte (digit_glyph false (n % 10)) {rest = rest} (glyph false (n % 10)) plain in
    digits_by (n / 10 == 0) _ _ here (digits_plain k (n / 10) _ here)

pub decimal_plain : (n : ℕ) → Plain (decimal n)
unfolding digits
decimal_plain n = digits_plain 64 n [] nothing

pub all_plain : {X : Type 0} (text : X → List ℕ) → ((x : X) → Plain (text x)) → (xs : List X) → Plain (flat_map text xs)
all_plain text each [] = nothing
all_plain text each (x ∷ xs) = joined (each x) (all_plain text each xs)

pub map_plain : {X : Type 0} (byte : X → ℕ) → ((x : X) → is_inside (byte x) ≡ true) → (xs : List X) → Plain (map byte xs)
map_plain byte each [] = nothing
map_plain byte each (x ∷ xs) = one_byte (byte x) (each x) (map_plain byte each xs)

-- ---- the first line of a text

first_line_is : (l rest : List ℕ) → list_all is_inside l ≡ true → lines (l ++ 10 ∷ rest) ≡ l ∷ lines rest
first_line_is [] rest plain = refl
first_line_is (b ∷ bs) rest plain =
    let others : list_all is_inside bs ≡ true = grind (arith, nat_tests) in
    let behind = first_line_is bs rest others in
    grind (arith, nat_tests, behind)

-- ---- what lines tell

-- a text in front of others puts lines that tell of these steps in front of theirs
pub record Added (steps : List TraceStep) (number : ℕ) (text rest : List ℕ) : Type 0 where
  pub next : ℕ
  pub told : List ToldLine
  pub steps_are : steps_of told ≡ steps
  pub adds : told_from number (lines (text ++ rest)) ≡ (told_from next (lines rest) >>= (λ later. Ok (told ++ later)))

pub record Tells (ls : List (List ℕ)) (steps : List TraceStep) : Type 0 where
  pub added : (number : ℕ) (rest : List ℕ) → Added steps number (text_of ls) rest

same_result : (r : Result (List ToldLine) TraceFault) → r ≡ (r >>= (λ later. Ok later))
same_result (Ok told) = refl
same_result (Err fault) = refl

pub no_lines : Tells [] []
unfolding text_of
no_lines = record {
  added = λ number rest. record {
    next = number;
    told = [];
    steps_are = refl;
    adds = same_result (told_from number (lines rest));
  };
}

both_added : (first second : List ToldLine) (r s t : Result (List ToldLine) TraceFault) →
    r ≡ (s >>= (λ later. Ok (first ++ later))) → s ≡ (t >>= (λ later. Ok (second ++ later))) →
    r ≡ (t >>= (λ later. Ok ((first ++ second) ++ later)))
both_added first second r s (Ok told) one two =
    one ∙ ap (λ u. u >>= (λ later. Ok (first ++ later))) two ∙ ap Ok (sym (append_assoc first second told))
both_added first second r s (Err fault) one two = one ∙ ap (λ u. u >>= (λ later. Ok (first ++ later))) two

pub lines_joined : {ls ms : List (List ℕ)} {steps more : List TraceStep} → Tells ls steps → Tells ms more → Tells (ls ++ ms) (steps ++ more)
unfolding text_of
lines_joined {ls} {ms} {steps} {more} first second = record {
  added = λ number rest.
      let one = first.added number (text_of ms ++ rest) in
      let two = second.added one.next rest in
      let parts : text_of (ls ++ ms) ++ rest ≡ text_of ls ++ (text_of ms ++ rest) =
      ap (λ t. t ++ rest) (flat_map-append (λ (l : List ℕ). l) ls ms) ∙ append_assoc (text_of ls) (text_of ms) rest in
      record {
        next = two.next;
        told = one.told ++ two.told;
        steps_are =
            map-append (λ (l : ToldLine). l.step) one.told two.told
            ∙ ap (λ ss. ss ++ steps_of two.told) one.steps_are
            ∙ ap (λ ss. steps ++ ss) two.steps_are;
        adds = both_added one.told two.told _ _ _ (ap (λ t. told_from number (lines t)) parts ∙ one.adds) two.adds;
      };
}

line_in_front : (whole front rest : List ℕ) → whole ≡ front ++ codes "\n" → list_all is_inside front ≡ true →
    lines (text_of (whole ∷ []) ++ rest) ≡ front ∷ lines rest
unfolding text_of
line_in_front whole front rest parts plain =
    ap (λ t. lines (t ++ rest)) (append-nil whole ∙ parts)
    ∙ ap lines (append_assoc front (codes "\n") rest)
    ∙ first_line_is front rest plain

-- a line that tells of a step
pub step_line : (whole front : List ℕ) (s : TraceStep) → whole ≡ front ++ codes "\n" → Plain front → read_in front ≡ Some (Some s) →
    Tells (whole ∷ []) (s ∷ [])
step_line whole front s parts plain reads = record {
  added = λ number rest. record {
    next = number + 1;
    told = record { line = number; step = s } ∷ [];
    steps_are = refl;
    adds =
        ap (told_from number) (line_in_front whole front rest parts plain.is)
        ∙ ap (λ said. told_by number said (told_from (number + 1) (lines rest))) reads;
  };
}

-- another line
pub none_line : (whole front : List ℕ) → whole ≡ front ++ codes "\n" → Plain front → read_in front ≡ None → Tells (whole ∷ []) []
none_line whole front parts plain reads = record {
  added = λ number rest. record {
    next = number + 1;
    told = [];
    steps_are = refl;
    adds =
        ap (told_from number) (line_in_front whole front rest parts plain.is)
        ∙ ap (λ said. told_by number said (told_from (number + 1) (lines rest))) reads
        ∙ same_result (told_from (number + 1) (lines rest));
  };
}

pub map_lines : {X : Type 0} (line : X → List ℕ) → ((x : X) → Tells (line x ∷ []) []) → (xs : List X) → Tells (map line xs) []
map_lines line each [] = no_lines
map_lines line each (x ∷ xs) = lines_joined (each x) (map_lines line each xs)
