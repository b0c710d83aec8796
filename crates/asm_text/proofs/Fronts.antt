-- What stands at the front of a rest, against the rules of the grammar: each rule is found, and what is found
-- is by a rule.
use Rattle.std.proofs.Common.{◌≡◌, ℕ, suc, ◌+◌, ◌^◌, ◌<◌, ◌≤◌, Bool, true, false, cond, ◌&&◌, List, [], ◌∷◌, ◌++◌}
use Rattle.std.proofs.Common.{length, take, drop, Some, None, refl, sym, ◌∙◌, ap, subst, arith, zero-add, lit<}
use Rattle.std.proofs.Common.{take-append-drop}
use Rattle.text_lines.specs.Printable.{is_printable}
use Rattle.std.specs.Prelude.{◌==◌, nat_lt, nat_le}
use Rattle.std.proofs.lemmas.List.Folds.{length-prefix_len}
use Rattle.std.proofs.lemmas.List.Sums.{prefix_len-le-length}
use Rattle.std.proofs.lemmas.Bool.{eqb-true}
use Rattle.std.specs.List.{prefix_len}
use Rattle.std.specs.Char.{is_digit}
use Rattle.std.proofs.lemmas.Bool.Decides.{nat_tests}
use Rattle.std.proofs.lemmas.Grind.{common_steps}
use Rattle.asm_text.specs.Bytes.{is_blank, is_letter, is_name_byte, is_name, is_mark, value, narrow, stops}
use Rattle.asm_text.specs.Lexemes.{name_of, name_lexeme, digits_lexeme, sized_number, number_lexeme, quoted_lexeme, lexeme}
use Rattle.asm_text.specs.Grammar.{AreDigits, Spells, spells_name, spells_decimal, spells_hexadecimal, spells_binary}
use Rattle.asm_text.specs.Grammar.{spells_quoted, spells_mark, BeginsWide, wide_decimal, wide_hexadecimal, wide_binary}
use Rattle.asm_text.specs.Grammar.{BeginsNothing}
use Rattle.asm_text.specs.declared.front.Lexeme.{Lexeme}
use Rattle.asm_text.specs.declared.front.Lexeme.TheVariants.{Blank, End, Bad, Wide, Lexed}
use Rattle.asm_text.specs.declared.answers.TokenKind.{TokenKind}
use Rattle.asm_text.specs.declared.answers.TokenKind.TheVariants as kind
use Rattle.asm_text.proofs.Spelled.{number_read, wide_read, name_read}
use Rattle.asm_text.proofs.Runs.{all_in_run, name_run}

-- the two ways to count one more
next : (n : ℕ) → 1 + n ≡ suc n
next n = omega arith

-- a letter begins a name
letter_front : (b : ℕ) (bs : List ℕ) → is_letter b ≡ true → lexeme (b ∷ bs) ≡ name_lexeme (b ∷ bs)
unfolding lexeme
letter_front b bs letter = grind (arith, nat_tests)

-- a digit begins a decimal number
digit_front : (b : ℕ) (bs : List ℕ) → is_digit b 10 ≡ true → lexeme (b ∷ bs) ≡ number_lexeme 10 0 (b ∷ bs)
unfolding lexeme
digit_front b bs digit = grind (arith, nat_tests)

-- a mark stands alone
mark_front : (b : ℕ) (bs : List ℕ) → is_mark b ≡ true → lexeme (b ∷ bs) ≡ Lexed (kind.Mark b) 1
unfolding lexeme
mark_front b bs mark = grind (arith, nat_tests)

-- digits begin a decimal number
decimal_front : (digits rest : List ℕ) → AreDigits 10 digits rest → lexeme (digits ++ rest) ≡ number_lexeme 10 0 (digits ++ rest)
decimal_front [] rest are = absurd (omega (arith, are.some))
decimal_front (d ∷ ds) rest are = digit_front d (ds ++ rest) (grind (arith, common_steps, are.each))

-- a name is found
name_found : (name rest : List ℕ) → is_name name ≡ true → stops is_name_byte rest ≡ true → lexeme (name ++ rest) ≡ Lexed (kind.Name name) (length name)
name_found [] rest named stop = grind (arith, common_steps)
name_found (b ∷ bs) rest named stop =
    let letter : is_letter b ≡ true = grind (arith, common_steps, nat_tests) in
    letter_front b (bs ++ rest) letter ∙ name_read (b ∷ bs) rest named stop

-- a quoted character is found
quoted_found : (c : ℕ) (rest : List ℕ) → is_printable c ≡ true → lexeme (39 ∷ c ∷ 39 ∷ rest) ≡ Lexed (kind.Number c) 3
unfolding lexeme quoted_lexeme
quoted_found c rest printable = grind (arith, nat_tests)

-- each token is found where it stands
pub token_found : {k : TokenKind} {text rest : List ℕ} → Spells k text rest → lexeme (text ++ rest) ≡ Lexed k (length text)
unfolding lexeme
token_found {k} {text} {rest} (spells_name named stop) = name_found text rest named stop
token_found {k} {text} {rest} (spells_decimal are fits) =
    decimal_front text rest are ∙ number_read 10 0 (value 10 text) text rest are.some are.each refl fits are.longest ∙ ap (Lexed k) (zero-add (length text))
token_found (spells_hexadecimal {digits} {rest} are fits) =
    number_read 16 1 (value 16 digits) digits rest are.some are.each refl fits are.longest
    ∙ ap (Lexed (kind.Number (value 16 digits))) (next (length digits))
token_found (spells_binary {digits} {rest} are fits) =
    number_read 2 1 (value 2 digits) digits rest are.some are.each refl fits are.longest
    ∙ ap (Lexed (kind.Number (value 2 digits))) (next (length digits))
token_found (spells_quoted {c} {rest} printable) = quoted_found c rest printable
token_found (spells_mark {mark} {rest} is) = mark_front mark rest is

-- each number too wide is found where it stands
pub wide_found : {bytes : List ℕ} → BeginsWide bytes → lexeme bytes ≡ Wide
unfolding lexeme
wide_found (wide_decimal {digits} {rest} are wide) = decimal_front digits rest are ∙ wide_read 10 0 digits rest are.some are.each wide are.longest
wide_found (wide_hexadecimal {digits} {rest} are wide) = wide_read 16 1 digits rest are.some are.each wide are.longest
wide_found (wide_binary {digits} {rest} are wide) = wide_read 2 1 digits rest are.some are.each wide are.longest

-- a blank is found
pub blank_found : (b : ℕ) (bs : List ℕ) → is_blank b ≡ true → lexeme (b ∷ bs) ≡ Blank
unfolding lexeme
blank_found b bs blank = rw blank refl

-- a comment is found
pub comment_found : (b : ℕ) (bs : List ℕ) → b ≡ 59 → lexeme (b ∷ bs) ≡ End
unfolding lexeme
comment_found b bs comment = rw comment refl

-- where nothing is found, nothing stands
pub nothing : (b : ℕ) (bs : List ℕ) → Bad ≡ lexeme (b ∷ bs) → BeginsNothing b bs
nothing b bs bad = record {
  no_token = λ k text rest spells is. let found = token_found spells in let same = ap lexeme is in cc;
  no_wide = λ bytes wide is. let found = wide_found wide in let same = ap lexeme is in cc;
  no_blank = λ blank. let found = blank_found b bs blank in cc;
  no_comment = λ comment. let found = comment_found b bs comment in cc;
}

-- a fact of either choice is one of what is chosen
choose : {A : Type 0} (P : A → Type 0) (c : Bool) (p q : A) → (c ≡ true → P p) → (c ≡ false → P q) → P (cond c p q)
choose P true p q first second = first refl
choose P false p q first second = second refl

-- what is found at a first byte and those behind it stands there
abbrev pub StandsAt : ℕ → List ℕ → Lexeme → Type 0
StandsAt b bs Blank = is_blank b ≡ true
StandsAt b bs End = b ≡ 59
StandsAt b bs Bad = Unit {0}
StandsAt b bs Wide = BeginsWide (b ∷ bs)
StandsAt b bs (Lexed k len) = Spells k (take len (b ∷ bs)) (drop len (b ∷ bs)) × (0 < len) × (len ≤ length (b ∷ bs))

-- a longest run ends where what follows isn't of its class
run_ends : (p : ℕ → Bool) (xs : List ℕ) → stops p (drop (prefix_len p xs) xs) ≡ true
run_ends p [] = refl
run_ends p (x ∷ xs) =
    choose (λ n. stops p (drop n (x ∷ xs)) ≡ true) (p x) (1 + prefix_len p xs) 0
    (λ passes. rw (next (prefix_len p xs)) (run_ends p xs))
    (λ fails. rw fails refl)

-- the digits at the front
digits_at : (base : ℕ) (bytes : List ℕ) → let n = prefix_len (λ b. is_digit b base) bytes in 0 < n → AreDigits base (take n bytes) (drop n bytes)
digits_at base bytes some = record {
  some = omega (arith, length-prefix_len (λ b. is_digit b base) bytes);
  each = all_in_run (λ b. is_digit b base) bytes;
  longest = run_ends (λ b. is_digit b base) bytes;
}

-- what is found where a number should stand
number_front : (P : Lexeme → Type 0) (base before : ℕ) (bytes : List ℕ) →
    let n = prefix_len (λ b. is_digit b base) bytes in P Bad → (0 < n → 2 ^ 32 ≤ value base (take n bytes) → P Wide) →
    (0 < n → value base (take n bytes) < 2 ^ 32 → P (Lexed (kind.Number (value base (take n bytes))) (before + n))) →
    P (number_lexeme base before bytes)
unfolding number_lexeme digits_lexeme narrow
number_front P base before bytes bad wide fits =
    let n = prefix_len (λ b. is_digit b base) bytes in
    let v = value base (take n bytes) in
    choose P (n == 0) Bad (sized_number (narrow v) (before + n)) (λ _. bad)
    (λ some. choose (λ o. P (sized_number o (before + n))) (nat_lt v (2 ^ 32)) (Some v) None
    (λ below. fits (grind (arith, nat_tests)) (grind (arith, nat_tests)))
    (λ above. wide (grind (arith, nat_tests)) (grind (arith, nat_tests))))

-- what is found where a name should stand
name_front : (b : ℕ) (bs : List ℕ) → is_letter b ≡ true → StandsAt b bs (name_lexeme (b ∷ bs))
unfolding name_lexeme name_of
name_front b bs letter =
    let n = prefix_len is_name_byte (b ∷ bs) in
    let some : 0 < n = grind (arith, common_steps, nat_tests) in
    choose (StandsAt b bs) (nat_le n 32) (Lexed (kind.Name (take n (b ∷ bs))) n) Bad
    (λ short. (
      spells_name (name_run (b ∷ bs) letter (grind (arith, nat_tests))) (run_ends is_name_byte (b ∷ bs)),
      some,
      prefix_len-le-length is_name_byte (b ∷ bs),
    ))
    (λ long. tt)

-- what is found where a quoted character should stand
quoted_front : (bs : List ℕ) → StandsAt 39 bs (quoted_lexeme bs)
unfolding quoted_lexeme
quoted_front [] = tt
quoted_front (c ∷ []) = tt
quoted_front (c ∷ quote ∷ rest) =
    choose (StandsAt 39 (c ∷ quote ∷ rest)) (is_printable c && (quote == 39)) (Lexed (kind.Number c) 3) Bad
    (λ both.
    let printable : is_printable c ≡ true = grind (arith, nat_tests) in
    let closed : quote ≡ 39 = grind (arith, nat_tests) in
    (rw closed (spells_quoted printable), lit< tt, omega arith))
    (λ other. tt)

-- what is found behind `$`
hexadecimal_front : (bs : List ℕ) → StandsAt 36 bs (number_lexeme 16 1 bs)
hexadecimal_front bs =
    let n = prefix_len (λ b. is_digit b 16) bs in
    number_front (StandsAt 36 bs) 16 1 bs tt
    (λ some wide. subst (λ s. BeginsWide (36 ∷ s)) (take-append-drop n bs) (wide_hexadecimal (digits_at 16 bs some) wide))
    (λ some fits. rw (next n) (spells_hexadecimal (digits_at 16 bs some) fits, omega arith, omega (arith, prefix_len-le-length (λ b. is_digit b 16) bs)))

-- what is found behind `%`
binary_front : (bs : List ℕ) → StandsAt 37 bs (number_lexeme 2 1 bs)
binary_front bs =
    let n = prefix_len (λ b. is_digit b 2) bs in
    number_front (StandsAt 37 bs) 2 1 bs tt
    (λ some wide. subst (λ s. BeginsWide (37 ∷ s)) (take-append-drop n bs) (wide_binary (digits_at 2 bs some) wide))
    (λ some fits. rw (next n) (spells_binary (digits_at 2 bs some) fits, omega arith, omega (arith, prefix_len-le-length (λ b. is_digit b 2) bs)))

-- what is found at a digit
decimal_stands : (b : ℕ) (bs : List ℕ) → StandsAt b bs (number_lexeme 10 0 (b ∷ bs))
decimal_stands b bs =
    let n = prefix_len (λ b. is_digit b 10) (b ∷ bs) in
    number_front (StandsAt b bs) 10 0 (b ∷ bs) tt
    (λ some wide. subst BeginsWide (take-append-drop n (b ∷ bs)) (wide_decimal (digits_at 10 (b ∷ bs) some) wide))
    (λ some fits. rw (zero-add n) (spells_decimal (digits_at 10 (b ∷ bs) some) fits, some, prefix_len-le-length (λ b. is_digit b 10) (b ∷ bs)))

-- what is found stands there
pub front_stands : (b : ℕ) (bs : List ℕ) → StandsAt b bs (lexeme (b ∷ bs))
unfolding lexeme
front_stands b bs =
    let P = StandsAt b bs in
    choose P (is_blank b) Blank _ (λ blank. blank) (λ _.
    choose P (b == 59) End _ (λ comment. eqb-true b 59 comment) (λ _.
    choose P (b == 36) (number_lexeme 16 1 bs) _
    (λ dollar. subst (λ c. StandsAt c bs (number_lexeme 16 1 bs)) (sym (eqb-true b 36 dollar))
    (hexadecimal_front bs)) (λ _.
    choose P (b == 37) (number_lexeme 2 1 bs) _
    (λ percent. subst (λ c. StandsAt c bs (number_lexeme 2 1 bs)) (sym (eqb-true b 37 percent)) (binary_front bs))
    (λ _.
    choose P (b == 39) (quoted_lexeme bs) _ (λ quote. subst (λ c. StandsAt c bs (quoted_lexeme bs)) (sym (eqb-true b 39 quote)) (quoted_front bs)) (λ _.
    choose P (is_digit b 10) (number_lexeme 10 0 (b ∷ bs)) _ (λ _. decimal_stands b bs) (λ _.
    choose P (is_letter b) (name_lexeme (b ∷ bs)) _ (λ letter. name_front b bs letter) (λ _.
    choose P (is_mark b) (Lexed (kind.Mark b) 1) Bad (λ mark. (spells_mark mark, lit< tt, omega arith)) (λ _. tt))))))))
