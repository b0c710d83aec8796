-- What std's parser takes is a seed.
use Rattle.std.proofs.Common.{◌≡◌, ◌≢◌, ◌∙◌, ◌≤◌, ◌<◌, ◌^◌, ℕ, Bool, true, false, nat_le, List, [], ◌∷◌, length, get_or}
use Rattle.std.proofs.Common.{Some, None, Result, Ok, Err, arith, refl, ap}
use Rattle.std.specs.Char.{encode_utf8}
use Rattle.std.specs.Result.{OkIff, result_ok}
use Rattle.std.specs.Str.{all_ascii_digits}
use Rattle.std.specs.Str.Parse.{digits_value}
use Rattle.std.proofs.lemmas.Bool.{le-leb, leb-true}
use Rattle.std.proofs.lemmas.Str.Parse.{numerals_by_value, parse_plain, tells_all_ascii_digits}
use Rattle.clap.proofs.WalkLemmas.{both}
use Rattle.command_line.specs.CommandLine.{is_seed, seed_of}
use Rattle.command_line.proofs.seed.seed_of.Goals as goal

no_plus : (text : List ℕ) → ((rest : List ℕ) → text ≡ 43 ∷ rest → ⊥) → get_or text 0 0 ≢ 43
no_plus [] never e = omega arith
no_plus (x ∷ rest) never e = never rest (ap (λ byte. byte ∷ rest) e)

-- digits of a number that fits, and of them ten at most
seed_is : {E : Type 0} (text : List ℕ) (r : Result ℕ E) → length text ≤ 10
    → OkIff r ((all_ascii_digits text ≡ true) × (0 < length text) × (digits_value 10 text < 2 ^ 32))
    (digits_value 10 text) →
    result_ok r ≡ seed_of text
seed_is text (Ok n) short h =
    let some : nat_le 1 (length text) ≡ true = le-leb 1 (length text) (omega arith) in
    let few : nat_le (length text) 10 ≡ true = le-leb (length text) 10 short in
    let digits : all_ascii_digits text ≡ true = h.0.0 in
    let fits : nat_le (digits_value 10 text) 4294967295 ≡ true =
    le-leb (digits_value 10 text) 4294967295 (omega arith) in
    rw (some, few, digits, fits) (ap Some h.1)
seed_is text (Err e) short h = go (is_seed text) refl
  where
    go : (t : Bool) → is_seed text ≡ t → None ≡ seed_of text
    go false is = rw is refl
    go true is =
        let some = both (nat_le 1 (length text)) _ is in
        let few = both (nat_le (length text) 10) _ some.1 in
        let digits = both (all_ascii_digits text) _ few.1 in
        absurd
        (h (digits.0, leb-true 1 (length text) some.0, omega (arith, leb-true (digits_value 10 text) 4294967295 digits.1)))

pub returns : goal.returns
unfolding encode_utf8
returns c = c.ok.ensures.value ∙ seed_is c.args.text.now c.parse.result c.if-text-gt-MOST_DIGITS.false
    (parse_plain (numerals_by_value _ tells_all_ascii_digits) 32 c.args.text.now c.parse.result c.parse.ensures.value.0
    (no_plus c.args.text.now c.if-starts_with.ensures.cases))
