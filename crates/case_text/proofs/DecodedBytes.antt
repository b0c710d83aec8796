-- Bytes that a word spells, where there is room for some only.
use Rattle.std.proofs.Common.{◌≡◌, ℕ, ◌/◌, ◌<◌, ◌≤◌, List, length, Result, Ok, Err, None, refl, sym, ◌∙◌, arith, inl, inr}
use Rattle.std.specs.Prelude.{IfSome, IsErr, MatchResult}
use Rattle.std.proofs.lemmas.Bool.{cases_lt}
use Rattle.std.specs.Result.{result_ok}
use Rattle.hex.specs.Hex.{decode_sized}
use Rattle.hex.specs.declared.error.FromHexError.{FromHexError}
use Rattle.hex.proofs.HexLemmas.{decode_sized-ok, decode_sized-twice, decode_of-ok}
use Rattle.case_text.specs.EntryWords.{bytes_of}

-- two digits a byte
length_read : (word bytes : List ℕ) (n : ℕ) → decode_sized word n ≡ Ok bytes → n ≡ length bytes
length_read word bytes n read =
    let size = decode_sized-ok word n bytes read in
    let digits = (decode_of-ok word bytes (sym (decode_sized-twice word n size) ∙ read)).2 in
    omega (arith, size, digits)

-- nothing is decoded where the call gives nothing
pub none_decoded : (decoded : Result (List ℕ) FromHexError) (answer : Result (Unit {0}) FromHexError) (out : List ℕ) →
    MatchResult decoded (λ bytes. (answer ≡ Ok tt) × (out ≡ bytes)) (λ e. answer ≡ Err e) → result_ok answer ≡ None → IsErr decoded
none_decoded (Ok bytes) answer out told none = absurd (let some = rw told.0 at none in cc)
none_decoded (Err e) answer out told none = refl

-- a word that isn't decoded into room for its bytes is out of form or has more than fit
pub form_or_room : (word : List ℕ) (room : ℕ) → (length word / 2 ≤ room → IsErr (decode_sized word (length word / 2))) →
    IfSome (bytes_of word) (λ bytes. room < length bytes)
form_or_room word room fails = by (decode_sized word (length word / 2)) refl
  where
    by : (d : Result (List ℕ) FromHexError) → decode_sized word (length word / 2) ≡ d → IfSome (result_ok d) (λ bytes. room < length bytes)
    by (Err e) is = tt
    by (Ok bytes) is = elim (cases_lt room (length bytes)) [
      | inl more ↦ more
      | inr few ↦ let size = length_read word bytes (length word / 2) is in absurd (let none = rw is at (fails (omega (arith, size, few))) in cc)
    ]
