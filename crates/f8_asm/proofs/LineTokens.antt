-- A line is read where it is UTF-8.
use Rattle.std.proofs.Common.{◌≡◌, ℕ, Bool, true, false, List, Err, refl}
use Rattle.std.specs.Str.{is_utf8, IsUtf8}
use Rattle.std.proofs.lemmas.Str.{IsUtf8-from_is_utf8, is_utf8-from_IsUtf8}
use Rattle.asm_text.specs.Tokens.{tokens_of}
use Rattle.f8_asm.specs.declared.answers.AsmCause.TheVariants as cause
use Rattle.f8_asm.specs.PassOne.{tokens_in, line_tokens}

not_true : (b : Bool) → (b ≡ true → ⊥) → b ≡ false
not_true true never = absurd (never refl)
not_true false never = refl

pub no_utf8 : (number : ℕ) (bytes : List ℕ) → (IsUtf8 bytes → ⊥) → line_tokens number bytes ≡ Err (record { line = number; column = 1; cause = cause.Utf8 })
unfolding line_tokens
no_utf8 number bytes never = let false_test = not_true (is_utf8 bytes) (λ is. never (IsUtf8-from_is_utf8 bytes is)) in rw false_test refl

pub some_utf8 : (number : ℕ) (bytes : List ℕ) → IsUtf8 bytes → line_tokens number bytes ≡ tokens_in number (tokens_of bytes)
unfolding line_tokens
some_utf8 number bytes is = let true_test = is_utf8-from_IsUtf8 bytes is in rw true_test refl
