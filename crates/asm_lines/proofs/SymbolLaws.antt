-- The lines of names, one after the other.
use Rattle.std.proofs.Common.{◌≡◌, ℕ, ℤ, ◌+◌, ◌<◌, ◌≤◌, List, [], ◌∷◌, ◌++◌, length, map, drop, Some, slice_get, None}
use Rattle.std.proofs.Common.{ap, ◌∙◌, arith}
use Rattle.std.proofs.lemmas.List.{at_drop_more, at_drop_all}
use Rattle.std.proofs.lemmas.Option.{slice_get_within, get_or_from_slice_get, slice_get-get_or}
use Rattle.console_spec.specs.RunText.{text_of}
use Rattle.report.proofs.TextLaws.{text_of-cons, text_of-nil}
use Rattle.asm_lines.specs.ImageLines.{symbol_line}

pub text_symbol : (symbols : List (List ℕ × ℤ)) (k : ℕ) (s : List ℕ × ℤ) → slice_get symbols k ≡ Some s →
    text_of (map symbol_line (drop k symbols)) ≡ symbol_line s ++ text_of (map symbol_line (drop (k + 1) symbols))
text_symbol symbols k s here =
    at_drop_more (λ (rest : List (List ℕ × ℤ)). text_of (map symbol_line rest)) symbols k s
    (slice_get_within symbols k s here)
    ∙ ap (λ (first : List ℕ × ℤ). text_of (symbol_line first ∷ map symbol_line (drop (k + 1) symbols)))
    (get_or_from_slice_get symbols k s s here)
    ∙ text_of-cons (symbol_line s) (map symbol_line (drop (k + 1) symbols))

pub text_no_symbol : (symbols : List (List ℕ × ℤ)) (k : ℕ) → length symbols ≤ k →
    text_of (map symbol_line (drop k symbols)) ≡ []
text_no_symbol symbols k past =
    at_drop_all (λ (rest : List (List ℕ × ℤ)). text_of (map symbol_line rest)) symbols k past ∙ text_of-nil

-- below their number there is a name
pub symbol_within : (symbols : List (List ℕ × ℤ)) (k : ℕ) → k < length symbols → None ≡ slice_get symbols k → ⊥
symbol_within (s ∷ symbols) k within none =
    let some = slice_get-get_or (s ∷ symbols) k s within in
    cc
symbol_within [] k within none = omega arith
