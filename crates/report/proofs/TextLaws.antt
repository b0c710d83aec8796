-- How a text of lines begins and goes on.
use Rattle.std.proofs.Common.{◌≡◌, ℕ, ◌+◌, ◌<◌, ◌≤◌, List, [], ◌∷◌, ◌++◌, length, drop, get_or, refl, sym, ap, ◌∙◌, append_assoc}
use Rattle.std.proofs.lemmas.List.{at_drop_more, at_drop_all}
use Rattle.console_spec.specs.RunText.{text_of}

pub text_of-nil : text_of [] ≡ []
unfolding text_of
text_of-nil = refl

pub text_of-cons : (line : List ℕ) (lines : List (List ℕ)) → text_of (line ∷ lines) ≡ line ++ text_of lines
unfolding text_of
text_of-cons line lines = refl

pub text_of-append : (xs ys : List (List ℕ)) → text_of (xs ++ ys) ≡ text_of xs ++ text_of ys
unfolding text_of
text_of-append [] ys = refl
text_of-append (x ∷ xs) ys = ap (λ (rest : List ℕ). x ++ rest) (text_of-append xs ys) ∙ sym (append_assoc x (text_of xs) (text_of ys))

-- the text of the lines from a place on begins with the line there
pub text_of-drop : (lines : List (List ℕ)) (i : ℕ) (line : List ℕ) → i < length lines → line ≡ get_or lines i line →
    text_of (drop i lines) ≡ line ++ text_of (drop (i + 1) lines)
unfolding text_of
text_of-drop lines i line within here =
    at_drop_more text_of lines i line within ∙ ap (λ (first : List ℕ). first ++ text_of (drop (i + 1) lines)) (sym here)

pub text_of-drop_all : (lines : List (List ℕ)) (i : ℕ) → length lines ≤ i → text_of (drop i lines) ≡ []
unfolding text_of
text_of-drop_all lines i past = at_drop_all text_of lines i past
