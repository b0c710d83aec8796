-- Where the first word of a text ends.
use Rattle.std.proofs.Common.{◌≡◌, ℕ, ◌+◌, ◌<◌, ◌≤◌, Bool, true, false, List, [], ◌∷◌, ◌++◌, length, take, drop, get_or}
use Rattle.std.proofs.Common.{refl, sym, ◌∙◌, ap, arith, add-one, take-append-drop, None}
use Rattle.std.specs.Prelude.{◌==◌, not, cond}
use Rattle.std.specs.List.{list_all}
use Rattle.std.proofs.Math.Seq.{drop-cons}
use Rattle.std.proofs.lemmas.List.{take_all}
use Rattle.std.proofs.lemmas.Bool.Decides.{nat_tests}
use Rattle.line_words.specs.Words.{words, lone}
use Rattle.text_lines.specs.Lines.{with_first}

-- a byte is no blank
abbrev pub no_blank : ℕ → Bool
no_blank b = not (b == 32)

-- a word up to a blank
pub words_at_blank : (w rest : List ℕ) → list_all no_blank w ≡ true → words (w ++ 32 ∷ rest) ≡ w ∷ words rest
words_at_blank [] rest none = refl
words_at_blank (b ∷ bs) rest none =
    let others : list_all no_blank bs ≡ true = grind (arith, nat_tests) in
    let behind = words_at_blank bs rest others in
    grind (arith, nat_tests, behind)

-- a word that ends with the text
pub words_alone : (w : List ℕ) → list_all no_blank w ≡ true → words w ≡ w ∷ []
words_alone [] none = refl
words_alone (b ∷ bs) none =
    let others : list_all no_blank bs ≡ true = grind (arith, nat_tests) in
    let behind = words_alone bs others in
    grind (arith, nat_tests, behind)

-- no blank is among the first bytes
pub record NoBlank (n : ℕ) (text : List ℕ) : Type 0 where
  pub is : list_all no_blank (take n text) ≡ true

-- a blank behind these bytes
pub split_at_blank : (text : List ℕ) (at : ℕ) → NoBlank at text → at < length text → get_or text at 0 ≡ 32 →
    words text ≡ take at text ∷ words (drop (at + 1) text)
split_at_blank text at none within blank =
    let parts : text ≡ take at text ++ 32 ∷ drop (at + 1) text =
    sym (take-append-drop at text)
    ∙ ap (λ r. take at text ++ r) (rw (add-one, ← blank, drop-cons text at 0) refl) in
    ap words parts ∙ words_at_blank (take at text) (drop (at + 1) text) none.is

-- no blank at all
pub whole_word : (text : List ℕ) (n : ℕ) → NoBlank n text → length text ≤ n → words text ≡ text ∷ []
whole_word text n none all = words_alone text (rw (take_all n text all) at none.is)

-- there is a word in front of another byte's
with_first-more : (b : ℕ) (ws : List (List ℕ)) → (w : List ℕ) × (rest : List (List ℕ)) × (with_first b ws ≡ w ∷ rest)
with_first-more b [] = (b ∷ [], [], refl)
with_first-more b (w ∷ ws) = (b ∷ w, ws, refl)

-- a text has a word
pub a_word : (text : List ℕ) → (w : List ℕ) × (ws : List (List ℕ)) × (words text ≡ w ∷ ws)
a_word [] = ([], [], refl)
a_word (b ∷ bs) =
    elim (b == 32) as
    (λ t. (w : List ℕ) × (ws : List (List ℕ)) × (cond t ([] ∷ words bs) (with_first b (words bs)) ≡ w ∷ ws)) [
      | true ↦ ([], words bs, refl)
      | false ↦ with_first-more b (words bs)
    ]

-- two words aren't one
pub not_lone : (w text : List ℕ) → lone (w ∷ words text) ≡ None
not_lone w text = let some = a_word text in rw some.2 refl
