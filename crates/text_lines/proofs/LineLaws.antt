-- Where the first line of a text ends.
use Rattle.std.proofs.Common.{◌≡◌, ℕ, ◌+◌, ◌<◌, ◌≤◌, Bool, true, List, [], ◌∷◌, ◌++◌, length, length-drop, take, drop}
use Rattle.std.proofs.Common.{get_or, refl, sym, ◌∙◌, ap, arith, add-one, take-append-drop}
use Rattle.std.specs.Prelude.{◌==◌, not}
use Rattle.std.specs.List.{list_all}
use Rattle.std.proofs.Math.Seq.{drop-cons}
use Rattle.std.proofs.lemmas.List.{take_all, nil_from_length}
use Rattle.std.proofs.lemmas.Bool.Decides.{nat_tests}
use Rattle.text_lines.specs.Lines.{lines, without_return}

-- no LF is among bytes
abbrev pub no_feed : ℕ → Bool
no_feed b = not (b == 10)

-- a CR at the end is dropped
pub returned : (front : List ℕ) → without_return (front ++ 13 ∷ []) ≡ front
returned [] = refl
returned (b ∷ []) = grind (arith, nat_tests)
returned (b ∷ c ∷ cs) = grind (arith, nat_tests, returned (c ∷ cs))

-- another byte at the end stays
pub unreturned : (front : List ℕ) (b : ℕ) → (b ≡ 13 → ⊥) → without_return (front ++ b ∷ []) ≡ front ++ b ∷ []
unreturned [] b other = grind (arith, nat_tests)
unreturned (c ∷ []) b other = grind (arith, nat_tests)
unreturned (c ∷ d ∷ ds) b other = grind (arith, nat_tests, unreturned (d ∷ ds) b other)

-- a line up to an LF
pub lines_at_feed : (l rest : List ℕ) → list_all no_feed l ≡ true → lines (l ++ 10 ∷ rest) ≡ without_return l ∷ lines rest
lines_at_feed [] rest none = refl
lines_at_feed (b ∷ []) rest none = grind (arith, nat_tests)
lines_at_feed (b ∷ c ∷ cs) rest none =
    let others : list_all no_feed (c ∷ cs) ≡ true = grind (arith, nat_tests) in
    let behind = lines_at_feed (c ∷ cs) rest others in
    grind (arith, nat_tests, behind)

-- a line that ends with the text
pub lines_alone : (l : List ℕ) → 0 < length l → list_all no_feed l ≡ true → lines l ≡ l ∷ []
lines_alone [] some none = absurd (omega arith)
lines_alone (b ∷ []) some none = grind (arith, nat_tests)
lines_alone (b ∷ c ∷ cs) some none =
    let others : list_all no_feed (c ∷ cs) ≡ true = grind (arith, nat_tests) in
    let behind = lines_alone (c ∷ cs) (omega arith) others in
    grind (arith, nat_tests, behind)

-- no LF is among the first bytes
pub record NoFeed (n : ℕ) (text : List ℕ) : Type 0 where
  pub is : list_all no_feed (take n text) ≡ true

-- an LF behind these bytes
pub split_at_feed : (text : List ℕ) (at : ℕ) → NoFeed at text → at < length text → get_or text at 0 ≡ 10 →
    lines text ≡ without_return (take at text) ∷ lines (drop (at + 1) text)
split_at_feed text at none within feed =
    let parts : text ≡ take at text ++ 10 ∷ drop (at + 1) text =
    sym (take-append-drop at text) ∙ ap (λ r. take at text ++ r) (rw (add-one, ← feed, drop-cons text at 0) refl) in
    ap lines parts ∙ lines_at_feed (take at text) (drop (at + 1) text) none.is

-- no LF at all
pub whole_line : (text : List ℕ) (n : ℕ) → NoFeed n text → 0 < length text → length text ≤ n → lines text ≡ text ∷ []
whole_line text n none some all = lines_alone text some (rw (take_all n text all) at none.is)

-- no LF at all, and nothing behind the line
pub whole_text : (text : List ℕ) (n : ℕ) → NoFeed n text → 0 < length text → length text ≤ n → lines text ≡ text ∷ lines (drop (length text) text)
whole_text text n none some all =
    let nothing : drop (length text) text ≡ [] = nil_from_length (drop (length text) text) (omega (arith, length-drop (length text) text)) in
    whole_line text n none some all ∙ rw nothing refl
