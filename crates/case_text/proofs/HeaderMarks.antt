-- What is behind a mark, as the code that strips a prefix finds it.
use Rattle.std.proofs.Common.{◌≡◌, ℕ, ◌+◌, Bool, true, false, cond, ◌==◌, List, [], ◌∷◌, ◌&&◌, length, take, drop, refl}
use Rattle.std.specs.Prelude.{Option, Some, None, MatchOption, nat_eq}
use Rattle.std.specs.Cmp.Lexicographic.{pointwise}
use denote.Ref.{Bor}
use Rattle.certificate.specs.Answers.{Gives}
use Rattle.certificate.specs.Parts.{behind}

same_by : (same front : Bool) (o p : Option (List ℕ)) → o ≡ cond front p None → cond same o None ≡ cond (same && front) p None
same_by true front o p e = e
same_by false front o p e = refl

behind_as : (mark text : List ℕ) →
    behind mark text ≡ cond (pointwise nat_eq (take (length mark) text) mark) (Some (drop (length mark) text)) None
unfolding behind
behind_as [] text = refl
behind_as (m ∷ mark) [] = refl
behind_as (m ∷ mark) (b ∷ text) =
    same_by (b == m) (pointwise nat_eq (take (length mark) text) mark) (behind mark text) (Some (drop (length mark) text)) (behind_as mark text)

pub told_behind : (mark text : List ℕ) (r : Option (Bor (List ℕ))) →
    MatchOption r (pointwise nat_eq (take (length mark) text) mark ≡ false)
    (λ x. (pointwise nat_eq (take (length mark) text) mark ≡ true) × (x.now ≡ drop (length mark) text) × (length x.now + length mark ≡ length text)) →
    Gives (λ (x : Bor (List ℕ)). x.now) r (behind mark text)
told_behind mark text None h = rw (behind_as mark text, h) refl
told_behind mark text (Some x) h = rw (behind_as mark text, h.0, h.1) refl
