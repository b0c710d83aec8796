-- What is behind a mark: the rest of a text that begins with it, and nothing of another.
use Rattle.std.proofs.Common.{◌≡◌, ℕ, Bool, true, false, cond, ◌==◌, List, [], ◌∷◌, ◌++◌, refl, arith}
use Rattle.std.specs.Prelude.{Option, Some, None, MatchOption}
use Rattle.std.proofs.lemmas.Bool.Decides.{nat_tests}
use denote.Ref.{Bor}
use Rattle.certificate.specs.Parts.{behind}
use Rattle.certificate.specs.Answers.{Gives}

same_byte : (b : ℕ) → (b == b) ≡ true
same_byte b = grind (arith, nat_tests)

other_byte : (b m : ℕ) → (b == m) ≡ true → b ≡ m
other_byte b m e = grind (arith, nat_tests)

pub behind_again : (mark rest : List ℕ) → behind mark (mark ++ rest) ≡ Some rest
unfolding behind
behind_again [] rest = refl
behind_again (m ∷ mark) rest = rw (same_byte m) (behind_again mark rest)

nothing_by : (same : Bool) (o : Option (List ℕ)) → (same ≡ true → o ≡ None) → cond same o None ≡ None
nothing_by true o none = none refl
nothing_by false o none = refl

pub behind_nothing : (mark text : List ℕ) → ((rest : List ℕ) → text ≡ mark ++ rest → ⊥) → behind mark text ≡ None
unfolding behind
behind_nothing [] text never = absurd (never text refl)
behind_nothing (m ∷ mark) [] never = refl
behind_nothing (m ∷ mark) (b ∷ text) never =
    nothing_by (b == m) (behind mark text)
    (λ same. behind_nothing mark text (λ rest e. let first = other_byte b m same in never rest (let both : (b ∷ text) ≡ (m ∷ (mark ++ rest)) = cc in both)))

-- what is told by the code that looks for a mark
pub told_behind : (mark text : List ℕ) (r : Option (Bor (List ℕ))) →
    MatchOption r ((rest : List ℕ) → text ≡ mark ++ rest → ⊥) (λ x. text ≡ mark ++ x.now) → Gives (λ (x : Bor (List ℕ)). x.now) r (behind mark text)
told_behind mark text None h = behind_nothing mark text h
told_behind mark text (Some x) h = rw h (behind_again mark x.now)
