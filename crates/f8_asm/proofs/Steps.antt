-- Steps one after the other: where a loop over them begins, goes on and ends, and which of them is the first that fails.
use Rattle.std.proofs.Common.{◌≡◌, ℕ, ◌+◌, ◌<◌, ◌≤◌, List, [], ◌∷◌, ◌++◌, length, get_or, drop, Ok, Err, Result, refl, sym, ◌∙◌, ap, suc}
use Rattle.std.proofs.Common.{add-one}
use Rattle.std.proofs.Math.Seq.{drop-cons}
use Rattle.std.proofs.lemmas.List.{drop_all}
use Rattle.text_lines.specs.declared.read_error.ReadError.{ReadError}
use Rattle.text_lines.specs.declared.read_error.ReadError.TheVariants as answer
use Rattle.f8_asm.specs.Answers.{◌>>=◌}
use Rattle.text_lines.specs.ReadErrors.{Says, StepsTo}
use Rattle.f8_asm.specs.Steps.{steps}
use Rattle.f8_asm.proofs.Alike.{Alike, alike_ok, alike_then, AllAlike, none_alike, more_alike}

module _ {S X E : Type 0} (step : S → X → Result S E) where
  -- no step is left
  pub steps_end : (s : S) → steps step s [] ≡ Ok s
  unfolding steps
  steps_end s = refl

  -- one step more
  pub steps_more : (s t : S) (x : X) (xs : List X) → step s x ≡ Ok t → steps step t xs ≡ steps step s (x ∷ xs)
  unfolding steps
  steps_more s t x xs is = rw (is, steps) refl

  -- a step fails
  pub steps_fail : (s : S) (x : X) (xs : List X) (e : E) → step s x ≡ Err e → steps step s (x ∷ xs) ≡ Err e
  unfolding steps
  steps_fail s x xs e is = rw (is, steps) refl

  -- the first step that fails: those before it are taken
  pub record Failing (s : S) (xs : List X) (e : E) : Type 0 where
    pub before : List X
    pub x : X
    pub behind : List X
    pub at : S
    pub parts : xs ≡ before ++ x ∷ behind
    pub taken : steps step s before ≡ Ok at
    pub fails : step at x ≡ Err e

  pub first_failing : (s : S) (xs : List X) (e : E) → steps step s xs ≡ Err e → Failing s xs e
  first_failing s [] e h = unfold steps in cc
  first_failing s (x ∷ xs) e h = by (λ t h. first_failing t xs e h) (step s x) refl (unfold steps in h)
    where
      by : ((t : S) → steps step t xs ≡ Err e → Failing t xs e) → (r : Result S E) → step s x ≡ r → (r >>= λ t. steps step t xs) ≡ Err e
          → Failing s (x ∷ xs) e
      by later (Ok t) is h =
          let first = later t h in
          record {
            before = x ∷ first.before;
            x = first.x;
            behind = first.behind;
            at = first.at;
            parts = ap (λ (r : List X). x ∷ r) first.parts;
            taken = unfold steps in rw is first.taken;
            fails = first.fails;
          }
      by later (Err own) is h = record {
        before = [];
        x = x;
        behind = xs;
        at = s;
        parts = refl;
        taken = unfold steps in refl;
        fails = is ∙ h;
      }

-- steps of two kinds that go alike lead to what is alike
module _ {S T X Y E : Type 0} (R : S → T → Type 0) (Q : X → Y → Type 0) (f : S → X → Result S E) (g : T → Y → Result T E)
    (each : (s : S) (t : T) (x : X) (y : Y) → R s t → Q x y → Alike R (f s x) (g t y)) where
  pub steps_alike : {xs : List X} {ys : List Y} → AllAlike Q xs ys → (s : S) (t : T) → R s t → Alike R (steps f s xs) (steps g t ys)
  unfolding steps
  steps_alike none_alike s t so = alike_ok so
  steps_alike (more_alike {x} {y} first rest) s t so = alike_then (each s t x y so first) (λ u v now. steps_alike rest u v now)

-- ---- loops whose steps may want memory

module _ {S X F : Type 0} (step : S → X → Result S F) where
  -- a step fails, or memory is missing
  pub steps_stop : (s t : S) (x : X) (xs : List X) (e : ReadError F) (whole : Result S F) → steps step s (x ∷ xs) ≡ whole
      → StepsTo (Err e) t (step s x) → Says {A = S} (Err e) whole
  steps_stop s t x xs (answer.Fault fault) whole is told = sym is ∙ steps_fail step s x xs fault told
  steps_stop s t x xs answer.Memory whole is told = tt

  -- the steps taken and those that follow make the whole
  pub record StepsOn (s : S) (rest : List X) (whole : Result S F) : Type 0 where
    pub is : steps step s rest ≡ whole

  -- what is left of a list begins with the next
  cut : (xs : List X) (i : ℕ) (x : X) → i < length xs → x ≡ get_or xs i x → drop i xs ≡ x ∷ drop (i + 1) xs
  cut xs i x within is = rw (add-one i, drop-cons xs i x) (ap (λ q. q ∷ drop (suc i) xs) (sym is))

  module _ {s : S} {whole : Result S F} where
    pub all_at : (xs : List X) (i : ℕ) → StepsOn s (drop i xs) whole → length xs ≤ i → whole ≡ Ok s
    all_at xs i on past = sym (rw (drop_all i xs past) at on.is) ∙ steps_end step s

    pub more_at : (xs : List X) (i : ℕ) (x : X) (t : S) → StepsOn s (drop i xs) whole → i < length xs → x ≡ get_or xs i x → step s x ≡ Ok t
        → StepsOn t (drop (i + 1) xs) whole
    more_at xs i x t on within is told = record { is = steps_more step s t x (drop (i + 1) xs) told ∙ rw (cut xs i x within is) at on.is }

    pub stop_at : (xs : List X) (i : ℕ) (x : X) (t : S) (e : ReadError F) → StepsOn s (drop i xs) whole → i < length xs → x ≡ get_or xs i x
        → StepsTo (Err e) t (step s x) → Says {A = S} (Err e) whole
    stop_at xs i x t e on within is told = steps_stop s t x (drop (i + 1) xs) e whole (rw (cut xs i x within is) at on.is) told
