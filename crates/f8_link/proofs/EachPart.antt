-- Loops over modules with their numbers: where one begins, goes on, ends and stops.
use Rattle.std.proofs.Common.{◌≡◌, ℕ, ◌+◌, ◌<◌, ◌≤◌, List, [], ◌∷◌, length, get_or, drop, Ok, Err, Result, refl, sym, ◌∙◌}
use Rattle.std.proofs.lemmas.List.{drop_all}
use Rattle.text_lines.specs.declared.read_error.ReadError.{ReadError}
use Rattle.text_lines.specs.declared.read_error.ReadError.TheVariants as answer
use Rattle.text_lines.specs.ReadErrors.{Says}
use Rattle.f8_link.specs.declared.answers.LinkCause.{LinkCause}
use Rattle.f8_link.specs.declared.answers.LinkFault.{LinkFault}
use Rattle.f8_link.specs.declared.parts.Part.{Part}
use Rattle.f8_link.specs.Linking.{each_part, stop_in}
use Rattle.f8_link.proofs.LinkSteps.{drop_next}

module _ {S : Type 0} (step : ℕ → S → Part → Result S LinkCause) where
  -- no module is left
  pub each_end : (number : ℕ) (s : S) → each_part step number s [] ≡ Ok s
  unfolding each_part
  each_end number s = refl

  -- one module more
  pub each_more : (number : ℕ) (s t : S) (p : Part) (ps : List Part) → step number s p ≡ Ok t
      → each_part step (number + 1) t ps ≡ each_part step number s (p ∷ ps)
  unfolding each_part
  each_more number s t p ps is = rw (is, each_part) refl

  -- a module stops all
  pub each_fail : (number : ℕ) (s : S) (p : Part) (ps : List Part) (cause : LinkCause) → step number s p ≡ Err cause
      → each_part step number s (p ∷ ps) ≡ Err (record { «module» = number; cause = cause })
  unfolding each_part
  each_fail number s p ps cause is = rw (is, each_part) refl

  -- the modules taken and those that follow make the whole
  pub record EachOn (number : ℕ) (s : S) (rest : List Part) (whole : Result S LinkFault) : Type 0 where
    pub is : each_part step number s rest ≡ whole

  module _ {s : S} {whole : Result S LinkFault} (ps : List Part) (number : ℕ) (on : EachOn number s (drop number ps) whole) where
    pub all_done : length ps ≤ number → whole ≡ Ok s
    all_done past = sym (rw (drop_all number ps past) at on.is) ∙ each_end number s

    module _ (p : Part) (within : number < length ps) (is : p ≡ get_or ps number p) where
      pub one_more : (t : S) → step number s p ≡ Ok t → EachOn (number + 1) t (drop (number + 1) ps) whole
      one_more t told = record { is = each_more number s t p (drop (number + 1) ps) told ∙ rw (drop_next ps number p within is) at on.is }

      pub stopped : (cause : LinkCause) → step number s p ≡ Err cause → whole ≡ Err (record { «module» = number; cause = cause })
      stopped cause told = sym (rw (drop_next ps number p within is) at on.is) ∙ each_fail number s p (drop (number + 1) ps) cause told

      -- or memory is missing
      pub stopped_by : (stop : ReadError LinkCause) → Says {A = S} (Err stop) (step number s p) → Says {A = S} (Err (stop_in number stop)) whole
      stopped_by (answer.Fault cause) told = stopped cause told
      stopped_by answer.Memory told = tt
