-- Words that a line may not have: where the loop over its tokens goes on and ends.
use Rattle.std.proofs.Common.{◌≡◌, ℕ, ◌+◌, ◌<◌, ◌≤◌, true, false, List, ◌∷◌, length, get_or, drop, Some, None, refl, sym, ap, ◌∙◌}
use Rattle.std.proofs.lemmas.List.{at_drop_more, at_drop_all}
use Rattle.asm_text.specs.declared.answers.Token.{Token}
use Rattle.f8_link.specs.Directives.{stray_in, stray}

stray_here : (t : Token) (ts : List Token) → stray_in t.kind ≡ true → stray (t ∷ ts) ≡ Some t.column
unfolding stray
stray_here t ts is = rw is refl

stray_behind : (t : Token) (ts : List Token) → stray_in t.kind ≡ false → stray (t ∷ ts) ≡ stray ts
unfolding stray
stray_behind t ts is = rw is refl

module _ (ts : List Token) (i : ℕ) where
  -- from the next token on
  from : (t : Token) → i < length ts → t ≡ get_or ts i t → stray (drop i ts) ≡ stray (t ∷ drop (i + 1) ts)
  from t within is = at_drop_more stray ts i t within ∙ ap (λ u. stray (u ∷ drop (i + 1) ts)) (sym is)

  pub stray_at : (t : Token) → stray (drop i ts) ≡ stray ts → i < length ts → t ≡ get_or ts i t → stray_in t.kind ≡ true → Some t.column ≡ stray ts
  stray_at t on within is told = sym (stray_here t (drop (i + 1) ts) told) ∙ sym (from t within is) ∙ on

  pub stray_more : (t : Token) → stray (drop i ts) ≡ stray ts → i < length ts → t ≡ get_or ts i t → stray_in t.kind ≡ false
      → stray (drop (i + 1) ts) ≡ stray ts
  stray_more t on within is told = sym (stray_behind t (drop (i + 1) ts) told) ∙ sym (from t within is) ∙ on

  pub stray_none : stray (drop i ts) ≡ stray ts → length ts ≤ i → None ≡ stray ts
  unfolding stray
  stray_none on past = sym (at_drop_all stray ts i past) ∙ on
