-- The bytes that the chips of a description hold at an address are the same ones in the sockets in which they sit.
use Rattle.std.proofs.Common.{◌≡◌, ℕ, List, [], ◌∷◌, ◌++◌, refl, ap, sym, ◌∙◌}
use Rattle.std.specs.Prelude.{Option, Some, None, filter_map}
use Rattle.std.specs.List.{cons_option}
use Rattle.f8_spec.specs.ChipState.{ChipView, held_byte}
use Rattle.console_spec.specs.FlatMemory.{only_of}
use Rattle.chip_face.specs.Fitting.{fitted}
use Rattle.chip_face.specs.declared.specification.ChipSpec.{ChipSpec}
use Rattle.memory_map.specs.MapOf.{views_of}
use Rattle.channel_f.proofs.SeatedChips.{SitIn, none_left, empty, taken}

-- ---- no byte, one, or several

data Few : Type 0 where
  Nobody : Few
  One : ℕ → Few
  Several : Few

abbrev one_more : ℕ → Few → Few
one_more byte Nobody = One byte
one_more byte (One other) = Several
one_more byte Several = Several

abbrev with_option : Option ℕ → Few → Few
with_option None few = few
with_option (Some byte) few = one_more byte few

abbrev only_few : Few → Option ℕ
only_few Nobody = None
only_few (One byte) = Some byte
only_few Several = None

abbrev few_of : List ℕ → Few
few_of [] = Nobody
few_of (x ∷ xs) = one_more x (few_of xs)

several : (x y : ℕ) (xs : List ℕ) → few_of (x ∷ (y ∷ xs)) ≡ Several
several x y xs = by (few_of xs)
  where
    by : (f : Few) → one_more x (one_more y f) ≡ Several
    by Nobody = refl
    by (One z) = refl
    by Several = refl

only_by : (xs : List ℕ) → only_of xs ≡ only_few (few_of xs)
only_by [] = refl
only_by (x ∷ []) = refl
only_by (x ∷ (y ∷ xs)) = ap only_few (sym (several x y xs))

with_first : (o : Option ℕ) (xs : List ℕ) → few_of (cons_option o xs) ≡ with_option o (few_of xs)
with_first None xs = refl
with_first (Some x) xs = refl

-- the order makes no difference
exchanged : (o p : Option ℕ) (few : Few) → with_option o (with_option p few) ≡ with_option p (with_option o few)
exchanged None p few = refl
exchanged (Some x) None few = refl
exchanged (Some x) (Some y) Nobody = refl
exchanged (Some x) (Some y) (One z) = refl
exchanged (Some x) (Some y) Several = refl

-- ---- the bytes of chips at an address

module _ (at : ℕ) where
  abbrev byte_of : ChipSpec → Option ℕ
  byte_of c = held_byte (fitted None c) at

  abbrev held_in : List ChipSpec → Few
  held_in [] = Nobody
  held_in (c ∷ cs) = with_option (byte_of c) (held_in cs)

  few_held : (cs : List ChipSpec) → few_of (filter_map (λ (v : ChipView). held_byte v at) (views_of cs)) ≡ held_in cs
  few_held [] = refl
  few_held (c ∷ cs) = with_first (byte_of c) _ ∙ ap (with_option (byte_of c)) (few_held cs)

  taken_out : (before : List ChipSpec) (c : ChipSpec) (after : List ChipSpec) →
      held_in (before ++ c ∷ after) ≡ with_option (byte_of c) (held_in (before ++ after))
  taken_out [] c after = refl
  taken_out (b ∷ before) c after =
      ap (with_option (byte_of b)) (taken_out before c after) ∙ exchanged (byte_of b) (byte_of c) (held_in (before ++ after))

  same_held : {chips sockets : List ChipSpec} → SitIn chips sockets → held_in sockets ≡ held_in chips
  same_held none_left = refl
  same_held (empty {chips} {sockets} kind later) = same_held later
  same_held (taken before after {sockets} c later) = ap (with_option (byte_of c)) (same_held later) ∙ sym (taken_out before c after)

  only_held : (cs : List ChipSpec) → only_of (filter_map (λ (v : ChipView). held_byte v at) (views_of cs)) ≡ only_few (held_in cs)
  only_held cs = only_by _ ∙ ap only_few (few_held cs)

  pub same_only : {chips sockets : List ChipSpec} → SitIn chips sockets →
      only_of (filter_map (λ (v : ChipView). held_byte v at) (views_of sockets))
      ≡ only_of (filter_map (λ (v : ChipView). held_byte v at) (views_of chips))
  same_only {chips} {sockets} sit = only_held sockets ∙ ap only_few (same_held sit) ∙ sym (only_held chips)
