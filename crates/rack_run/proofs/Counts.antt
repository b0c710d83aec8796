-- The sockets of a kind, one after another: how many there are, and the first that is free.
use Rattle.std.proofs.Common.{◌≡◌, ℕ, ◌+◌, ◌<◌, Bool, true, false, List, ◌∷◌, length, get_or, map, take, drop, Option}
use Rattle.std.proofs.Common.{Some, refl, sym, ap, ◌∙◌, arith}
use Rattle.std.specs.Prelude.{◌==◌, ◌&&◌, not, if◌then◌else◌}
use Rattle.std.specs.List.{list_any}
use Rattle.std.proofs.Math.ListN.{get_or-map}
use Rattle.std.proofs.lemmas.List.{length-map, at_drop_more}
use Rattle.std.proofs.lemmas.List.Sums.{count_by_more_yes, count_by_more_no}
use Rattle.f8_spec.specs.ChipState.{ChipState, same_kind}
use Rattle.f8_spec.specs.declared.chips.ChipKind.{ChipKind}
use Rattle.rack_run.specs.Seating.{kinds_of}
use Rattle.rack_run.specs.Sockets.{sockets_of, free_socket}

module _ {X : Type 0} (V : X → ChipState) (kind : ChipKind) (xs : List X) (i : ℕ) (x : X) where
  kind_at : x ≡ get_or xs i x → get_or (kinds_of (map V xs)) i (V x).view.kind ≡ (V x).view.kind
  kind_at is =
      get_or-map (λ (s : ChipState). s.view.kind) (map V xs) i (V x)
      ∙ ap (λ (s : ChipState). s.view.kind) (get_or-map V xs i x)
      ∙ ap (λ (y : X). (V y).view.kind) (sym is)

  kind_there : x ≡ get_or xs i x →
      same_kind kind (get_or (kinds_of (map V xs)) i (V x).view.kind) ≡ same_kind kind (V x).view.kind
  kind_there is = ap (same_kind kind) (kind_at is)

  within_kinds : i < length xs → i < length (kinds_of (map V xs))
  within_kinds within = omega (arith, length-map xs V, length-map (map V xs) (λ (s : ChipState). s.view.kind))

  pub counted_yes : i < length xs → x ≡ get_or xs i x → same_kind kind (V x).view.kind ≡ true →
      sockets_of kind (take (i + 1) (kinds_of (map V xs))) ≡ sockets_of kind (take i (kinds_of (map V xs))) + 1
  counted_yes within is same =
      count_by_more_yes (same_kind kind) (kinds_of (map V xs)) i (V x).view.kind (within_kinds within)
      (kind_there is ∙ same)

  pub counted_no : i < length xs → x ≡ get_or xs i x → same_kind kind (V x).view.kind ≡ false →
      sockets_of kind (take (i + 1) (kinds_of (map V xs))) ≡ sockets_of kind (take i (kinds_of (map V xs)))
  counted_no within is other =
      count_by_more_no (same_kind kind) (kinds_of (map V xs)) i (V x).view.kind (within_kinds within)
      (kind_there is ∙ other)

  module _ (chain : List ℕ) (within : i < length xs) (is : x ≡ get_or xs i x) where
    abbrev kinds : List ChipKind
    kinds = kinds_of (map V xs)

    here : free_socket kind chain i (drop i kinds) ≡ free_socket kind chain i ((V x).view.kind ∷ drop (i + 1) kinds)
    here =
        at_drop_more (λ (ks : List ChipKind). free_socket kind chain i ks) kinds i (V x).view.kind (within_kinds within)
        ∙ ap (λ (k : ChipKind). free_socket kind chain i (k ∷ drop (i + 1) kinds)) (kind_at is)

    -- it is free
    pub free_here : same_kind kind (V x).view.kind ≡ true → list_any (λ held. held == i) chain ≡ false →
        free_socket kind chain i (drop i kinds) ≡ Some i
    free_here same fresh = here ∙ rw (same, fresh) refl

    -- it is of another kind
    pub free_other : same_kind kind (V x).view.kind ≡ false →
        free_socket kind chain i (drop i kinds) ≡ free_socket kind chain (i + 1) (drop (i + 1) kinds)
    free_other other = here ∙ rw other refl

    -- it is in the chain
    pub free_held : list_any (λ held. held == i) chain ≡ true →
        free_socket kind chain i (drop i kinds) ≡ free_socket kind chain (i + 1) (drop (i + 1) kinds)
    free_held held =
        here
        ∙ rw held (passed (same_kind kind (V x).view.kind) (Some i) (free_socket kind chain (i + 1) (drop (i + 1) kinds)))
      where
        passed : (b : Bool) (first later : Option ℕ) → (if b && not true then first else later) ≡ later
        passed true first later = refl
        passed false first later = refl
