-- The chips that hold a page, counted one after another.
use Rattle.std.proofs.Common.{◌≡◌, ℕ, ◌+◌, ◌<◌, ◌≤◌, List, [], ◌∷◌, length, get_or, drop, refl, sym, ◌∙◌}
use Rattle.std.specs.Prelude.{filter_map, Some, None}
use Rattle.std.specs.List.{enumerate_from}
use Rattle.std.proofs.lemmas.List.{drop_more, drop_all}
use Rattle.chip_face.specs.declared.specification.ChipSpec.{ChipSpec}
use Rattle.memory_map.specs.ChipPages.{PageView, chip_page}
use Rattle.memory_map.specs.Holders.{OwnedPage, Few, Empty, One, Several, followed_by, holders_from, holder_of, owned_page}

-- some chips are counted: with the holders among the others, they come to the holders among all
pub record Counted (number : ℕ) (chips : List ChipSpec) (so_far : Few OwnedPage) (i : ℕ) : Type 0 where
  pub is : followed_by so_far (holders_from number i (drop i chips)) ≡ holder_of number chips

followed_by-followed_by : (s : Few OwnedPage) (x : OwnedPage) (xs : List OwnedPage) → followed_by (followed_by s (x ∷ [])) xs ≡ followed_by s (x ∷ xs)
followed_by-followed_by Empty x xs = refl
followed_by-followed_by (One y) x xs = refl
followed_by-followed_by Several x xs = refl

followed_by-nil : (s : Few OwnedPage) → followed_by s [] ≡ s
followed_by-nil Empty = refl
followed_by-nil (One y) = refl
followed_by-nil Several = refl

-- a chip that does not hold the page changes nothing
pub Counted-skip : (number : ℕ) (chips : List ChipSpec) (s : Few OwnedPage) (i : ℕ) (d : ChipSpec) → i < length chips →
    chip_page number (get_or chips i d) ≡ None → Counted number chips s i → Counted number chips s (i + 1)
unfolding holders_from
Counted-skip number chips s i d within none before = record {
  is =
      let here = rw (drop_more chips i d within) at before.is in
      rw none at here;
}

-- a chip that holds it is one more
pub Counted-one : (number : ℕ) (chips : List ChipSpec) (s t : Few OwnedPage) (i : ℕ) (p : PageView) (d : ChipSpec) → i < length chips →
    chip_page number (get_or chips i d) ≡ Some p → t ≡ followed_by s ((i, p) ∷ []) → Counted number chips s i → Counted number chips t (i + 1)
unfolding holders_from
Counted-one number chips s t i p d within held next before = record {
  is =
      let here = rw (drop_more chips i d within) at before.is in
      let more = rw held at here in
      rw (next, followed_by-followed_by s (i, p) (filter_map (owned_page number) (enumerate_from (i + 1) (drop (i + 1) chips)))) more;
}

pub Counted-all : (number : ℕ) (chips : List ChipSpec) (s : Few OwnedPage) (i : ℕ) → length chips ≤ i → Counted number chips s i → s ≡ holder_of number chips
unfolding holders_from
Counted-all number chips s i past before = sym (followed_by-nil s) ∙ (rw (drop_all i chips past) at before.is)
