-- The pages of a 3853 and the bytes in them.
use Rattle.std.specs.Prelude.{ℕ, ◌*◌, ◌<◌, ◌≤◌, ◌≡◌, List, length, slice_get, Option, Some}
use Rattle.f8_spec.specs.ChipState.{place_of}
use Rattle.f8_spec.specs.declared.chips.Page.{Page}

-- 256 bytes for each page, in the order of the pages
pub record Contents : Type 0 where
  pub pages : List Page
  pub bytes : List ℕ

-- a table has the place of each page by its number, and none where there is no such page
pub record IsPlaces (places : List (Option ℕ)) (pages : List Page) : Type 0 where
  pub at : (number : ℕ) → number < 256 → slice_get places number ≡ Some (place_of pages number)

-- what holds of a space: there are 256 pages at most, each has its bytes, and the table finds each
pub record IsSpace (pages : List Page) (bytes : List ℕ) (places : List (Option ℕ)) : Type 0 where
  pub few : length pages ≤ 256
  pub size : length bytes ≡ length pages * 256
  pub table : IsPlaces places pages
