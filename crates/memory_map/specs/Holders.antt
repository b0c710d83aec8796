-- The chips of a description that hold a page of 256 addresses.
use Rattle.std.specs.Prelude.{ℕ, List, [], ◌∷◌, filter_map, Option, option_map}
use Rattle.std.specs.List.{enumerate_from}
use Rattle.chip_face.specs.declared.specification.ChipSpec.{ChipSpec}
use Rattle.memory_map.specs.ChipPages.{PageView, chip_page}
use Rattle.memory_map.specs.declared.pages.HeldPage.{HeldPage}
use Rattle.memory_map.specs.declared.holders.Holder.{Holder}
use Rattle.memory_map.specs.declared.holders.Holder.TheVariants.{Nobody, One as OneChip, Several as SeveralChips}

-- a page in a chip, by the chip's place
abbrev pub OwnedPage : Type 0
OwnedPage = ℕ × PageView

abbrev pub owned_page : ℕ → ℕ × ChipSpec → Option OwnedPage
owned_page number x = option_map (λ p. (x.0, p)) (chip_page number x.1)

-- no element, the only one, or two and more
pub data Few (A : Type 0) : Type 0 where
  Empty : Few A
  One : A → Few A
  Several : Few A

-- what some elements come to with more behind them
abbrev pub followed_by : {A : Type 0} → Few A → List A → Few A
followed_by Empty [] = Empty
followed_by Empty (x ∷ xs) = followed_by (One x) xs
followed_by (One x) [] = One x
followed_by (One x) (y ∷ ys) = Several
followed_by Several xs = Several

-- the holders of a page among chips, whose places count from a number on
unfoldable pub holders_from : ℕ → ℕ → List ChipSpec → List OwnedPage
holders_from number place chips = filter_map (owned_page number) (enumerate_from place chips)

abbrev pub holder_of : ℕ → List ChipSpec → Few OwnedPage
holder_of number chips = followed_by Empty (holders_from number 0 chips)

abbrev pub page_view : HeldPage → PageView
page_view p = record { sort = p.sort; rom = p.rom.now }

abbrev pub seen : Holder → Few OwnedPage
seen Nobody = Empty
seen (OneChip owner page) = One (owner, page_view page)
seen SeveralChips = Several
