-- Where the lines of modules have an image, each module begins at an address: its ORG says so.
use Rattle.std.proofs.Common.{◌≡◌, ℕ, ◌+◌, ◌<◌, Bool, true, false, List, [], ◌∷◌, ◌++◌, Result, Ok, Err, refl, sym, ◌∙◌, ap, arith}
use Rattle.std.specs.List.{AllZip}
use Rattle.std.specs.Prelude.{nat_le}
use Rattle.std.proofs.lemmas.Bool.Decides.{nat_tests}
use Rattle.f8_asm.specs.Image.{Picture, everywhere, image_of}
use Rattle.f8_asm.specs.PassTwo.{Layout, no_layout}
use Rattle.f8_asm.specs.Steps.{steps}
use Rattle.f8_asm.specs.declared.answers.AsmFault.{AsmFault}
use Rattle.f8_asm.proofs.Alike.{read-ok}
use Rattle.f8_asm.proofs.ListedBytes.{all_open}
use Rattle.f8_link.specs.declared.parts.Part.{Part}
use Rattle.f8_link.specs.OneSource.{SourceLine, PlacedSource, numbered, source_read, source_placed, source_image_in, source_image}
use Rattle.f8_link.specs.OneSource.{origin_tokens, joined, IsCompiled, HasBytes}
use Rattle.f8_link.proofs.PlainLines.{Each, each_none, each_more}
use Rattle.f8_link.proofs.PlainPasses.{plain_line}
use Rattle.f8_link.proofs.PlainText.{plain_module, plain_modules, plain_source, BeginInside, joined_image}

-- a line with this number
abbrev at_number : ℕ → SourceLine → SourceLine
at_number number m = record { rename = m.rename; number = number; tokens = m.tokens }

-- somewhere in a text the second pass takes the line
record IsPlaced (m : SourceLine) : Type 0 where
  number : ℕ
  before : Layout PlacedSource
  after : Layout PlacedSource
  is : source_placed before (at_number number m) ≡ Ok after

each_placed : (number : ℕ) (ms : List SourceLine) (s t : Layout PlacedSource) → steps source_placed s (numbered number ms) ≡ Ok t → Each IsPlaced ms
unfolding steps numbered
each_placed number [] s t h = each_none
each_placed number (m ∷ ms) s t h = read-ok (Each IsPlaced (m ∷ ms)) (source_placed s (at_number number m))
    (λ u. steps source_placed u (numbered (number + 1) ms)) t h
    (λ u is rest. each_more (record { number = number; before = s; after = u; is = is }) (each_placed (number + 1) ms u t rest))

each_behind : {X : Type 0} {P : X → Type 0} (xs ys : List X) → Each P (xs ++ ys) → Each P ys
each_behind [] ys all = all
each_behind (x ∷ xs) ys (each_more first rest) = each_behind xs ys rest

-- an ORG to no address isn't taken
abbrev fails : {A : Type 0} → Result A AsmFault → Bool
fails (Ok x) = false
fails (Err fault) = true

module _ (address number : ℕ) (s : Layout PlacedSource) where
  abbrev origin : SourceLine
  origin = at_number number (plain_line (origin_tokens address))

  origin_fails : nat_le address 65535 ≡ false → fails (source_placed s origin) ≡ true
  unfolding all_open source_placed
  origin_fails outside = rw outside refl

  origin_inside : (t : Layout PlacedSource) → source_placed s origin ≡ Ok t → address < 65536
  origin_inside t is = by (nat_le address 65535) refl
    where
      by : (inside : Bool) → nat_le address 65535 ≡ inside → address < 65536
      by true test = grind (arith, nat_tests)
      by false test = cc (sym (ap fails is) ∙ origin_fails test)

modules_inside : (texts : List (List ℕ)) (parts : List Part) → AllZip IsCompiled texts parts → Each IsPlaced (plain_modules texts parts) → BeginInside parts
modules_inside [] [] all placed = tt
modules_inside [] (p ∷ ps) all placed = absurd all
modules_inside (t ∷ ts) [] all placed = absurd all
modules_inside (t ∷ ts) (p ∷ ps) all placed = (first placed, modules_inside ts ps all.1 (each_behind (plain_module t p) (plain_modules ts ps) placed))
  where
    first : Each IsPlaced (plain_module t p ++ plain_modules ts ps) → p.room.first < 65536
    first (each_more org others) = origin_inside p.room.first org.number org.before org.after org.is

image_placed : (size : ℕ) (ms : List SourceLine) (picture : Picture) → source_image_in size (numbered 1 ms) ≡ Ok picture → Each IsPlaced ms
unfolding source_image_in
image_placed size ms picture h = read-ok (Each IsPlaced ms) (steps source_read [] (numbered 1 ms)) _ picture h
    (λ names read behind. read-ok (Each IsPlaced ms) (steps source_placed (no_layout size) (numbered 1 ms)) _ picture behind
    (λ laid placed rest. each_placed 1 ms (no_layout size) laid placed))

-- modules begin at addresses where their lines have an image
pub rooms_inside : (texts : List (List ℕ)) (parts : List Part) (picture : Picture) → AllZip IsCompiled texts parts
    → source_image (plain_source texts parts) ≡ Ok picture → BeginInside parts
unfolding source_image
rooms_inside texts parts picture all h = modules_inside texts parts all (image_placed 65536 (plain_modules texts parts) picture h)

-- the image of the modules' lines is that of the joined text
pub joined_picture : (texts : List (List ℕ)) (parts : List Part) (picture : Picture) → AllZip IsCompiled texts parts
    → source_image (plain_source texts parts) ≡ Ok picture → image_of (joined texts parts) everywhere ≡ Ok picture
joined_picture texts parts picture all h = joined_image texts parts all (rooms_inside texts parts picture all h) ∙ h

-- and its bytes are those of the joined text
pub joined_bytes : (texts : List (List ℕ)) (parts : List Part) (picture : Picture) → AllZip IsCompiled texts parts
    → source_image (plain_source texts parts) ≡ Ok picture → HasBytes picture.bytes (image_of (joined texts parts) everywhere)
joined_bytes texts parts picture all h = rw (joined_picture texts parts picture all h) refl
