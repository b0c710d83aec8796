-- The lines of an image, as bytes. Every line ends with a line feed.
use Rattle.std.specs.Prelude.{ℕ, zero, suc, ℤ, ◌+◌, ◌/◌, ◌==◌, if◌then◌else◌, List, [], ◌∷◌, ◌++◌, length, map}
use Rattle.std.specs.Prelude.{flat_map, take, drop, codes}
use Rattle.std.specs.Fmt.{signed_decimal}
use Rattle.f8_spec.specs.Spelling.{hex2, hex4}
use Rattle.f8_asm.specs.Image.{Picture}

-- bytes one after the other, the first at this address
pub record Run : Type 0 where
  pub first : ℕ
  pub bytes : List ℕ

-- ---- runs

-- An entry before some runs lengthens the first of them, where that begins at the next address, and else is a run of its own.
abbrev pub before_runs : ℕ × ℕ → List Run → List Run
before_runs e [] = record { first = e.0; bytes = e.1 ∷ [] } ∷ []
before_runs e (run ∷ runs) =
    if run.first == e.0 + 1 then record { first = e.0; bytes = e.1 ∷ run.bytes } ∷ runs else record
    { first = e.0; bytes = e.1 ∷ [] } ∷ run ∷ runs

-- addresses with their bytes, parted where an address is not the next after the one before it
abbrev pub runs_of : List (ℕ × ℕ) → List Run
runs_of [] = []
runs_of (e ∷ es) = before_runs e (runs_of es)

-- ---- pieces of a run

-- so many pieces, of 16 bytes each as far as there are bytes
abbrev pub pieces : ℕ → Run → List Run
pieces zero run = []
pieces (suc n) run =
    record { first = run.first; bytes = take 16 run.bytes } ∷ pieces n
    (record {
      first = run.first + 16;
      bytes = drop 16 run.bytes;
    })

-- as many pieces as the run needs: the last has 1 to 16 bytes
abbrev pub pieces_of : Run → List Run
pieces_of run = pieces ((length run.bytes + 15) / 16) run

-- ---- lines

-- the address, a blank and the bytes
abbrev pub byte_line : Run → List ℕ
byte_line run = hex4 run.first ++ codes " " ++ flat_map hex2 run.bytes ++ codes "\n"

unfoldable pub byte_lines : List (ℕ × ℕ) → List (List ℕ)
byte_lines entries = flat_map (λ run. map byte_line (pieces_of run)) (runs_of entries)

-- a name and its value
unfoldable pub symbol_line : List ℕ × ℤ → List ℕ
symbol_line s = codes "sym " ++ s.0 ++ codes " " ++ signed_decimal s.1 ++ codes "\n"

abbrev pub symbol_lines : List (List ℕ × ℤ) → List (List ℕ)
symbol_lines symbols = map symbol_line symbols

-- the bytes by ascending address, at most 16 a line, and then the names in the order in which they were defined
unfoldable pub image_lines : Picture → List (List ℕ)
image_lines image = byte_lines image.bytes ++ symbol_lines image.symbols
