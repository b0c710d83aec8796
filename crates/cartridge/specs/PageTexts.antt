-- The texts of runs of pages, such as `ram 28-2B`: a sort, one blank, and a page or two pages with a hyphen between them, each as two
-- hexadecimal digits of either case. They are this project's own.
use Rattle.std.specs.Prelude.{ℕ, ◌+◌, ◌-◌, ◌==◌, nat_le, if◌then◌else◌, List, [], ◌∷◌, ◌++◌, length, codes, bytes_eq}
use Rattle.std.specs.Prelude.{Option, Some, None, ok_or, option_map, option_and_then, Result, Ok, Err}
use Rattle.std.specs.List.{list_any, before_first, after_first}
use Rattle.hex.specs.Hex.{decode_sized}
use Rattle.hex.specs.declared.error.FromHexError.{FromHexError}
use Rattle.toml.specs.Data.{Data, as_array, as_str}
use Rattle.f8_spec.specs.declared.chips.PageSort.{PageSort}
use Rattle.f8_spec.specs.declared.chips.PageSort.TheVariants.{Rom, Ram, Void}
use Rattle.cartridge.specs.declared.page_run.PageRun.{PageRun}
use Rattle.cartridge.specs.declared.refusal.CartCause.{CartCause}
use Rattle.cartridge.specs.declared.refusal.CartCause.TheVariants.{Range}
use Rattle.cartridge.specs.Faults.{◌>>=◌}
use Rattle.cartridge.specs.Pages.{run_apart}
use Rattle.cartridge.specs.Values.{each, value_of_type}

abbrev pub sort_word : PageSort → List ℕ
sort_word Rom = codes "rom"
sort_word Ram = codes "ram"
sort_word Void = codes "void"

abbrev pub sort_named : List ℕ → Option PageSort
sort_named word =
    if bytes_eq word (sort_word Rom) then Some Rom else
    if bytes_eq word (sort_word Ram) then Some Ram else
    if bytes_eq word (sort_word Void) then Some Void else
    None

abbrev pub blank : ℕ
blank = 32

abbrev pub hyphen : ℕ
hyphen = 45

-- what stands before the first character c of a text, and what behind it
abbrev pub parted : ℕ → List ℕ → Option (List ℕ × List ℕ)
parted c text =
    if list_any (λ b. b == c) text then Some (before_first (λ b. b == c) text, after_first (λ b. b == c) text) else None

abbrev pub only_byte : Result (List ℕ) FromHexError → Option ℕ
only_byte (Ok (b ∷ [])) = Some b
only_byte (Ok []) = None
only_byte (Ok (b ∷ c ∷ bs)) = None
only_byte (Err e) = None

-- a page by its two digits
abbrev pub page_number : List ℕ → Option ℕ
page_number digits = only_byte (decode_sized digits 1)

-- from one page to another, which isn't below it
abbrev pub run_between : PageSort → ℕ → ℕ → Option PageRun
run_between sort first last =
    if nat_le first last then Some (record { sort = sort; first = first; count = last - first + 1 }) else None

-- one page, or the pages between two
abbrev pub range_of : PageSort → List ℕ → Option (List ℕ × List ℕ) → Option PageRun
range_of sort page None = option_and_then (λ number. run_between sort number number) (page_number page)
range_of sort pages (Some ends) =
    option_and_then (λ first. option_and_then (λ last. run_between sort first last) (page_number ends.1)) (page_number ends.0)

abbrev pub run_of_parts : Option (List ℕ × List ℕ) → Option PageRun
run_of_parts None = None
run_of_parts (Some parts) = option_and_then (λ sort. range_of sort parts.1 (parted hyphen parts.1)) (sort_named parts.0)

-- the run that a text gives; it is parted by its first blank
unfoldable pub run_of_text : List ℕ → Option PageRun
run_of_text text = run_of_parts (parted blank text)

-- ---- a list of them

-- the run of each text, where each gives one
abbrev pub each_run : List (List ℕ) → Option (List PageRun)
each_run [] = Some []
each_run (text ∷ texts) = option_and_then (λ run. option_map (λ runs. run ∷ runs) (each_run texts)) (run_of_text text)

-- at most as many texts as there are pages
abbrev pub few_texts : List (List ℕ) → Result (List (List ℕ)) CartCause
few_texts texts = if nat_le (length texts) 256 then Ok texts else Err Range

-- no run has a page of one before it
abbrev pub runs_apart : List PageRun → List PageRun → Result (List PageRun) CartCause
runs_apart earlier [] = Ok earlier
runs_apart earlier (run ∷ runs) = run_apart earlier run >>= λ _. runs_apart (earlier ++ run ∷ []) runs

-- An entry of a wrong type goes before too many texts and before a bad text, and each of these before a page that stands twice.
abbrev pub runs_in : Data → Result (List PageRun) CartCause
runs_in d =
    value_of_type (as_array d) >>= λ entries.
    value_of_type (each as_str entries) >>= λ texts.
    few_texts texts >>= λ few.
    ok_or (each_run few) Range >>= λ runs.
    runs_apart [] runs
