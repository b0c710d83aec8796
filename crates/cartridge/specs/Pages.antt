-- The pages of a chip as runs of pages in a row, each with its sort. They are this project's own.
use Rattle.std.specs.Prelude.{ℕ, ◌+◌, ◌*◌, ◌==◌, ◌&&◌, ◌||◌, nat_le, Bool, if◌then◌else◌, List, Option, Some, None, Result, Ok, Err}
use Rattle.std.specs.List.{list_all, range_with_len}
use Rattle.std.specs.Prelude.{count_by, filter_map, find, option_and_then, option_map, reverse}
use Rattle.toml.specs.Data.{Members}
use Rattle.f8_asm.specs.declared.answers.Room.{Room}
use Rattle.f8_spec.specs.ChipState.{is_rom}
use Rattle.f8_spec.specs.declared.chips.Page.{Page}
use Rattle.f8_spec.specs.declared.chips.PageSort.{PageSort}
use Rattle.cartridge.specs.declared.keys.Key.{Key}
use Rattle.cartridge.specs.declared.page_run.PageRun.{PageRun}
use Rattle.cartridge.specs.declared.refusal.CartCause.{CartCause}
use Rattle.cartridge.specs.declared.refusal.CartCause.TheVariants.{Boundary}
use Rattle.cartridge.specs.declared.refusal.KeyFault.{KeyFault}
use Rattle.cartridge.specs.Faults.{◌>>=◌, at_key}
use Rattle.cartridge.specs.Rooms.{room_size}
use Rattle.cartridge.specs.Values.{usually, number_in}

-- no page is past FF
abbrev pub lies_within : PageRun → Bool
lies_within run = nat_le (run.first + run.count) 256

-- one run ends before another begins
abbrev pub lies_before : PageRun → PageRun → Bool
lies_before run other = nat_le (run.first + run.count) other.first

-- two runs have no page in common; a run without pages has none in common with any
abbrev pub lie_apart : PageRun → PageRun → Bool
lie_apart run other = (run.count == 0) || (other.count == 0) || lies_before run other || lies_before other run

abbrev pub run_apart : List PageRun → PageRun → Result PageRun CartCause
run_apart earlier run = if lies_within run && list_all (lie_apart run) earlier then Ok run else Err Boundary

-- a run by the keys of its first page and of its number of pages, at which a run that doesn't fit is told
abbrev pub run_at : PageSort → Key → Key → List PageRun → Members → Result PageRun KeyFault
run_at sort first_key count_key earlier table =
    usually first_key 0 (number_in 0 255) table >>= λ first.
    usually count_key 0 (number_in 0 256) table >>= λ count.
    at_key count_key (run_apart earlier (record { sort = sort; first = first; count = count }))

-- the page with a number is one of the run's
abbrev pub has_page : ℕ → PageRun → Bool
has_page number run = nat_le run.first number && nat_le (number + 1) (run.first + run.count)

-- the page with a number, where a run has it
abbrev pub page_at : List PageRun → ℕ → Option Page
page_at runs number = option_map (λ run. record { number = number; sort = run.sort }) (find (has_page number) runs)

-- the pages of some runs, by ascending numbers
unfoldable pub pages_of : List PageRun → List Page
pages_of runs = filter_map (page_at runs) (range_with_len 0 256)

-- ---- the ROM pages among pages that ascend

abbrev pub is_rom_page : Page → Bool
is_rom_page page = is_rom page.sort

-- 256 bytes for each of them
abbrev pub rom_size_of : List Page → ℕ
rom_size_of pages = 256 * count_by is_rom_page pages

abbrev pub room_between : Page → Page → Room
room_between lowest highest = record { first = 256 * lowest.number; last = 256 * highest.number + 255 }

-- the addresses from the lowest ROM page to the highest one
abbrev pub rom_span : List Page → Option Room
rom_span pages =
    option_and_then (λ lowest. option_map (room_between lowest) (find is_rom_page (reverse pages))) (find is_rom_page pages)

-- the addresses of the ROM pages, where there are any and they have no gap
abbrev pub rom_room : List Page → Option Room
rom_room pages = option_and_then (λ room. if room_size room == rom_size_of pages then Some room else None) (rom_span pages)
