-- Pages that are filled one after another.
use Rattle.std.proofs.Common.{◌≡◌, ℕ, ◌+◌, ◌*◌, ◌<◌, ◌≤◌, Bool, true, false, List, ◌++◌, length, get_or, take, drop}
use Rattle.std.proofs.Common.{refl, sym, ◌∙◌, arith, append_assoc, length-append, length-drop}
use Rattle.std.specs.Prelude.{if◌then◌else◌, replicate}
use Rattle.std.proofs.lemmas.List.{drop_more, take_all, length-take, length-take-le, length-replicate, drop-drop}
use Rattle.std.proofs.lemmas.Slice.{take-put_mid, drop-put_mid}
use borrow.Rule.Slice.PartMut.{put_mid, mid_of}
use Rattle.f8_spec.specs.ChipState.{filled_bytes, is_ram}
use Rattle.f8_spec.specs.declared.chips.Page.{Page}
use Rattle.f8_spec.specs.declared.chips.PageSort.{PageSort}
use Rattle.f8_spec.specs.declared.chips.PageSort.TheVariants.{Rom, Ram, Void}
use Rattle.chip_face.specs.Fitting.{page_bytes, page_content, rom_after, rom_size}
use Rattle.chip_face.proofs.RomPages.{rom_count, size_counted, length-page_content}

-- ---- the bytes of a specification

-- a page takes its bytes from the front of the ROM, and leaves what is behind them
own_bytes : (sort : PageSort) (rom : List ℕ) → page_content sort (take (rom_size sort) rom) ≡ page_content sort rom
own_bytes Rom rom = take_take rom
  where
    take_take : (xs : List ℕ) → take 256 (take 256 xs) ≡ take 256 xs
    take_take xs = take_all 256 (take 256 xs) (omega (arith, length-take 256 xs))
own_bytes Ram rom = refl
own_bytes Void rom = refl

bytes_after : (sort : PageSort) (rom : List ℕ) → drop (rom_size sort) rom ≡ rom_after sort rom
bytes_after Rom rom = refl
bytes_after Ram rom = refl
bytes_after Void rom = refl

-- a whole page of ROM
pub whole_page : (sort : PageSort) (rom : List ℕ) → length rom ≡ rom_size sort → sort ≡ Rom → page_content sort rom ≡ rom
whole_page Rom rom size same = take_all 256 rom (omega arith)
whole_page Ram rom size same = cc
whole_page Void rom size same = cc

-- Some pages are made: with what is left of the ROM, the others make the whole.
pub record Filling (pages : List Page) (rom bytes rest : List ℕ) (i : ℕ) : Type 0 where
  pub made : bytes ++ page_bytes (drop i pages) rest ≡ page_bytes pages rom
  pub left : length rest ≡ 256 * rom_count (drop i pages)
  pub size : length bytes ≡ i * 256

-- the ROM has the bytes of the next page
pub Filling-enough : (pages : List Page) (rom bytes rest : List ℕ) (i : ℕ) (d : Page) → i < length pages → Filling pages rom bytes rest i →
    rom_size (get_or pages i d).sort ≤ length rest
Filling-enough pages rom bytes rest i d within before =
    let all = rw (drop_more pages i d within) at before.left in
    omega (arith, size_counted (get_or pages i d) (drop (i + 1) pages))

pub Filling-more : (pages : List Page) (rom bytes rest : List ℕ) (i own : ℕ) (d : Page) → i < length pages → own ≡ rom_size (get_or pages i d).sort →
    Filling pages rom bytes rest i →
    Filling pages rom (bytes ++ page_content (get_or pages i d).sort (take own rest)) (drop own rest) (i + 1)
Filling-more pages rom bytes rest i own d within size before = rw size (record {
  made =
      let whole = rw (drop_more pages i d within) at before.made in
      rw (own_bytes page.sort rest, bytes_after page.sort rest, append_assoc) whole;
  left =
      let all = rw (drop_more pages i d within) at before.left in
      omega (arith, size_counted page (drop (i + 1) pages), length-drop (rom_size page.sort) rest);
  size =
      let content = length-page_content page.sort rest (Filling-enough pages rom bytes rest i d within before) in
      rw (own_bytes page.sort rest, length-append) (let b = before.size in omega arith);
})
  where
    page : Page
    page = get_or pages i d

-- ---- RAM at power-on

-- Some pages are filled: with the others it is the whole that is filled.
pub record Filled (fill : ℕ) (pages : List Page) (first now : List ℕ) (i : ℕ) : Type 0 where
  pub made : take (i * 256) now ++ filled_bytes fill (drop i pages) (drop (i * 256) now) ≡ filled_bytes fill pages first
  pub size : length now ≡ length pages * 256

length-own : (ram : Bool) (fill : ℕ) (page : List ℕ) → 256 ≤ length page → length (if ram then replicate 256 fill else take 256 page) ≡ 256
length-own true fill page whole = length-replicate {A = ℕ} 256 fill
length-own false fill page whole = length-take-le 256 page whole

pub Filled-more : (fill : ℕ) (pages : List Page) (first now own : List ℕ) (i size : ℕ) (d : Page) → i < length pages → size ≡ 256 →
    own ≡ (if is_ram (get_or pages i d).sort then replicate 256 fill else mid_of (i * 256) size now) → Filled fill pages first now i →
    Filled fill pages first (put_mid (i * 256) size now own) (i + 1)
Filled-more fill pages first now own i size d within page_size written before = record {
  made =
      let whole = rw (drop_more pages i d within) at before.made in
      let behind : drop 256 (drop (i * 256) now) ≡ drop ((i + 1) * 256) now = rw (drop-drop 256 (i * 256) now, next) refl in
      rw (
        take-put_mid (i * 256) size now own ((i + 1) * 256) (rw (own_size, next) refl) start_within,
        drop-put_mid (i * 256) size now own ((i + 1) * 256) (omega arith) start_within (own_size ∙ sym page_size),
        filled,
        append_assoc,
      )
      (rw behind at whole);
  size =
      let made = before.size in
      rw (length-append, length-append) (omega (
        arith,
        length-take-le (i * 256) now start_within,
        length-drop size (drop (i * 256) now),
        length-drop (i * 256) now,
        in_bytes,
        own_size,
      ));
}
  where
    filled : own ≡ (if is_ram (get_or pages i d).sort then replicate 256 fill else take 256 (drop (i * 256) now))
    filled = rw page_size at written

    next : (i + 1) * 256 ≡ i * 256 + 256
    next = omega arith

    in_bytes : i * 256 + 256 ≤ length now
    in_bytes = let size = before.size in omega arith

    start_within : i * 256 ≤ length now
    start_within = let all = in_bytes in omega arith

    own_size : length own ≡ 256
    own_size = rw filled (length-own (is_ram (get_or pages i d).sort) fill (drop (i * 256) now) (let all = in_bytes in
        omega (arith, length-drop (i * 256) now)))
