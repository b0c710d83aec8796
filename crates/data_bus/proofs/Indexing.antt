-- The index of a rack, page by page.
use Rattle.std.proofs.Common.{◌≡◌, ℕ, ◌+◌, ◌*◌, ◌/◌, ◌<◌, Bool, true, false, List, [], ◌∷◌, length, get_or, refl, ap, subst, ◌∙◌}
use Rattle.std.proofs.Common.{arith, get_or-set_other, get_or-set_same, below_more, ◌≢◌}
use Rattle.std.specs.Prelude.{◌&&◌, ◌||◌, ◌==◌, not, nat_lt, if◌then◌else◌, Option, Some, is_some, option_map}
use Rattle.std.specs.List.{list_any}
use Rattle.std.proofs.Math.ListN.{set}
use Rattle.f8_spec.specs.ChipState.{has_second_counter, place_of}
use Rattle.f8_spec.specs.BusArbitration.{Seat}
use Rattle.f8_spec.specs.declared.bus.BusRule.{BusRule}
use Rattle.f8_spec.specs.declared.chips.Page.{Page}
use Rattle.data_bus.specs.PageIndex.{Lists, holding}
use Rattle.data_bus.specs.Questions.{AskedAtMost}
use Rattle.data_bus.specs.Racks.{NumberedZip}
use Rattle.data_bus.specs.Surveys.{parts_at}
use Rattle.data_bus.specs.declared.page_sockets.Sockets.{Sockets}
use Rattle.data_bus.specs.declared.page_sockets.Sockets.TheVariants.{NoOne}
use Rattle.data_bus.proofs.Answers.{is_some_mapped}

-- ---- the lists

-- those of the pages below one are written
abbrev pub ListsBelow : BusRule → List Seat → ℕ → List Sockets → Type 0
ListsBelow rule these n written = (page : ℕ) → page < n → Lists (get_or written page NoOne) (holding rule (page * 256) 0 these)

-- one more is written
pub lists-more : (rule : BusRule) (these : List Seat) (n : ℕ) (written : List Sockets) (sockets : Sockets) → n < length written →
    ListsBelow rule these n written → Lists sockets (holding rule (n * 256) 0 these) → ListsBelow rule these (n + 1) (set written n sockets)
lists-more rule these n written sockets within before here =
    below_more (λ page. Lists (get_or (set written n sockets) page NoOne) (holding rule (page * 256) 0 these)) n
    (λ page below. let other : page ≢ n = omega arith in rw get_or-set_other (before page below))
    (rw get_or-set_same here)

-- ---- chips that part

-- a chip holds a page below a number, and has no second data counter
abbrev pub parts_below : ℕ → Seat → Bool
parts_below n s = list_any (λ page. nat_lt page.number n) s.pages && not (has_second_counter s.kind)

lt_more : (m n : ℕ) → nat_lt m (n + 1) ≡ (nat_lt m n || (m == n))
lt_more m n = grind arith

not_below : (m : ℕ) → nat_lt m 0 ≡ false
not_below m = grind arith

shuffled : (a b c d : Bool) → ((a || b) || (c || d)) ≡ ((a || c) || (b || d))
shuffled true b c d = refl
shuffled false true true d = refl
shuffled false true false d = refl
shuffled false false true d = refl
shuffled false false false d = refl

placed_more : (b : Bool) (o : Option ℕ) → is_some (if b then Some 0 else option_map (λ place. place + 1) o) ≡ (b || is_some o)
placed_more true o = refl
placed_more false o = is_some_mapped (λ place. place + 1) o

pages_more : (n : ℕ) (pages : List Page) →
    list_any (λ page. nat_lt page.number (n + 1)) pages ≡ (list_any (λ page. nat_lt page.number n) pages || is_some (place_of pages n))
pages_more n [] = refl
pages_more n (page ∷ pages) =
    rw (lt_more page.number n, pages_more n pages, placed_more (page.number == n) (place_of pages n))
    (shuffled (nat_lt page.number n) (page.number == n) (list_any (λ p. nat_lt p.number n) pages) (is_some (place_of pages n)))

pages_none : (pages : List Page) → list_any (λ page. nat_lt page.number 0) pages ≡ false
pages_none [] = refl
pages_none (page ∷ pages) = rw (not_below page.number) (pages_none pages)

and_or : (a b c : Bool) → ((a || b) && c) ≡ ((a && c) || (b && c))
and_or true b true = refl
and_or true b false = both b
  where
    both : (b : Bool) → false ≡ (b && false)
    both true = refl
    both false = refl
and_or false b c = refl

parts_more : (n : ℕ) (s : Seat) → parts_below (n + 1) s ≡ (parts_below n s || parts_at (n * 256) s)
parts_more n s =
    let here : n * 256 / 256 ≡ n = omega arith in
    rw (pages_more n s.pages, here)
    (and_or (list_any (λ page. nat_lt page.number n) s.pages) (is_some (place_of s.pages n)) (not (has_second_counter s.kind)))

pub any-parts-more : (n : ℕ) (these : List Seat) (found : Bool) → found ≡ list_any (parts_at (n * 256)) these →
    (list_any (parts_below n) these || found) ≡ list_any (parts_below (n + 1)) these
any-parts-more n these found is = ap (λ b. list_any (parts_below n) these || b) is ∙ all these
  where
    all : (these : List Seat) → (list_any (parts_below n) these || list_any (parts_at (n * 256)) these) ≡ list_any (parts_below (n + 1)) these
    all [] = refl
    all (s ∷ these) =
        rw (parts_more n s, ← all these)
        (shuffled (parts_below n s) (list_any (parts_below n) these) (parts_at (n * 256) s) (list_any (parts_at (n * 256)) these))

pub any-parts-none : (these : List Seat) → false ≡ list_any (parts_below 0) these
any-parts-none [] = refl
any-parts-none (s ∷ these) = rw (pages_none s.pages) (any-parts-none these)

-- ---- the questions

pub asked-nothing : (n : ℕ) (counts : List ℕ) → NumberedZip (AskedAtMost 0) n counts counts
asked-nothing n [] = tt
asked-nothing n (count ∷ counts) = (omega arith, asked-nothing (n + 1) counts)

asked-twice : (first second n : ℕ) (xs ys zs : List ℕ) → NumberedZip (AskedAtMost first) n xs ys →
    NumberedZip (AskedAtMost second) n ys zs → NumberedZip (AskedAtMost (first + second)) n xs zs
asked-twice first second n [] [] [] a b = tt
asked-twice first second n [] [] (z ∷ zs) a b = absurd b
asked-twice first second n [] (y ∷ ys) zs a b = absurd a
asked-twice first second n (x ∷ xs) [] zs a b = absurd a
asked-twice first second n (x ∷ xs) (y ∷ ys) [] a b = absurd b
asked-twice first second n (x ∷ xs) (y ∷ ys) (z ∷ zs) a b =
    let before = a.0 in
    let after = b.0 in
    (omega (arith, before, after), asked-twice first second (n + 1) xs ys zs a.1 b.1)

-- one page more
pub asked-page : (page : ℕ) (xs ys zs : List ℕ) → NumberedZip (AskedAtMost (2 * page)) 0 xs ys → NumberedZip (AskedAtMost 2) 0 ys zs →
    NumberedZip (AskedAtMost (2 * (page + 1))) 0 xs zs
asked-page page xs ys zs before here =
    let twice : 2 * page + 2 ≡ 2 * (page + 1) = omega arith in
    subst (λ (n : ℕ). NumberedZip (AskedAtMost n) 0 xs zs) twice (asked-twice (2 * page) 2 0 xs ys zs before here)
