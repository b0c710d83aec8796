-- What counts over all chips in any order, with blank ones counting nothing, is the same of chips and of the sockets in which they sit.
use Rattle.std.proofs.Common.{◌≡◌, ℕ, ◌+◌, Bool, true, false, ◌||◌, List, [], ◌∷◌, ◌++◌, length, refl, ap, sym, ◌∙◌, arith}
use Rattle.std.specs.Prelude.{Option, Some, None, filter, if◌then◌else◌}
use Rattle.std.specs.List.{list_any, cons_option}
use Rattle.f8_spec.specs.ChipState.{sort_at}
use Rattle.f8_spec.specs.BusArbitration.{Seat}
use Rattle.f8_spec.specs.declared.chips.PageSort.{PageSort}
use Rattle.f8_spec.specs.declared.chips.PageSort.TheVariants.{Rom as RomPage, Ram as RamPage, Void as VoidPage}
use Rattle.console_spec.specs.FlatMemory.{sort_among, sort_of}
use Rattle.console_spec.specs.declared.Sort.{Sort}
use Rattle.console_spec.specs.declared.Sort.TheVariants.{Rom, Ram, Void, Nothing, Shared}
use Rattle.abs_step.specs.RackSeats.{IsBlank, AreSeated, none_left, blank, chip}

-- a sum over chips, in which no order matters and a blank chip is nothing
pub record Tally (M : Type 0) : Type 0 where
  pub nothing : M
  pub plus : M → M → M
  pub of : Seat → M
  pub left : (x : M) → plus nothing x ≡ x
  pub assoc : (x y z : M) → plus (plus x y) z ≡ plus x (plus y z)
  pub comm : (x y : M) → plus x y ≡ plus y x
  pub blank : (s : Seat) → IsBlank s → of s ≡ nothing

module _ {M : Type 0} (t : Tally M) where
  abbrev pub total : List Seat → M
  total [] = t.nothing
  total (s ∷ ss) = t.plus (t.of s) (total ss)

  exchanged : (x y z : M) → t.plus x (t.plus y z) ≡ t.plus y (t.plus x z)
  exchanged x y z = sym (t.assoc x y z) ∙ ap (λ w. t.plus w z) (t.comm x y) ∙ t.assoc y x z

  taken_out : (before : List Seat) (s : Seat) (after : List Seat) → total (before ++ s ∷ after) ≡ t.plus (t.of s) (total (before ++ after))
  taken_out [] s after = refl
  taken_out (b ∷ before) s after = rw (taken_out before s after) (exchanged (t.of b) (t.of s) (total (before ++ after)))

  pub same_total : {chips sockets : List Seat} → AreSeated chips sockets → total sockets ≡ total chips
  same_total none_left = refl
  same_total (blank {chips} {sockets} {s} is later) =
      ap (λ x. t.plus x (total sockets)) (t.blank s is) ∙ t.left (total sockets) ∙ same_total later
  same_total (chip before after {sockets} {s} later) = ap (t.plus (t.of s)) (same_total later) ∙ sym (taken_out before s after)

-- ---- whether some chip passes a test, how many do, and what an address is

module _ (test : Seat → Bool) (fails : (s : Seat) → IsBlank s → test s ≡ false) where
  either_assoc : (x y z : Bool) → ((x || y) || z) ≡ (x || (y || z))
  either_assoc true y z = refl
  either_assoc false y z = refl

  either_comm : (x y : Bool) → (x || y) ≡ (y || x)
  either_comm true true = refl
  either_comm true false = refl
  either_comm false true = refl
  either_comm false false = refl

  some_tally : Tally Bool
  some_tally = record {
    nothing = false;
    plus = λ x y. x || y;
    of = test;
    left = λ x. refl;
    assoc = either_assoc;
    comm = either_comm;
    blank = fails;
  }

  some_total : (ss : List Seat) → list_any test ss ≡ total some_tally ss
  unfolding some_tally
  some_total [] = refl
  some_total (s ∷ ss) = ap (λ (b : Bool). test s || b) (some_total ss)

  pub same_some : {chips sockets : List Seat} → AreSeated chips sockets → list_any test sockets ≡ list_any test chips
  same_some {chips} {sockets} seated = some_total sockets ∙ same_total some_tally seated ∙ sym (some_total chips)

  count_tally : Tally ℕ
  count_tally = record {
    nothing = 0;
    plus = λ x y. x + y;
    of = λ s. if test s then 1 else 0;
    left = λ x. omega arith;
    assoc = λ x y z. omega arith;
    comm = λ x y. omega arith;
    blank = λ s is. rw (fails s is) refl;
  }

  count_total : (ss : List Seat) → length (filter test ss) ≡ total count_tally ss
  unfolding count_tally
  count_total [] = refl
  count_total (s ∷ ss) = by (test s) (count_total ss)
    where
      by : (b : Bool) → length (filter test ss) ≡ total count_tally ss →
          length (if b then s ∷ filter test ss else filter test ss) ≡ (if b then 1 else 0) + total count_tally ss
      by true rest = omega (arith, rest)
      by false rest = omega (arith, rest)

  pub same_count : {chips sockets : List Seat} → AreSeated chips sockets → length (filter test sockets) ≡ length (filter test chips)
  same_count {chips} {sockets} seated = count_total sockets ∙ same_total count_tally seated ∙ sym (count_total chips)

-- two chips that hold an address share it
abbrev with_sort : Sort → Sort → Sort
with_sort Nothing y = y
with_sort Rom Nothing = Rom
with_sort Ram Nothing = Ram
with_sort Void Nothing = Void
with_sort Shared Nothing = Shared
with_sort x y = Shared

abbrev sort_by_page : Option PageSort → Sort
sort_by_page None = Nothing
sort_by_page (Some RomPage) = Rom
sort_by_page (Some RamPage) = Ram
sort_by_page (Some VoidPage) = Void

sorts_assoc : (x y z : Sort) → with_sort (with_sort x y) z ≡ with_sort x (with_sort y z)
sorts_assoc Nothing y z = refl
sorts_assoc Rom Nothing z = refl
sorts_assoc Ram Nothing z = refl
sorts_assoc Void Nothing z = refl
sorts_assoc Shared Nothing z = refl
sorts_assoc x y Nothing = refl
sorts_assoc x y z = refl

sorts_comm : (x y : Sort) → with_sort x y ≡ with_sort y x
sorts_comm Nothing Nothing = refl
sorts_comm x Nothing = refl
sorts_comm x y = refl

sort_tally : ℕ → Tally Sort
sort_tally at = record {
  nothing = Nothing;
  plus = with_sort;
  of = λ s. sort_by_page (sort_at s.pages at);
  left = λ x. refl;
  assoc = sorts_assoc;
  comm = sorts_comm;
  blank = λ s is. rw is.pages refl;
}

shares : (p : PageSort) (y : Sort) → (y ≡ Nothing → ⊥) → with_sort (sort_by_page (Some p)) y ≡ Shared
shares p Nothing held = absurd (held refl)
shares RomPage Rom held = refl
shares RamPage Rom held = refl
shares VoidPage Rom held = refl
shares RomPage y held = refl
shares RamPage y held = refl
shares VoidPage y held = refl

is_held : (p : PageSort) (ps : List PageSort) → sort_among (p ∷ ps) ≡ Nothing → ⊥
is_held RomPage [] none = absurd (cc)
is_held RamPage [] none = absurd (cc)
is_held VoidPage [] none = absurd (cc)
is_held RomPage (q ∷ qs) none = absurd (cc)
is_held RamPage (q ∷ qs) none = absurd (cc)
is_held VoidPage (q ∷ qs) none = absurd (cc)

one_more : (o : Option PageSort) (ps : List PageSort) → sort_among (cons_option o ps) ≡ with_sort (sort_by_page o) (sort_among ps)
one_more None ps = refl
one_more (Some RomPage) [] = refl
one_more (Some RamPage) [] = refl
one_more (Some VoidPage) [] = refl
one_more (Some RomPage) (q ∷ qs) = sym (shares RomPage _ (is_held q qs))
one_more (Some RamPage) (q ∷ qs) = sym (shares RamPage _ (is_held q qs))
one_more (Some VoidPage) (q ∷ qs) = sym (shares VoidPage _ (is_held q qs))

sort_total : (at : ℕ) (ss : List Seat) → sort_of ss at ≡ total (sort_tally at) ss
unfolding sort_tally
sort_total at [] = refl
sort_total at (s ∷ ss) = one_more (sort_at s.pages at) _ ∙ ap (with_sort (sort_by_page (sort_at s.pages at))) (sort_total at ss)

pub same_sort : (at : ℕ) {chips sockets : List Seat} → AreSeated chips sockets → sort_of sockets at ≡ sort_of chips at
same_sort at {chips} {sockets} seated = sort_total at sockets ∙ same_total (sort_tally at) seated ∙ sym (sort_total at chips)
