-- The memory at power-on of chips of which power-on makes the same.
use Rattle.std.proofs.Common.{◌≡◌, ℕ, ◌+◌, ◌/◌, ◌<◌, true, List, [], ◌∷◌, map, refl, sym, ap}
use Rattle.std.proofs.Common.{ap₂, ◌∙◌, subst, ◌⊎◌, ⊎_elim}
use Rattle.std.proofs.lemmas.Bool.{cases_eq}
use Rattle.std.specs.Prelude.{Option, Some, None, option_map, filter_map, is_some, slice_get}
use Rattle.std.specs.List.{enumerate_from}
use Rattle.std.proofs.lemmas.List.{ext_get_or}
use Rattle.std.proofs.lemmas.Option.{slice_get-map}
use Rattle.f8_spec.specs.BusArbitration.{Seat, seat_of}
use Rattle.f8_spec.specs.ChipState.{ChipView, held_byte, holds, place_of, powered, sort_at}
use Rattle.f8_spec.specs.declared.chips.PageSort.{PageSort}
use Rattle.console_spec.specs.AddressSpace.{byte_at}
use Rattle.console_spec.specs.FlatMemory.{first_byte, first_byte_by, first_memory, fill_of_owner, fixed_byte_by, owner_of}
use Rattle.console_spec.specs.FlatMemory.{only_of, sort_among, sort_of}
use Rattle.console_spec.specs.declared.Sort.{Sort}
use Rattle.console_spec.specs.declared.Sort.TheVariants.{Nothing, Shared}
use Rattle.f8_machine.proofs.Holding.{Held, held_in}
use Rattle.f8_machine.specs.RackViews.{HeldOnce, HoldsFlat}
use Rattle.f8_machine.proofs.FirstViews.{byte_at-first_memory, first_flat, length-first_memory, powered_views}
use Rattle.f8_machine.proofs.FirstViews.{seats-powered_views}
use Rattle.f8_machine.proofs.Kept.{Comes, OneKept, comes, one_kept}
use Rattle.rewind.specs.PowerAlike.{PowerAlike, RacksPowerAlike}

-- ---- the chips at power-on

powered_from : (fill start : ℕ → ℕ) (n : ℕ) (us vs : List ChipView) → RacksPowerAlike us vs →
    map (λ x. powered (fill x.0) (start x.0) x.1) (enumerate_from n us)
    ≡ map (λ x. powered (fill x.0) (start x.0) x.1) (enumerate_from n vs)
powered_from fill start n [] [] alike = refl
powered_from fill start n [] (v ∷ vs) alike = absurd alike
powered_from fill start n (u ∷ us) [] alike = absurd alike
powered_from fill start n (u ∷ us) (v ∷ vs) alike =
    ap₂ (λ (w : ChipView) (ws : List ChipView). w ∷ ws) (alike.0 (fill n) (start n)) (powered_from fill start (n + 1) us vs alike.1)

pub powered_same : (fill start : ℕ → ℕ) (us vs : List ChipView) → RacksPowerAlike us vs →
    powered_views fill start us ≡ powered_views fill start vs
powered_same fill start us vs alike = powered_from fill start 0 us vs alike

pub seats_same : (us vs : List ChipView) → RacksPowerAlike us vs → map seat_of us ≡ map seat_of vs
seats_same us vs alike =
    sym (seats-powered_views (λ k. 0) (λ k. 0) us) ∙ ap (map seat_of) (powered_same (λ k. 0) (λ k. 0) us vs alike)
    ∙ seats-powered_views (λ k. 0) (λ k. 0) vs

-- ---- a byte of the memory

-- a chip that has a sort at an address holds it, and one that holds it has a sort
sorted_held : (v : ChipView) (at : ℕ) (sort : PageSort) → sort_at v.pages at ≡ Some sort → holds v at ≡ true
sorted_held v at sort is = by (place_of v.pages (at / 256)) refl
  where
    by : (o : Option ℕ) → place_of v.pages (at / 256) ≡ o → is_some (place_of v.pages (at / 256)) ≡ true
    by None none = let unsorted : sort_at v.pages at ≡ None = rw none refl in cc
    by (Some place) some = rw some refl

-- the one chip that holds an address
record Sole (vs : List ChipView) (at : ℕ) : Type 0 where
  place : ℕ
  chip : ChipView
  lies : slice_get vs place ≡ Some chip
  held : holds chip at ≡ true
  once : HeldOnce vs at place

-- where the address has one sort, one chip holds it
sole : (vs : List ChipView) (at : ℕ) (sort : PageSort) → filter_map (λ s. sort_at s.pages at) (map seat_of vs) ≡ sort ∷ [] → Sole vs at
sole vs at sort is =
    let one : OneKept (λ (s : Seat). sort_at s.pages at) (map seat_of vs) sort =
    one_kept (λ s. sort_at s.pages at) (map seat_of vs) sort is in
    let chip : Comes seat_of (slice_get vs one.place) one.element =
    comes seat_of (slice_get vs one.place) one.element (sym (slice_get-map seat_of vs one.place) ∙ one.lies) in
    record {
      place = one.place;
      chip = chip.from;
      lies = chip.is;
      held = sorted_held chip.from at sort (ap (λ (s : Seat). sort_at s.pages at) (sym chip.gives) ∙ one.kept);
      once = λ j w lies held. alone one j w lies held (cases_eq j one.place);
    }
  where
    alone : (one : OneKept (λ (s : Seat). sort_at s.pages at) (map seat_of vs) sort) (j : ℕ) (w : ChipView) →
        slice_get vs j ≡ Some w → holds w at ≡ true → (j ≡ one.place) ⊎ (j ≡ one.place → ⊥) → j ≡ one.place
    alone one j w lies held cases = ⊎_elim (λ same. same) apart cases
      where
        apart : (j ≡ one.place → ⊥) → j ≡ one.place
        apart other =
            let none : sort_at w.pages at ≡ None =
            one.others j (seat_of w) (slice_get-map seat_of vs j ∙ ap (option_map seat_of) lies) other in
            let page : Held w.pages at = held_in w.pages at held in
            let some : sort_at w.pages at ≡ Some page.page.sort = page.sorted in
            cc

-- an address that no chip holds, or several, reads as 255
unread : (vs : List ChipView) (fill : ℕ → ℕ) (at : ℕ) (sort : Sort) → sort_of (map seat_of vs) at ≡ sort →
    first_byte vs fill at ≡ first_byte_by sort (fill_of_owner fill (owner_of (map seat_of vs) at))
    (fixed_byte_by sort (only_of (filter_map (λ v. held_byte v at) vs)))
unread vs fill at sort is = ap (λ s. first_byte_by s (fill_of_owner fill (owner_of (map seat_of vs) at))
    (fixed_byte_by s (only_of (filter_map (λ v. held_byte v at) vs)))) is

module _ (us vs : List ChipView) (alike : PowerAlike us vs) (fill : ℕ → ℕ) where
  first_same_at : (at : ℕ) → at < 65536 → byte_at (first_memory us fill) at ≡ byte_at (first_memory vs fill) at
  first_same_at at small = by (filter_map (λ s. sort_at s.pages at) (map seat_of us)) refl
    where
      seats : map seat_of vs ≡ map seat_of us
      seats = sym (seats_same us vs alike.alike)

      sorts : (found : List PageSort) → filter_map (λ s. sort_at s.pages at) (map seat_of us) ≡ found →
          sort_of (map seat_of vs) at ≡ sort_among found
      sorts found is = ap (λ (ss : List Seat). sort_of ss at) seats ∙ ap sort_among is

      by : (found : List PageSort) → filter_map (λ s. sort_at s.pages at) (map seat_of us) ≡ found →
          byte_at (first_memory us fill) at ≡ byte_at (first_memory vs fill) at
      by [] is = byte_at-first_memory us fill at small ∙ unread us fill at Nothing (ap sort_among is)
          ∙ sym (unread vs fill at Nothing (sorts [] is)) ∙ sym (byte_at-first_memory vs fill at small)
      by (s ∷ (t ∷ later)) is = byte_at-first_memory us fill at small ∙ unread us fill at Shared (ap sort_among is)
          ∙ sym (unread vs fill at Shared (sorts (s ∷ (t ∷ later)) is)) ∙ sym (byte_at-first_memory vs fill at small)
      by (s ∷ []) is =
          let ws : List ChipView = powered_views fill (λ k. 0) us in
          let owner : Sole ws at = sole ws at s
          (ap (filter_map (λ (x : Seat). sort_at x.pages at)) (seats-powered_views fill (λ k. 0) us) ∙ is) in
          let own : HoldsFlat (first_memory us fill) ws = first_flat fill (λ k. 0) us alike.filled in
          let other : HoldsFlat (first_memory vs fill) ws =
          subst (HoldsFlat (first_memory vs fill)) (sym (powered_same fill (λ k. 0) us vs alike.alike))
          (first_flat fill (λ k. 0) vs alike.filled_first) in
          let here : held_byte owner.chip at ≡ Some (byte_at (first_memory us fill) at) =
          own owner.place owner.chip at small owner.lies owner.held owner.once in
          let there : held_byte owner.chip at ≡ Some (byte_at (first_memory vs fill) at) =
          other owner.place owner.chip at small owner.lies owner.held owner.once in
          let both : Some (byte_at (first_memory us fill) at) ≡ Some (byte_at (first_memory vs fill) at) = sym here ∙ there in
          cc

  pub first_same : first_memory us fill ≡ first_memory vs fill
  first_same = ext_get_or 255 (first_memory us fill) (first_memory vs fill)
      (length-first_memory us fill ∙ sym (length-first_memory vs fill))
      (λ at within. first_same_at at (subst (λ n. at < n) (length-first_memory us fill) within))
