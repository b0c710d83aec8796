-- The chips that hold an address, by what the address is; and the chips that have a port.
use Rattle.std.proofs.Common.{◌≡◌, ℕ, ◌+◌, ◌/◌, Bool, true, false, List, [], ◌∷◌, refl, inl, inr, add-one}
use Rattle.std.specs.Prelude.{Option, Some, None, is_some, option_map, option_and_then, slice_get, filter_map, ◌==◌, if◌then◌else◌}
use Rattle.std.specs.List.{AllByRecursion}
use Rattle.f8_spec.specs.ChipState.{place_of, sort_at, is_ram}
use Rattle.f8_spec.specs.BusArbitration.{Seat, seat_holds, seat_has_ram}
use Rattle.f8_spec.specs.declared.chips.Page.{Page}
use Rattle.f8_spec.specs.declared.chips.PageSort.{PageSort}
use Rattle.f8_spec.specs.declared.chips.PageSort.TheVariants.{Rom, Ram, Void}
use Rattle.console_spec.specs.FlatMemory.{sort_among, sort_of}
use Rattle.console_spec.specs.declared.Sort.TheVariants.{Shared}
use Rattle.memory_map.specs.MapKinds.{has_pages, is_held}
use Rattle.abs_step.proofs.Members.{SomeOf}

-- ---- one chip

same_sorted : (o : Option ℕ) (p : Page) (ps : List Page) →
    is_some o ≡ is_some (option_and_then (λ place. option_map (λ (q : Page). q.sort) (slice_get ps place)) o) →
    is_some (option_map (λ place. place + 1) o)
    ≡ is_some (option_and_then (λ place. option_map (λ (q : Page). q.sort) (slice_get (p ∷ ps) place)) (option_map (λ place. place + 1) o))
same_sorted None p ps h = refl
same_sorted (Some place) p ps h = rw add-one h

-- the place of a page is that of a page with its sort
holds_sorted : (pages : List Page) (number : ℕ) → is_some (place_of pages number)
    ≡ is_some (option_and_then (λ place. option_map (λ (p : Page). p.sort) (slice_get pages place)) (place_of pages number))
holds_sorted [] number = refl
holds_sorted (p ∷ ps) number = by (p.number == number) (same_sorted (place_of ps number) p ps (holds_sorted ps number))
  where
    by : (b : Bool) → is_some (option_map (λ place. place + 1) (place_of ps number))
        ≡ is_some (option_and_then (λ place. option_map (λ (q : Page). q.sort) (slice_get (p ∷ ps) place))
        (option_map (λ place. place + 1) (place_of ps number))) →
        is_some (if b then Some 0 else option_map (λ place. place + 1) (place_of ps number))
        ≡ is_some (option_and_then (λ place. option_map (λ (q : Page). q.sort) (slice_get (p ∷ ps) place))
        (if b then Some 0 else option_map (λ place. place + 1) (place_of ps number)))
    by true rest = refl
    by false rest = rest

pub seat_sorted : (s : Seat) (at : ℕ) → seat_holds s at ≡ is_some (sort_at s.pages at)
seat_sorted s at = holds_sorted s.pages (at / 256)

-- a chip that has RAM at an address holds it
pub ram_is_held : (s : Seat) (at : ℕ) → seat_has_ram s at ≡ true → seat_holds s at ≡ true
ram_is_held s at ram = rw (seat_sorted s at) (by (sort_at s.pages at) ram)
  where
    by : (o : Option PageSort) → is_some (option_and_then (λ sort. if is_ram sort then Some sort else None) o) ≡ true → is_some o ≡ true
    by None some = some
    by (Some sort) some = refl

-- a chip that holds an address has pages
pub holder_has_pages : (s : Seat) (at : ℕ) → seat_holds s at ≡ true → has_pages s.pages ≡ true
holder_has_pages s at holds = by s.pages holds
  where
    by : (ps : List Page) → is_some (place_of ps (at / 256)) ≡ true → has_pages ps ≡ true
    by [] some = some
    by (p ∷ ps) some = refl

-- ---- the chips that hold an address

abbrev pub NotHeld : ℕ → Seat → Type 0
NotHeld at s = seat_holds s at ≡ false

-- at most one of some chips holds an address
abbrev pub HeldByOne : ℕ → List Seat → Type 0
HeldByOne at [] = Unit {0}
HeldByOne at (s ∷ ss) = (seat_holds s at ≡ true → AllByRecursion (NotHeld at) ss) × HeldByOne at ss

none_hold : (at : ℕ) (ss : List Seat) → filter_map (λ (s : Seat). sort_at s.pages at) ss ≡ [] → AllByRecursion (NotHeld at) ss
none_hold at [] none = tt
none_hold at (s ∷ ss) none = by (sort_at s.pages at) refl (none_hold at ss)
  where
    by : (o : Option PageSort) → sort_at s.pages at ≡ o →
        (filter_map (λ (t : Seat). sort_at t.pages at) ss ≡ [] → AllByRecursion (NotHeld at) ss) → AllByRecursion (NotHeld at) (s ∷ ss)
    by None e later = (rw (seat_sorted s at, e) refl, later (rw e at none))
    by (Some sort) e later = absurd (cc (rw e at none))

one_of_none : (at : ℕ) (ss : List Seat) → AllByRecursion (NotHeld at) ss → HeldByOne at ss
one_of_none at [] none = tt
one_of_none at (s ∷ ss) none = (λ holds. absurd (cc (none.0)), one_of_none at ss none.1)

-- of sorts that aren't shared behind one there are none
alone_among : (sort : PageSort) (rest : List PageSort) → (sort_among (sort ∷ rest) ≡ Shared → ⊥) → rest ≡ []
alone_among sort [] unshared = refl
alone_among Rom (t ∷ rest) unshared = absurd (unshared refl)
alone_among Ram (t ∷ rest) unshared = absurd (unshared refl)
alone_among Void (t ∷ rest) unshared = absurd (unshared refl)

pub held_by_one : (at : ℕ) (ss : List Seat) → (sort_of ss at ≡ Shared → ⊥) → HeldByOne at ss
held_by_one at [] unshared = tt
held_by_one at (s ∷ ss) unshared = by (sort_at s.pages at) refl (held_by_one at ss) (none_hold at ss)
  where
    by : (o : Option PageSort) → sort_at s.pages at ≡ o → ((sort_of ss at ≡ Shared → ⊥) → HeldByOne at ss) →
        (filter_map (λ (t : Seat). sort_at t.pages at) ss ≡ [] → AllByRecursion (NotHeld at) ss) → HeldByOne at (s ∷ ss)
    by None e later none = (λ holds. absurd (cc (seat_sorted s at)), later (rw e at unshared))
    by (Some sort) e later none =
        let nobody : AllByRecursion (NotHeld at) ss = none (alone_among sort _ (rw e at unshared)) in
        (λ holds. nobody, one_of_none at ss nobody)

-- an address that is held has a holder
pub some_hold : (at : ℕ) (ss : List Seat) → is_held (sort_of ss at) ≡ true → SomeOf (λ s. seat_holds s at ≡ true) ss
some_hold at [] held = absurd (cc)
some_hold at (s ∷ ss) held = by (sort_at s.pages at) refl (some_hold at ss)
  where
    by : (o : Option PageSort) → sort_at s.pages at ≡ o → (is_held (sort_of ss at) ≡ true → SomeOf (λ t. seat_holds t at ≡ true) ss) →
        SomeOf (λ t. seat_holds t at ≡ true) (s ∷ ss)
    by None e later = inr (later (rw e at held))
    by (Some sort) e later = inl (rw (seat_sorted s at, e) refl)
