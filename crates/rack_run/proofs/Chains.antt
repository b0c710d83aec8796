-- The chain of a description names the sockets in which its chips sit.
use Rattle.std.proofs.Common.{◌≡◌, ◌≢◌, ℕ, suc, ◌+◌, ◌-◌, ◌<◌, ◌≤◌, ◌⊎◌, inl, inr, Bool, true, false, List, [], ◌∷◌, ◌++◌, length}
use Rattle.std.proofs.Common.{arith, refl, sym, ap, ◌∙◌, subst, nat_lt}
use Rattle.std.specs.Prelude.{Option, Some, None, count_by, slice_get, ◌==◌, ◌||◌, not, ◌&&◌, if◌then◌else◌}
use Rattle.std.specs.List.{AllZip, list_any}
use Rattle.std.proofs.lemmas.Bool.Decides.{nat_tests}
use Rattle.std.proofs.lemmas.List.{append-nil, append_assoc}
use Rattle.std.proofs.lemmas.List.Elements.{filter-append}
use Rattle.std.proofs.lemmas.List.Folds.{list_any-append}
use Rattle.std.proofs.lemmas.List.Sums.{length-filter, sum_by-append, sum_by-cons}
use Rattle.f8_spec.specs.ChipState.{same_kind}
use Rattle.f8_spec.specs.declared.chips.ChipKind.{ChipKind}
use Rattle.f8_spec.specs.declared.chips.ChipKind.TheVariants.{Psu, Smi, Pio}
use Rattle.chip_face.specs.Fitting.{kind_of}
use Rattle.chip_face.specs.declared.specification.ChipSpec.{ChipSpec}
use Rattle.rack_run.specs.ChainLaw.{ChainLaw, SitsIn}
use Rattle.rack_run.specs.Seating.{of_kind, seat_at, no_sockets, counted, seated_from, seated, kinds_of}
use Rattle.rack_run.specs.Sockets.{sockets_of, needed_of, shortage_of, short_by, shortage_in, or_else, free_socket, with_socket, chain_with}
use Rattle.rack_run.specs.declared.sockets.Shortage.{Shortage}
use Rattle.f8_spec.proofs.SameKind.{itself, is_same, both_ways}
use Rattle.rack_run.proofs.CountedKinds.{count_own, count_other}

-- the socket of a kind with so many of its kind before it, in sockets of these kinds from one on
abbrev socket_of : ChipKind → ℕ → (ChipKind → ℕ) → ℕ → List ChipKind → Option ℕ
socket_of j n before socket [] = None
socket_of j n before socket (k ∷ kinds) =
    if same_kind j k && (before k == n) then Some socket else socket_of j n (counted k before) (socket + 1) kinds

-- a chain has of each kind just the first sockets, as many as are taken
abbrev pub HasFirst : (taken : ChipKind → ℕ) → List ℕ → (before : ChipKind → ℕ) (socket : ℕ) → List ChipKind → Type 0
HasFirst taken chain before socket [] = Unit {0}
HasFirst taken chain before socket (k ∷ kinds) =
    (list_any (λ held. held == socket) chain ≡ nat_lt (before k) (taken k))
    × HasFirst taken chain (counted k before) (socket + 1) kinds

-- none is taken
pub has_none : (before : ChipKind → ℕ) (socket : ℕ) (kinds : List ChipKind) → HasFirst no_sockets [] before socket kinds
has_none before socket [] = tt
has_none before socket (k ∷ kinds) = (grind (arith, nat_tests), has_none (counted k before) (socket + 1) kinds)

-- ---- numbers

passed : (b t : ℕ) → nat_lt b t ≡ true → (b == t) ≡ false
passed b t is = grind (arith, nat_tests)

passed_within : (b t : ℕ) → nat_lt b t ≡ true → b + 1 ≤ t
passed_within b t is = grind (arith, nat_tests)

met : (b t : ℕ) → nat_lt b t ≡ false → b ≤ t → (b == t) ≡ true
met b t is within = grind (arith, nat_tests)

-- ---- a free socket is the next of its kind

choose : (b t : ℕ) (socket : ℕ) (free next : Option ℕ) → b ≤ t → (b + 1 ≤ t → free ≡ next) →
    (if not (nat_lt b t) then Some socket else free) ≡ (if b == t then Some socket else next)
choose b t socket free next within later = by (nat_lt b t) refl
  where
    by : (taken : Bool) → nat_lt b t ≡ taken → (if not taken then Some socket else free) ≡ (if b == t then Some socket else next)
    by true is = rw (passed b t is) (later (passed_within b t is))
    by false is = rw (met b t is within) refl

pub free_is : (j : ChipKind) (taken : ChipKind → ℕ) (chain : List ℕ) (before : ChipKind → ℕ) (socket : ℕ) (kinds : List ChipKind) →
    HasFirst taken chain before socket kinds → before j ≤ taken j →
    free_socket j chain socket kinds ≡ socket_of j (taken j) before socket kinds
free_is j taken chain before socket [] has within = refl
free_is j taken chain before socket (k ∷ kinds) has within =
    by (same_kind j k) refl (λ later. free_is j taken chain (counted k before) (socket + 1) kinds has.1 later)
  where
    by : (own : Bool) → same_kind j k ≡ own →
        (counted k before j ≤ taken j →
        free_socket j chain (socket + 1) kinds ≡ socket_of j (taken j) (counted k before) (socket + 1) kinds) →
        (if own && not (list_any (λ held. held == socket) chain) then Some socket else free_socket j chain (socket + 1) kinds)
        ≡ (if own && (before k == taken j) then Some socket else socket_of j (taken j) (counted k before) (socket + 1) kinds)
    by true is go =
        let same : k ≡ j = is_same j k is in
        let held : list_any (λ held. held == socket) chain ≡ nat_lt (before j) (taken j) =
        subst (λ i. list_any (λ held. held == socket) chain ≡ nat_lt (before i) (taken i)) same has.0 in
        let one : counted k before j ≡ before j + 1 = ap (λ i. counted i before j) same ∙ count_own j before in
        rw (held, ap before same)
        (choose (before j) (taken j) socket _ _ within (λ later. go (omega (arith, one, later))))
    by false is go = go (omega (arith, count_other k j before is, within))

-- ---- what sits there

-- the socket found is one of these
socket_from : (j : ChipKind) (n : ℕ) (before : ChipKind → ℕ) (socket : ℕ) (kinds : List ChipKind) (t : ℕ) →
    socket_of j n before socket kinds ≡ Some t → socket ≤ t
socket_from j n before socket [] t is = cc
socket_from j n before socket (k ∷ kinds) t is =
    by (same_kind j k && (before k == n)) is (λ later. socket_from j n (counted k before) (socket + 1) kinds t later)
  where
    by : (here : Bool) → (if here then Some socket else socket_of j n (counted k before) (socket + 1) kinds) ≡ Some t →
        (socket_of j n (counted k before) (socket + 1) kinds ≡ Some t → socket + 1 ≤ t) → socket ≤ t
    by true e later = let same : socket ≡ t = cc in omega (arith, same)
    by false e later = let beyond : socket + 1 ≤ t = later e in omega (arith, beyond)

-- ---- a chain with the socket found

or_false : (b : Bool) → (b || false) ≡ b
or_false true = refl
or_false false = refl

one_more : (chain : List ℕ) (t socket : ℕ) →
    list_any (λ held. held == socket) (chain ++ t ∷ []) ≡ (list_any (λ held. held == socket) chain || (t == socket))
one_more chain t socket =
    list_any-append (λ held. held == socket) chain (t ∷ [])
    ∙ ap (λ b. list_any (λ held. held == socket) chain || b) (or_false (t == socket))

-- its own kind, up to the socket and past it
own_up_to : (b n t socket : ℕ) → b ≤ n → (b ≡ n → t ≡ socket) → (nat_lt b n || (t == socket)) ≡ nat_lt b (n + 1)
own_up_to b n t socket within here = by (nat_lt b n) refl
  where
    by : (before : Bool) → nat_lt b n ≡ before → (before || (t == socket)) ≡ nat_lt b (n + 1)
    by true is = grind (arith, nat_tests)
    by false is =
        let last : b ≡ n = grind (arith, nat_tests) in
        let same : t ≡ socket = here last in grind (arith, nat_tests)

own_past : (b n t socket : ℕ) → n < b → t < socket → (nat_lt b n || (t == socket)) ≡ nat_lt b (n + 1)
own_past b n t socket past behind = grind (arith, nat_tests)

other : (b n t socket : ℕ) → t ≢ socket → (nat_lt b n || (t == socket)) ≡ nat_lt b n
other b n t socket differs = by (nat_lt b n)
  where
    by : (before : Bool) → (before || (t == socket)) ≡ before
    by true = refl
    by false = grind (arith, nat_tests)

-- it is this socket, or one behind it
abbrev FoundFrom : (b n t socket : ℕ) → Option ℕ → Type 0
FoundFrom b n t socket rest = ((b ≡ n) × (t ≡ socket)) ⊎ ((b + 1 ≤ n) × (rest ≡ Some t))

found_from : (b n t socket : ℕ) (rest : Option ℕ) → b ≤ n → (if b == n then Some socket else rest) ≡ Some t → FoundFrom b n t socket rest
found_from b n t socket rest within is = by (b == n) refl is
  where
    by : (here : Bool) → (b == n) ≡ here → (if here then Some socket else rest) ≡ Some t → FoundFrom b n t socket rest
    by true met e = inl (grind (arith, nat_tests), cc)
    by false met e = inr (grind (arith, nat_tests), e)

-- the socket is one of those from here on, or one before
abbrev Placed : (j : ChipKind) (n : ℕ) (before : ChipKind → ℕ) (socket t : ℕ) → List ChipKind → Type 0
Placed j n before socket t kinds =
    ((before j ≤ n) × (socket_of j n before socket kinds ≡ Some t)) ⊎ ((n < before j) × (t < socket))

module _ (j : ChipKind) (taken : ChipKind → ℕ) (chain : List ℕ) (t : ℕ) where
  -- this socket is in the longer chain just where it is one of the first, and the socket found has its place among those behind
  abbrev TakenHere : (before : ChipKind → ℕ) (socket : ℕ) (k : ChipKind) → List ChipKind → Type 0
  TakenHere before socket k kinds =
      (list_any (λ held. held == socket) (chain ++ t ∷ []) ≡ nat_lt (before k) (counted j taken k))
      × Placed j (taken j) (counted k before) (socket + 1) t kinds

  own_socket : (before : ChipKind → ℕ) (socket : ℕ) (kinds : List ChipKind) →
      socket_of j (taken j) before socket (j ∷ kinds)
      ≡ (if before j == taken j then Some socket else socket_of j (taken j) (counted j before) (socket + 1) kinds)
  own_socket before socket kinds = rw (itself j) refl

  taken_own : (before : ChipKind → ℕ) (socket : ℕ) (kinds : List ChipKind) →
      list_any (λ held. held == socket) chain ≡ nat_lt (before j) (taken j) → Placed j (taken j) before socket t (j ∷ kinds) →
      TakenHere before socket j kinds
  taken_own before socket kinds has placed = by placed
    where
      here : (list_any (λ held. held == socket) chain || (t == socket)) ≡ nat_lt (before j) (taken j + 1) →
          list_any (λ held. held == socket) (chain ++ t ∷ []) ≡ nat_lt (before j) (counted j taken j)
      here e = one_more chain t socket ∙ e ∙ ap (nat_lt (before j)) (sym (count_own j taken))

      chosen : FoundFrom (before j) (taken j) t socket (socket_of j (taken j) (counted j before) (socket + 1) kinds) →
          TakenHere before socket j kinds
      chosen (inl now) = (
        here (rw has (own_up_to (before j) (taken j) t socket (omega (arith, now.0)) (λ e. now.1))),
        inr (omega (arith, count_own j before, now.0), omega (arith, now.1)),
      )
      chosen (inr later) = (
        here (rw has (own_up_to (before j) (taken j) t socket (omega (arith, later.0)) (λ e. omega (arith, e, later.0)))),
        inl (omega (arith, count_own j before, later.0), later.1),
      )

      by : Placed j (taken j) before socket t (j ∷ kinds) → TakenHere before socket j kinds
      by (inl now) = chosen (found_from (before j) (taken j) t socket _ now.0 (sym (own_socket before socket kinds) ∙ now.1))
      by (inr past) = (
        here (rw has (own_past (before j) (taken j) t socket past.0 past.1)),
        inr (omega (arith, count_own j before, past.0), omega (arith, past.1)),
      )

  taken_other : (before : ChipKind → ℕ) (socket : ℕ) (k : ChipKind) (kinds : List ChipKind) → same_kind j k ≡ false →
      list_any (λ held. held == socket) chain ≡ nat_lt (before k) (taken k) → Placed j (taken j) before socket t (k ∷ kinds) →
      TakenHere before socket k kinds
  taken_other before socket k kinds apart has placed = by placed
    where
      same : counted j taken k ≡ taken k
      same = count_other j k taken (both_ways k j ∙ apart)

      behind : counted k before j ≡ before j
      behind = count_other k j before apart

      here : t ≢ socket → list_any (λ held. held == socket) (chain ++ t ∷ []) ≡ nat_lt (before k) (counted j taken k)
      here differs = one_more chain t socket ∙ rw has (other (before k) (taken k) t socket differs) ∙ ap (nat_lt (before k)) (sym same)

      by : Placed j (taken j) before socket t (k ∷ kinds) → TakenHere before socket k kinds
      by (inl now) =
          let found : socket_of j (taken j) (counted k before) (socket + 1) kinds ≡ Some t = rw apart at now.1 in
          let beyond : socket + 1 ≤ t = socket_from j (taken j) (counted k before) (socket + 1) kinds t found in
          (here (λ e. omega (arith, e, beyond)), inl (omega (arith, behind, now.0), found))
      by (inr past) =
          (here (λ e. omega (arith, e, past.1)), inr (omega (arith, behind, past.0), omega (arith, past.1)))

  taken_here : (before : ChipKind → ℕ) (socket : ℕ) (k : ChipKind) (kinds : List ChipKind) →
      list_any (λ held. held == socket) chain ≡ nat_lt (before k) (taken k) → Placed j (taken j) before socket t (k ∷ kinds) →
      TakenHere before socket k kinds
  taken_here before socket k kinds has placed = by (same_kind j k) refl
    where
      by : (own : Bool) → same_kind j k ≡ own → TakenHere before socket k kinds
      by true is =
          subst (λ i. list_any (λ held. held == socket) chain ≡ nat_lt (before i) (taken i) →
          Placed j (taken j) before socket t (i ∷ kinds) → TakenHere before socket i kinds) (sym (is_same j k is))
          (taken_own before socket kinds) has placed
      by false is = taken_other before socket k kinds is has placed

  taken_more : (before : ChipKind → ℕ) (socket : ℕ) (kinds : List ChipKind) → HasFirst taken chain before socket kinds →
      Placed j (taken j) before socket t kinds → HasFirst (counted j taken) (chain ++ t ∷ []) before socket kinds
  taken_more before socket [] has placed = tt
  taken_more before socket (k ∷ kinds) has placed =
      let here = taken_here before socket k kinds has.0 placed in
      (here.0, taken_more (counted k before) (socket + 1) kinds has.1 here.1)

-- ---- what sits in a socket found, and that one is found

behind : (x : ChipSpec) (xs : List ChipSpec) (socket t : ℕ) (o : Option ChipSpec) → socket + 1 ≤ t →
    slice_get xs (t - (socket + 1)) ≡ o → slice_get (x ∷ xs) (t - socket) ≡ o
behind x xs socket t o beyond lies =
    let next : t - socket ≡ suc (t - (socket + 1)) = omega (arith, beyond) in rw next lies

first : (x : ChipSpec) (xs : List ChipSpec) (socket t : ℕ) → t ≡ socket → slice_get (x ∷ xs) (t - socket) ≡ Some x
first x xs socket t same = let none : t - socket ≡ 0 = omega (arith, same) in rw none refl

seat_there : (j : ChipKind) (all : List ChipSpec) (n : ℕ) (before : ChipKind → ℕ) (socket : ℕ) (kinds : List ChipKind) (t : ℕ) →
    socket_of j n before socket kinds ≡ Some t → slice_get (seated_from all before kinds) (t - socket) ≡ Some (seat_at all j n)
seat_there j all n before socket [] t is = cc
seat_there j all n before socket (k ∷ kinds) t is =
    by (same_kind j k) (before k == n) refl refl is (λ later. seat_there j all n (counted k before) (socket + 1) kinds t later)
  where
    later : socket_of j n (counted k before) (socket + 1) kinds ≡ Some t →
        (socket_of j n (counted k before) (socket + 1) kinds ≡ Some t →
        slice_get (seated_from all (counted k before) kinds) (t - (socket + 1)) ≡ Some (seat_at all j n)) →
        slice_get (seat_at all k (before k) ∷ seated_from all (counted k before) kinds) (t - socket) ≡ Some (seat_at all j n)
    later e more = behind _ _ socket t _ (socket_from j n (counted k before) (socket + 1) kinds t e) (more e)

    by : (own here : Bool) → same_kind j k ≡ own → (before k == n) ≡ here →
        (if own && here then Some socket else socket_of j n (counted k before) (socket + 1) kinds) ≡ Some t →
        (socket_of j n (counted k before) (socket + 1) kinds ≡ Some t →
        slice_get (seated_from all (counted k before) kinds) (t - (socket + 1)) ≡ Some (seat_at all j n)) →
        slice_get (seat_at all k (before k) ∷ seated_from all (counted k before) kinds) (t - socket) ≡ Some (seat_at all j n)
    by true true own met e more =
        let rank : before k ≡ n = grind (arith, nat_tests) in
        let same : t ≡ socket = cc in
        first _ _ socket t same ∙ ap (λ i. Some (seat_at all k i)) rank ∙ ap (λ i. Some (seat_at all i n)) (is_same j k own)
    by true false own met e more = later e more
    by false here own met e more = later e more

sits_there : (j : ChipKind) (all : List ChipSpec) (n : ℕ) (kinds : List ChipKind) (t : ℕ) → socket_of j n no_sockets 0 kinds ≡ Some t →
    slice_get (seated_from all no_sockets kinds) t ≡ Some (seat_at all j n)
sits_there j all n kinds t is =
    let same : t - 0 ≡ t = omega arith in
    subst (λ k. slice_get (seated_from all no_sockets kinds) k ≡ Some (seat_at all j n)) same (seat_there j all n no_sockets 0 kinds t is)

record Found (o : Option ℕ) : Type 0 where
  pub place : ℕ
  pub is : o ≡ Some place

next_or : (b n socket : ℕ) (rest : Option ℕ) → b ≤ n → (b + 1 ≤ n → Found rest) → Found (if b == n then Some socket else rest)
next_or b n socket rest within more = by (b == n) refl
  where
    by : (here : Bool) → (b == n) ≡ here → Found (if here then Some socket else rest)
    by true met = record { place = socket; is = refl }
    by false met = more (grind (arith, nat_tests))

-- one more is counted, or it isn't
count_with : {X : Type 0} (test : X → Bool) (x : X) (xs : List X) (own : Bool) → test x ≡ own →
    count_by test (x ∷ xs) ≡ (if own then suc (count_by test xs) else count_by test xs)
count_with test x xs own is = sum_by-cons (λ y. if test y then 1 else 0) x xs ∙ by own is
  where
    by : (b : Bool) → test x ≡ b →
        (if test x then 1 else 0) + count_by test xs ≡ (if b then suc (count_by test xs) else count_by test xs)
    by true e = rw e (omega arith)
    by false e = rw e (omega arith)

there_is : (j : ChipKind) (n : ℕ) (before : ChipKind → ℕ) (socket : ℕ) (kinds : List ChipKind) → before j ≤ n →
    n < before j + sockets_of j kinds → Found (socket_of j n before socket kinds)
there_is j n before socket [] within enough = absurd (omega (arith, within, enough))
there_is j n before socket (k ∷ kinds) within enough =
    by (same_kind j k) refl (λ here more. there_is j n (counted k before) (socket + 1) kinds here more)
  where
    by : (own : Bool) → same_kind j k ≡ own →
        (counted k before j ≤ n → n < counted k before j + sockets_of j kinds → Found (socket_of j n (counted k before) (socket + 1) kinds)) →
        Found (if own && (before k == n) then Some socket else socket_of j n (counted k before) (socket + 1) kinds)
    by true is go =
        let same : k ≡ j = is_same j k is in
        let one : counted k before j ≡ before j + 1 = ap (λ i. counted i before j) same ∙ count_own j before in
        let more : sockets_of j (k ∷ kinds) ≡ suc (sockets_of j kinds) = count_with (same_kind j) k kinds true is in
        let here : before k ≡ before j = ap before same in
        next_or (before k) n socket _ (omega (arith, here, within))
        (λ later. go (omega (arith, one, here, later)) (omega (arith, one, more, enough)))
    by false is go =
        let same : counted k before j ≡ before j = count_other k j before is in
        let more : sockets_of j (k ∷ kinds) ≡ sockets_of j kinds = count_with (same_kind j) k kinds false is in
        go (omega (arith, same, within)) (omega (arith, same, more, enough))

-- ---- chip by chip

-- the chip of a kind with so many before it
nth_behind : (xs ys : List ChipSpec) (x : ChipSpec) → slice_get (xs ++ x ∷ ys) (length xs) ≡ Some x
nth_behind [] ys x = refl
nth_behind (z ∷ xs) ys x = nth_behind xs ys x

own_seat : (done chips : List ChipSpec) (chip : ChipSpec) →
    seat_at (done ++ chip ∷ chips) (kind_of chip) (needed_of (kind_of chip) done) ≡ chip
own_seat done chips chip =
    let j = kind_of chip in
    let split : of_kind j (done ++ chip ∷ chips) ≡ of_kind j done ++ chip ∷ of_kind j chips =
    filter-append (λ c. same_kind j (kind_of c)) done (chip ∷ chips)
    ∙ ap (λ b. of_kind j done ++ (if b then chip ∷ of_kind j chips else of_kind j chips)) (itself j) in
    let rank : length (of_kind j done) ≡ needed_of j done = length-filter (λ c. same_kind j (kind_of c)) done in
    rw (split, ← rank, nth_behind (of_kind j done) (of_kind j chips) chip) refl

-- how a chain goes on, with the chips that sit in its further sockets
record GoesOn (seats : List ChipSpec) (chain whole : List ℕ) (chips : List ChipSpec) : Type 0 where
  pub rest : List ℕ
  pub are : whole ≡ chain ++ rest
  pub sit : AllZip (SitsIn seats) rest chips

-- how many chips of a kind there are with one more
needed_with : (j : ChipKind) (done chips : List ChipSpec) (chip : ChipSpec) (own : Bool) → same_kind j (kind_of chip) ≡ own →
    needed_of j (done ++ chip ∷ chips) ≡ needed_of j done + (if own then suc (needed_of j chips) else needed_of j chips)
needed_with j done chips chip own is =
    sum_by-append (λ c. if same_kind j (kind_of c) then 1 else 0) done (chip ∷ chips)
    ∙ ap (λ n. needed_of j done + n) (count_with (λ c. same_kind j (kind_of c)) chip chips own is)

-- so are the chips so far, with one more
counts_more : (done : List ChipSpec) (chip : ChipSpec) (taken : ChipKind → ℕ) → ((k : ChipKind) → taken k ≡ needed_of k done) →
    (k : ChipKind) → counted (kind_of chip) taken k ≡ needed_of k (done ++ chip ∷ [])
counts_more done chip taken are k = by (same_kind k (kind_of chip)) refl
  where
    by : (own : Bool) → same_kind k (kind_of chip) ≡ own → (if own then taken k + 1 else taken k) ≡ needed_of k (done ++ chip ∷ [])
    by true is = let one : needed_of k (done ++ chip ∷ []) ≡ needed_of k done + 1 = needed_with k done [] chip true is in omega (arith, are k, one)
    by false is =
        let none : needed_of k (done ++ chip ∷ []) ≡ needed_of k done + 0 = needed_with k done [] chip false is in omega (arith, are k, none)

sits : (all done chips : List ChipSpec) (kinds : List ChipKind) (chain : List ℕ) (taken : ChipKind → ℕ) → all ≡ done ++ chips →
    ((k : ChipKind) → taken k ≡ needed_of k done) → ((k : ChipKind) → needed_of k all ≤ sockets_of k kinds) →
    HasFirst taken chain no_sockets 0 kinds → GoesOn (seated_from all no_sockets kinds) chain (chain_with kinds chain chips) chips
sits all done [] kinds chain taken whole are fit has = record { rest = []; are = sym (append-nil chain); sit = tt }
sits all done (chip ∷ chips) kinds chain taken whole are fit has =
    by (λ t z.
    sits all (done ++ chip ∷ []) chips kinds (chain ++ t ∷ []) (counted (kind_of chip) taken) (whole ∙ sym (append_assoc done (chip ∷ []) chips))
    (counts_more done chip taken are) fit z)
  where
    by : ((t : ℕ) → HasFirst (counted (kind_of chip) taken) (chain ++ t ∷ []) no_sockets 0 kinds →
        GoesOn (seated_from all no_sockets kinds) (chain ++ t ∷ []) (chain_with kinds (chain ++ t ∷ []) chips) chips) →
        GoesOn (seated_from all no_sockets kinds) chain (chain_with kinds chain (chip ∷ chips)) (chip ∷ chips)
    by go =
        let j = kind_of chip in
        let total : needed_of j all ≡ needed_of j done + suc (needed_of j chips) =
        ap (needed_of j) whole ∙ needed_with j done chips chip true (itself j) in
        let found = there_is j (taken j) no_sockets 0 kinds (omega arith) (omega (arith, are j, total, fit j)) in
        let free : free_socket j chain 0 kinds ≡ Some found.place =
        free_is j taken chain no_sockets 0 kinds has (omega arith) ∙ found.is in
        let next = go found.place (taken_more j taken chain found.place no_sockets 0 kinds has (inl (omega arith, found.is))) in
        let seat : slice_get (seated_from all no_sockets kinds) found.place ≡ Some chip =
        sits_there j all (taken j) kinds found.place found.is
        ∙ ap Some (ap (λ n. seat_at all j n) (are j) ∙ ap (λ cs. seat_at cs j (needed_of j done)) whole ∙ own_seat done chips chip) in
        record {
          rest = found.place ∷ next.rest;
          are = ap (λ o. chain_with kinds (with_socket chain o) chips) free ∙ next.are ∙ append_assoc chain (found.place ∷ []) next.rest;
          sit = (seat, next.sit);
        }

-- there are as many sockets as are needed
abbrev lacking : ChipKind → ℕ → ℕ → Shortage
lacking j need have = record { kind = j; need = need; have = have }

fits_by : (j : ChipKind) (need have : ℕ) → short_by j need have ≡ None → need ≤ have
fits_by j need have none = by (nat_lt have need) refl none
  where
    by : (short : Bool) → nat_lt have need ≡ short → (if short then Some (lacking j need have) else None) ≡ None → need ≤ have
    by true is e = cc
    by false is e = grind (arith, nat_tests)

first_none : (a b : Option Shortage) → or_else a b ≡ None → a ≡ None
first_none (Some x) b e = cc
first_none None b e = refl

second_none : (a b : Option Shortage) → or_else a b ≡ None → b ≡ None
second_none (Some x) b e = cc
second_none None b e = e

-- where no kind is short
pub enough_of : (chips : List ChipSpec) (kinds : List ChipKind) → shortage_of chips kinds ≡ None →
    (k : ChipKind) → needed_of k chips ≤ sockets_of k kinds
enough_of chips kinds none k = by k
  where
    behind : or_else (shortage_in Smi chips kinds) (shortage_in Pio chips kinds) ≡ None
    behind = second_none (shortage_in Psu chips kinds) _ none

    by : (k : ChipKind) → needed_of k chips ≤ sockets_of k kinds
    by Psu = fits_by Psu _ _ (first_none (shortage_in Psu chips kinds) _ none)
    by Smi = fits_by Smi _ _ (first_none (shortage_in Smi chips kinds) _ behind)
    by Pio = fits_by Pio _ _ (second_none (shortage_in Smi chips kinds) _ behind)

pub chain_sits : ChainLaw
chain_sits chips states enough =
    let kinds = kinds_of states in
    let goes_on = sits chips [] chips kinds [] no_sockets refl (λ k. refl) (enough_of chips kinds enough) (has_none no_sockets 0 kinds) in
    subst (λ chain. AllZip (SitsIn (seated chips states)) chain chips) (sym goes_on.are) goes_on.sit
