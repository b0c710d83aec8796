-- The chips of a description sit in the sockets of a rack that has enough of each kind: no chip is left, and no other is there.
use Rattle.std.proofs.Common.{◌≡◌, ℕ, zero, suc, ◌+◌, ◌≤◌, Bool, true, false, List, [], ◌∷◌, ◌++◌, length, map, refl, ap, sym, subst, ◌∙◌}
use Rattle.std.proofs.Common.{arith}
use Rattle.std.specs.Prelude.{Option, Some, None, drop, filter, slice_get, if◌then◌else◌}
use Rattle.std.proofs.lemmas.List.Sums.{length-filter}
use Rattle.f8_spec.specs.ChipState.{ChipState, same_kind}
use Rattle.f8_spec.specs.BusArbitration.{Seat, seat_of}
use Rattle.f8_spec.specs.declared.chips.ChipKind.{ChipKind}
use Rattle.chip_face.specs.Fitting.{fitted, kind_of}
use Rattle.chip_face.specs.declared.specification.ChipSpec.{ChipSpec}
use Rattle.chip_face.specs.declared.specification.ChipSpec.TheVariants.{Blank, Psu, Smi, Pio}
use Rattle.memory_map.specs.MapOf.{seats_of}
use Rattle.abs_step.specs.RackSeats.{IsBlank, AreSeated, none_left as no_socket, blank, chip}
use Rattle.rack_run.specs.Seating.{of_kind, seat_at, no_sockets, counted, seated_from, kinds_of, fitted_as, fitted_views}
use Rattle.rack_run.specs.Sockets.{shortage_of}
use Rattle.rack_run.proofs.Chains.{enough_of}
use Rattle.f8_spec.proofs.SameKind.{itself, is_same}
use Rattle.rack_run.proofs.CountedKinds.{count_own, count_other}

-- ---- chips in sockets

-- Each socket has a blank chip, or one of the chips that sits in no socket before it; and behind the last socket none is left.
pub data SitIn : List ChipSpec → List ChipSpec → Type 0 where
  none_left : SitIn [] []
  empty : {chips sockets : List ChipSpec} (kind : ChipKind) → SitIn chips sockets → SitIn chips (Blank kind ∷ sockets)
  taken : (before after : List ChipSpec) → {sockets : List ChipSpec} (c : ChipSpec) → SitIn (before ++ after) sockets →
      SitIn (before ++ c ∷ after) (c ∷ sockets)

-- ---- lists

pub record HasNext {A : Type 0} (xs : List A) (place : ℕ) (y : A) (ys : List A) : Type 0 where
  pub here : slice_get xs place ≡ Some y
  pub left : drop (place + 1) xs ≡ ys

next_of : {A : Type 0} (xs : List A) (place : ℕ) (y : A) (ys : List A) → drop place xs ≡ y ∷ ys → HasNext xs place y ys
next_of [] zero y ys left = absurd (cc)
next_of [] (suc place) y ys left = absurd (cc)
next_of (x ∷ xs) zero y ys left =
    let first : x ≡ y = cc in
    let rest : xs ≡ ys = cc in
    record { here = ap Some first; left = rest }
next_of (x ∷ xs) (suc place) y ys left =
    let later = next_of xs place y ys left in
    let one : suc place + 1 ≡ suc (place + 1) = omega arith in
    record { here = later.here; left = rw one later.left }

pub record HasNone {A : Type 0} (xs : List A) (place : ℕ) : Type 0 where
  pub here : slice_get xs place ≡ None
  pub left : drop (place + 1) xs ≡ []

none_of : {A : Type 0} (xs : List A) (place : ℕ) → drop place xs ≡ [] → HasNone xs place
none_of [] place left = let one : place + 1 ≡ suc place = omega arith in record { here = refl; left = rw one refl }
none_of (x ∷ xs) zero left = absurd (cc)
none_of (x ∷ xs) (suc place) left =
    let later = none_of xs place left in
    let one : suc place + 1 ≡ suc (place + 1) = omega arith in
    record { here = later.here; left = rw one later.left }

-- ---- the first chip of a kind, taken out

pub record Taken (kind : ChipKind) (rest : List ChipSpec) (c : ChipSpec) (later : List ChipSpec) : Type 0 where
  pub before : List ChipSpec
  pub after : List ChipSpec
  pub whole : rest ≡ before ++ c ∷ after
  pub this : of_kind kind (before ++ after) ≡ later
  pub other : (k : ChipKind) → same_kind k kind ≡ false → of_kind k (before ++ after) ≡ of_kind k rest

-- a chip put before chips of which as many are of a kind
put_before : (k : ChipKind) (r : ChipSpec) (cs ds : List ChipSpec) → of_kind k cs ≡ of_kind k ds → of_kind k (r ∷ cs) ≡ of_kind k (r ∷ ds)
put_before k r cs ds same = by (same_kind k (kind_of r))
  where
    by : (b : Bool) → (if b then r ∷ of_kind k cs else of_kind k cs) ≡ (if b then r ∷ of_kind k ds else of_kind k ds)
    by true = ap (λ (es : List ChipSpec). r ∷ es) same
    by false = same

taken_out : (kind : ChipKind) (rest : List ChipSpec) (c : ChipSpec) (later : List ChipSpec) → of_kind kind rest ≡ c ∷ later → Taken kind rest c later
taken_out kind [] c later e = absurd (cc)
taken_out kind (r ∷ rest) c later e = by (same_kind kind (kind_of r)) refl e (taken_out kind rest c later)
  where
    by : (b : Bool) → same_kind kind (kind_of r) ≡ b → (if b then r ∷ of_kind kind rest else of_kind kind rest) ≡ c ∷ later →
        (of_kind kind rest ≡ c ∷ later → Taken kind rest c later) → Taken kind (r ∷ rest) c later
    by true is e further =
        let first : r ≡ c = cc in
        let left : of_kind kind rest ≡ later = cc in
        record {
          before = [];
          after = rest;
          whole = ap (λ (d : ChipSpec). d ∷ rest) first;
          this = left;
          other = λ k differs.
              let kinds : kind ≡ kind_of r = sym (is_same kind (kind_of r) is) in
              let none : same_kind k (kind_of r) ≡ false = subst (λ (d : ChipKind). same_kind k d ≡ false) kinds differs in
              rw none refl;
        }
    by false is e further =
        let t = further e in
        record {
          before = r ∷ t.before;
          after = t.after;
          whole = ap (λ (ds : List ChipSpec). r ∷ ds) t.whole;
          this = rw is t.this;
          other = λ k differs. put_before k r (t.before ++ t.after) rest (t.other k differs);
        }

-- ---- all sockets

abbrev sockets_in : ChipKind → List ChipKind → ℕ
sockets_in kind kinds = length (filter (same_kind kind) kinds)

-- what is left of the chips, behind so many sockets of each kind, and that there are sockets for them
pub record Left (chips rest : List ChipSpec) (before : ChipKind → ℕ) (kinds : List ChipKind) : Type 0 where
  pub same : (k : ChipKind) → drop (before k) (of_kind k chips) ≡ of_kind k rest
  pub enough : (k : ChipKind) → length (of_kind k rest) ≤ sockets_in k kinds

none_at_end : (rest : List ChipSpec) → ((k : ChipKind) → length (of_kind k rest) ≤ 0) → rest ≡ []
none_at_end [] few = refl
none_at_end (r ∷ rest) few =
    let own : of_kind (kind_of r) (r ∷ rest) ≡ r ∷ of_kind (kind_of r) rest = rw (itself (kind_of r)) refl in
    let no = few (kind_of r) in
    absurd (omega (arith, no, ap length own))

sockets_this : (kind : ChipKind) (kinds : List ChipKind) → sockets_in kind (kind ∷ kinds) ≡ sockets_in kind kinds + 1
sockets_this kind kinds = rw (itself kind) (omega arith)

sockets_other : (k kind : ChipKind) (kinds : List ChipKind) → same_kind k kind ≡ false → sockets_in k (kind ∷ kinds) ≡ sockets_in k kinds
sockets_other k kind kinds differs = rw differs (omega arith)

-- what is left behind a socket of a kind, by what is left of that kind and of the others
left_after : (kind : ChipKind) (chips rest more : List ChipSpec) (before : ChipKind → ℕ) (kinds : List ChipKind) →
    Left chips rest before (kind ∷ kinds) →
    drop (before kind + 1) (of_kind kind chips) ≡ of_kind kind more → length (of_kind kind more) ≤ sockets_in kind kinds →
    ((k : ChipKind) → same_kind k kind ≡ false → of_kind k more ≡ of_kind k rest) →
    Left chips more (counted kind before) kinds
left_after kind chips rest more before kinds left this few other = record {
  same = λ k. same_by k (same_kind k kind) refl;
  enough = λ k. enough_by k (same_kind k kind) refl;
}
  where
    same_by : (k : ChipKind) (b : Bool) → same_kind k kind ≡ b → drop (counted kind before k) (of_kind k chips) ≡ of_kind k more
    same_by k true is = subst (λ (d : ChipKind). drop (counted kind before d) (of_kind d chips) ≡ of_kind d more)
        (is_same k kind is) (rw (count_own kind before) this)
    same_by k false is = rw (count_other kind k before is) (left.same k ∙ sym (other k is))

    enough_by : (k : ChipKind) (b : Bool) → same_kind k kind ≡ b → length (of_kind k more) ≤ sockets_in k kinds
    enough_by k true is = subst (λ (d : ChipKind). length (of_kind d more) ≤ sockets_in d kinds) (is_same k kind is) few
    enough_by k false is =
        subst (λ (n : ℕ). length (of_kind k more) ≤ n) (sockets_other k kind kinds is)
        (subst (λ (cs : List ChipSpec). length cs ≤ sockets_in k (kind ∷ kinds)) (sym (other k is)) (left.enough k))

-- a socket of a kind, where all that may be left behind it sits in the others
one_socket : (kind : ChipKind) (chips rest : List ChipSpec) (before : ChipKind → ℕ) (kinds : List ChipKind) (sockets : List ChipSpec) →
    Left chips rest before (kind ∷ kinds) →
    ((more : List ChipSpec) → Left chips more (counted kind before) kinds → SitIn more sockets) →
    SitIn rest (seat_at chips kind (before kind) ∷ sockets)
one_socket kind chips rest before kinds sockets left later = by (of_kind kind rest) refl
  where
    by : (cs : List ChipSpec) → of_kind kind rest ≡ cs → SitIn rest (seat_at chips kind (before kind) ∷ sockets)
    by [] e =
        let none = none_of (of_kind kind chips) (before kind) (left.same kind ∙ e) in
        let few : length (of_kind kind rest) ≤ sockets_in kind kinds = rw e (omega arith) in
        rw none.here (empty kind (later rest (left_after kind chips rest rest before kinds left (none.left ∙ sym e) few (λ k differs. refl))))
    by (c ∷ cs) e =
        let next = next_of (of_kind kind chips) (before kind) c cs (left.same kind ∙ e) in
        let t = taken_out kind rest c cs e in
        let more : List ChipSpec = t.before ++ t.after in
        let enough : length (c ∷ cs) ≤ sockets_in kind kinds + 1 =
        subst (λ (n : ℕ). length (c ∷ cs) ≤ n) (sockets_this kind kinds)
        (subst (λ (ds : List ChipSpec). length ds ≤ sockets_in kind (kind ∷ kinds)) e (left.enough kind)) in
        let few : length (of_kind kind more) ≤ sockets_in kind kinds =
        subst (λ (ds : List ChipSpec). length ds ≤ sockets_in kind kinds) (sym t.this) (omega (arith, enough)) in
        let after = later more (left_after kind chips rest more before kinds left (next.left ∙ sym t.this) few t.other) in
        rw next.here (subst (λ (ds : List ChipSpec). SitIn ds (c ∷ sockets)) (sym t.whole) (taken t.before t.after c after))

all_sockets : (kinds : List ChipKind) (chips rest : List ChipSpec) (before : ChipKind → ℕ) → Left chips rest before kinds →
    SitIn rest (seated_from chips before kinds)
all_sockets [] chips rest before left = subst (λ (cs : List ChipSpec). SitIn cs []) (sym (none_at_end rest left.enough)) none_left
all_sockets (kind ∷ kinds) chips rest before left = one_socket kind chips rest before kinds _ left
    (λ more further. all_sockets kinds chips more (counted kind before) further)

pub chips_sit : (chips : List ChipSpec) (kinds : List ChipKind) → shortage_of chips kinds ≡ None → SitIn chips (seated_from chips no_sockets kinds)
chips_sit chips kinds none = all_sockets kinds chips chips no_sockets (record {
  same = λ k. refl;
  enough = λ k. rw (length-filter (λ c. same_kind k (kind_of c)) chips, length-filter (same_kind k) kinds) (enough_of chips kinds none k);
})

-- ---- their seats

blank_seat : (kind : ChipKind) → IsBlank (seat_of (fitted None (Blank kind)))
blank_seat kind = record { pages = refl; ports = refl; wired = refl }

same_seat : (patch : Option (ℕ × ℕ)) (spec : ChipSpec) → seat_of (fitted patch spec) ≡ seat_of (fitted None spec)
same_seat patch (Blank kind) = refl
same_seat patch (Psu base rom ports vector wired) = refl
same_seat patch (Smi pages rom wired) = refl
same_seat patch (Pio ports vector wired) = refl

seats_append : (before after : List ChipSpec) → seats_of (before ++ after) ≡ seats_of before ++ seats_of after
seats_append [] after = refl
seats_append (c ∷ before) after = ap (λ (ss : List Seat). seat_of (fitted None c) ∷ ss) (seats_append before after)

seats_sit : {chips sockets : List ChipSpec} → SitIn chips sockets → AreSeated (seats_of chips) (seats_of sockets)
seats_sit none_left = no_socket
seats_sit (empty {chips} {sockets} kind later) = blank (blank_seat kind) (seats_sit later)
seats_sit (taken before after {sockets} c later) =
    subst (λ (ss : List Seat). AreSeated ss (seat_of (fitted None c) ∷ seats_of sockets)) (sym (seats_append before (c ∷ after)))
    (chip (seats_of before) (seats_of after)
    (subst (λ (ss : List Seat). AreSeated ss (seats_of sockets)) (seats_append before after) (seats_sit later)))

pub both_same : {A : Type 0} {x y : A} {xs ys : List A} → x ≡ y → xs ≡ ys → x ∷ xs ≡ y ∷ ys
both_same here later = λ i. here i ∷ later i

-- a patch makes no difference to the seats
no_patch_seats : (states : List ChipState) (chips : List ChipSpec) (before : ChipKind → ℕ) →
    map seat_of (fitted_as states (seated_from chips before (kinds_of states))) ≡ seats_of (seated_from chips before (kinds_of states))
no_patch_seats [] chips before = refl
no_patch_seats (s ∷ states) chips before =
    both_same (same_seat s.patch (seat_at chips s.view.kind (before s.view.kind)))
    (no_patch_seats states chips (counted s.view.kind before))

pub seated_law : (chips : List ChipSpec) (states : List ChipState) → shortage_of chips (kinds_of states) ≡ None →
    AreSeated (seats_of chips) (map seat_of (fitted_views chips states))
seated_law chips states none =
    subst (λ (ss : List Seat). AreSeated (seats_of chips) ss) (sym (no_patch_seats states chips no_sockets))
    (seats_sit (chips_sit chips (kinds_of states) none))
