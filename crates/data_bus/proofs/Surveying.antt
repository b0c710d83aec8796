-- A survey of one page, as a loop over the chips: what is left leads from what is found so far to the whole.
use Rattle.std.proofs.Common.{◌≡◌, ℕ, ◌+◌, ◌<◌, ◌≤◌, Bool, true, false, List, [], ◌∷◌, ◌++◌, length, map, drop, refl, sym, ap, subst, ◌∙◌}
use Rattle.std.proofs.Common.{arith, add-one, drop-cons, append_assoc, append-nil}
use Rattle.std.specs.Prelude.{◌||◌, if◌then◌else◌, Some, option_map, slice_get}
use Rattle.std.specs.List.{AllByRecursion, list_any}
use Rattle.std.proofs.Math.ListN.{drop_of_length-le}
use Rattle.std.proofs.lemmas.Option.{slice_get-map, slice_get_within, get_or_from_slice_get}
use Rattle.f8_spec.specs.BusArbitration.{Seat, seat_of, would_answer}
use Rattle.f8_spec.specs.ChipState.{ChipState}
use Rattle.f8_spec.specs.declared.bus.BusRule.{BusRule}
use Rattle.data_bus.specs.PageIndex.{AreSeveral, Lists, holding, listed, seats}
use Rattle.data_bus.specs.declared.page_sockets.Sockets.{Sockets}

-- what is left of a list begins with what is at hand
pub left_from : {A : Type 0} (xs : List A) (i : ℕ) (x : A) → slice_get xs i ≡ Some x → drop i xs ≡ x ∷ drop (i + 1) xs
left_from xs i x at =
    let within : i < length xs = slice_get_within xs i x at in
    rw (add-one, drop-cons xs i x within, get_or_from_slice_get xs i x x at) refl

-- the seat of the chip at hand
pub seat-at : (states : List ChipState) (i : ℕ) (s : ChipState) → slice_get states i ≡ Some s → slice_get (seats states) i ≡ Some (seat_of s.view)
seat-at states i s at =
    slice_get-map seat_of (map (λ (x : ChipState). x.view) states) i
    ∙ ap (option_map seat_of) (slice_get-map (λ (x : ChipState). x.view) states i ∙ ap (option_map (λ (x : ChipState). x.view)) at)

-- the sockets found so far, before the chip in a socket is asked
pub record Surveyed (rule : BusRule) (at : ℕ) (these : List Seat) (i : ℕ) (sockets : Sockets) : Type 0 where
  pub rest : listed sockets ++ holding rule at i (drop i these) ≡ holding rule at 0 these
  pub several : AreSeveral sockets
  pub below : AllByRecursion (λ k. k < i) (listed sockets)

lower_all : (m n : ℕ) (ks : List ℕ) → m ≤ n → AllByRecursion (λ k. k < m) ks → AllByRecursion (λ k. k < n) ks
lower_all m n [] within all = tt
lower_all m n (k ∷ ks) within all = let here = all.0 in (omega (arith, here), lower_all m n ks within all.1)

all_with : (n k : ℕ) (ks : List ℕ) → AllByRecursion (λ j. j < n) ks → k < n → AllByRecursion (λ j. j < n) (ks ++ k ∷ [])
all_with n k [] all below = (below, tt)
all_with n k (j ∷ ks) all below = (all.0, all_with n k ks all.1 below)

-- one more is asked
pub surveyed-more : (rule : BusRule) (at : ℕ) (these : List Seat) (i : ℕ) (s : Seat) (is_one : Bool) (before after : Sockets) →
    slice_get these i ≡ Some s → Surveyed rule at these i before → is_one ≡ would_answer rule s at →
    listed after ≡ (if is_one then listed before ++ i ∷ [] else listed before) → AreSeveral after →
    Surveyed rule at these (i + 1) after
surveyed-more rule at these i s is_one before after here surveyed answers gains several = by (would_answer rule s at) refl
  where
    opened : listed before ++ holding rule at i (s ∷ drop (i + 1) these) ≡ holding rule at 0 these
    opened = subst (λ l. listed before ++ holding rule at i l ≡ holding rule at 0 these) (left_from these i s here) surveyed.rest

    by : (b : Bool) → would_answer rule s at ≡ b → Surveyed rule at these (i + 1) after
    by true e =
        let with : listed after ≡ listed before ++ i ∷ [] = rw (answers, e) at gains in
        record {
          rest = rw with (append_assoc (listed before) (i ∷ []) (holding rule at (i + 1) (drop (i + 1) these)) ∙ rw e at opened);
          several = several;
          below = rw with (all_with (i + 1) i (listed before) (lower_all i (i + 1) (listed before) (omega arith) surveyed.below) (omega arith));
        }
    by false e =
        let same : listed after ≡ listed before = rw (answers, e) at gains in
        record {
          rest = rw same (rw e at opened);
          several = several;
          below = rw same (lower_all i (i + 1) (listed before) (omega arith) surveyed.below);
        }

-- all are asked
pub surveyed-whole : (rule : BusRule) (at : ℕ) (these : List Seat) (i : ℕ) (sockets : Sockets) → length these ≤ i →
    Surveyed rule at these i sockets → Lists sockets (holding rule at 0 these)
surveyed-whole rule at these i sockets past surveyed =
    let nothing : drop i these ≡ [] = drop_of_length-le these past in
    record {
      all = sym (append-nil (listed sockets))
          ∙ subst (λ l. listed sockets ++ holding rule at i l ≡ holding rule at 0 these) nothing surveyed.rest;
      several = surveyed.several;
    }

-- ---- a test of any

or_assoc : (a b c : Bool) → ((a || b) || c) ≡ (a || (b || c))
or_assoc true b c = refl
or_assoc false b c = refl

pub any-more : (test : Seat → Bool) (these : List Seat) (i : ℕ) (s : Seat) (found here : Bool) → slice_get these i ≡ Some s → here ≡ test s →
    (found || list_any test (drop i these)) ≡ list_any test these →
    ((found || here) || list_any test (drop (i + 1) these)) ≡ list_any test these
any-more test these i s found here at is so =
    ap (λ b. (found || b) || list_any test (drop (i + 1) these)) is
    ∙ or_assoc found (test s) (list_any test (drop (i + 1) these))
    ∙ subst (λ l. (found || list_any test l) ≡ list_any test these) (left_from these i s at) so

pub any-whole : (test : Seat → Bool) (these : List Seat) (i : ℕ) (found : Bool) → length these ≤ i →
    (found || list_any test (drop i these)) ≡ list_any test these → found ≡ list_any test these
any-whole test these i found past so =
    let nothing : drop i these ≡ [] = drop_of_length-le these past in
    or_false found ∙ subst (λ l. (found || list_any test l) ≡ list_any test these) nothing so
  where
    or_false : (b : Bool) → b ≡ (b || false)
    or_false true = refl
    or_false false = refl
