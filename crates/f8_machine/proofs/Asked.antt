-- The chips of a chain that were asked one after another, and the first of them that asks.
use Rattle.std.proofs.Common.{◌≡◌, ℕ, zero, suc, ◌+◌, ◌<◌, ◌≤◌, Bool, true, false, List, [], ◌∷◌, ◌++◌, map, length, take}
use Rattle.std.proofs.Common.{cond, get_or, set, refl, sym, ap, ap₂, ◌∙◌, subst, arith}
use Rattle.std.specs.Prelude.{if◌then◌else◌, not, nat_lt, Option, Some, None, option_map, position, slice_get}
use Rattle.std.specs.List.{position_or_len}
use Rattle.std.proofs.lemmas.Bool.Decides.{nat_tests}
use Rattle.std.proofs.lemmas.List.{map-append, take_all, take_more, take_more_set}
use Rattle.std.proofs.lemmas.Option.{slice_get-map}
use Rattle.f8_spec.specs.ChipState.{ChipState, is_asking}
use Rattle.data_bus.specs.Racks.{NamesAsking}
use Rattle.f8_machine.specs.Choosing.{asks_in, first_in}
use Rattle.f8_machine.specs.RequestsHeld.{is_asking_seated}

-- one more is asked
pub asked_more : (f : ℕ → Bool) (sockets : List ℕ) (asks : List Bool) (place : ℕ) (asking : Bool) →
    place < length sockets → length sockets ≤ 16 → length asks ≡ 16 → asking ≡ f (get_or sockets place 0) →
    take place asks ≡ map f (take place sockets) →
    take (place + 1) (set asks place asking) ≡ map f (take (place + 1) sockets)
asked_more f sockets asks place asking within few size is before =
    take_more_set asks place asking (omega arith)
    ∙ ap₂ (λ (l : List Bool) (b : Bool). l ++ b ∷ []) before is
    ∙ sym (map-append f (take place sockets) (get_or sockets place 0 ∷ []))
    ∙ ap (map f) (sym (take_more sockets place 0 within))

-- all are
pub asked_all : (f : ℕ → Bool) (sockets : List ℕ) (asks : List Bool) (place : ℕ) → place ≤ length sockets →
    length sockets ≤ place → take place asks ≡ map f (take place sockets) →
    take (length sockets) asks ≡ map f sockets
asked_all f sockets asks place within past asked =
    let all : place ≡ length sockets = omega arith in
    ap (λ (n : ℕ). take n asks) (sym all) ∙ asked ∙ ap (map f) (take_all place sockets past)

-- ---- a chip by its socket

pub asks_some : {X : Type 0} (f : X → ChipState) (xs : List X) (socket : ℕ) (d x : X) → socket < length xs →
    x ≡ get_or xs socket d → asks_in (map f xs) socket ≡ is_asking (f x).view
asks_some f [] socket d x within is = absurd (omega arith)
asks_some f (y ∷ ys) zero d x within is = ap (λ z. is_asking (f z).view) (sym is)
asks_some f (y ∷ ys) (suc k) d x within is = asks_some f ys k d x (omega arith) is

pub asks_none : {X : Type 0} (f : X → ChipState) (xs : List X) (socket : ℕ) → length xs ≤ socket →
    asks_in (map f xs) socket ≡ false
asks_none f [] socket past = refl
asks_none f (y ∷ ys) zero past = absurd (omega arith)
asks_none f (y ∷ ys) (suc k) past = asks_none f ys k (omega arith)

-- a chip that asks is named by its socket
pub names_by : (states : List ChipState) (socket : ℕ) → asks_in states socket ≡ true →
    NamesAsking (Some socket) states
names_by states socket asks = by (slice_get states socket) refl
    (ap is_asking_seated (sym (slice_get-map (λ (s : ChipState). s.view) states socket)) ∙ asks)
  where
    by : (o : Option ChipState) → slice_get states socket ≡ o →
        is_asking_seated (option_map (λ (s : ChipState). s.view) o) ≡ true → NamesAsking (Some socket) states
    by None lies asks = cc
    by (Some s) lies asks = record { socket = socket; chip = s; is = refl; seated = lies; asks = asks }

-- ---- the first that asks

-- what the search for it comes to: its place, or the length
record Searched (states : List ChipState) (sockets : List ℕ) (place : ℕ) : Type 0 where
  some : nat_lt place (length (map (asks_in states) sockets)) ≡ true →
      first_in states sockets ≡ Some (get_or sockets place 0)
  none : nat_lt place (length (map (asks_in states) sockets)) ≡ false → first_in states sockets ≡ None

record SearchedBy (states : List ChipState) (s : ℕ) (later : List ℕ) (asks : Bool) (place : ℕ) : Type 0 where
  some : nat_lt place (1 + length (map (asks_in states) later)) ≡ true →
      (if asks then Some s else first_in states later) ≡ Some (get_or (s ∷ later) place 0)
  none : nat_lt place (1 + length (map (asks_in states) later)) ≡ false →
      (if asks then Some s else first_in states later) ≡ None

zero_less : (n : ℕ) → nat_lt 0 (1 + n) ≡ false → ⊥
zero_less n e = grind (nat_tests, arith)

less : (place n : ℕ) → nat_lt (1 + place) (1 + n) ≡ true → nat_lt place n ≡ true
less place n e = grind (nat_tests, arith)

no_less : (place n : ℕ) → nat_lt (1 + place) (1 + n) ≡ false → nat_lt place n ≡ false
no_less place n e = grind (nat_tests, arith)

next : (s : ℕ) (later : List ℕ) (place : ℕ) → get_or later place 0 ≡ get_or (s ∷ later) (1 + place) 0
next s later place = let same : 1 + place ≡ suc place = omega arith in ap (λ n. get_or (s ∷ later) n 0) (sym same)

searched_by : (states : List ChipState) (s : ℕ) (later : List ℕ) (asks : Bool) (place : ℕ) →
    Searched states later place → SearchedBy states s later asks (cond (not asks) (1 + place) 0)
searched_by states s later true place is = record { some = λ e. refl; none = λ e. absurd (zero_less _ e) }
searched_by states s later false place is = record {
  some = λ e. is.some (less place (length (map (asks_in states) later)) e) ∙ ap Some (next s later place);
  none = λ e. is.none (no_less place (length (map (asks_in states) later)) e);
}

searched : (states : List ChipState) (sockets : List ℕ) →
    Searched states sockets (position_or_len (λ asking. asking) (map (asks_in states) sockets))
searched states [] = record { some = λ e. cc; none = λ e. refl }
searched states (s ∷ later) =
    let one = searched_by states s later (asks_in states s)
    (position_or_len (λ asking. asking) (map (asks_in states) later)) (searched states later) in
    record { some = λ e. one.some (longer _ true e); none = λ e. one.none (longer _ false e) }
  where
    more : (n : ℕ) → suc n ≡ 1 + n
    more n = omega arith

    longer : (place : ℕ) (b : Bool) → nat_lt place (length (map (asks_in states) (s ∷ later))) ≡ b →
        nat_lt place (1 + length (map (asks_in states) later)) ≡ b
    longer place b e = ap (nat_lt place) (sym (more (length (map (asks_in states) later)))) ∙ e

pub first_none : (states : List ChipState) (sockets : List ℕ) →
    None ≡ position (λ asking. asking) (map (asks_in states) sockets) → None ≡ first_in states sockets
first_none states sockets e =
    by (nat_lt (position_or_len (λ asking. asking) (map (asks_in states) sockets))
    (length (map (asks_in states) sockets))) refl e
  where
    by : (within : Bool) → nat_lt (position_or_len (λ asking. asking) (map (asks_in states) sockets))
        (length (map (asks_in states) sockets)) ≡ within →
        None ≡ cond within (Some (position_or_len (λ asking. asking) (map (asks_in states) sockets))) None →
        None ≡ first_in states sockets
    by true is e = cc
    by false is e = sym ((searched states sockets).none is)

pub first_some : (states : List ChipState) (sockets : List ℕ) (place : ℕ) →
    Some place ≡ position (λ asking. asking) (map (asks_in states) sockets) →
    Some (get_or sockets place 0) ≡ first_in states sockets
first_some states sockets place e =
    by (nat_lt (position_or_len (λ asking. asking) (map (asks_in states) sockets))
    (length (map (asks_in states) sockets))) refl e
  where
    by : (within : Bool) → nat_lt (position_or_len (λ asking. asking) (map (asks_in states) sockets))
        (length (map (asks_in states) sockets)) ≡ within →
        Some place ≡ cond within (Some (position_or_len (λ asking. asking) (map (asks_in states) sockets))) None →
        Some (get_or sockets place 0) ≡ first_in states sockets
    by true is e =
        let same : place ≡ position_or_len (λ asking. asking) (map (asks_in states) sockets) = cc in
        ap (λ (n : ℕ). Some (get_or sockets n 0)) same ∙ sym ((searched states sockets).some is)
    by false is e = cc

-- it asks
pub first_asks : (states : List ChipState) (sockets : List ℕ) (socket : ℕ) → first_in states sockets ≡ Some socket →
    asks_in states socket ≡ true
first_asks states [] socket e = cc
first_asks states (s ∷ later) socket e = by (asks_in states s) refl (first_asks states later socket) e
  where
    by : (asks : Bool) → asks_in states s ≡ asks →
        (first_in states later ≡ Some socket → asks_in states socket ≡ true) → (if asks then Some s else first_in states later) ≡ Some socket →
        asks_in states socket ≡ true
    by true is behind e = let same : s ≡ socket = cc in subst (λ (k : ℕ). asks_in states k ≡ true) same is
    by false is behind e = behind e
