-- An interrupt that is taken at the end of a safe instruction: its chip is one whose vector is followed, and gives one of two addresses.
use Rattle.std.proofs.Common.{◌≡◌, ℕ, zero, suc, Bool, true, false, ◌&&◌, ◌||◌, List, [], ◌∷◌, ◌++◌, refl, sym, ◌∙◌, inl, inr, arith}
use Rattle.std.specs.Prelude.{◌+◌, ◌*◌, ◌/◌, ◌%◌, Option, Some, None, not, slice_get, if◌then◌else◌, flat_map}
use Rattle.std.specs.List.{AllByRecursion}
use Rattle.f8_spec.specs.BusArbitration.{Seat}
use Rattle.f8_spec.specs.ChipState.{admits_expiries, has_fixed_vector}
use Rattle.f8_spec.specs.Instructions.{is_shielding}
use Rattle.f8_spec.specs.Words.{word}
use Rattle.f8_spec.specs.declared.instructions.Op.{Op}
use Rattle.console_spec.specs.FlatStep.{chosen_at}
use Rattle.console_spec.specs.InterruptChoice.{control_of, first_asking, has_request_by, is_asking_in, seat_vector, vector_in, vector_of}
use Rattle.console_spec.specs.InterruptChoice.{written_vector}
use Rattle.console_spec.specs.InterruptRequests.{History}
use Rattle.console_spec.specs.declared.PortWrite.{PortWrite}
use Rattle.abs_domain.specs.AbstractState.{AbstractState}
use Rattle.abs_domain.specs.Lattice.{Below}
use Rattle.abs_step.specs.Known.{is_known_false}
use Rattle.abs_step.specs.MapView.{MapView, HasVectorAmong, IsViewOf, is_seat_written}
use Rattle.abs_step.specs.Safety.{vector_is_lost}
use Rattle.abs_step.specs.Successors.{along, at_exit, at_vector}
use Rattle.abs_step.specs.Vectors.{vector_address, vector_exit, vectors_let_in, with_interrupts_off}
use Rattle.abs_step.specs.declared.exits.Exit.{Exit}
use Rattle.abs_step.proofs.Members.{IsIn, in_of_contains, none_of_any}

-- ---- the chip that is chosen

-- a chip in a socket, whose vector no port writes and is followed
pub record IsFollowed (vectors : List ℕ) (seats : List Seat) (socket : ℕ) : Type 0 where
  pub seat : Seat
  pub there : slice_get seats socket ≡ Some seat
  pub fixed : has_fixed_vector seat.kind ≡ true
  pub among : IsIn seat.vector vectors

at_place : {A : Type 0} → (P : A → Type 0) (xs : List A) (k : ℕ) (x : A) → AllByRecursion P xs → slice_get xs k ≡ Some x → P x
at_place P [] k x all is = absurd (cc)
at_place P (y ∷ ys) zero x all is = let same : y ≡ x = cc in rw (sym same) all.0
at_place P (y ∷ ys) (suc k) x all is = at_place P ys k x all.1 is

both_true : (a b : Bool) → (a && b) ≡ true → a ≡ true
both_true true b e = refl
both_true false b e = absurd (cc)

-- a chip that can interrupt and whose vector isn't written has a fixed one
fixed_by : (wired fixed : Bool) → wired ≡ true → (wired && not fixed) ≡ false → fixed ≡ true
fixed_by true true w e = refl
fixed_by true false w e = absurd (cc)
fixed_by false fixed w e = absurd (cc)

module _ (vectors : List ℕ) (seats : List Seat) (among : AllByRecursion (HasVectorAmong vectors) seats)
    (unwritten : AllByRecursion (λ s. is_seat_written s ≡ false) seats) (h : History) (time : ℕ) where
  asks_followed : (place socket : ℕ) (o : Option Seat) → slice_get seats place ≡ o → is_asking_in o socket h time ≡ true →
      IsFollowed vectors seats place
  asks_followed place socket None there asks = absurd (cc)
  asks_followed place socket (Some seat) there asks =
      let wired : seat.wired ≡ true = both_true seat.wired (has_request_by seat.ports socket h time) asks in
      let fixed =
      fixed_by seat.wired (has_fixed_vector seat.kind) wired (at_place (λ s. is_seat_written s ≡ false) seats place seat unwritten there) in
      record {
        seat = seat;
        there = there;
        fixed = fixed;
        among = in_of_contains vectors seat.vector (at_place (HasVectorAmong vectors) seats place seat among there wired fixed);
      }

  first_followed : (chain : List ℕ) (socket : ℕ) → first_asking seats h time chain ≡ Some socket → IsFollowed vectors seats socket
  first_followed [] socket is = absurd (cc)
  first_followed (place ∷ later) socket is =
      by (is_asking_in (slice_get seats place) place h time) refl is (first_followed later socket)
    where
      by : (b : Bool) → is_asking_in (slice_get seats place) place h time ≡ b →
          (if b then Some place else first_asking seats h time later) ≡ Some socket →
          (first_asking seats h time later ≡ Some socket → IsFollowed vectors seats socket) → IsFollowed vectors seats socket
      by true asks here behind =
          let same : place ≡ socket = cc in
          rw same at (asks_followed place place (slice_get seats place) refl asks)
      by false asks here behind = behind here

-- a set bit isn't known to be clear
set_is_not_clear : (o : Option Bool) → Below (Some true) o → is_known_false o ≡ false
set_is_not_clear None p = refl
set_is_not_clear (Some true) p = refl
set_is_not_clear (Some false) p = absurd (cc)

second_of : (b : Bool) → (true && b) ≡ false → b ≡ false
second_of b e = e

-- What is chosen at the end of a safe instruction is followed.
pub chosen_followed : (op : Op) (m : MapView) (known : Option Bool) (icb : Bool) (seats : List Seat) (chain : List ℕ) (h : History)
    (time socket : ℕ) → vector_is_lost op m known ≡ false → Below (Some icb) known → IsViewOf m seats →
    chosen_at op icb seats chain h time ≡ Some socket → IsFollowed (vectors_let_in op m known) seats socket
unfolding chosen_at
chosen_followed op m known icb seats chain h time socket safe told view is = by (is_shielding op) icb refl told is
  where
    by : (shields set : Bool) → is_shielding op ≡ shields → Below (Some set) known →
        (if shields || not set then None else first_asking seats h time chain) ≡ Some socket →
        IsFollowed (vectors_let_in op m known) seats socket
    by true set e t chosen = absurd (cc)
    by false false e t chosen = absurd (cc)
    by false true e t chosen =
        let clear : is_known_false known ≡ false = set_is_not_clear known t in
        let written : m.written ≡ false = second_of m.written (rw (e, clear) at safe) in
        let all : vectors_let_in op m known ≡ m.vectors = rw (e, clear) refl in
        rw all
        (first_followed m.vectors seats view.vectors (none_of_any is_seat_written seats (sym view.written ∙ written)) h time chain socket chosen)

-- ---- the address that it gives

chosen_vector : (o : Option Seat) (seat : Seat) (writes : List PortWrite) → o ≡ Some seat → vector_in o writes ≡ seat_vector seat writes
chosen_vector o seat writes is = rw is refl

as_fixed : (fixed : Bool) (vector written : ℕ) → fixed ≡ true → (if fixed then vector else written) ≡ vector
as_fixed true vector written e = refl
as_fixed false vector written e = absurd (cc)

-- the word that the processor gets is the vector as it is given, by the control of the chip
pub vector_is : (vectors : List ℕ) (seats : List Seat) (socket : ℕ) (writes : List PortWrite) (f : IsFollowed vectors seats socket) →
    word (vector_of (Some socket) seats writes / 256 % 256) (vector_of (Some socket) seats writes % 256)
    ≡ vector_address (admits_expiries (control_of f.seat.ports writes)) f.seat.vector
vector_is vectors seats socket writes f =
    let given = chosen_vector (slice_get seats socket) f.seat writes f.there in
    let vector = as_fixed (has_fixed_vector f.seat.kind) f.seat.vector (written_vector f.seat.ports writes) f.fixed in
    rw (given, vector) (halves (admits_expiries (control_of f.seat.ports writes)) f.seat.vector)
  where
    halves : (timer : Bool) (vector : ℕ) →
        word ((vector / 256 * 256 + (if timer then 0 else 128) + vector % 128) / 256 % 256)
        ((vector / 256 * 256 + (if timer then 0 else 128) + vector % 128) % 256)
        ≡ vector_address timer vector
    halves timer vector = omega arith

-- ---- the invariants at vectors

in_left : {A : Type 0} → (x : A) (xs ys : List A) → IsIn x xs → IsIn x (xs ++ ys)
in_left x [] ys is = absurd is
in_left x (y ∷ xs) ys (inl here) = inl here
in_left x (y ∷ xs) ys (inr later) = inr (in_left x xs ys later)

in_right : {A : Type 0} → (x : A) (xs ys : List A) → IsIn x ys → IsIn x (xs ++ ys)
in_right x [] ys is = is
in_right x (y ∷ xs) ys is = inr (in_right x xs ys is)

pub in_flat : {A B : Type 0} → (f : A → List B) (y : B) (xs : List A) (x : A) → IsIn x xs → IsIn y (f x) → IsIn y (flat_map f xs)
in_flat f y [] x is among = absurd is
in_flat f y (z ∷ xs) x (inl here) among = in_left y (f z) (flat_map f xs) (rw here among)
in_flat f y (z ∷ xs) x (inr later) among = in_right y (f z) (flat_map f xs) (in_flat f y xs x later among)

in_at_vector : (tracked : List ℕ) (s : AbstractState) (e : Exit) (timer : Bool) (vector : ℕ) →
    IsIn (at_exit tracked (with_interrupts_off s) (vector_exit timer vector e)) (at_vector tracked s e vector)
in_at_vector tracked s e true vector = inl refl
in_at_vector tracked s e false vector = inr (inl refl)

pub in_along_vector : (tracked vectors : List ℕ) (s : AbstractState) (e : Exit) (timer : Bool) (vector : ℕ) → IsIn vector vectors →
    IsIn (at_exit tracked (with_interrupts_off s) (vector_exit timer vector e)) (along tracked vectors s e)
in_along_vector tracked vectors s e timer vector among =
    inr (in_flat (at_vector tracked s e) _ vectors vector among (in_at_vector tracked s e timer vector))
