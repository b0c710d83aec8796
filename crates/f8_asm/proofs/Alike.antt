-- Two readings that end alike.
use Rattle.std.proofs.Common.{◌≡◌, Bool, true, false, List, [], ◌∷◌, ◌++◌, length, suc, Result, Ok, Err, refl, ap, subst}
use Rattle.std.specs.Prelude.{if◌then◌else◌}
use Rattle.f8_asm.specs.Answers.{◌>>=◌}

-- what stands before an answer
pub read-ok : {A B E : Type 0} (P : Type 0) (r : Result A E) (f : A → Result B E) (y : B) → (r >>= f) ≡ Ok y → ((x : A) → r ≡ Ok x → f x ≡ Ok y → P) → P
read-ok P (Ok x) f y h k = k x refl h
read-ok P (Err e) f y h k = cc h

-- both fail with the same fault, or this holds of what was read
abbrev pub AlikeBy : {A B E : Type 0} → (A → B → Type 0) → Result A E → Result B E → Type 0
AlikeBy R (Ok x) (Ok y) = R x y
AlikeBy R (Ok x) (Err f) = ⊥
AlikeBy R (Err e) (Ok y) = ⊥
AlikeBy R (Err e) (Err f) = e ≡ f

pub record Alike {A B E : Type 0} (R : A → B → Type 0) (r : Result A E) (s : Result B E) : Type 0 where
  pub is : AlikeBy R r s

pub alike_ok : {A B E : Type 0} {R : A → B → Type 0} {x : A} {y : B} → R x y → Alike {E = E} R (Ok x) (Ok y)
alike_ok h = record { is = h }

pub alike_err : {A B E : Type 0} {R : A → B → Type 0} {e : E} → Alike R (Err e) (Err e)
alike_err = record { is = refl }

pub alike_self : {A E : Type 0} {R : A → A → Type 0} (r : Result A E) → ((x : A) → R x x) → Alike R r r
alike_self (Ok x) same = record { is = same x }
alike_self (Err e) same = record { is = refl }

then_by : {A B C D E : Type 0} {R : A → B → Type 0} {S : C → D → Type 0} (r : Result A E) (s : Result B E) (f : A → Result C E) (g : B → Result D E)
    → AlikeBy R r s → ((x : A) (y : B) → R x y → Alike S (f x) (g y)) → Alike S (r >>= f) (s >>= g)
then_by (Ok x) (Ok y) f g on goes = goes x y on
then_by (Ok x) (Err e) f g on goes = absurd on
then_by (Err e) (Ok y) f g on goes = absurd on
then_by (Err e) (Err h) f g on goes = record { is = on }

pub alike_then : {A B C D E : Type 0} {R : A → B → Type 0} {S : C → D → Type 0} {r : Result A E} {s : Result B E} {f : A → Result C E}
    {g : B → Result D E} → Alike R r s → ((x : A) (y : B) → R x y → Alike S (f x) (g y)) → Alike S (r >>= f) (s >>= g)
alike_then {r} {s} {f} {g} on goes = then_by r s f g on.is goes

pub alike_if : {A B E : Type 0} {R : A → B → Type 0} (t : Bool) {r r' : Result A E} {s s' : Result B E} → Alike R r s → Alike R r' s'
    → Alike R (if t then r else r') (if t then s else s')
alike_if true one other = one
alike_if false one other = other

both_by : {A B E : Type 0} (R : A → B → Type 0) (r : Result A E) (s : Result B E) → AlikeBy R r s → (x : A) (y : B) → r ≡ Ok x → s ≡ Ok y → R x y
both_by {A} {B} {E} R (Ok u) (Ok v) on x y at_x at_y =
    let one : u ≡ x = cc at_x in
    let other : v ≡ y = cc at_y in
    subst (λ (w : A). R w y) one (subst (λ (w : B). R u w) other on)
both_by R (Ok u) (Err f) on x y at_x at_y = absurd on
both_by R (Err e) (Ok v) on x y at_x at_y = absurd on
both_by R (Err e) (Err f) on x y at_x at_y = cc at_x

-- where both are read, it holds of what was read
pub alike_both : {A B E : Type 0} {R : A → B → Type 0} {r : Result A E} {s : Result B E} → Alike R r s → (x : A) (y : B) → r ≡ Ok x → s ≡ Ok y → R x y
alike_both {R} {r} {s} on x y at_x at_y = both_by R r s on.is x y at_x at_y

value_by : {A B E : Type 0} {R : A → B → Type 0} (f : B → A) → ((x : A) (y : B) → R x y → x ≡ f y) → (r : Result A E) (s : Result B E) → AlikeBy R r s
    → (y : B) → s ≡ Ok y → r ≡ Ok (f y)
value_by {A} {B} {E} {R} f is (Ok u) (Ok v) on y at_y =
    let same : v ≡ y = cc at_y in
    ap (λ w. Ok w) (is u y (subst (λ (w : B). R u w) same on))
value_by f is (Ok u) (Err e) on y at_y = cc at_y
value_by f is (Err e) (Ok v) on y at_y = absurd on
value_by f is (Err e) (Err g) on y at_y = cc at_y

-- where the second is read, so is the first, and what was read there is a function of it
pub alike_value : {A B E : Type 0} {R : A → B → Type 0} (f : B → A) → ((x : A) (y : B) → R x y → x ≡ f y) → {r : Result A E} {s : Result B E} → Alike R r s
    → (y : B) → s ≡ Ok y → r ≡ Ok (f y)
alike_value f is {r} {s} on y at_y = value_by f is r s on.is y at_y

same_by : {A E : Type 0} (r s : Result A E) → AlikeBy (λ x y. x ≡ y) r s → r ≡ s
same_by (Ok x) (Ok y) on = ap (λ z. Ok z) on
same_by (Ok x) (Err f) on = absurd on
same_by (Err e) (Ok y) on = absurd on
same_by (Err e) (Err f) on = ap (λ z. Err z) on

pub alike_same : {A E : Type 0} {r s : Result A E} → Alike (λ x y. x ≡ y) r s → r ≡ s
alike_same {r} {s} on = same_by r s on.is

-- ---- lists

-- lists of one length, of which this holds place by place
pub data AllAlike {X Y : Type 0} (Q : X → Y → Type 0) : List X → List Y → Type 0 where
  none_alike : AllAlike Q [] []
  more_alike : {x : X} {y : Y} {xs : List X} {ys : List Y} → Q x y → AllAlike Q xs ys → AllAlike Q (x ∷ xs) (y ∷ ys)

pub alike_push : {X Y : Type 0} {Q : X → Y → Type 0} {xs : List X} {ys : List Y} {x : X} {y : Y} → AllAlike Q xs ys → Q x y
    → AllAlike Q (xs ++ x ∷ []) (ys ++ y ∷ [])
alike_push none_alike last = more_alike last none_alike
alike_push (more_alike first rest) last = more_alike first (alike_push rest last)

pub alike_length : {X Y : Type 0} {Q : X → Y → Type 0} {xs : List X} {ys : List Y} → AllAlike Q xs ys → length xs ≡ length ys
alike_length none_alike = refl
alike_length (more_alike first rest) = ap suc (alike_length rest)

pub alike_each : {X : Type 0} {Q : X → X → Type 0} (xs : List X) → ((x : X) → Q x x) → AllAlike Q xs xs
alike_each [] same = none_alike
alike_each (x ∷ xs) same = more_alike (same x) (alike_each xs same)
