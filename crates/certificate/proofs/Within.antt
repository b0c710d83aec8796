-- What holds of a value that there may be: of what is made of it, and of the next step.
use Rattle.std.proofs.Common.{◌≡◌, refl, subst}
use Rattle.std.specs.Prelude.{Option, Some, None, option_map, option_and_then}
use Rattle.std.specs.Option.{ForSome}

some_same : {A : Type 0} (x y : A) → Some x ≡ Some y → x ≡ y
some_same x y e = cc

pub only_within : {A : Type 0} (x : A) (P : A → Type 0) → P x → ForSome (Some x) P
only_within x P held = λ y e. subst P (some_same x y e) held

pub none_within : {A : Type 0} (P : A → Type 0) → ForSome None P
none_within P = λ y e. absurd (cc)

pub all_within : {A : Type 0} (o : Option A) → ForSome o (λ _. Unit {0})
all_within o = λ y e. tt

module _ {A B : Type 0} (P : A → Type 0) (Q : B → Type 0) where
  pub map_within : (o : Option A) (f : A → B) → ForSome o P → ((x : A) → P x → Q (f x)) → ForSome (option_map f o) Q
  map_within None f held next = none_within Q
  map_within (Some x) f held next = only_within (f x) Q (next x (held x refl))

  pub then_within : (o : Option A) (f : A → Option B) → ForSome o P → ((x : A) → P x → ForSome (f x) Q) → ForSome (option_and_then f o) Q
  then_within None f held next = none_within Q
  then_within (Some x) f held next = next x (held x refl)
