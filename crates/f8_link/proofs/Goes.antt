-- What an expression of a module comes to, beside its value in the one source: a value so far from a base is that of the base and so far.
use Rattle.std.proofs.Common.{◌≡◌, ℕ, zero, suc, ℤ, pos, negsuc, ◌+◌, ◌≤◌, Bool, true, false, List, [], ◌∷◌, Option, Some, None, Result, Ok}
use Rattle.std.proofs.Common.{Err}
use Rattle.std.proofs.Common.{refl, ap, ◌∙◌, arith}
use Rattle.std.specs.Prelude.{◌+ℤ◌, ◌-ℤ◌, int_le, ◌&&◌, if◌then◌else◌, slice_get}
use Rattle.std.specs.List.{list_all}
use Rattle.std.proofs.lemmas.Bool.Decides.{nat_tests}
use Rattle.std.proofs.lemmas.Int.{ints}
use Rattle.f8_asm.specs.Names.{value_of}
use Rattle.f8_asm.specs.Evaluation.{name_value}
use Rattle.f8_asm.specs.Values.{within, operator_value, prefix_value}
use Rattle.f8_asm.specs.Values as plain
use Rattle.f8_asm.specs.declared.values.Operator.{Operator}
use Rattle.f8_asm.specs.declared.values.Operator.TheVariants as operator
use Rattle.f8_asm.specs.declared.values.Outcome.{Outcome}
use Rattle.f8_asm.specs.declared.values.Outcome.TheVariants as outcome
use Rattle.f8_asm.specs.declared.values.Prefix.{Prefix}
use Rattle.f8_asm.specs.declared.values.Prefix.TheVariants as prefix
use Rattle.f8_asm.proofs.ExpressionsAlike.{Actalike}
use Rattle.f8_link.specs.declared.answers.LinkCause.{LinkCause}
use Rattle.f8_link.specs.declared.answers.LinkCause.TheVariants as cause
use Rattle.f8_link.specs.declared.values.Base.{Base}
use Rattle.f8_link.specs.declared.values.Base.TheVariants.{Module, Import}
use Rattle.f8_link.specs.declared.values.Found.{Found}
use Rattle.f8_link.specs.declared.values.Found.TheVariants as found
use Rattle.f8_link.specs.declared.values.Half.{Half}
use Rattle.f8_link.specs.declared.values.Half.TheVariants.{Low, High}
use Rattle.f8_link.specs.declared.values.Named.{Named}
use Rattle.f8_link.specs.declared.values.Named.TheVariants as named
use Rattle.f8_link.specs.declared.values.Value.{Value}
use Rattle.f8_link.specs.declared.values.Value.TheVariants.{Constant, Placed}
use Rattle.f8_link.specs.Evaluation.{name_found, placed_values}
use Rattle.f8_link.specs.Linking.{named_value, base_value, in_reach, all_in_reach, or_zero}
use Rattle.f8_link.specs.OneSource.{renamed_values}
use Rattle.f8_link.specs.Values.{same_base, near, used, constant_found, placed_moved, moved_placed, placed_joined, values_joined, both}
use Rattle.f8_link.specs.Values.{placed_before, value_before, before}

-- the value of a base where the module begins at `first` and its imports have these values
abbrev pub at_base : ℕ → List ℤ → Base → ℤ
at_base first values base = base_value first values (Some base)

-- and of what an expression comes to
abbrev pub real : ℕ → List ℤ → Value → ℤ
real first values (Constant v) = v
real first values (Placed base k) = at_base first values base +ℤ k

abbrev pub prefix_of : Half → Prefix
prefix_of Low = prefix.LowByte
prefix_of High = prefix.HighByte

-- a fault of the module claims nothing
abbrev pub Goes : ℕ → List ℤ → Found → Outcome → Type 0
Goes first values (found.Value v) o = o ≡ outcome.Value (real first values v)
Goes first values (found.Half half base k) o = o ≡ prefix_value (prefix_of half) (at_base first values base +ℤ k)
Goes first values found.OutOfRange o = Unit {0}
Goes first values found.Shapeless o = Unit {0}
Goes first values (found.Undefined column) o = Unit {0}

-- a name of the module, or else its import by number, and the name's value in the one source
abbrev pub NameGoes : ℕ → List ℤ → Option Named → Option ℕ → Option ℤ → Type 0
NameGoes first values (Some v) import o = o ≡ Some (named_value first v)
NameGoes first values None (Some i) o = o ≡ Some (at_base first values (Import i))
NameGoes first values None None o = Unit {0}

-- each base is so far from 0 that no sum leaves the values that an expression may have
abbrev pub Reach : ℕ → List ℤ → Type 0
Reach first values = (base : Base) → in_reach (at_base first values base) ≡ true

-- ---- sums

sum_within : (z k : ℤ) → in_reach z ≡ true → (int_le (negsuc 65534) k && int_le k (pos 65535)) ≡ true → within (z +ℤ k) ≡ outcome.Value (z +ℤ k)
sum_within z k reach is = grind (arith, ints)

module _ (first : ℕ) (values : List ℤ) where
  -- a placed value, where it isn't too far from its base
  near_by : (base : Base) (k : ℤ) (o : Outcome) (t : Bool) → (t ≡ true → o ≡ outcome.Value (at_base first values base +ℤ k))
      → Goes first values (if t then found.Value (Placed base k) else found.OutOfRange) o
  near_by base k o true is = is refl
  near_by base k o false is = tt

  near_goes : (base : Base) (k : ℤ) (o : Outcome)
      → ((int_le (negsuc 65534) k && int_le k (pos 65535)) ≡ true → o ≡ outcome.Value (at_base first values base +ℤ k)) → Goes first values (near base k) o
  near_goes base k o is = near_by base k o (int_le (negsuc 65534) k && int_le k (pos 65535)) is

  constant_goes : (o : Outcome) → Goes first values (constant_found o) o
  constant_goes (outcome.Value v) = refl
  constant_goes outcome.OutOfRange = tt
  constant_goes (outcome.Undefined column) = tt

-- ---- two values joined

same_based : (base other : Base) → same_base base other ≡ true → base ≡ other
same_based Module Module is = refl
same_based Module (Import j) is = cc is
same_based (Import i) Module is = cc is
same_based (Import i) (Import j) is = ap Import (grind (arith, nat_tests))

after_sum : (z k a : ℤ) → (z +ℤ k) +ℤ a ≡ z +ℤ (k +ℤ a)
after_sum z k a = omega (arith, ints)

before_sum : (z k a : ℤ) → a +ℤ (z +ℤ k) ≡ z +ℤ (a +ℤ k)
before_sum z k a = omega (arith, ints)

after_difference : (z k a : ℤ) → (z +ℤ k) -ℤ a ≡ z +ℤ (k -ℤ a)
after_difference z k a = omega (arith, ints)

base_gone : (z k j : ℤ) → (z +ℤ k) -ℤ (z +ℤ j) ≡ k -ℤ j
base_gone z k j = omega (arith, ints)

module _ (first : ℕ) (values : List ℤ) (reach : Reach first values) where
  moved_goes : (op : Operator) (base : Base) (k a : ℤ)
      → Goes first values (placed_moved op base k a) (operator_value op (at_base first values base +ℤ k) a)
  moved_goes operator.Plus base k a =
      near_goes first values base (k +ℤ a) _ (λ is. ap within (after_sum (at_base first values base) k a)
      ∙ sum_within (at_base first values base) (k +ℤ a) (reach base) is)
  moved_goes operator.Minus base k a =
      near_goes first values base (k -ℤ a) _ (λ is. ap within (after_difference (at_base first values base) k a)
      ∙ sum_within (at_base first values base) (k -ℤ a) (reach base) is)
  moved_goes operator.Or base k a = tt
  moved_goes operator.And base k a = tt
  moved_goes operator.Times base k a = tt
  moved_goes operator.Divide base k a = tt

  behind_goes : (op : Operator) (a : ℤ) (base : Base) (k : ℤ)
      → Goes first values (moved_placed op a base k) (operator_value op a (at_base first values base +ℤ k))
  behind_goes operator.Plus a base k =
      near_goes first values base (a +ℤ k) _ (λ is. ap within (before_sum (at_base first values base) k a)
      ∙ sum_within (at_base first values base) (a +ℤ k) (reach base) is)
  behind_goes operator.Minus a base k = tt
  behind_goes operator.Or a base k = tt
  behind_goes operator.And a base k = tt
  behind_goes operator.Times a base k = tt
  behind_goes operator.Divide a base k = tt

  difference_goes : (base other : Base) (k j : ℤ) (t : Bool) → (t ≡ true → base ≡ other)
      → Goes first values (placed_joined operator.Minus t k j)
      (operator_value operator.Minus (at_base first values base +ℤ k) (at_base first values other +ℤ j))
  difference_goes base other k j true same =
      rw (same refl, base_gone (at_base first values other) k j) (constant_goes first values (within (k -ℤ j)))
  difference_goes base other k j false same = tt

  placed_goes : (op : Operator) (base other : Base) (k j : ℤ)
      → Goes first values (placed_joined op (same_base base other) k j)
      (operator_value op (at_base first values base +ℤ k) (at_base first values other +ℤ j))
  placed_goes operator.Minus base other k j = difference_goes base other k j (same_base base other) (same_based base other)
  placed_goes operator.Plus base other k j = tt
  placed_goes operator.Or base other k j = tt
  placed_goes operator.And base other k j = tt
  placed_goes operator.Times base other k j = tt
  placed_goes operator.Divide base other k j = tt

  joined_goes : (op : Operator) (v w : Value)
      → Goes first values (values_joined op v w) (operator_value op (real first values v) (real first values w))
  joined_goes op (Constant a) (Constant b) = constant_goes first values (operator_value op a b)
  joined_goes op (Constant a) (Placed base k) = behind_goes op a base k
  joined_goes op (Placed base k) (Constant a) = moved_goes op base k a
  joined_goes op (Placed base k) (Placed other j) = placed_goes op base other k j

  both_goes : (op : Operator) (x u : Found) (y v : Outcome) → Goes first values x y → Goes first values u v →
      Goes first values (both op x u) (plain.both op y v)
  both_goes op (found.Value a) (found.Value b) y v so now = rw (so, now) (joined_goes op a b)
  both_goes op (found.Value a) (found.Half half base k) y v so now = tt
  both_goes op (found.Value a) found.OutOfRange y v so now = tt
  both_goes op (found.Value a) found.Shapeless y v so now = tt
  both_goes op (found.Value a) (found.Undefined column) y v so now = tt
  both_goes op (found.Half half base k) (found.Value b) y v so now = tt
  both_goes op (found.Half half base k) (found.Half other base' j) y v so now = tt
  both_goes op (found.Half half base k) found.OutOfRange y v so now = tt
  both_goes op (found.Half half base k) found.Shapeless y v so now = tt
  both_goes op (found.Half half base k) (found.Undefined column) y v so now = tt
  both_goes op found.OutOfRange (found.Value b) y v so now = tt
  both_goes op found.OutOfRange (found.Half half base k) y v so now = tt
  both_goes op found.OutOfRange found.OutOfRange y v so now = tt
  both_goes op found.OutOfRange found.Shapeless y v so now = tt
  both_goes op found.OutOfRange (found.Undefined column) y v so now = tt
  both_goes op found.Shapeless (found.Value b) y v so now = tt
  both_goes op found.Shapeless (found.Half half base k) y v so now = tt
  both_goes op found.Shapeless found.OutOfRange y v so now = tt
  both_goes op found.Shapeless found.Shapeless y v so now = tt
  both_goes op found.Shapeless (found.Undefined column) y v so now = tt
  both_goes op (found.Undefined column) u y v so now = tt

  -- ---- a value behind a prefix

  half_goes : (p : Prefix) (base : Base) (k : ℤ) → Goes first values (placed_before p base k) (prefix_value p (at_base first values base +ℤ k))
  half_goes prefix.Negative base k = tt
  half_goes prefix.LowByte base k = refl
  half_goes prefix.HighByte base k = refl

  value_goes : (p : Prefix) (v : Value) → Goes first values (value_before p v) (prefix_value p (real first values v))
  value_goes p (Constant v) = constant_goes first values (prefix_value p v)
  value_goes p (Placed base k) = half_goes p base k

  before_goes : (p : Prefix) (x : Found) (y : Outcome) → Goes first values x y → Goes first values (before p x) (plain.before p y)
  before_goes p (found.Value v) y so = rw so (value_goes p v)
  before_goes p (found.Half half base k) y so = tt
  before_goes p found.OutOfRange y so = tt
  before_goes p found.Shapeless y so = tt
  before_goes p (found.Undefined column) y so = tt

-- ---- names

zero_more : (z : ℤ) → z ≡ z +ℤ pos 0
zero_more z = omega (arith, ints)

so_far : (first offset : ℕ) → pos (first + offset) ≡ pos first +ℤ pos offset
so_far first offset = refl

module _ (first : ℕ) (values : List ℤ) where
  used_goes : (column : ℕ) (v : Named) (o : Option ℤ) → o ≡ Some (named_value first v) → Goes first values (used v) (name_value column o)
  used_goes column (named.Constant v) o is = rw is refl
  used_goes column (named.Offset offset) o is = rw is (near_goes first values Module (pos offset) _ (λ _. refl))

  name_goes : (column : ℕ) (own : Option Named) (import : Option ℕ) (o : Option ℤ) → NameGoes first values own import o
      → Goes first values (name_found column own import) (name_value column o)
  name_goes column (Some v) import o is = used_goes column v o is
  name_goes column None (Some i) o is = rw is (ap outcome.Value (zero_more (at_base first values (Import i))))
  name_goes column None None o is = tt

-- an expression of a module and the same in the one source
pub expressions_go : (first : ℕ) (values : List ℤ) (names : List (List ℕ × Named)) (imports : List (List ℕ × ℕ)) (offset : ℕ)
    (rename : List ℕ → List ℕ) (others : List (List ℕ × ℤ)) (address : ℕ) → Reach first values → address ≡ first + offset
    → ((x : List ℕ) → NameGoes first values (value_of names x) (value_of imports x) (value_of others (rename x)))
    → Actalike (Goes first values) (placed_values names imports offset) (renamed_values rename others address)
expressions_go first values names imports offset rename others address reach at given = record {
  number = λ n. refl;
  name = λ column x. name_goes first values column (value_of names x) (value_of imports x) (value_of others (rename x)) (given x);
  here = near_goes first values Module (pos offset) _ (λ _. ap (λ (n : ℕ). outcome.Value (pos n)) at);
  before = before_goes first values reach;
  between = both_goes first values reach;
}

-- ---- where each base is in reach

low_reach : (n : ℕ) → n ≤ 65536 → in_reach (pos n) ≡ true
low_reach n low = grind (arith, ints)

both_true : (a b : Bool) → (a && b) ≡ true → (a ≡ true) × (b ≡ true)
both_true true b is = (refl, is)
both_true false b is = cc is

value_reach : (values : List ℤ) (i : ℕ) → list_all in_reach values ≡ true → in_reach (or_zero (slice_get values i)) ≡ true
value_reach [] i all = refl
value_reach (v ∷ vs) zero all = (both_true (in_reach v) (list_all in_reach vs) all).0
value_reach (v ∷ vs) (suc i) all = value_reach vs i ((both_true (in_reach v) (list_all in_reach vs) all).1)

abbrev reach_told : Bool → Result (Unit {0}) LinkCause
reach_told t = if t then Ok tt else Err cause.Reach

all_told : (t : Bool) (u : Unit {0}) → reach_told t ≡ Ok u → t ≡ true
all_told true u is = refl
all_told false u is = cc is

-- as linking tests it
pub reaches : (first : ℕ) (values : List ℤ) (u : Unit {0}) → first ≤ 65536 → all_in_reach values ≡ Ok u → Reach first values
reaches first values u low is Module = low_reach first low
reaches first values u low is (Import i) = value_reach values i (all_told (list_all in_reach values) u is)

-- ---- what EQU may name

own_alone : (first : ℕ) (values : List ℤ) (own : Option Named) (o : Option ℤ) → ((v : Named) → own ≡ Some v → o ≡ Some (named_value first v))
    → NameGoes first values own None o
own_alone first values (Some v) o given = given v refl
own_alone first values None o given = tt

-- the same with the module's own names alone
pub constants_go : (first : ℕ) (rename : List ℕ → List ℕ) → first ≤ 65536 → (names : List (List ℕ × Named)) (offset : ℕ) (others : List (List ℕ × ℤ))
    → ((x : List ℕ) (v : Named) → value_of names x ≡ Some v → value_of others (rename x) ≡ Some (named_value first v))
    → Actalike (Goes first []) (placed_values names [] offset) (renamed_values rename others (first + offset))
constants_go first rename low names offset others given =
    expressions_go first [] names [] offset rename others (first + offset) (reaches first [] tt low refl) refl
    (λ x. own_alone first [] (value_of names x) (value_of others (rename x)) (given x))
