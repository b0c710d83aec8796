-- Lines that are read one by one: the points so far ascend, and the rest goes on behind the last of them.
use Rattle.std.proofs.Common.{◌≡◌, ℕ, suc, ◌+◌, ◌-◌, ◌<◌, ◌≤◌, Bool, true, false, cond, List, [], ◌∷◌, ◌++◌}
use Rattle.std.proofs.Common.{length, refl, sym, ap, ◌∙◌, arith, append_assoc, append-nil}
use Rattle.std.specs.Prelude.{Option, Some, None, Result, Ok, Err}
use Rattle.std.specs.List.{AllByRecursion}
use Rattle.std.specs.Map.{keys_of}
use Rattle.std.specs.BTreeMap.{insert_entry}
use Rattle.std.specs.Ordering.{is_lt, ordering_reverse}
use Rattle.std.specs.declared.cmp.Ordering.{Ordering}
use Rattle.std.specs.declared.cmp.Ordering.TheVariants.{Less, Equal, Greater}
use Rattle.abs_domain.specs.AbstractState.{AbstractState}
use Rattle.abs_domain.specs.PointOrder.{point_cmp}
use Rattle.abs_domain.specs.StateView.{state_of}
use Rattle.abs_domain.specs.declared.points.Point.{Point}
use Rattle.abs_domain.specs.declared.state.Abs.{Abs}
use Rattle.abs_domain.proofs.PointOrders.{point_laws}
use Rattle.abs_step.specs.StatesAtPoints.{state_in, states_of}
use Rattle.certificate.specs.declared.answers.CertFault.{CertFault}
use Rattle.certificate.specs.declared.answers.CertCause.{CertCause}
use Rattle.certificate.specs.declared.answers.CertCause.TheVariants.{Order, SplitField}
use Rattle.certificate.specs.Entries.{entry_of}
use Rattle.text_lines.specs.Steps.{◌>>=◌}
use Rattle.certificate.specs.CertificateText.{at_line, line_at, end_at, has_split, is_behind, entry_by, entry_in, entries_at}

abbrev pub Notes : Type 0
Notes = List (Point × AbstractState)

abbrev pub with_notes : Notes → Result Notes CertFault → Result Notes CertFault
with_notes front (Ok es) = Ok (front ++ es)
with_notes front (Err fault) = Err fault

twice : (xs ys : Notes) (r : Result Notes CertFault) → with_notes (xs ++ ys) r ≡ with_notes xs (with_notes ys r)
twice xs ys (Ok es) = ap (λ (zs : Notes). Ok zs) (append_assoc xs ys es)
twice xs ys (Err fault) = refl

-- ---- points in order

-- whatever is behind a point is behind all of these
abbrev pub IsLast : Option Point → List (Point × Abs) → Type 0
IsLast before notes = (p : Point) → is_behind before p ≡ true → AllByRecursion (λ q. point_cmp q p ≡ Less) (keys_of notes)

less_by : (o : Ordering) → is_lt o ≡ true → o ≡ Less
less_by Less e = refl
less_by Equal e = absurd (cc)
less_by Greater e = absurd (cc)

greater : (p q : Point) → point_cmp q p ≡ Less → point_cmp p q ≡ Greater
greater p q less = point_laws.total.antisymm p q ∙ ap ordering_reverse less

pub put_last : (notes : List (Point × Abs)) (p : Point) (s : Abs) → AllByRecursion (λ q. point_cmp q p ≡ Less) (keys_of notes) →
    insert_entry point_cmp notes p s ≡ notes ++ (p, s) ∷ []
put_last [] p s below = refl
put_last (e ∷ es) p s below =
    rw (greater p e.0 below.0) (ap (λ (ns : List (Point × Abs)). e ∷ ns) (put_last es p s below.1))

push_below : (notes : List (Point × Abs)) (p r : Point) (s : Abs) → AllByRecursion (λ q. point_cmp q r ≡ Less) (keys_of notes) →
    point_cmp p r ≡ Less → AllByRecursion (λ q. point_cmp q r ≡ Less) (keys_of (notes ++ (p, s) ∷ []))
push_below [] p r s below less = (less, tt)
push_below (e ∷ es) p r s below less = (below.0, push_below es p r s below.1 less)

below_more : (notes : List (Point × Abs)) (p r : Point) → AllByRecursion (λ q. point_cmp q p ≡ Less) (keys_of notes) →
    point_cmp p r ≡ Less → AllByRecursion (λ q. point_cmp q r ≡ Less) (keys_of notes)
below_more [] p r below less = tt
below_more (e ∷ es) p r below less = (point_laws.total.trans e.0 p r below.0 less, below_more es p r below.1 less)

pub last_again : (notes : List (Point × Abs)) (p : Point) (s : Abs) → AllByRecursion (λ q. point_cmp q p ≡ Less) (keys_of notes) →
    IsLast (Some p) (notes ++ (p, s) ∷ [])
last_again notes p s below = λ r after.
    let less : point_cmp p r ≡ Less = less_by (point_cmp p r) after in
    push_below notes p r s (below_more notes p r below less) less

states_push : (notes : List (Point × Abs)) (p : Point) (s : Abs) → states_of (notes ++ (p, s) ∷ []) ≡ states_of notes ++ (p, state_of s) ∷ []
states_push [] p s = refl
states_push (e ∷ es) p s = ap (λ (ns : Notes). state_in e ∷ ns) (states_push es p s)

-- ---- a line

module _ (tracked : List ℕ) (left number : ℕ) (before : Option Point) (rest : List ℕ) where
  pub no_line : (fault : CertFault) → line_at number rest ≡ Err fault → entries_at tracked (suc left) number before rest ≡ Err fault
  unfolding entries_at
  no_line fault none = rw none refl

  pub no_entry : (line more : List ℕ) (fault : CertFault) → line_at number rest ≡ Ok (line, more) → at_line number (entry_in tracked before line) ≡ Err fault →
      entries_at tracked (suc left) number before rest ≡ Err fault
  unfolding entries_at
  no_entry line more fault found none = rw (found, none) refl

  pub one_entry : (line more : List ℕ) (e : Point × AbstractState) → line_at number rest ≡ Ok (line, more) →
      at_line number (entry_in tracked before line) ≡ Ok e →
      entries_at tracked (suc left) number before rest ≡ with_notes (e ∷ []) (entries_at tracked left (number + 1) (Some e.0) more)
  unfolding entries_at
  one_entry line more e found known = rw (found, known) (by (entries_at tracked left (number + 1) (Some e.0) more))
    where
      by : (r : Result Notes CertFault) → (r >>= (λ others. Ok (e ∷ others))) ≡ with_notes (e ∷ []) r
      by (Ok es) = refl
      by (Err fault) = refl

-- what is told of a line: it is read, its bytes of tracked registers are those of the scratchpad, and it is behind the one before
pub record IsRead (tracked : List ℕ) (before : Option Point) (line : List ℕ) (e : Point × AbstractState) : Type 0 where
  pub read : entry_of (length tracked) line ≡ Some e
  pub split : has_split tracked e ≡ true
  pub ahead : is_behind before e.0 ≡ true

judged : (first second : Bool) (x e : Point × AbstractState) →
    cond first (cond second (Ok x) (Err Order)) (Err SplitField) ≡ Ok e → (x ≡ e) × (first ≡ true) × (second ≡ true)
judged true true x e h = (cc, refl, refl)
judged true false x e h = absurd (cc)
judged false second x e h = absurd (cc)

module _ (tracked : List ℕ) (before : Option Point) (line : List ℕ) (e : Point × AbstractState) where
  read_by : (o : Option (Point × AbstractState)) → entry_by tracked before o ≡ Ok e →
      (o ≡ Some e) × (has_split tracked e ≡ true) × (is_behind before e.0 ≡ true)
  read_by None h = absurd (cc)
  read_by (Some x) h =
      let told = judged (has_split tracked x) (is_behind before x.0) x e h in
      (ap Some told.0, rw told.0 at told.1, rw told.0 at told.2)

  pub is_read : entry_in tracked before line ≡ Ok e → IsRead tracked before line e
  unfolding entry_in
  is_read h = let told = read_by (entry_of (length tracked) line) h in record { read = told.0; split = told.1; ahead = told.2 }

pub at_line_of : {A : Type 0} (number : ℕ) (r : Result A CertCause) (x : A) → at_line number r ≡ Ok x → r ≡ Ok x
at_line_of number (Ok y) x e = let same : y ≡ x = cc in ap Ok same
at_line_of number (Err cause) x e = absurd (cc)

-- ---- a turn of the loop, and its end

module _ (tracked : List ℕ) (count : ℕ) (text : List ℕ) (number : ℕ) (before : Option Point) (rest : List ℕ) (notes : List (Point × Abs))
    (same : with_notes (states_of notes) (entries_at tracked (count + 2 - number) number before rest) ≡ entries_at tracked count 2 None text) where
  abbrev pub left : ℕ
  left = count + 2 - (number + 1)

  faulty : (r : Result Notes CertFault) (fault : CertFault) → r ≡ Err fault → with_notes (states_of notes) r ≡ Err fault
  faulty (Ok es) fault e = absurd (cc)
  faulty (Err found) fault e = cc

  pub fails : number < count + 2 → (fault : CertFault) → entries_at tracked (suc left) number before rest ≡ Err fault →
      entries_at tracked count 2 None text ≡ Err fault
  fails within fault found =
      let more : count + 2 - number ≡ suc left = omega arith in
      sym same ∙ faulty _ fault (ap (λ n. entries_at tracked n number before rest) more ∙ found)

  pub goes_on : number < count + 2 → (p : Point) (s : Abs) (behind : List ℕ) →
      entries_at tracked (suc left) number before rest ≡ with_notes ((p, state_of s) ∷ []) (entries_at tracked left (number + 1) (Some p) behind) →
      with_notes (states_of (notes ++ (p, s) ∷ [])) (entries_at tracked (count + 2 - (number + 1)) (number + 1) (Some p) behind)
      ≡ entries_at tracked count 2 None text
  goes_on within p s behind one =
      let more : suc left ≡ count + 2 - number = omega arith in
      rw (states_push notes p s, twice (states_of notes) ((p, state_of s) ∷ []) (entries_at tracked left (number + 1) (Some p) behind), ← one)
      (ap (λ n. with_notes (states_of notes) (entries_at tracked n number before rest)) more ∙ same)

  pub all_read : count + 2 ≤ number → end_at number rest ≡ Ok tt → entries_at tracked count 2 None text ≡ Ok (states_of notes)
  unfolding entries_at
  all_read past ended =
      let none : count + 2 - number ≡ 0 = omega arith in
      sym same ∙ rw (none, ended, append-nil (states_of notes)) refl

  pub over : (fault : CertFault) → count + 2 ≤ number → end_at number rest ≡ Err fault → entries_at tracked count 2 None text ≡ Err fault
  unfolding entries_at
  over fault past more =
      let none : count + 2 - number ≡ 0 = omega arith in
      sym same ∙ rw (none, more) refl
