-- What the loops keep that make cases, and what is left to show where they end.
use Rattle.std.proofs.Common.{◌≡◌, ◌+◌, ◌<◌, ◌≤◌, ℕ, Bool, true, false, List, [], ◌∷◌, ◌++◌, length, map, take, drop, get_or, set}
use Rattle.std.proofs.Common.{refl, sym, ap, ◌∙◌, arith, length-append}
use Rattle.std.specs.Prelude.{Option, Some, None, if◌then◌else◌, nat_le, ◌==◌, flat_map}
use Rattle.std.specs.List.{range_with_len}
use Rattle.std.proofs.lemmas.Bool.{eqb-true, eqb-false, le-leb, lt-leb}
use Rattle.std.proofs.lemmas.List.{map-id, at_drop_more, at_drop_all, get_or-set_same, get_or-set_other}
use Rattle.std.proofs.lemmas.List.Folds.{flat_map-map, length-flat_map-take}
use Rattle.std.proofs.lemmas.List.FromFn.{map-range_with_len_more}
use Rattle.f8_spec.specs.declared.instructions.Op.{Op}
use Rattle.abs_domain.specs.AbstractState.{AbstractState}
use Rattle.abs_domain.specs.StateView.{state_of, status_of}
use Rattle.abs_domain.specs.declared.state.Abs.{Abs}
use Rattle.abs_domain.specs.declared.values.Bit.{Bit}
use Rattle.abs_domain.specs.declared.values.Bit.TheVariants.{Any, Known}
use Rattle.case_step.specs.Entries.{EntryView}
use Rattle.case_step.specs.Effects.{parts_read}
use Rattle.case_step.specs.Cases.{plain_case, part_cases, spread_cases, or_cases, cases_of}
use Rattle.case_step.specs.EntryViews.{states_of}
use Rattle.case_step.specs.declared.part.Part.{Part}
use Rattle.case_step.specs.declared.part.Part.TheVariants.{Accumulator}
use Rattle.case_step.specs.declared.spread.Spread.{Spread}
use Rattle.case_step.specs.declared.spread.Spread.TheVariants.{EachByte, ListedBytes, NoByte}

-- numbers from 0 on, with one more
pub range_more : (n : ℕ) (before after : List ℕ) → before ≡ range_with_len 0 n → after ≡ before ++ n ∷ [] → after ≡ range_with_len 0 (n + 1)
range_more n before after counted pushed =
    pushed ∙ ap (λ xs. xs ++ n ∷ []) (counted ∙ sym (map-id (range_with_len 0 n)))
    ∙ sym (map-range_with_len_more (λ (x : ℕ). x) 0 n n (omega arith)) ∙ map-id (range_with_len 0 (n + 1))

-- ---- flags

-- what a list has at a place after a write
written_at : {A : Type 0} (xs : List A) (place : ℕ) (x d : A) (k : ℕ) → place < length xs →
    get_or (set xs place x) k d ≡ (if k == place then x else get_or xs k d)
written_at xs place x d k within = by (k == place) refl
  where
    by : (b : Bool) → (k == place) ≡ b → get_or (set xs place x) k d ≡ (if b then x else get_or xs k d)
    by true same = rw (eqb-true k place same) (get_or-set_same xs place x d within)
    by false other = get_or-set_other xs place k x d (eqb-false k place other)

pub flag_written : (w : List Bit) (place : ℕ) (flag : Bool) → place < length w →
    status_of (set w place (Known flag)) ≡ status_of (map (λ k. if k == place then Known flag else get_or w k Any) (range_with_len 0 5))
flag_written w place flag within =
    let at : (k : ℕ) → get_or (set w place (Known flag)) k Any ≡ (if k == place then Known flag else get_or w k Any) =
    λ k. written_at w place (Known flag) Any k within in
    rw (at 0, at 1, at 2, at 3, at 4) refl

-- ---- a part more

-- what the elements up to one make is no longer than what all make
no_longer : {X A : Type 0} (f : X → List A) (xs : List X) (place : ℕ) (x : X) (before more : List A) → place < length xs →
    x ≡ get_or xs place x → before ≡ flat_map f (take place xs) → more ≡ before ++ f x → length more ≤ length (flat_map f xs)
no_longer f xs place x before more within here made next =
    let one : length more ≡ length before + length (f x) = ap length next ∙ length-append before (f x) in
    let two : length before ≡ length (flat_map f (take place xs)) = ap length made in
    let three : length (f x) ≡ length (f (get_or xs place x)) = ap (λ y. length (f y)) here in
    omega (arith, length-flat_map-take f xs place x within)

module _ (spread : Spread) (e : EntryView) (part : Part) where
  abbrev pub of_case : Abs → List AbstractState
  of_case case = part_cases spread e part (state_of case)

  pub all_made : (cases : List Abs) (more : List AbstractState) → more ≡ flat_map of_case cases → length more ≤ 4096 →
      Some more ≡ spread_cases spread e (part ∷ []) (states_of cases)
  unfolding spread_cases
  all_made cases more made few =
      rw (flat_map-map (part_cases spread e part) state_of cases, ← made, le-leb (length more) 4096 few) refl

  pub too_many : (cases : List Abs) (place : ℕ) (case : Abs) (before more : List AbstractState) → place < length cases →
      case ≡ get_or cases place case → before ≡ flat_map of_case (take place cases) → more ≡ before ++ of_case case → 4096 < length more →
      None ≡ spread_cases spread e (part ∷ []) (states_of cases)
  unfolding spread_cases
  too_many cases place case before more within here made next many =
      let longer = no_longer of_case cases place case before more within here made next in
      let all : 4096 < length (flat_map of_case cases) = omega (arith, longer) in
      rw (flat_map-map (part_cases spread e part) state_of cases, lt-leb (length (flat_map of_case cases)) 4096 all) refl

-- ---- one part after another

module _ (spread : Spread) (e : EntryView) (part : Part) (parts : List Part) (cases : List AbstractState) where
  first_part : (more : List AbstractState) → Some more ≡ spread_cases spread e (part ∷ []) cases →
      spread_cases spread e (part ∷ parts) cases ≡ spread_cases spread e parts more
  unfolding spread_cases
  first_part more made = by (nat_le (length (flat_map (part_cases spread e part) cases)) 4096) _ made
    where
      by : (b : Bool) (all : List AbstractState) → Some more ≡ (if b then Some all else None) →
          (if b then spread_cases spread e parts all else None) ≡ spread_cases spread e parts more
      by true all made = let same : all ≡ more = cc in ap (spread_cases spread e parts) same
      by false all made = absurd (cc)

  no_first_part : None ≡ spread_cases spread e (part ∷ []) cases → spread_cases spread e (part ∷ parts) cases ≡ None
  unfolding spread_cases
  no_first_part made = by (nat_le (length (flat_map (part_cases spread e part) cases)) 4096) _ made
    where
      by : (b : Bool) (all : List AbstractState) → None ≡ (if b then Some all else None) →
          (if b then spread_cases spread e parts all else None) ≡ None
      by true all made = absurd (cc)
      by false all made = refl

module _ (spread : Spread) (e : EntryView) (parts : List Part) (place : ℕ) (cases : List AbstractState) where
  from_here : place < length parts →
      spread_cases spread e (drop place parts) cases ≡ spread_cases spread e (get_or parts place Accumulator ∷ drop (place + 1) parts) cases
  from_here within = at_drop_more (λ others. spread_cases spread e others cases) parts place Accumulator within

  pub next_part : (more : List AbstractState) → place < length parts →
      Some more ≡ spread_cases spread e (get_or parts place Accumulator ∷ []) cases →
      spread_cases spread e (drop place parts) cases ≡ spread_cases spread e (drop (place + 1) parts) more
  next_part more within made = from_here within ∙ first_part spread e (get_or parts place Accumulator) (drop (place + 1) parts) cases more made

  pub no_part : place < length parts → None ≡ spread_cases spread e (get_or parts place Accumulator ∷ []) cases →
      spread_cases spread e (drop place parts) cases ≡ None
  no_part within made = from_here within ∙ no_first_part spread e (get_or parts place Accumulator) (drop (place + 1) parts) cases made

  pub all_parts : length parts ≤ place → spread_cases spread e (drop place parts) cases ≡ Some cases
  unfolding spread_cases
  all_parts past = at_drop_all (λ others. spread_cases spread e others cases) parts place past

-- ---- one spread after another

abbrev spreads : List Spread
spreads = EachByte ∷ ListedBytes ∷ NoByte ∷ []

-- what the first of some spreads makes that makes any
abbrev first_made : (Spread → Option (List AbstractState)) → List Spread → List AbstractState → List AbstractState
first_made from [] later = later
first_made from (spread ∷ others) later = or_cases (from spread) (first_made from others later)

module _ (e : EntryView) (parts : List Part) (plain : AbstractState) (place : ℕ) where
  abbrev made_by : Spread → Option (List AbstractState)
  made_by spread = spread_cases spread e parts (plain ∷ [])

  -- what the spreads from a place on make
  abbrev pub made_from : List AbstractState
  made_from = first_made made_by (drop place spreads) (plain ∷ [])

module _ (e : EntryView) (parts : List Part) (plain : AbstractState) (place : ℕ) where
  this_first : place < 3 → made_from e parts plain place
      ≡ or_cases (spread_cases (get_or spreads place EachByte) e parts (plain ∷ [])) (made_from e parts plain (place + 1))
  this_first within = at_drop_more (λ others. first_made (made_by e parts plain place) others (plain ∷ [])) spreads place EachByte within

  pub this_made : (cases : List AbstractState) → place < 3 → Some cases ≡ spread_cases (get_or spreads place EachByte) e parts (plain ∷ []) →
      made_from e parts plain place ≡ cases
  this_made cases within made = this_first within ∙ rw (← made) refl

  pub next_made : place < 3 → None ≡ spread_cases (get_or spreads place EachByte) e parts (plain ∷ []) →
      made_from e parts plain place ≡ made_from e parts plain (place + 1)
  next_made within made = this_first within ∙ rw (← made) refl

  pub none_made : 3 ≤ place → made_from e parts plain place ≡ plain ∷ []
  none_made past = at_drop_all (λ others. first_made (made_by e parts plain place) others (plain ∷ [])) spreads place past

pub all_spreads : (op : Op) (e : EntryView) (parts : List Part) (plain : AbstractState) → parts ≡ parts_read op → plain ≡ plain_case e →
    made_from e parts plain 0 ≡ cases_of op e
unfolding cases_of
all_spreads op e parts plain read first = rw (read, first) refl
