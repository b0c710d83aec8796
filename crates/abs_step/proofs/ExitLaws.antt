-- Where an instruction may lead: from less that is known it may lead to no fewer places, and where all is known it leads where the flat
-- machine goes. All chips that are at the flat machine's counters go with it.
use Rattle.std.proofs.Common.{◌≡◌, ℕ, Bool, true, false, List, [], ◌∷◌, ◌++◌, refl, ap, ◌⊎◌, inl, inr}
use Rattle.std.specs.Prelude.{Option, Some, None, option_map, is_some, if◌then◌else◌}
use Rattle.f8_spec.specs.Words.{places_on, displaced}
use Rattle.f8_spec.specs.Instructions.{row_length}
use Rattle.f8_spec.specs.declared.instructions.Row.{Row}
use Rattle.f8_spec.specs.declared.instructions.Row.TheVariants.{StackFromK, CallK, JumpQ}
use Rattle.f8_spec.specs.declared.instructions.Row.TheVariants.{Return, Call}
use Rattle.f8_spec.specs.declared.instructions.Row.TheVariants.{Jump, Exchange, Branch, BranchIsar}
use Rattle.console_spec.specs.Processor.{Flow, Inputs, flow_after}
use Rattle.abs_domain.specs.Lattice.{Below}
use Rattle.abs_step.specs.Known.{known_word}
use Rattle.abs_step.specs.KnownFlow.{KnownInputs, exit_to, branch_exits, branch_target, exits}
use Rattle.abs_step.specs.declared.exits.Exit.{Exit}
use Rattle.abs_step.proofs.Knowing.{below_map, below_word}
use Rattle.abs_step.proofs.InputLaws.{whole_inputs, InputsBelow}

-- ---- lists of which each element has its match in another

abbrev pub HasMatch : {A B : Type 0} → (A → B → Type 0) → A → List B → Type 0
HasMatch R x [] = ⊥
HasMatch R x (y ∷ ys) = R x y ⊎ HasMatch R x ys

abbrev pub Matched : {A B : Type 0} → (A → B → Type 0) → List A → List B → Type 0
Matched R [] ys = Unit {0}
Matched R (x ∷ xs) ys = HasMatch R x ys × Matched R xs ys

match_left : {A B : Type 0} (R : A → B → Type 0) (x : A) (ys zs : List B) → HasMatch R x ys → HasMatch R x (ys ++ zs)
match_left R x [] zs h = absurd h
match_left R x (y ∷ ys) zs (inl here) = inl here
match_left R x (y ∷ ys) zs (inr later) = inr (match_left R x ys zs later)

match_right : {A B : Type 0} (R : A → B → Type 0) (x : A) (ys zs : List B) → HasMatch R x zs → HasMatch R x (ys ++ zs)
match_right R x [] zs h = h
match_right R x (y ∷ ys) zs h = inr (match_right R x ys zs h)

matched_left : {A B : Type 0} (R : A → B → Type 0) (xs : List A) (ys zs : List B) → Matched R xs ys → Matched R xs (ys ++ zs)
matched_left R [] ys zs h = tt
matched_left R (x ∷ xs) ys zs h = (match_left R x ys zs h.0, matched_left R xs ys zs h.1)

matched_right : {A B : Type 0} (R : A → B → Type 0) (xs : List A) (ys zs : List B) → Matched R xs zs → Matched R xs (ys ++ zs)
matched_right R [] ys zs h = tt
matched_right R (x ∷ xs) ys zs h = (match_right R x ys zs h.0, matched_right R xs ys zs h.1)

matched_both : {A B : Type 0} (R : A → B → Type 0) (xs ys : List A) (zs : List B) → Matched R xs zs → Matched R ys zs →
    Matched R (xs ++ ys) zs
matched_both R [] ys zs p q = q
matched_both R (x ∷ xs) ys zs p q = (p.0, matched_both R xs ys zs p.1 q)

-- ---- the order

-- all that its exits need is known
abbrev pub is_ready : Row → KnownInputs → Option ℕ → Bool
is_ready StackFromK i ret = is_some (known_word i.k_high i.k_low)
is_ready CallK i ret = is_some (known_word i.k_high i.k_low)
is_ready JumpQ i ret = is_some (known_word i.q_high i.q_low)
is_ready Return i ret = is_some ret
is_ready Call i ret = is_some (known_word i.operand i.second)
is_ready Jump i ret = is_some (known_word i.operand i.second)
is_ready Branch i ret = is_some i.operand
is_ready BranchIsar i ret = is_some i.operand
is_ready row i ret = true

-- over a relation of returns, which a known one has to itself
module _ (R : Option ℕ → Option ℕ → Type 0) (same : (v : ℕ) → R (Some v) (Some v)) where
  pub record ExitBelow (e f : Exit) : Type 0 where
    pub at : e.at ≡ f.at
    pub ret : R e.ret f.ret

  to_below : (x y ret back : Option ℕ) → Below x y → is_some y ≡ true → R ret back → Matched ExitBelow (exit_to x ret) (exit_to y back)
  to_below x None ret back p known q = absurd (cc)
  to_below x (Some y) ret back p known q = rw p (inl (record { at = refl; ret = q }), tt)

  next_below : (at : ℕ) (ret back : Option ℕ) → R ret back → Matched ExitBelow (exit_to (Some at) ret) (exit_to (Some at) back)
  next_below at ret back q = (inl (record { at = refl; ret = q }), tt)

  branch_below : (a b : Option Bool) (x y : Option ℕ) (next : ℕ) (ret back : Option ℕ) → Below a b → Below x y → is_some y ≡ true →
      R ret back →
      Matched ExitBelow (branch_exits a x next ret) (branch_exits b y next back)
  branch_below a (Some true) x y next ret back t p known q = rw t (to_below x y ret back p known q)
  branch_below a (Some false) x y next ret back t p known q = rw t (next_below next ret back q)
  branch_below (Some true) None x y next ret back t p known q =
      matched_left ExitBelow (exit_to x ret) (exit_to y back) _ (to_below x y ret back p known q)
  branch_below (Some false) None x y next ret back t p known q =
      matched_right ExitBelow (exit_to (Some next) ret) (exit_to y back) _ (next_below next ret back q)
  branch_below None None x y next ret back t p known q =
      matched_both ExitBelow (exit_to x ret) _ _
      (matched_left ExitBelow (exit_to x ret) (exit_to y back) _ (to_below x y ret back p known q))
      (matched_right ExitBelow (exit_to (Some next) ret) (exit_to y back) _ (next_below next ret back q))

  -- a return that is known above is the same below
  return_below : (at : ℕ) (x y : Option ℕ) → Below x y → is_some y ≡ true → Matched ExitBelow (exit_to (Some at) x) (exit_to (Some at) y)
  return_below at x None p known = absurd (cc)
  return_below at x (Some y) p known = rw p (inl (record { at = refl; ret = same y }), tt)

  target_below : (at : ℕ) (i j : KnownInputs) → InputsBelow i j → Below (branch_target at i) (branch_target at j)
  target_below at i j h = below_map (displaced (places_on at 1)) i.operand j.operand h.operand

  target_known : (at : ℕ) (j : KnownInputs) → is_some j.operand ≡ true → is_some (branch_target at j) ≡ true
  target_known at j known = by j.operand known
    where
      by : (x : Option ℕ) → is_some x ≡ true → is_some (option_map (displaced (places_on at 1)) x) ≡ true
      by None none = none
      by (Some x) some = refl

  pub exits_below : (row : Row) (i j : KnownInputs) (at : ℕ) (ret back : Option ℕ) → InputsBelow i j → Below ret back → R ret back →
      is_ready row j back ≡ true → Matched ExitBelow (exits row i at ret) (exits row j at back)
  exits_below StackFromK i j at ret back h b q known =
      return_below _ _ _ (below_word i.k_high j.k_high i.k_low j.k_low h.k_high h.k_low) known
  exits_below CallK i j at ret back h b q known =
      to_below _ _ _ _ (below_word i.k_high j.k_high i.k_low j.k_low h.k_high h.k_low) known (same (places_on at 1))
  exits_below JumpQ i j at ret back h b q known =
      to_below _ _ ret back (below_word i.q_high j.q_high i.q_low j.q_low h.q_high h.q_low) known q
  exits_below Return i j at ret back h b q known = to_below ret back ret back b known q
  exits_below Call i j at ret back h b q known =
      to_below _ _ _ _ (below_word i.operand j.operand i.second j.second h.operand h.second) known (same (places_on at 3))
  exits_below Jump i j at ret back h b q known =
      to_below _ _ ret back (below_word i.operand j.operand i.second j.second h.operand h.second) known q
  exits_below Branch i j at ret back h b q known =
      branch_below i.taken j.taken _ _ _ ret back h.taken (target_below at i j h) (target_known at j known) q
  exits_below BranchIsar i j at ret back h b q known =
      branch_below i.taken j.taken _ _ _ ret back h.taken (target_below at i j h) (target_known at j known) q
  exits_below row i j at ret back h b q known = next_below _ ret back q

-- ---- where all is known

branch_whole : (taken : Bool) (target next : ℕ) (ret : Option ℕ) →
    branch_exits (Some taken) (Some target) next ret ≡ exit_to (Some (if taken then target else next)) ret
branch_whole true target next ret = refl
branch_whole false target next ret = refl

pub exits_whole : (row : Row) (i : Inputs) (r : Flow) →
    exits row (whole_inputs i) r.p (Some r.p1) ≡ exit_to (Some (flow_after row i true r).p) (Some (flow_after row i true r).p1)
exits_whole Branch i r = branch_whole i.taken _ _ _
exits_whole BranchIsar i r = branch_whole i.taken _ _ _
exits_whole row i r = refl

-- ---- chips that are where the flat machine is

-- the next address: all that have its counters get the same, by a return where their stack registers agree
pub same_next : (row : Row) (i : Inputs) (first second : Bool) (r c : Flow) → c.p ≡ r.p → (row ≡ Return → c.p1 ≡ r.p1) →
    (flow_after row i second c).p ≡ (flow_after row i first r).p
same_next StackFromK i first second r c p back = ap (λ a. places_on a 1) p
same_next CallK i first second r c p back = refl
same_next JumpQ i first second r c p back = refl
same_next Return i first second r c p back = back refl
same_next Call i first second r c p back = refl
same_next Jump i first second r c p back = refl
same_next Exchange i first second r c p back = by first second
  where
    by : (a b : Bool) → (flow_after Exchange i b c).p ≡ (flow_after Exchange i a r).p
    by true true = ap (λ at. places_on at 1) p
    by true false = ap (λ at. places_on at 1) p
    by false true = ap (λ at. places_on at 1) p
    by false false = ap (λ at. places_on at 1) p
same_next Branch i first second r c p back = ap (λ a. if i.taken then displaced (places_on a 1) i.operand else places_on a 2) p
same_next BranchIsar i first second r c p back = ap (λ a. if i.taken then displaced (places_on a 1) i.operand else places_on a 2) p
same_next row i first second r c p back = ap (λ a. places_on a (row_length row)) p
