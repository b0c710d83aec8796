-- What holds along the ways on, each exit once, is what holds along them one after another, each point once.
use Rattle.std.proofs.Common.{◌≡◌, ℕ, Bool, true, false, ◌&&◌, List, [], ◌∷◌, ◌++◌, map, refl, ap, sym, subst, ◌∙◌}
use Rattle.std.specs.Prelude.{◌==◌, Option, Some, None, flat_map, if◌then◌else◌}
use Rattle.std.specs.Option.{option_eq}
use Rattle.std.proofs.lemmas.Bool.{eq-eqb, eqb-true}
use Rattle.abs_domain.specs.AbstractState.{AbstractState, KnownCounters, KnownRegisters}
use Rattle.abs_domain.specs.Joins.{joined_state}
use Rattle.abs_domain.specs.Lattice.{common, common_each, same_bool, same_number}
use Rattle.abs_domain.specs.declared.points.Point.{Point}
use Rattle.abs_step.specs.Successors.{Invariant, along, at_exit, at_vector, is_equal, same_point, tracked_bytes, with_invariant}
use Rattle.abs_step.specs.Successors.{with_invariants}
use Rattle.abs_step.specs.StepView.{joined_along}
use Rattle.abs_step.specs.Vectors.{with_icb}
use Rattle.abs_step.specs.WaysOn.{at_way, same_exit, vector_ways, ways_along, ways_of, with_way, with_ways}
use Rattle.abs_step.specs.declared.exits.Exit.{Exit}
use Rattle.abs_step.specs.declared.ways.Way.{Way}
use Rattle.abs_step.proofs.Covering.{same_by}
use Rattle.abs_step.proofs.Members.{same_tests}
use Rattle.abs_step.proofs.SuccessorOrder.{equal_itself}
use Rattle.abs_step.proofs.TrackedFits.{common_itself}

-- ---- states that differ in the interrupt control bit alone

each_itself : (xs : List (Option ℕ)) → common_each same_number xs xs ≡ xs
each_itself [] = refl
each_itself (x ∷ xs) = rw (common_itself x, each_itself xs) refl

bit_itself : (o : Option Bool) → common same_bool o o ≡ o
bit_itself None = refl
bit_itself (Some true) = refl
bit_itself (Some false) = refl

both_itself : (b : Bool) → (b && b) ≡ b
both_itself true = refl
both_itself false = refl

joined_icb : (s : AbstractState) (a b : Option Bool) →
    joined_state (with_icb a s) (with_icb b s) ≡ with_icb (common same_bool a b) s
joined_icb s a b = λ i. record {
  registers = record {
    accumulator = common_itself s.registers.accumulator i;
    high = common_itself s.registers.high i;
    low = common_itself s.registers.low i;
    status = record {
      sign = bit_itself s.registers.status.sign i;
      carry = bit_itself s.registers.status.carry i;
      zero = bit_itself s.registers.status.zero i;
      overflow = bit_itself s.registers.status.overflow i;
      icb = common same_bool a b;
    };
    scratchpad = each_itself s.registers.scratchpad i;
  };
  counters = record {
    d0 = common_itself s.counters.d0 i;
    d1 = common_itself s.counters.d1 i;
    c = common_itself s.counters.c i;
    s0 = both_itself s.counters.s0 i;
    s1 = both_itself s.counters.s1 i;
    p0 = both_itself s.counters.p0 i;
    p1 = both_itself s.counters.p1 i;
  };
}

-- ---- exits are one where their points are

abbrev same_return : Option ℕ → Option ℕ → Bool
same_return x y = option_eq (λ a b. a == b) x y

both_hold : (a b : Bool) → (a && b) ≡ true → (a ≡ true) × (b ≡ true)
both_hold true b e = (refl, e)
both_hold false b e = absurd (cc)

return_is : (x y : Option ℕ) → same_return x y ≡ true → x ≡ y
return_is None None e = refl
return_is None (Some b) e = absurd (cc)
return_is (Some a) None e = absurd (cc)
return_is (Some a) (Some b) e = ap Some (eqb-true a b e)

return_itself : (x y : Option ℕ) → x ≡ y → same_return x y ≡ true
return_itself None y e = rw (sym e) refl
return_itself (Some a) y e = rw (sym e) (eq-eqb a a refl)

module _ (bytes : List (Option ℕ)) (s : AbstractState) where
  abbrev point_at : Exit → Point
  point_at e = record { at = e.at; ret = e.ret; split = bytes }

  same_points : (d e : Exit) → same_point (point_at d) (point_at e) ≡ same_exit d e
  same_points d e = same_tests (same_point (point_at d) (point_at e)) (same_exit d e)
      (λ same.
      let is : point_at d ≡ point_at e = same_by (point_at d) (point_at e) _ refl same in
      let at : (d.at == e.at) ≡ true = eq-eqb d.at e.at (ap (λ (p : Point). p.at) is) in
      let ret = return_itself d.ret e.ret (ap (λ (p : Point). p.ret) is) in
      rw (at) ret)
      (λ same.
      let parts = both_hold (d.at == e.at) (same_return d.ret e.ret) same in
      let at : d.at ≡ e.at = eqb-true d.at e.at parts.0 in
      let ret : d.ret ≡ e.ret = return_is d.ret e.ret parts.1 in
      let is : point_at d ≡ point_at e = λ i. record { at = at i; ret = ret i; split = bytes } in
      subst (λ (p : Point). same_point p (point_at e) ≡ true) (sym is) (ap is_equal (equal_itself (point_at e))))

  -- one more way, and all
  one_way : (w : Way) (ws : List Way) → map (at_way bytes s) (with_way w ws) ≡ with_invariant (at_way bytes s w) (map (at_way bytes s) ws)
  one_way w [] = refl
  one_way w (v ∷ vs) = rw (same_points w.exit v.exit) (by (same_exit w.exit v.exit) (one_way w vs))
    where
      by : (b : Bool) → map (at_way bytes s) (with_way w vs) ≡ with_invariant (at_way bytes s w) (map (at_way bytes s) vs) →
          map (at_way bytes s) (if b then record v { icb = common same_bool v.icb w.icb } ∷ vs else v ∷ with_way w vs)
          ≡ (if b then record (at_way bytes s v) { state = joined_state (with_icb v.icb s) (with_icb w.icb s) } ∷ map (at_way bytes s) vs
          else at_way bytes s v ∷ with_invariant (at_way bytes s w) (map (at_way bytes s) vs))
      by true later =
          ap (λ (t : AbstractState). record { point = point_at v.exit; state = t } ∷ map (at_way bytes s) vs) (sym (joined_icb s v.icb w.icb))
      by false later = ap (λ (xs : List Invariant). at_way bytes s v ∷ xs) later

  all_ways : (ws done : List Way) →
      map (at_way bytes s) (with_ways ws done) ≡ with_invariants (map (at_way bytes s) ws) (map (at_way bytes s) done)
  all_ways [] done = refl
  all_ways (w ∷ ws) done =
      all_ways ws (with_way w done) ∙ ap (λ (xs : List Invariant). with_invariants (map (at_way bytes s) ws) xs) (one_way w done)

map_both : {A B : Type 0} → (f : A → B) (xs ys : List A) → map f (xs ++ ys) ≡ map f xs ++ map f ys
map_both f [] ys = refl
map_both f (x ∷ xs) ys = ap (λ l. f x ∷ l) (map_both f xs ys)

flats : {A B C : Type 0} → (V : B → C) (f : A → List B) (g : A → List C) → ((x : A) → map V (f x) ≡ g x) → (xs : List A) →
    map V (flat_map f xs) ≡ flat_map g xs
flats V f g each [] = refl
flats V f g each (x ∷ xs) = map_both V (f x) (flat_map f xs) ∙ ap (λ l. l ++ map V (flat_map f xs)) (each x)
    ∙ ap (λ l. g x ++ l) (flats V f g each xs)

-- ---- the ways of some exits

module _ (tracked vectors : List ℕ) (s : AbstractState) where
  abbrev at_them : Way → Invariant
  at_them w = at_way (tracked_bytes tracked s.registers) s w

  ways_are : (e : Exit) → map at_them (ways_along vectors s.registers.status.icb e) ≡ along tracked vectors s e
  ways_are e = ap (λ l. at_exit tracked s e ∷ l) (flats at_them (vector_ways e) (at_vector tracked s e) (λ v. refl) vectors)

  pub joined_ways : (es : List Exit) →
      map at_them (ways_of vectors s.registers.status.icb es) ≡ with_invariants (flat_map (along tracked vectors s) es) []
  joined_ways es =
      all_ways (tracked_bytes tracked s.registers) s (flat_map (ways_along vectors s.registers.status.icb) es) []
      ∙ ap (λ (xs : List Invariant). with_invariants xs [])
      (flats at_them (ways_along vectors s.registers.status.icb) (along tracked vectors s) ways_are es)

-- and so are the ways by what the program has of the state behind the instruction
pub along_is : (tracked vectors : List ℕ) (k : KnownRegisters) (counters : KnownCounters) (es : List Exit) (state : AbstractState)
    (bytes : List (Option ℕ)) (icb : Option Bool) (ways : List Way) → state ≡ record { registers = k; counters = counters } →
    bytes ≡ tracked_bytes tracked k → icb ≡ k.status.icb → ways ≡ ways_of vectors icb es →
    map (at_way bytes state) ways ≡ joined_along tracked vectors k counters es
along_is tracked vectors k counters es state bytes icb ways state_is bytes_are icb_is ways_are =
    rw (state_is, bytes_are, ways_are, icb_is) (joined_ways tracked vectors (record { registers = k; counters = counters }) es)
