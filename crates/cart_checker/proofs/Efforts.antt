-- What is added never makes more work, so that a search ends; and where a point more would be too many, that many are reached.
use Rattle.std.proofs.Common.{◌≡◌, ℕ, ◌+◌, ◌≤◌, Bool, true, false, cond, is_some, List, [], ◌∷◌, length, refl, sym, ap, ◌∙◌, arith}
use Rattle.std.specs.Prelude.{Option, Some, None, MatchBool, IsSome, unwrap_or, option_map}
use Rattle.std.specs.List.{AllByRecursion, sum_by}
use Rattle.std.specs.Map.{lookup, keys_of, values_of}
use Rattle.std.specs.BTreeMap.{is_at}
use Rattle.std.specs.Ordering.{eq_by_cmp}
use Rattle.std.proofs.lemmas.Cmp.{eq_by_cmp_equiv}
use Rattle.std.proofs.lemmas.List.Elements.{All-cons}
use Rattle.std.proofs.lemmas.Map.{NonePasses, none_passes_from_lookup}
use Rattle.std.proofs.lemmas.Map.Entries.{sum_by-insert_entry, length-keys_of}
use Rattle.std.proofs.lemmas.Map.Keys.{IsDistinct-cons, IsDistinct-from_sorted}
use Rattle.std.proofs.lemmas.Map.Views.{All-keys_from_lookup}
use Rattle.abs_step.specs.Analysis.{Analysis, AnalysisLaws}
use Rattle.abs_step.specs.ReachedStates.{Reached, state_at, ReachesTooMany}
use Rattle.abs_step.proofs.Reachability.{reached_fits}
use Rattle.cart_checker.specs.Worklists.{Work, Wrote, AddedTo, Added, Holds, effort}

module _ {P S : Type 0} (an : Analysis P S) (laws : AnalysisLaws an) where
  abbrev weight : Work P S → ℕ
  weight w = sum_by an.rank (values_of w.notes)

  sum_wrote : (old new : Work P S) (q : P) (v : S) → Wrote an.order old new q v →
      weight new + unwrap_or (option_map an.rank (state_at an old.notes q)) 0 ≡ weight old + an.rank v
  sum_wrote old new q v wrote =
      ap (λ (ns : List (P × S)). sum_by an.rank (values_of ns) + unwrap_or (option_map an.rank (state_at an old.notes q)) 0) wrote.entries
      ∙ sum_by-insert_entry an.rank laws.total old.notes q v wrote.was_ascending

  -- a new point
  falls_new : (old new : Work P S) (q : P) (t : S) → Wrote an.order old new q t → state_at an old.notes q ≡ None →
      length new.notes ≤ 65536 →
      an.fits q t → effort an new ≤ effort an old
  falls_new old new q t wrote absent few fits =
      let sum : weight new + 0 ≡ weight old + an.rank t =
      ap (λ (o : Option S). weight new + unwrap_or (option_map an.rank o) 0) (sym absent) ∙ sum_wrote old new q t wrote in
      let most = laws.most q t fits in
      let longer = wrote.longer in
      let count : length new.notes ≡ length old.notes + 1 =
      wrote.count ∙ ap (λ (o : Option S). length old.notes + cond (is_some o) 0 1) absent in
      omega arith

  -- a state that is raised
  falls_raised : (old new : Work P S) (q : P) (s t : S) → Wrote an.order old new q (an.join s t) → state_at an old.notes q ≡ Some s →
      an.fits q s → an.fits q t → an.below t s ≡ false → effort an new ≤ effort an old
  falls_raised old new q s t wrote noted first second apart =
      let sum : weight new + an.rank s ≡ weight old + an.rank (an.join s t) =
      ap (λ (o : Option S). weight new + unwrap_or (option_map an.rank o) 0) (sym noted) ∙ sum_wrote old new q (an.join s t) wrote in
      let less = laws.falls q s t first second apart in
      let longer = wrote.longer in
      let count : length new.notes ≡ length old.notes + 0 =
      wrote.count ∙ ap (λ (o : Option S). length old.notes + cond (is_some o) 0 1) noted in
      omega arith

  pub added_falls : (old new : Work P S) (left : P → S → Type 0) (q : P) (t : S) → Holds an old left →
      Added an.order an.below an.join old new q t → Reached an q t →
      length new.notes ≤ 65536 → effort an new ≤ effort an old
  added_falls old new left q t holds added reaches few = by (state_at an old.notes q) refl added
    where
      by_test : (s : S) (b : Bool) → state_at an old.notes q ≡ Some s → an.below t s ≡ b →
          MatchBool b (new ≡ old) (Wrote an.order old new q (an.join s t)) →
          effort an new ≤ effort an old
      by_test s true noted below same = let kept : effort an new ≡ effort an old = ap (effort an) same in omega arith
      by_test s false noted below wrote =
          falls_raised old new q s t wrote noted (reached_fits an laws (holds.reached q s noted)) (reached_fits an laws reaches) below

      by : (o : Option S) → state_at an old.notes q ≡ o → AddedTo an.order an.below an.join old new q t o → effort an new ≤ effort an old
      by None noted wrote = falls_new old new q t wrote noted few (reached_fits an laws reaches)
      by (Some s) noted added = by_test s (an.below t s) noted refl added

  -- ---- too many points

  keys_apart : (test : P → Bool) (notes : List (P × S)) → NonePasses test notes → AllByRecursion (λ p. test p ≡ false) (keys_of notes)
  keys_apart test [] none = none
  keys_apart test (e ∷ es) none = (none.0, keys_apart test es none.1)

  pub too_many : (w : Work P S) (left : P → S → Type 0) (q : P) (t : S) → Holds an w left → 65536 ≤ length w.notes →
      state_at an w.notes q ≡ None → Reached an q t → ReachesTooMany an
  too_many w left q t holds many absent reaches = record {
    points = q ∷ keys_of w.notes;
    many = let count : length (keys_of w.notes) ≡ length w.notes = length-keys_of w.notes in omega arith;
    distinct = IsDistinct-cons (eq_by_cmp an.order) q (keys_of w.notes)
        (keys_apart (is_at (an.order q)) w.notes (none_passes_from_lookup (is_at (an.order q)) w.notes absent))
        (IsDistinct-from_sorted an.order (keys_of w.notes) holds.ascends);
    reached = All-cons (λ p. (s : S) × Reached an p s) q (keys_of w.notes) (t, reaches)
        (All-keys_from_lookup (eq_by_cmp_equiv laws.total) (λ p. (s : S) × Reached an p s) w.notes each);
  }
    where
      by : (p : P) (o : Option S) → state_at an w.notes p ≡ o → IsSome o → (s : S) × Reached an p s
      by p None noted some = absurd (cc)
      by p (Some s) noted some = (s, holds.reached p s noted)

      each : (p : P) → IsSome (lookup (eq_by_cmp an.order p) w.notes) → (s : S) × Reached an p s
      each p some = by p (state_at an w.notes p) refl some
