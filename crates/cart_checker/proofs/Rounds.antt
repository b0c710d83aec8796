-- What holds of the work of a search goes on to hold whatever is added, and at the end it is the least map.
use Rattle.std.proofs.Common.{◌≡◌, ◌≤◌, Bool, true, false, cond, ◌||◌, is_some, ◌⊎◌, List, []}
use Rattle.std.proofs.Common.{◌∷◌, length, refl, sym, ap, ◌∙◌, subst, inl, inr, arith}
use Rattle.std.specs.Prelude.{Option, Some, None, Ok, MatchBool}
use Rattle.std.specs.List.{Contains}
use Rattle.std.specs.BTreeMap.{is_at}
use Rattle.std.specs.Ordering.{is_eq}
use Rattle.std.specs.declared.cmp.Ordering.{Ordering}
use Rattle.std.specs.declared.cmp.Ordering.TheVariants.{Less, Equal, Greater}
use Rattle.abs_step.specs.Analysis.{Analysis, AnalysisLaws}
use Rattle.abs_step.specs.ReachedStates.{Reached, start, joined, state_at, CoversAt, IsLeastMap}
use Rattle.abs_step.proofs.Reachability.{reached_fits}
use Rattle.cart_checker.specs.Worklists.{Work, is_due, Wrote, AddedTo, Added, IsSettled, Holds, Nothing, Only}

module _ {P S : Type 0} (an : Analysis P S) (laws : AnalysisLaws an) where
  -- only a point itself passes the test of it
  same_point : (p q : P) → is_at (an.order p) q ≡ true → p ≡ q
  same_point p q is = by (an.order p q) refl is
    where
      by : (o : Ordering) → an.order p q ≡ o → is_eq o ≡ true → p ≡ q
      by Less e is = absurd (cc)
      by Equal e is = laws.exact p q e
      by Greater e is = absurd (cc)

  itself : (o : Ordering) (p : P) → an.order p p ≡ o → is_at (an.order p) p ≡ true
  itself Equal p e = rw e refl
  itself Less p e = let turned = laws.total.antisymm p p in absurd (cc)
  itself Greater p e = let turned = laws.total.antisymm p p in absurd (cc)

  is_here : (p : P) → is_at (an.order p) p ≡ true
  is_here p = itself (an.order p p) p refl

  -- ---- a state is written

  -- what was at the point says no less than what is written
  record IsAbove (old : Work P S) (q : P) (v : S) : Type 0 where
    each : (s : S) → state_at an old.notes q ≡ Some s → an.below s v ≡ true

  -- what is written is there, and due
  record IsWritten (new : Work P S) (q : P) (v : S) (p : P) (s : S) : Type 0 where
    point : q ≡ p
    state : v ≡ s
    due : is_due an.order new.due p ≡ true

  record IsKept (old new : Work P S) (p : P) (s : S) : Type 0 where
    noted : state_at an old.notes p ≡ Some s
    due : is_due an.order old.due p ≡ true → is_due an.order new.due p ≡ true

  module _ (old new : Work P S) (q : P) (v : S) (wrote : Wrote an.order old new q v) where
    noted_here : state_at an new.notes q ≡ Some v
    noted_here = wrote.notes q ∙ rw (is_here q) refl

    noted_there : (p : P) → is_at (an.order q) p ≡ false → state_at an new.notes p ≡ state_at an old.notes p
    noted_there p apart = wrote.notes p ∙ rw apart refl

    due_there : (p : P) → is_at (an.order q) p ≡ false → is_due an.order new.due p ≡ is_due an.order old.due p
    due_there p apart = wrote.due p ∙ rw apart refl

    covers_kept : IsAbove old q v → (p : P) (s : S) → CoversAt an old.notes p s → CoversAt an new.notes p s
    covers_kept above p s here = by (is_at (an.order q) p) refl
      where
        by : (b : Bool) → is_at (an.order q) p ≡ b → CoversAt an new.notes p s
        by true is =
            let same : q ≡ p = same_point q p is in
            let was : state_at an old.notes q ≡ Some here.upper = ap (state_at an old.notes) same ∙ here.noted in
            record {
              upper = v;
              noted = ap (state_at an new.notes) (sym same) ∙ noted_here;
              below = laws.transitive s here.upper v here.below (above.each here.upper was);
            }
        by false apart = record { upper = here.upper; noted = noted_there p apart ∙ here.noted; below = here.below }

    came : (p : P) (s : S) → state_at an new.notes p ≡ Some s → IsWritten new q v p s ⊎ IsKept old new p s
    came p s noted = by (is_at (an.order q) p) refl
      where
        by : (b : Bool) → is_at (an.order q) p ≡ b → IsWritten new q v p s ⊎ IsKept old new p s
        by true is =
            let same : q ≡ p = same_point q p is in
            let there : Some v ≡ Some s = sym noted_here ∙ ap (state_at an new.notes) same ∙ noted in
            inl (record { point = same; state = cc; due = wrote.due p ∙ rw is refl })
        by false apart = inr (record { noted = sym (noted_there p apart) ∙ noted; due = λ was. due_there p apart ∙ was })

    settled_kept : IsAbove old q v → (p : P) (s : S) → IsSettled an old.notes p s → IsSettled an new.notes p s
    settled_kept above p s settled = record {
      ways = settled.ways;
      safe = settled.safe;
      covered = λ o t way. covers_kept above o t (settled.covered o t way);
    }

    holds_wrote : (left : P → S → Type 0) → Holds an old left → IsAbove old q v → Reached an q v → length new.notes ≤ 65536 →
        Holds an new left
    holds_wrote left holds above reaches few = record {
      start = covers_kept above an.start_point an.start_state holds.start;
      reached = λ p s noted. reached_by p s (came p s noted);
      settled = λ p s noted. settled_by p s (came p s noted);
      ascends = wrote.ascends;
      few = few;
    }
      where
        reached_by : (p : P) (s : S) → IsWritten new q v p s ⊎ IsKept old new p s → Reached an p s
        reached_by p s (inl here) = subst (λ (t : S). Reached an p t) here.state (subst (λ (o : P). Reached an o v) here.point reaches)
        reached_by p s (inr kept) = holds.reached p s kept.noted

        settled_so : (p : P) (s : S) → IsKept old new p s → (is_due an.order old.due p ≡ true) ⊎ (IsSettled an old.notes p s ⊎ left p s) →
            (is_due an.order new.due p ≡ true) ⊎ (IsSettled an new.notes p s ⊎ left p s)
        settled_so p s kept (inl due) = inl (kept.due due)
        settled_so p s kept (inr (inl settled)) = inr (inl (settled_kept above p s settled))
        settled_so p s kept (inr (inr out)) = inr (inr out)

        settled_by : (p : P) (s : S) → IsWritten new q v p s ⊎ IsKept old new p s →
            (is_due an.order new.due p ≡ true) ⊎ (IsSettled an new.notes p s ⊎ left p s)
        settled_by p s (inl here) = inl here.due
        settled_by p s (inr kept) = settled_so p s kept (holds.settled p s kept.noted)

  -- ---- a state is added

  -- what holds after it: the state is covered, and so is all that was
  pub record AddedHolds (old new : Work P S) (left : P → S → Type 0) (q : P) (t : S) : Type 0 where
    pub holds : Holds an new left
    pub covered : CoversAt an new.notes q t
    pub grows : (p : P) (s : S) → CoversAt an old.notes p s → CoversAt an new.notes p s

  pub added_holds : (old new : Work P S) (left : P → S → Type 0) (q : P) (t : S) → Holds an old left →
      Added an.order an.below an.join old new q t → Reached an q t →
      length new.notes ≤ 65536 → AddedHolds old new left q t
  added_holds old new left q t holds added reaches few = by (state_at an old.notes q) refl added
    where
      wrote_holds : (v : S) → Wrote an.order old new q v → IsAbove old q v → Reached an q v → an.below t v ≡ true →
          AddedHolds old new left q t
      wrote_holds v wrote above there below = record {
        holds = holds_wrote old new q v wrote left holds above there few;
        covered = record { upper = v; noted = noted_here old new q v wrote; below = below };
        grows = covers_kept old new q v wrote above;
      }

      unchanged : (s : S) → state_at an old.notes q ≡ Some s → an.below t s ≡ true → new ≡ old → AddedHolds old new left q t
      unchanged s noted below same = subst (λ (w : Work P S). AddedHolds old w left q t) (sym same) (record {
        holds = holds;
        covered = record { upper = s; noted = noted; below = below };
        grows = λ p u here. here;
      })

      raised : (s : S) → state_at an old.notes q ≡ Some s → Wrote an.order old new q (an.join s t) → AddedHolds old new left q t
      raised s noted wrote =
          let was : Reached an q s = holds.reached q s noted in
          let first : an.below s (an.join s t) ≡ true = laws.first q s t (reached_fits an laws was) (reached_fits an laws reaches) in
          let above : IsAbove old q (an.join s t) = record {
            each = λ u there. subst (λ (o : S). an.below o (an.join s t) ≡ true) (some_inside s u (sym noted ∙ there)) first;
          } in
          wrote_holds (an.join s t) wrote above (joined was reaches)
          (laws.second q s t (reached_fits an laws was) (reached_fits an laws reaches))
        where
          some_inside : (x y : S) → Some x ≡ Some y → x ≡ y
          some_inside x y e = cc

      by_test : (s : S) (b : Bool) → state_at an old.notes q ≡ Some s → an.below t s ≡ b →
          MatchBool b (new ≡ old) (Wrote an.order old new q (an.join s t)) →
          AddedHolds old new left q t
      by_test s true noted below same = unchanged s noted below same
      by_test s false noted below wrote = raised s noted wrote

      by : (o : Option S) → state_at an old.notes q ≡ o → AddedTo an.order an.below an.join old new q t o → AddedHolds old new left q t
      by None noted wrote = wrote_holds t wrote (record { each = λ s there. absurd (cc) }) reaches (laws.reflexive t)
      by (Some s) noted added = by_test s (an.below t s) noted refl added

  -- ---- a point is taken

  pub record IsTaken (old new : Work P S) (k : P) : Type 0 where
    pub due : old.due ≡ k ∷ new.due
    pub notes : new.notes ≡ old.notes

  due_by : (k : P) (ks : List P) (p : P) → is_due an.order (k ∷ ks) p ≡ true → (k ≡ p) ⊎ (is_due an.order ks p ≡ true)
  due_by k ks p is = by (is_at (an.order p) k) refl is
    where
      by : (b : Bool) → is_at (an.order p) k ≡ b → (b || is_due an.order ks p) ≡ true → (k ≡ p) ⊎ (is_due an.order ks p ≡ true)
      by true e is = inl (sym (same_point p k e))
      by false e is = inr is

  pub holds_taken : (old new : Work P S) (k : P) (s : S) → IsTaken old new k → state_at an old.notes k ≡ Some s →
      Holds an old (Nothing an) →
      Holds an new (Only an k s)
  holds_taken old new k s taken noted holds =
      subst (λ (ns : List (P × S)). Holds an (record { notes = ns; due = new.due }) (Only an k s)) (sym taken.notes) (record {
        start = holds.start;
        reached = holds.reached;
        settled = λ p t there. so p t there (holds.settled p t there);
        ascends = holds.ascends;
        few = holds.few;
      })
    where
      here : (p : P) (t : S) → state_at an old.notes p ≡ Some t → k ≡ p → Only an k s p t
      here p t there same =
          let both : Some s ≡ Some t = sym noted ∙ ap (state_at an old.notes) same ∙ there in
          (same, cc)

      due_so : (p : P) (t : S) → state_at an old.notes p ≡ Some t → (k ≡ p) ⊎ (is_due an.order new.due p ≡ true) →
          (is_due an.order new.due p ≡ true) ⊎ (IsSettled an old.notes p t ⊎ Only an k s p t)
      due_so p t there (inl same) = inr (inr (here p t there same))
      due_so p t there (inr due) = inl due

      so : (p : P) (t : S) → state_at an old.notes p ≡ Some t →
          (is_due an.order old.due p ≡ true) ⊎ (IsSettled an old.notes p t ⊎ Nothing an p t) →
          (is_due an.order new.due p ≡ true) ⊎ (IsSettled an old.notes p t ⊎ Only an k s p t)
      so p t there (inl due) = due_so p t there (due_by k new.due p (ap (λ (ks : List P). is_due an.order ks p) (sym taken.due) ∙ due))
      so p t there (inr (inl settled)) = inr (inl settled)
      so p t there (inr (inr none)) = absurd none

  -- a point with no state, of which there is none, changes nothing
  pub holds_absent : (old new : Work P S) (k : P) → IsTaken old new k → state_at an old.notes k ≡ None → Holds an old (Nothing an) →
      Holds an new (Nothing an)
  holds_absent old new k taken absent holds =
      subst (λ (ns : List (P × S)). Holds an (record { notes = ns; due = new.due }) (Nothing an)) (sym taken.notes) (record {
        start = holds.start;
        reached = holds.reached;
        settled = λ p t there. so p t there (holds.settled p t there);
        ascends = holds.ascends;
        few = holds.few;
      })
    where
      due_so : (p : P) (t : S) → state_at an old.notes p ≡ Some t → (k ≡ p) ⊎ (is_due an.order new.due p ≡ true) →
          (is_due an.order new.due p ≡ true) ⊎ (IsSettled an old.notes p t ⊎ Nothing an p t)
      due_so p t there (inl same) = let both : None ≡ Some t = sym absent ∙ ap (state_at an old.notes) same ∙ there in absurd (cc)
      due_so p t there (inr due) = inl due

      so : (p : P) (t : S) → state_at an old.notes p ≡ Some t →
          (is_due an.order old.due p ≡ true) ⊎ (IsSettled an old.notes p t ⊎ Nothing an p t) →
          (is_due an.order new.due p ≡ true) ⊎ (IsSettled an old.notes p t ⊎ Nothing an p t)
      so p t there (inl due) = due_so p t there (due_by k new.due p (ap (λ (ks : List P). is_due an.order ks p) (sym taken.due) ∙ due))
      so p t there (inr rest) = inr rest

  -- ---- a state is settled

  pub settled_by_all : (w : Work P S) (p : P) (s : S) (ways : List (P × S)) → Holds an w (Only an p s) → an.next p s ≡ Ok ways →
      ((q : P) (t : S) → Contains ways (q, t) → CoversAt an w.notes q t) → Holds an w (Nothing an)
  settled_by_all w p s ways holds safe covered = record {
    start = holds.start;
    reached = holds.reached;
    settled = λ o t there. so o t (holds.settled o t there);
    ascends = holds.ascends;
    few = holds.few;
  }
    where
      is_settled : IsSettled an w.notes p s
      is_settled = record { ways = ways; safe = safe; covered = covered }

      so : (o : P) (t : S) → (is_due an.order w.due o ≡ true) ⊎ (IsSettled an w.notes o t ⊎ Only an p s o t) →
          (is_due an.order w.due o ≡ true) ⊎ (IsSettled an w.notes o t ⊎ Nothing an o t)
      so o t (inl due) = inl due
      so o t (inr (inl settled)) = inr (inl settled)
      so o t (inr (inr only)) =
          inr (inl (subst (λ (u : S). IsSettled an w.notes o u) only.1 (subst (λ (r : P). IsSettled an w.notes r s) only.0 is_settled)))

  -- ---- the start and the end

  pub record IsEmptyWork (w : Work P S) : Type 0 where
    pub notes : w.notes ≡ []
    pub due : w.due ≡ []

  pub holds_start : (old new : Work P S) → IsEmptyWork old → Wrote an.order old new an.start_point an.start_state →
      Holds an new (Nothing an)
  holds_start old new empty wrote = record {
    start = record {
      upper = an.start_state;
      noted = noted_here old new an.start_point an.start_state wrote;
      below = laws.reflexive an.start_state;
    };
    reached = λ p s there. reached_by p s (came old new an.start_point an.start_state wrote p s there);
    settled = λ p s there. settled_by p s (came old new an.start_point an.start_state wrote p s there);
    ascends = wrote.ascends;
    few = few;
  }
    where
      none : (p : P) (s : S) → state_at an old.notes p ≡ Some s → ⊥
      none p s there =
          let absent : state_at an old.notes p ≡ None = ap (λ (ns : List (P × S)). state_at an ns p) empty.notes in
          let both : None ≡ Some s = sym absent ∙ there in
          absurd (cc)

      reached_by : (p : P) (s : S) → IsWritten new an.start_point an.start_state p s ⊎ IsKept old new p s → Reached an p s
      reached_by p s (inl here) =
          subst (λ (t : S). Reached an p t) here.state (subst (λ (o : P). Reached an o an.start_state) here.point start)
      reached_by p s (inr kept) = absurd (none p s kept.noted)

      settled_by : (p : P) (s : S) → IsWritten new an.start_point an.start_state p s ⊎ IsKept old new p s →
          (is_due an.order new.due p ≡ true) ⊎ (IsSettled an new.notes p s ⊎ Nothing an p s)
      settled_by p s (inl here) = inl here.due
      settled_by p s (inr kept) = absurd (none p s kept.noted)

      few : length new.notes ≤ 65536
      few =
          let count = wrote.count in
          let empty_count : length old.notes ≡ 0 = ap length empty.notes in
          let one : cond (is_some (state_at an old.notes an.start_point)) 0 1 ≤ 1 =
          at_most (is_some (state_at an old.notes an.start_point)) in
          omega arith
        where
          at_most : (b : Bool) → cond b 0 1 ≤ 1
          at_most true = omega arith
          at_most false = omega arith

  pub least_at_end : (w : Work P S) → Holds an w (Nothing an) → w.due ≡ [] → IsLeastMap an w.notes
  least_at_end w holds none = record {
    closed = record {
      is_map = record { ascends = holds.ascends; few = holds.few; fits = λ p s there. reached_fits an laws (holds.reached p s there) };
      closed = record {
        start = holds.start;
        next = λ p s ways there safe q t way. next_covered p s ways there safe q t way;
      };
      safe = λ p s there. let settled = is_settled p s there in (settled.ways, settled.safe);
    };
    reached = holds.reached;
  }
    where
      so : (p : P) (s : S) → (is_due an.order w.due p ≡ true) ⊎ (IsSettled an w.notes p s ⊎ Nothing an p s) → IsSettled an w.notes p s
      so p s (inl due) =
          let never : is_due an.order w.due p ≡ false = ap (λ (ks : List P). is_due an.order ks p) none in
          let both : false ≡ true = sym never ∙ due in
          absurd (cc)
      so p s (inr (inl settled)) = settled
      so p s (inr (inr none)) = absurd none

      is_settled : (p : P) (s : S) → state_at an w.notes p ≡ Some s → IsSettled an w.notes p s
      is_settled p s there = so p s (holds.settled p s there)

      next_covered : (p : P) (s : S) (ways : List (P × S)) → state_at an w.notes p ≡ Some s → an.next p s ≡ Ok ways → (q : P) (t : S) →
          Contains ways (q, t) → CoversAt an w.notes q t
      next_covered p s ways there safe q t way =
          let settled = is_settled p s there in
          let same : ways ≡ settled.ways = cc in
          settled.covered q t (subst (λ (ws : List (P × S)). Contains ws (q, t)) same way)
