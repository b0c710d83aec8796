-- What an examination finds is right: no failure means that a map is closed and safe, and the other way round.
use Rattle.std.proofs.Common.{◌≡◌, Bool, true, false, ◌&&◌, if◌then◌else◌, List, [], ◌∷◌, refl, sym, ap, ◌∙◌, subst}
use Rattle.std.specs.Prelude.{Option, Some, None, option_map, unwrap_or, Result, Ok, Err, ◌↔◌}
use Rattle.std.specs.List.{All, Contains, list_all}
use Rattle.std.specs.Cmp.{IsTotalOrder}
use Rattle.std.specs.Option.{option_or}
use Rattle.std.specs.Map.{keys_of}
use Rattle.std.specs.declared.cmp.Ordering.TheVariants.{Equal}
use Rattle.std.proofs.lemmas.Cmp.{eq_by_cmp_equiv}
use Rattle.std.proofs.lemmas.List.Elements.{All-nil, All-cons, All-head, All-tail, All-contains, All-contains_itself, All-weaker}
use Rattle.std.proofs.lemmas.Map.Keys.{IsDistinct-from_sorted}
use Rattle.std.proofs.lemmas.Map.Views.{Contains-from_lookup, lookup-from_Contains, tells_apart}
use Rattle.abs_domain.specs.AbstractState.{AbstractState}
use Rattle.abs_domain.specs.declared.points.Point.{Point}
use Rattle.abs_domain.specs.declared.reason.Reason.{Reason}
use Rattle.abs_step.specs.Analysis.{Analysis}
use Rattle.abs_step.specs.ReachedStates.{state_at, CoversAt, IsInvariantMap, IsSafelyClosed, HoldsFaultFreeStates}
use Rattle.certificate.specs.Examination.{is_under, covers, first_open, safe_answer, failure_by, failure_at, first_failure, examined}
use Rattle.certificate.specs.declared.examined.VerifyAnswer.{VerifyAnswer}
use Rattle.certificate.specs.declared.examined.VerifyAnswer.TheVariants.{Whole, Agreed, NotClosed, Unsafe}

both : (b c : Bool) → (b && c) ≡ true → (b ≡ true) × (c ≡ true)
both true c h = (refl, h)
both false c h = absurd (cc)

module _ (an : Analysis Point AbstractState) where
  -- ---- what a map covers

  covered : (notes : List (Point × AbstractState)) (p : Point) (s : AbstractState) → covers an.order an.below notes p s ≡ true →
      CoversAt an notes p s
  covered notes p s h = by (state_at an notes p) refl h
    where
      by : (o : Option AbstractState) → state_at an notes p ≡ o → is_under an.below s o ≡ true → CoversAt an notes p s
      by None noted h = absurd (cc)
      by (Some upper) noted h = record { upper = upper; noted = noted; below = h }

  covered_back : (notes : List (Point × AbstractState)) (p : Point) (s : AbstractState) → CoversAt an notes p s →
      covers an.order an.below notes p s ≡ true
  covered_back notes p s here = ap (is_under an.below s) here.noted ∙ here.below

  abbrev AllCovered : List (Point × AbstractState) → List (Point × AbstractState) → Type 0
  AllCovered notes ways = All (λ (e : Point × AbstractState). CoversAt an notes e.0 e.1) ways

  none_open : (notes ways : List (Point × AbstractState)) → first_open an.order an.below notes ways ≡ None → AllCovered notes ways
  none_open notes [] h = All-nil (λ (e : Point × AbstractState). CoversAt an notes e.0 e.1)
  none_open notes (w ∷ ws) h = by (covers an.order an.below notes w.0 w.1) refl (none_open notes ws) h
    where
      by : (b : Bool) → covers an.order an.below notes w.0 w.1 ≡ b →
          (first_open an.order an.below notes ws ≡ None → AllCovered notes ws) →
          (if b then first_open an.order an.below notes ws else Some w.0) ≡ None → AllCovered notes (w ∷ ws)
      by true is rest h = All-cons (λ (e : Point × AbstractState). CoversAt an notes e.0 e.1) w ws (covered notes w.0 w.1 is) (rest h)
      by false is rest h = absurd (cc)

  none_open_back : (notes ways : List (Point × AbstractState)) → AllCovered notes ways → first_open an.order an.below notes ways ≡ None
  none_open_back notes [] all = refl
  none_open_back notes (w ∷ ws) all =
      let first : covers an.order an.below notes w.0 w.1 ≡ true =
      covered_back notes w.0 w.1 (All-head (λ (e : Point × AbstractState). CoversAt an notes e.0 e.1) w ws all) in
      rw first (none_open_back notes ws (All-tail (λ (e : Point × AbstractState). CoversAt an notes e.0 e.1) w ws all))

  -- ---- a point

  -- a state is safe, and all to which it leads is covered
  record IsSettledAt (notes : List (Point × AbstractState)) (e : Point × AbstractState) : Type 0 where
    ways : List (Point × AbstractState)
    safe : an.next e.0 e.1 ≡ Ok ways
    covered : AllCovered notes ways

  settled : (notes : List (Point × AbstractState)) (e : Point × AbstractState) → failure_at an notes e ≡ None → IsSettledAt notes e
  settled notes e h = by (an.next e.0 e.1) refl h
    where
      by_open : (ways : List (Point × AbstractState)) (o : Option Point) → an.next e.0 e.1 ≡ Ok ways →
          first_open an.order an.below notes ways ≡ o → option_map (λ q. NotClosed (Some e.0) q) o ≡ None → IsSettledAt notes e
      by_open ways None safe is h = record { ways = ways; safe = safe; covered = none_open notes ways is }
      by_open ways (Some q) safe is h = absurd (cc)

      by : (r : Result (List (Point × AbstractState)) Reason) → an.next e.0 e.1 ≡ r → failure_by an notes e.0 r ≡ None → IsSettledAt notes e
      by (Ok ways) safe h = by_open ways (first_open an.order an.below notes ways) safe refl h
      by (Err reason) unsafe h = absurd (cc)

  settled_back : (notes : List (Point × AbstractState)) (e : Point × AbstractState) → IsSettledAt notes e → failure_at an notes e ≡ None
  settled_back notes e here =
      ap (failure_by an notes e.0) here.safe
      ∙ ap (option_map (λ q. NotClosed (Some e.0) q)) (none_open_back notes here.ways here.covered)

  -- ---- all points

  all_settled : (notes es : List (Point × AbstractState)) → first_failure an notes es ≡ None → All (IsSettledAt notes) es
  all_settled notes [] h = All-nil (IsSettledAt notes)
  all_settled notes (e ∷ es) h = by (failure_at an notes e) refl (all_settled notes es) h
    where
      by : (o : Option VerifyAnswer) → failure_at an notes e ≡ o → (first_failure an notes es ≡ None → All (IsSettledAt notes) es) →
          option_or o (first_failure an notes es) ≡ None → All (IsSettledAt notes) (e ∷ es)
      by None is rest h = All-cons (IsSettledAt notes) e es (settled notes e is) (rest h)
      by (Some x) is rest h = absurd (cc)

  all_settled_back : (notes es : List (Point × AbstractState)) → All (IsSettledAt notes) es → first_failure an notes es ≡ None
  all_settled_back notes [] all = refl
  all_settled_back notes (e ∷ es) all =
      ap (λ (o : Option VerifyAnswer). option_or o (first_failure an notes es))
      (settled_back notes e (All-head (IsSettledAt notes) e es all))
      ∙ all_settled_back notes es (All-tail (IsSettledAt notes) e es all)

  -- ---- nothing fails

  pub nothing_fails : (notes : List (Point × AbstractState)) (free : Bool) →
      covers an.order an.below notes an.start_point an.start_state ≡ true → first_failure an notes notes ≡ None →
      list_all (λ e. an.is_fault_free e.0 e.1) notes ≡ free → examined an notes ≡ safe_answer free
  nothing_fails notes free start none is = rw (start, none, is) refl

  -- ---- each failure is told as one

  abbrev IsFailure : VerifyAnswer → Type 0
  IsFailure Whole = ⊥
  IsFailure Agreed = ⊥
  IsFailure (NotClosed from to) = Unit {0}
  IsFailure (Unsafe p reason) = Unit {0}

  abbrev FailsIfSome : Option VerifyAnswer → Type 0
  FailsIfSome None = Unit {0}
  FailsIfSome (Some x) = IsFailure x

  open_fails : (p : Point) (o : Option Point) → FailsIfSome (option_map (λ q. NotClosed (Some p) q) o)
  open_fails p None = tt
  open_fails p (Some q) = tt

  failure_fails : (notes : List (Point × AbstractState)) (p : Point) (r : Result (List (Point × AbstractState)) Reason) →
      FailsIfSome (failure_by an notes p r)
  failure_fails notes p (Ok ways) = open_fails p (first_open an.order an.below notes ways)
  failure_fails notes p (Err reason) = tt

  first_fails : (notes es : List (Point × AbstractState)) → FailsIfSome (first_failure an notes es)
  first_fails notes [] = tt
  first_fails notes (e ∷ es) = by (failure_at an notes e) (failure_fails notes e.0 (an.next e.0 e.1)) (first_fails notes es)
    where
      by : (o : Option VerifyAnswer) → FailsIfSome o → FailsIfSome (first_failure an notes es) →
          FailsIfSome (option_or o (first_failure an notes es))
      by None fails rest = rest
      by (Some x) fails rest = fails

  -- so a first failure is neither
  pub never_whole : (notes : List (Point × AbstractState)) (answer : VerifyAnswer) → first_failure an notes notes ≡ Some answer →
      answer ≡ Whole → ⊥
  never_whole notes answer first is = subst FailsIfSome (first ∙ ap Some is) (first_fails notes notes)

  pub never_agreed : (notes : List (Point × AbstractState)) (answer : VerifyAnswer) → first_failure an notes notes ≡ Some answer →
      answer ≡ Agreed → ⊥
  never_agreed notes answer first is = subst FailsIfSome (first ∙ ap Some is) (first_fails notes notes)

  -- ---- a map

  module _ (total : IsTotalOrder an.order) (exact : (p q : Point) → an.order p q ≡ Equal → p ≡ q) (notes : List (Point × AbstractState))
      (is_map : IsInvariantMap an notes) where
    noted : (e : Point × AbstractState) → Contains notes e → state_at an notes e.0 ≡ Some e.1
    noted e among =
        lookup-from_Contains (eq_by_cmp_equiv total) e.0 e.1 notes (IsDistinct-from_sorted an.order (keys_of notes) is_map.ascends) among

    among : (p : Point) (s : AbstractState) → state_at an notes p ≡ Some s → Contains notes (p, s)
    among p s here = Contains-from_lookup (tells_apart exact) p s notes here

    -- it is free of faults

    pass_each : (es : List (Point × AbstractState)) → list_all (λ e. an.is_fault_free e.0 e.1) es ≡ true →
        All (λ (e : Point × AbstractState). an.is_fault_free e.0 e.1 ≡ true) es
    pass_each [] h = All-nil (λ (e : Point × AbstractState). an.is_fault_free e.0 e.1 ≡ true)
    pass_each (e ∷ es) h =
        let parts = both (an.is_fault_free e.0 e.1) (list_all (λ e. an.is_fault_free e.0 e.1) es) h in
        All-cons (λ (e : Point × AbstractState). an.is_fault_free e.0 e.1 ≡ true) e es parts.0 (pass_each es parts.1)

    all_pass : (es : List (Point × AbstractState)) → All (λ (e : Point × AbstractState). an.is_fault_free e.0 e.1 ≡ true) es →
        list_all (λ e. an.is_fault_free e.0 e.1) es ≡ true
    all_pass [] all = refl
    all_pass (e ∷ es) all =
        let first : an.is_fault_free e.0 e.1 ≡ true = All-head (λ (d : Point × AbstractState). an.is_fault_free d.0 d.1 ≡ true) e es all in
        rw first (all_pass es (All-tail (λ (d : Point × AbstractState). an.is_fault_free d.0 d.1 ≡ true) e es all))

    free : list_all (λ e. an.is_fault_free e.0 e.1) notes ≡ true → HoldsFaultFreeStates an notes
    free h p s here =
        All-contains (λ (e : Point × AbstractState). an.is_fault_free e.0 e.1 ≡ true) notes (p, s) (pass_each notes h) (among p s here)

    free_back : HoldsFaultFreeStates an notes → list_all (λ e. an.is_fault_free e.0 e.1) notes ≡ true
    free_back h =
        all_pass notes (All-weaker (Contains notes) (λ (e : Point × AbstractState). an.is_fault_free e.0 e.1 ≡ true)
        (λ e is. h e.0 e.1 (noted e is)) notes (All-contains_itself notes))

    -- it is closed and safe

    sound : covers an.order an.below notes an.start_point an.start_state ≡ true → first_failure an notes notes ≡ None →
        IsSafelyClosed an notes
    sound start none = record {
      is_map = is_map;
      closed = record { start = covered notes an.start_point an.start_state start; next = next };
      safe = λ p s here. let at = here_at p s here in (at.ways, at.safe);
    }
      where
        here_at : (p : Point) (s : AbstractState) → state_at an notes p ≡ Some s → IsSettledAt notes (p, s)
        here_at p s here = All-contains (IsSettledAt notes) notes (p, s) (all_settled notes notes none) (among p s here)

        next : (p : Point) (s : AbstractState) (ways : List (Point × AbstractState)) → state_at an notes p ≡ Some s →
            an.next p s ≡ Ok ways →
            (q : Point) (t : AbstractState) → Contains ways (q, t) → CoversAt an notes q t
        next p s ways here is q t way =
            let at = here_at p s here in
            let same : Ok ways ≡ Ok at.ways = sym is ∙ at.safe in
            let ways_same : ways ≡ at.ways = cc in
            All-contains (λ (e : Point × AbstractState). CoversAt an notes e.0 e.1) at.ways (q, t) at.covered
            (subst (λ (ws : List (Point × AbstractState)). Contains ws (q, t)) ways_same way)

    start_back : IsSafelyClosed an notes → covers an.order an.below notes an.start_point an.start_state ≡ true
    start_back h = covered_back notes an.start_point an.start_state h.closed.start

    sound_back : IsSafelyClosed an notes → first_failure an notes notes ≡ None
    sound_back h = all_settled_back notes notes (All-weaker (Contains notes) (IsSettledAt notes) each notes (All-contains_itself notes))
      where
        each : (e : Point × AbstractState) → Contains notes e → IsSettledAt notes e
        each e is =
            let safe = h.safe e.0 e.1 (noted e is) in
            record {
              ways = safe.0;
              safe = safe.1;
              covered = All-weaker (Contains safe.0) (λ (d : Point × AbstractState). CoversAt an notes d.0 d.1)
                  (λ d way. h.closed.next e.0 e.1 safe.0 (noted e is) safe.1 d.0 d.1 way) safe.0 (All-contains_itself safe.0);
            }

    -- the answer by its parts

    abbrev answer_by : Bool → Option VerifyAnswer → Bool → VerifyAnswer
    answer_by start first free = if start then unwrap_or first (safe_answer free) else NotClosed None an.start_point

    answer_back : (free : Bool) → IsSafelyClosed an notes → list_all (λ e. an.is_fault_free e.0 e.1) notes ≡ free →
        examined an notes ≡ safe_answer free
    answer_back free h is = nothing_fails notes free (start_back h) (sound_back h) is

    -- an answer that is no failure shows that there is none
    record IsPassed (free : Bool) : Type 0 where
      closed : IsSafelyClosed an notes
      free_is : list_all (λ e. an.is_fault_free e.0 e.1) notes ≡ free

    passed : (answer : VerifyAnswer) → (IsFailure answer → ⊥) → examined an notes ≡ answer →
        (free : Bool) × IsPassed free × (safe_answer free ≡ answer)
    passed answer is_none is = by (covers an.order an.below notes an.start_point an.start_state) (first_failure an notes notes) refl refl is
      where
        by : (b : Bool) (o : Option VerifyAnswer) → covers an.order an.below notes an.start_point an.start_state ≡ b →
            first_failure an notes notes ≡ o → answer_by b o (list_all (λ e. an.is_fault_free e.0 e.1) notes) ≡ answer →
            (free : Bool) × IsPassed free × (safe_answer free ≡ answer)
        by true None start first is = (
          list_all (λ e. an.is_fault_free e.0 e.1) notes,
          record { closed = sound start first; free_is = refl },
          is,
        )
        by true (Some x) start first is =
            absurd (is_none (subst IsFailure is (subst FailsIfSome first (first_fails notes notes))))
        by false o start first is = absurd (is_none (subst IsFailure is tt))

    pub whole_exactly : (examined an notes ≡ Whole) ↔ (IsSafelyClosed an notes × HoldsFaultFreeStates an notes)
    whole_exactly = (there, λ h. answer_back true h.0 (free_back h.1))
      where
        by : (b : Bool) → IsPassed b → safe_answer b ≡ Whole → IsSafelyClosed an notes × HoldsFaultFreeStates an notes
        by true h e = (h.closed, free h.free_is)
        by false h e = absurd (cc)

        there : examined an notes ≡ Whole → IsSafelyClosed an notes × HoldsFaultFreeStates an notes
        there is = let h = passed Whole (λ none. none) is in by h.0 h.1 h.2

    pub agreed_exactly : (examined an notes ≡ Agreed) ↔ (IsSafelyClosed an notes × (HoldsFaultFreeStates an notes → ⊥))
    agreed_exactly = (there, λ h. by_free h.0 h.1 (list_all (λ e. an.is_fault_free e.0 e.1) notes) refl)
      where
        by : (b : Bool) → IsPassed b → safe_answer b ≡ Agreed → IsSafelyClosed an notes × (HoldsFaultFreeStates an notes → ⊥)
        by true h e = absurd (cc)
        by false h e = (h.closed, λ all. let is = h.free_is in let both : false ≡ true = sym is ∙ free_back all in absurd (cc))

        there : examined an notes ≡ Agreed → IsSafelyClosed an notes × (HoldsFaultFreeStates an notes → ⊥)
        there is = let h = passed Agreed (λ none. none) is in by h.0 h.1 h.2

        by_free : IsSafelyClosed an notes → (HoldsFaultFreeStates an notes → ⊥) → (b : Bool) →
            list_all (λ e. an.is_fault_free e.0 e.1) notes ≡ b → examined an notes ≡ Agreed
        by_free closed none true is = absurd (none (free is))
        by_free closed none false is = answer_back false closed is
