-- What is found of a map is so of every run, and it is found with vectors where it is found without.
use Rattle.std.proofs.Common.{◌≡◌, ℕ, Bool, true, false, if◌then◌else◌, List, [], ◌∷◌, refl, sym}
use Rattle.std.specs.Prelude.{Option, Some, None, option_map, unwrap_or, Result, Ok, Err}
use Rattle.std.specs.List.{list_all}
use Rattle.std.specs.Option.{option_or}
use Rattle.f8_spec.specs.BusArbitration.{Seat}
use Rattle.chip_face.specs.declared.specification.ChipSpec.{ChipSpec}
use Rattle.abs_domain.specs.AbstractState.{AbstractState}
use Rattle.abs_domain.specs.declared.points.Point.{Point}
use Rattle.abs_domain.specs.declared.reason.Reason.{Reason}
use Rattle.abs_domain.proofs.PointOrders.{point_laws}
use Rattle.abs_step.specs.Analysis.{Analysis}
use Rattle.abs_step.specs.CartridgeAnalysis.{analysis, as_invariant}
use Rattle.abs_step.specs.MapView.{MapView, IsViewOf, chips_view}
use Rattle.abs_step.specs.ReachedStates.{IsInvariantMap, IsSafelyClosed}
use Rattle.abs_step.specs.Soundness.{IsSafeMap, OnlyUndriven}
use Rattle.abs_step.specs.WithoutVectors.{without_vectors}
use Rattle.abs_step.proofs.SoundRuns.{soundness}
use Rattle.abs_step.proofs.VectorsKept.{without_vectors_kept}
use Rattle.certificate.specs.Examination.{covers, examined, failure_at, first_failure, first_open, safe_answer}
use Rattle.certificate.specs.VerifiedMaps.{GoesOnAlways, VerifiedLaw}
use Rattle.certificate.specs.declared.examined.VerifyAnswer.{VerifyAnswer}
use Rattle.certificate.specs.declared.examined.VerifyAnswer.TheVariants.{Whole, Agreed, NotClosed}
use Rattle.certificate.proofs.Examinations.{agreed_exactly, never_agreed, never_whole, whole_exactly}

-- ---- runs

safe_map : (chips : List ChipSpec) (seats : List Seat) (tracked : List ℕ) (notes : List (Point × AbstractState)) →
    IsViewOf (chips_view chips) seats → IsSafelyClosed (analysis (chips_view chips) tracked) notes →
    IsSafeMap (chips_view chips) seats tracked notes
safe_map chips seats tracked notes view closed = record { view = view; closed = closed.closed; safe = closed.safe }

module _ (chips : List ChipSpec) (tracked : List ℕ) (notes : List (Point × AbstractState))
    (is_map : IsInvariantMap (analysis (chips_view chips) tracked) notes) where
  pub whole_goes_on : examined (analysis (chips_view chips) tracked) notes ≡ Whole → GoesOnAlways (λ here fault. fault ≡ None) chips
  whole_goes_on is =
      let found = (whole_exactly (analysis (chips_view chips) tracked) point_laws.total point_laws.exact notes is_map).0 is in
      record {
        reset = λ seats view here start.
            soundness.reset (chips_view chips) seats tracked notes (safe_map chips seats tracked notes view found.0) here start;
        each = λ seats view n here reached.
            soundness.fault_free (chips_view chips) seats tracked notes (safe_map chips seats tracked notes view found.0) found.1 n here reached;
      }

  pub agreed_goes_on : examined (analysis (chips_view chips) tracked) notes ≡ Agreed →
      GoesOnAlways (λ here fault. OnlyUndriven here.flat.state.flow.d0 fault) chips
  agreed_goes_on is =
      let found = (agreed_exactly (analysis (chips_view chips) tracked) point_laws.total point_laws.exact notes is_map).0 is in
      record {
        reset = λ seats view here start.
            soundness.reset (chips_view chips) seats tracked notes (safe_map chips seats tracked notes view found.0) here start;
        each = λ seats view n here reached.
            soundness.sound (chips_view chips) seats tracked notes (safe_map chips seats tracked notes view found.0) n here reached;
      }

-- ---- without vectors

module _ (m : MapView) (tracked : List ℕ) where
  abbrev old : Analysis Point AbstractState
  old = analysis (without_vectors m) tracked

  abbrev new : Analysis Point AbstractState
  new = analysis m tracked

  -- where a point has no failure it has none with vectors
  none_here : (notes : List (Point × AbstractState)) (e : Point × AbstractState) → failure_at old notes e ≡ None → failure_at new notes e ≡ None
  none_here notes e none = by (old.next e.0 e.1) refl none
    where
      by : (answer : Result (List (Point × AbstractState)) Reason) → old.next e.0 e.1 ≡ answer →
          (failure_at old notes e) ≡ None → failure_at new notes e ≡ None
      by (Ok ways) is none =
          let same = without_vectors_kept.next m tracked e.0 e.1 ways is in
          let open_at : option_map (λ q. NotClosed (Some e.0) q) (first_open old.order old.below notes ways) ≡ None = rw is at none in
          rw same open_at
      by (Err reason) is none = absurd (cc (rw is at none))

  none_first : (notes es : List (Point × AbstractState)) → first_failure old notes es ≡ None → first_failure new notes es ≡ None
  none_first notes [] none = refl
  none_first notes (e ∷ es) none = by (failure_at old notes e) refl (none_first notes es) none
    where
      by : (o : Option VerifyAnswer) → failure_at old notes e ≡ o → (first_failure old notes es ≡ None → first_failure new notes es ≡ None) →
          option_or o (first_failure old notes es) ≡ None → option_or (failure_at new notes e) (first_failure new notes es) ≡ None
      by None is later none = rw (none_here notes e is) (later none)
      by (Some x) is later none = absurd (cc)

  same_free : (es : List (Point × AbstractState)) →
      list_all (λ e. old.is_fault_free e.0 e.1) es ≡ list_all (λ e. new.is_fault_free e.0 e.1) es
  same_free [] = refl
  same_free (e ∷ es) = rw (without_vectors_kept.fault_free m (as_invariant e), same_free es) refl

  -- an answer that is no failure
  kept : (notes : List (Point × AbstractState)) (answer : VerifyAnswer) →
      ((x : VerifyAnswer) → first_failure old notes notes ≡ Some x → x ≡ answer → ⊥) → (NotClosed None old.start_point ≡ answer → ⊥) →
      examined old notes ≡ answer → examined new notes ≡ answer
  kept notes answer never start_never is =
      by (covers old.order old.below notes old.start_point old.start_state) (first_failure old notes notes) refl refl is
    where
      by : (b : Bool) (o : Option VerifyAnswer) → covers old.order old.below notes old.start_point old.start_state ≡ b →
          first_failure old notes notes ≡ o →
          (if b then unwrap_or o (safe_answer (list_all (λ e. old.is_fault_free e.0 e.1) notes)) else NotClosed None old.start_point) ≡ answer →
          examined new notes ≡ answer
      by true None start first found = rw (start, none_first notes notes first, sym (same_free notes)) found
      by true (Some x) start first found = absurd (never x first found)
      by false o start first found = absurd (start_never found)

pub verified_maps : VerifiedLaw
verified_maps = record {
  whole = λ chips tracked notes is_map is. whole_goes_on chips tracked notes is_map is;
  agreed = λ chips tracked notes is_map is. agreed_goes_on chips tracked notes is_map is;
  kept_whole = λ m tracked notes is.
      kept m tracked notes Whole (λ x first found. never_whole (analysis (without_vectors m) tracked) notes x first found) (λ e. cc) is;
  kept_agreed = λ m tracked notes is.
      kept m tracked notes Agreed (λ x first found. never_agreed (analysis (without_vectors m) tracked) notes x first found) (λ e. cc) is;
}
