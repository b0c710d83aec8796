-- What is found of a list over the chips themselves is what the list is, and so it is of every run.
use Rattle.std.proofs.Common.{◌≡◌, ◌↔◌, List, ◌∙◌, sym}
use Rattle.std.specs.Prelude.{None, IfOk, Result, Ok, Err}
use Rattle.f8_spec.specs.BusArbitration.{Seat}
use Rattle.chip_face.specs.declared.specification.ChipSpec.{ChipSpec}
use Rattle.abs_step.specs.MapView.{IsViewOf, chips_view}
use Rattle.abs_step.specs.Soundness.{OnlyUndriven}
use Rattle.case_step.specs.CaseLaws.{CaseSoundnessLaw, IsSafeList, JudgedLaw}
use Rattle.case_step.specs.CaseLists.{HasFaultFreeCases, IsSafelyClosedList, judged}
use Rattle.case_step.specs.Entries.{EntryView}
use Rattle.case_step.specs.declared.answer.CasesAnswer.{CasesAnswer}
use Rattle.case_step.specs.declared.answer.CasesAnswer.TheVariants.{Whole, Agreed}
use Rattle.certificate.specs.VerifiedMaps.{GoesOnAlways}

-- both ways, by an answer that is what is found
by_answer : {P : Type 0} (answer found kind : CasesAnswer) → answer ≡ found → ((found ≡ kind) ↔ P) → (answer ≡ kind) ↔ P
by_answer answer found kind is both = (λ e. both.0 (sym is ∙ e), λ p. is ∙ both.1 p)

safe_list : (chips : List ChipSpec) (seats : List Seat) (entries : List EntryView) → IsViewOf (chips_view chips) seats →
    IsSafelyClosedList (chips_view chips) entries → IsSafeList (chips_view chips) seats entries
safe_list chips seats entries view closed = record { view = view; closed = closed }

module _ {E : Type 0} (chips : List ChipSpec) (entries : List EntryView) (law : JudgedLaw) where
  pub whole_exactly : (r : Result CasesAnswer E) → IfOk r (λ answer. answer ≡ judged (chips_view chips) entries) →
      IfOk r (λ answer. (answer ≡ Whole) ↔ (IsSafelyClosedList (chips_view chips) entries × HasFaultFreeCases (chips_view chips) entries))
  whole_exactly (Ok answer) is = by_answer answer (judged (chips_view chips) entries) Whole is (law.whole (chips_view chips) entries)
  whole_exactly (Err e) is = tt

  pub agreed_exactly : (r : Result CasesAnswer E) → IfOk r (λ answer. answer ≡ judged (chips_view chips) entries) →
      IfOk r (λ answer. (answer ≡ Agreed) ↔ (IsSafelyClosedList (chips_view chips) entries × (HasFaultFreeCases (chips_view chips) entries → ⊥)))
  agreed_exactly (Ok answer) is = by_answer answer (judged (chips_view chips) entries) Agreed is (law.agreed (chips_view chips) entries)
  agreed_exactly (Err e) is = tt

module _ {E : Type 0} (chips : List ChipSpec) (entries : List EntryView) (law : JudgedLaw) (sound : CaseSoundnessLaw) where
  pub whole_goes_on : (r : Result CasesAnswer E) → IfOk r (λ answer. answer ≡ judged (chips_view chips) entries) →
      IfOk r (λ answer. answer ≡ Whole → GoesOnAlways (λ here fault. fault ≡ None) chips)
  whole_goes_on (Ok answer) is = λ e.
      let found = (law.whole (chips_view chips) entries).0 (sym is ∙ e) in
      record {
        reset = λ seats view here start. sound.reset (chips_view chips) seats entries (safe_list chips seats entries view found.0) here start;
        each = λ seats view n here reached.
            sound.fault_free (chips_view chips) seats entries (safe_list chips seats entries view found.0) found.1 n here reached;
      }
  whole_goes_on (Err e) is = tt

  pub agreed_goes_on : (r : Result CasesAnswer E) → IfOk r (λ answer. answer ≡ judged (chips_view chips) entries) →
      IfOk r (λ answer. answer ≡ Agreed → GoesOnAlways (λ here fault. OnlyUndriven here.flat.state.flow.d0 fault) chips)
  agreed_goes_on (Ok answer) is = λ e.
      let found = (law.agreed (chips_view chips) entries).0 (sym is ∙ e) in
      record {
        reset = λ seats view here start. sound.reset (chips_view chips) seats entries (safe_list chips seats entries view found.0) here start;
        each = λ seats view n here reached. sound.sound (chips_view chips) seats entries (safe_list chips seats entries view found.0) n here reached;
      }
  agreed_goes_on (Err e) is = tt
