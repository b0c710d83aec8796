-- A call over a store and a sink that never fail.
use Rattle.std.proofs.Common.{◌≡◌, ℕ, inl, inr, List, Some, Bool, false, None, refl, subst, arith}
use Rattle.std.specs.Prelude.{if◌then◌else◌}
use Rattle.outside.specs.Counts.{Rose}
use Rattle.outside.specs.StoreRules.{NamedBytes}
use Rattle.loader.specs.Work.{Work}
use Rattle.channel_f.specs.Answers.{Due}
use Rattle.channel_f.specs.Commands.{Around}
use Rattle.channel_f.specs.Completeness.{IsComplete, IsSurelyComplete}
use Rattle.channel_f.specs.Statuses.{HasStatus}
use Rattle.channel_f.specs.declared.status.Status.{Status}

pub never_rose : Rose 0 0 → ⊥
never_rose (inl less) = omega (arith, less)
never_rose (inr most) = omega (arith, most)

-- a count that stays 0 did not rise
stays : (before now : ℕ) → before ≡ 0 → now ≡ 0 → Rose before now → ⊥
stays before now none still rose =
    never_rose (subst (λ (n : ℕ). Rose 0 n) still (subst (λ (n : ℕ). Rose n now) none rose))

module _ (old new : Around) (files : List NamedBytes) (work : Work Due) (has : old.input.files ≡ Some files)
    (no_fault : old.input.faults ≡ 0) (still_none : new.input.faults ≡ 0)
    (taken : old.output.faults ≡ 0) (still_taken : new.output.faults ≡ 0) where
  surely : (said : Status) → IsComplete old new said work → IsSurelyComplete old new said files work
  surely said complete = record {
    answers = λ due is_due.
        complete.answers files due has is_due (stays old.input.faults new.input.faults no_fault still_none)
        (stays old.output.faults new.output.faults taken still_taken);
    refused = λ none by_input. complete.refused files has none by_input;
    bound = λ none_missing. complete.bound files has (inl none_missing);
    store = λ by_store. stays old.input.faults new.input.faults no_fault still_none (complete.store by_store);
    sink = λ by_sink. stays old.output.faults new.output.faults taken still_taken (complete.sink by_sink);
  }

  pub surely_complete : (code : ℕ) → HasStatus code (λ said. IsComplete old new said work) →
      HasStatus code (λ said. IsSurelyComplete old new said files work)
  surely_complete code complete =
      record { status = complete.status; is = complete.is; says = surely complete.status complete.says }

-- a store that was asked for its files alone tells them
pub told_unless_strayed : (strayed : Bool) (files : List NamedBytes) → strayed ≡ false →
    (if strayed then None else Some files) ≡ Some files
told_unless_strayed strayed files kept = rw kept refl
