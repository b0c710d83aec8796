-- The lines of what is found of a list of entries, and of a search that found none, worked out by hand and computed from the definitions.
use Rattle.std.proofs.Common.{◌≡◌, ℕ, List, [], ◌∷◌, Option, Some, None, refl}
use Rattle.std.specs.Prelude.{codes}
use Rattle.std.specs.Fmt.{digits}
use Rattle.abs_domain.specs.declared.points.Point.{Point}
use Rattle.abs_domain.specs.declared.reason.Reason.TheVariants.{BadPort, TrackedRegisterBlurred, UnknownJump}
use Rattle.case_step.specs.declared.answer.CasesAnswer.TheVariants.{Agreed, NotClosed, Unsafe}
use Rattle.case_search.specs.declared.proving.ProveAnswer.TheVariants.{Unproved}
use Rattle.report.specs.CheckLines.{agreed_line, point_text}
use Rattle.channel_f.specs.Answers.{confirmed_answer, prove_answer}
use Rattle.channel_f.specs.CaseLines.{cases_line, list_notclosed_line, list_unsafe_line, unproved_line}
use Rattle.channel_f.specs.declared.status.Status.TheVariants as status

point : ℕ → Option ℕ → List (Option ℕ) → Point
point at ret split = record { at = at; ret = ret; split = split }

-- whatever the bytes of registers, of which none is tracked
behind_the_first_entry : (split : List (Option ℕ)) →
    confirmed_answer 3 (NotClosed (Some 0) (point 25 None split)) ≡ record {
      status = status.NoVerdict;
      lines = codes "notclosed 2 to 0019 ---- .\n" ∷ [];
    }
unfolding digits list_notclosed_line point_text point
behind_the_first_entry split = refl

at_the_start : (split : List (Option ℕ)) →
    list_notclosed_line None (point 0 (Some 4095) split) ≡ codes "notclosed start to 0000 0FFF .\n"
unfolding list_notclosed_line point_text point
at_the_start split = refl

-- the last entry of the longest list
unsafe_at_the_last : confirmed_answer 65536 (Unsafe 65535 BadPort) ≡ record {
  status = status.NoVerdict;
  lines = codes "unsafe 65537 9\n" ∷ [];
}
unfolding digits list_unsafe_line
unsafe_at_the_last = refl

agreed_of_all : confirmed_answer 65536 Agreed ≡ record { status = status.Done; lines = codes "agreed 65536\n" ∷ [] }
unfolding digits agreed_line
agreed_of_all = refl

-- a search that gave up at the start, at a jump by a byte that isn't known
gave_up_at_a_jump : (split : List (Option ℕ)) →
    prove_answer (Unproved (point 0 None split) (Some UnknownJump)) ≡ record {
      status = status.NoVerdict;
      lines = codes "unproved 0000 ---- . 4\n" ∷ [];
    }
unfolding digits unproved_line point_text point
gave_up_at_a_jump split = refl

-- the reason with the greatest number, behind a call
gave_up_at_a_register : (split : List (Option ℕ)) →
    unproved_line (point 292 (Some 3) split) (Some TrackedRegisterBlurred) ≡ codes "unproved 0124 0003 . 12\n"
unfolding digits unproved_line point_text point
gave_up_at_a_register split = refl

in_want_of_entries : (split : List (Option ℕ)) → unproved_line (point 0 None split) None ≡ codes "unproved 0000 ---- . 0\n"
unfolding digits unproved_line point_text point
in_want_of_entries split = refl

at_fault : cases_line 12 3 ≡ codes "error cases line 12 cause 3\n"
unfolding digits cases_line
at_fault = refl
