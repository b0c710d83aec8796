-- The laws of entries, together, and what follows from them for runs.
use Rattle.case_step.specs.CaseLaws.{EntryLaw, CaseSoundnessLaw}
use Rattle.case_step.proofs.CaseFound.{case_found}
use Rattle.case_step.proofs.CaseRuns.{case_soundness}
use Rattle.case_step.proofs.CoverLaws.{covered_allowed, start_allowed}
use Rattle.case_step.proofs.ResultStands.{result_stands}

pub entry_laws : EntryLaw
entry_laws = record { start = start_allowed; covered = covered_allowed; case = case_found; result = result_stands }

pub cases_sound : CaseSoundnessLaw
cases_sound = case_soundness entry_laws
