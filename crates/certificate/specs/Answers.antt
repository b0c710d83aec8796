-- The causes by number, and what is said of an answer.
use Rattle.std.specs.Prelude.{◌≡◌, ℕ, Option, Some, None, Result, Ok, Err}
use Rattle.abs_domain.specs.AbstractState.{AbstractState}
use Rattle.abs_domain.specs.declared.points.Point.{Point}
use Rattle.abs_domain.specs.declared.state.Abs.{Abs}
use Rattle.abs_step.specs.StatesAtPoints.{state_in}
use Rattle.certificate.specs.declared.answers.CertCause.{CertCause}
use Rattle.certificate.specs.declared.answers.CertCause.TheVariants.{Header, Count, Field, Order, End, SplitField}
use Rattle.certificate.specs.declared.answers.CertFault.{CertFault}

-- the number of a cause
abbrev pub cause_number : CertCause → ℕ
cause_number Header = 1
cause_number Count = 2
cause_number Field = 3
cause_number Order = 4
cause_number End = 5
cause_number SplitField = 6

-- a part that is read is what is said of a text, and none is where nothing is said
abbrev pub Gives : {X Y : Type 0} → (X → Y) → Option X → Option Y → Type 0
Gives view None said = said ≡ None
Gives view (Some x) said = said ≡ Some (view x)

-- what is read is, as it is seen, what is said of a text, or the fault is
abbrev pub ReadsAs : {X Y : Type 0} → (X → Y) → Result X CertFault → Result Y CertFault → Type 0
ReadsAs view (Ok x) said = said ≡ Ok (view x)
ReadsAs view (Err fault) said = said ≡ Err fault

-- an entry as it is read of a line
abbrev pub entry_as : Result (Point × Abs) CertCause → Result (Point × AbstractState) CertCause
entry_as (Ok e) = Ok (state_in e)
entry_as (Err cause) = Err cause
