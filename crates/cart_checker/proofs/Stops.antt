-- Where a state is added in vain, or isn't safe, that shows that there is no closed and safe map.
use Rattle.std.proofs.Common.{◌≡◌, sym, ◌∙◌, subst}
use Rattle.std.specs.Prelude.{Some, None, Result, Ok, Err, IfErr, IsErrAnd}
use Rattle.abs_domain.specs.AbstractState.{AbstractState}
use Rattle.abs_domain.specs.PointOrder.{point_cmp}
use Rattle.abs_domain.specs.declared.points.Point.{Point}
use Rattle.abs_step.specs.Analysis.{Analysis, AnalysisLaws}
use Rattle.abs_step.specs.ReachedStates.{Reached}
use Rattle.cart_checker.specs.declared.halt.Halt.{Halt}
use Rattle.cart_checker.specs.declared.halt.Halt.TheVariants.{Memory, TooMany, Refused}
use Rattle.cart_checker.specs.Worklists.{Work, state_by, Holds}
use Rattle.cart_checker.specs.WorkView.{AddHalts, Shows}
use Rattle.cart_checker.proofs.Efforts.{too_many}

-- an is an analysis by the order of points
pub add_shows : (an : Analysis Point AbstractState) → AnalysisLaws an →
    (w : Work Point AbstractState) (left : Point → AbstractState → Type 0)
    (q : Point) (t : AbstractState) (halt : Halt) → point_cmp ≡ an.order → Holds an w left → Reached an q t → AddHalts w q halt →
    Shows an halt
add_shows an laws w left q t Memory ordered holds reached halts = tt
add_shows an laws w left q t TooMany ordered holds reached halts =
    too_many an laws w left q t holds halts.0 (rw (← ordered) halts.1) reached
add_shows an laws w left q t (Refused p s reason) ordered holds reached halts = absurd halts

-- what is handed on shows what it did
pub handed_on : {X : Type 0} (an : Analysis Point AbstractState) (result : Result X Halt) (halt : Halt) → IsErrAnd result (λ e. e ≡ halt) →
    Shows an halt → IfErr result (Shows an)
handed_on an (Ok x) halt same shows = absurd same
handed_on an (Err e) halt same shows = subst (Shows an) (sym same) shows

-- a point that has a state has room, so that only memory can be wanting there
pub only_memory : {X : Type 0} (w : Work Point AbstractState) (q : Point) (s : AbstractState) → state_by point_cmp w.notes q ≡ Some s →
    (result : Result X Halt) → IsErrAnd result (λ e. e ≡ Memory) → IfErr result (AddHalts w q)
only_memory w q s noted (Ok x) is = absurd is
only_memory w q s noted (Err e) is =
    subst (AddHalts w q) (sym is) (λ full. let both : None ≡ Some s = sym full.1 ∙ noted in absurd (cc))
