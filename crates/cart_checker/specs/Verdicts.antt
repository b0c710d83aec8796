-- What a verdict on a cartridge says, and what it carries to show it.
use Rattle.std.specs.Prelude.{List}
use Rattle.console_spec.specs.declared.VerdictWord.{VerdictWord}
use Rattle.console_spec.specs.declared.VerdictWord.TheVariants.{Whole as WholeWord, Agreed as AgreedWord, NoVerdict}
use Rattle.cart_data.specs.declared.cart.Cart.{Cart}
use Rattle.abs_domain.specs.AbstractState.{AbstractState}
use Rattle.abs_domain.specs.StateView.{state_of}
use Rattle.abs_domain.specs.declared.points.Point.{Point}
use Rattle.abs_step.specs.MapView.{chips_view}
use Rattle.abs_step.specs.Analysis.{Analysis}
use Rattle.abs_step.specs.CartridgeAnalysis.{analysis}
use Rattle.abs_step.specs.ReachedStates.{SomeIsSafe, SomeIsFaultFree, IsLeastMap, IsLowestMap}
use Rattle.abs_step.specs.ReachedStates.{HoldsFaultFreeStates, ReachesUnsafe, ReachesTooMany}
use Rattle.cart_checker.specs.declared.verdict.Verdict.{Verdict}
use Rattle.cart_checker.specs.declared.verdict.Verdict.TheVariants.{Whole, Agreed, Refused, TooMany}

-- ---- over any analysis of states at points

-- Some closed and safe map is free of faults; some is closed and safe, but none of them is free of faults; or none is closed and safe.
abbrev pub IsVerdictIn : Analysis Point AbstractState → Verdict → Type 0
IsVerdictIn an (Whole notes) = SomeIsFaultFree an
IsVerdictIn an (Agreed notes) = SomeIsSafe an × (SomeIsFaultFree an → ⊥)
IsVerdictIn an (Refused point state reason) = SomeIsSafe an → ⊥
IsVerdictIn an TooMany = SomeIsSafe an → ⊥

-- the least map, which says no less anywhere than any other one that is closed and safe
pub record IsLeastAndLowest (an : Analysis Point AbstractState) (notes : List (Point × AbstractState)) : Type 0 where
  pub least : IsLeastMap an notes
  pub lowest : IsLowestMap an notes

-- the least map, free of faults or not; an unsafe state that is reached; or more points than a map may have
abbrev pub CarriesIn : Analysis Point AbstractState → Verdict → Type 0
CarriesIn an (Whole notes) = IsLeastAndLowest an notes × HoldsFaultFreeStates an notes
CarriesIn an (Agreed notes) = IsLeastAndLowest an notes
CarriesIn an (Refused point state reason) = ReachesUnsafe an point (state_of state) reason
CarriesIn an TooMany = ReachesTooMany an

-- ---- of a cartridge

abbrev pub analysis_of : Cart → Analysis Point AbstractState
analysis_of cart = analysis (chips_view cart.chips) cart.split

abbrev pub IsFaultFreeCart : Cart → Type 0
IsFaultFreeCart cart = SomeIsFaultFree (analysis_of cart)

abbrev pub IsSafeCart : Cart → Type 0
IsSafeCart cart = SomeIsSafe (analysis_of cart)

-- the verdict is right
abbrev pub IsVerdict : Cart → Verdict → Type 0
IsVerdict cart verdict = IsVerdictIn (analysis_of cart) verdict

-- it has what shows it
abbrev pub Carries : Cart → Verdict → Type 0
Carries cart verdict = CarriesIn (analysis_of cart) verdict

-- the right verdict on a cartridge, with what shows it
pub record RightVerdict (cart : Cart) : Type 0 where
  pub verdict : Verdict
  pub is : IsVerdict cart verdict
  pub carries : Carries cart verdict

-- ---- what is told of it

abbrev pub verdict_word : Verdict → VerdictWord
verdict_word (Whole notes) = WholeWord
verdict_word (Agreed notes) = AgreedWord
verdict_word (Refused point state reason) = NoVerdict
verdict_word TooMany = NoVerdict
