-- A map of some chips tells just what is known of them, so the analysis by the map is that of the cartridge.
use Rattle.std.proofs.Common.{◌≡◌, ℕ, List, ap, subst}
use Rattle.std.specs.Prelude.{Result, Ok, Err, IfOk}
use Rattle.chip_face.specs.declared.specification.ChipSpec.{ChipSpec}
use Rattle.memory_map.specs.MapOf.{MapTable, IsMapOf, IsWholeMap, seats_of}
use Rattle.abs_step.specs.MapView.{MapView, MapViewLaw, chips_view, view_of}
use Rattle.abs_step.specs.Analysis.{AnalysisLaws}
use Rattle.abs_step.specs.CartridgeAnalysis.{AnalysisLaw, TellsBytes, analysis}
use Rattle.cart_checker.specs.WorkView.{map_analysis}

module _ (view : MapViewLaw) (law : AnalysisLaw) (m : MapTable) (chips : List ChipSpec) (tracked : List ℕ) (tells : IsMapOf m chips)
    (whole : IsWholeMap m) where
  pub map_laws : AnalysisLaws (map_analysis m tracked)
  map_laws = law.laws (view_of m) (seats_of chips) tracked (view.view m chips tells) (law.bytes m whole.are_bytes)

  pub chips_bytes : TellsBytes (chips_view chips)
  chips_bytes = subst TellsBytes (view.told m chips tells whole) (law.bytes m whole.are_bytes)

  pub same_analysis : map_analysis m tracked ≡ analysis (chips_view chips) tracked
  same_analysis = ap (λ (v : MapView). analysis v tracked) (view.told m chips tells whole)

-- what holds in any case
pub in_any_case : {X E : Type 0} (T : Type 0) (result : Result X E) → T → IfOk result (λ _. T)
in_any_case T (Ok x) holds = holds
in_any_case T (Err e) holds = tt
