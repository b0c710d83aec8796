-- The map of the chips tells just what is known of them.
use Rattle.abs_step.specs.MapView.{chips_view}
use Rattle.abs_step.specs.CartridgeAnalysis.{TellsBytes}
use Rattle.cart_checker.proofs.Told.{map_laws, chips_bytes, in_any_case}
use Rattle.cart_checker.proofs.check.check_cart.Goals as goal

pub checked-requires : goal.checked-requires
checked-requires c = record {
  laws = map_laws c.map_view_law.ensures c.analysis_law.ensures c.in_ok-map.map c.args.cart.now.chips c.args.cart.now.split
      c.in_ok-map.ensures.tells c.in_ok-map.ensures.whole;
}

pub returns-clause-bytes : goal.returns-clause-bytes
returns-clause-bytes c =
    in_any_case (TellsBytes (chips_view c.args.cart.now.chips)) c.checked.result
    (chips_bytes c.map_view_law.ensures c.analysis_law.ensures c.in_ok-map.map c.args.cart.now.chips c.args.cart.now.split
    c.in_ok-map.ensures.tells c.in_ok-map.ensures.whole)
