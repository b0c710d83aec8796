use Rattle.toml.specs.View.{table_view}
use Rattle.cartridge.specs.Plans.{seen_cart}
use Rattle.cartridge.proofs.ChipsWhole.{described_whole}
use Rattle.cartridge.proofs.plan.read_cart.Goals as goal

pub plan_of-requires : goal.plan_of-requires
plan_of-requires c = described_whole (table_view c.args.table.now) (seen_cart c.in_ok-cart.cart) c.in_ok-cart.ensures
