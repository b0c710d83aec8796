-- The law, which is proved beside the definitions.
use Rattle.f8_spec.proofs.OrderLaw.{order_law}
use Rattle.data_bus.proofs.order.order_law.Goals as goal

pub returns : goal.returns
returns c = order_law
