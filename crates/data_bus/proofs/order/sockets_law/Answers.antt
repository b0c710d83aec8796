-- The law is proved over the definitions.
use Rattle.data_bus.proofs.Sockets.{sockets_law}
use Rattle.data_bus.proofs.order.sockets_law.Goals as goal

pub returns : goal.returns
returns c = sockets_law
