use Rattle.std.proofs.Common.{refl}
use Rattle.engine.proofs.connection.Connection.in_transaction.Goals as goal

pub returns : goal.returns
returns c = rw (← c.self.view_is) refl
