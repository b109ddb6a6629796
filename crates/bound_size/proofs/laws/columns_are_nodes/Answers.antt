use Rattle.bound_size.proofs.FromLaws.{from_brings}
use Rattle.bound_size.proofs.laws.columns_are_nodes.Goals as goal

pub returns-clause-nodes : goal.returns-clause-nodes
returns-clause-nodes c i queue items w r h = (from_brings i queue items w r h).nodes

pub returns-clause-count : goal.returns-clause-count
returns-clause-count c i queue items w r h = (from_brings i queue items w r h).count
