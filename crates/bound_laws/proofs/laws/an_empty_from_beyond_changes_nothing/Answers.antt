use Rattle.bound_laws.proofs.BeyondTrees.{query_is_alike}
use Rattle.bound_laws.proofs.laws.an_empty_from_beyond_changes_nothing.Goals as goal

pub returns : goal.returns
returns c q o units = (query_is_alike q).bound o units
