use Rattle.eng_key.proofs.RowKeyLaws.{fronts_bound}
use Rattle.eng_key.proofs.laws.fronts_bound_their_keys.Goals as goal

pub returns : goal.returns
returns c = fronts_bound
