use Rattle.eng_index.proofs.Lists.{shuffled_from_permutation}
use Rattle.eng_index.proofs.entries.last_first.Goals as goal

pub returns : goal.returns
returns c = shuffled_from_permutation c.args.entries.now.items c.sort_unstable_by.new.self.items c.sort_unstable_by.ensures.permutation
