use Rattle.eng_index.proofs.Searching.{sorted_found}
use Rattle.eng_index.proofs.index.Index.search.Goals as goal

pub returns : goal.returns
returns c = λ rows up is. sorted_found c.args.self.now.terms c.args.range.now rows c.in_ok-rowids.rowids.items c.sort_unstable.new.self.items up (c.in_ok-rowids.ensures rows is) c.sort_unstable.ensures.permutation c.sort_unstable.ensures.sorted
