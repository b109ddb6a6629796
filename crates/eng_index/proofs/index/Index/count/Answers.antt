use Rattle.eng_index.proofs.Counting.{counts_between, counts_none}
use Rattle.eng_index.proofs.index.Index.count.Goals as goal

pub returns-in-None : goal.returns-in-None
returns-in-None c =
    counts_none c.self.inside.keys c.terms.result.now c.self.inside.tree.pairs c.args.self.now c.args.range.now c.in_ok-fronts_of.field-0 c.self.view_is c.terms.ensures c.in_ok-fronts_of.ensures c.in-None.is

pub returns-in-Some : goal.returns-in-Some
returns-in-Some c =
    counts_between c.self.inside.keys c.terms.result.now c.self.inside.tree.pairs c.args.self.now c.args.range.now c.in_ok-fronts_of.field-0 c.in-Some.fronts c.count_between.result c.self.view_is c.terms.ensures c.in_ok-fronts_of.ensures c.in-Some.is c.count_between.ensures
