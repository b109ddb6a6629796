use Rattle.eng_index.proofs.Gathering.{index_of_entries}
use Rattle.eng_index.proofs.entries.Entries.into_index.Goals as goal

pub returns-clause-rows : goal.returns-clause-rows
returns-clause-rows c =
    index_of_entries c.args.self c.of_tree.result c.self.inside.keys c.self.inside.entries.items c.last_first.new.entries.items c.in_ok-tree.tree.pairs c.self.view_is c.of_tree.ensures.terms c.of_tree.ensures.pairs c.last_first.ensures c.in_ok-tree.ensures.entries c.in_ok-tree.ensures.order
