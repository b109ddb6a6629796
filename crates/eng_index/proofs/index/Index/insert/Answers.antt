use Rattle.eng_index.proofs.Keeping.{index_with}
use Rattle.eng_index.proofs.index.Index.insert.Goals as goal

pub returns-clause-rows : goal.returns-clause-rows
returns-clause-rows c =
    index_with c.self.inside.keys c.self.inside.tree.pairs c.insert.new.self.pairs c.args.self.now c.in_ok-key.key c.in_ok-key.mark c.args.row.now c.self.view_is c.in_ok-key.ensures.key c.in_ok-key.ensures.mark c.in_ok-key.ensures.sound c.in_ok-insert.ensures.pairs
