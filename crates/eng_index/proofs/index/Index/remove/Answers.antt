use Rattle.std.proofs.Common.{◌∙◌, ap}
use Rattle.eng_tree.specs.Map.{without}
use Rattle.eng_index.proofs.Keeping.{index_without}
use Rattle.eng_index.proofs.index.Index.remove.Goals as goal

pub returns-clause-rows : goal.returns-clause-rows
returns-clause-rows c =
    index_without c.self.inside.keys c.self.inside.tree.pairs c.remove.new.self.pairs c.args.self.now c.in_ok-key.key c.args.row.now c.self.view_is c.in_ok-key.ensures.key c.in_ok-key.ensures.sound (c.remove.ensures.pairs ∙ ap (λ k. without k c.self.inside.tree.pairs) c.as_slice.ensures)
