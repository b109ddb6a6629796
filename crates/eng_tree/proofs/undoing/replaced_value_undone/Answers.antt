use Rattle.eng_tree.proofs.Laws.{undo_replaced}
use Rattle.eng_tree.proofs.undoing.replaced_value_undone.Goals as goal

pub returns : goal.returns
returns c = undo_replaced
