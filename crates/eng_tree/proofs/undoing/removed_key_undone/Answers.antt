use Rattle.eng_tree.proofs.Laws.{undo_removed}
use Rattle.eng_tree.proofs.undoing.removed_key_undone.Goals as goal

pub returns : goal.returns
returns c = undo_removed
