use Rattle.eng_tree.proofs.Laws.{undo_new}
use Rattle.eng_tree.proofs.undoing.new_key_undone.Goals as goal

pub returns : goal.returns
returns c = undo_new
