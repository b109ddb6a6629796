use Rattle.std.proofs.Common.{◌≡◌, sym, ◌∙◌}
use Rattle.eng_tree.specs.Map.{without}
use Rattle.eng_tree.proofs.Places.{removed, without_none}
use Rattle.eng_tree.proofs.Laws.{ascending_without}
use Rattle.eng_tree.proofs.tree.Tree.remove.Goals as goal
use Rattle.eng_tree.proofs.tree.Tree.remove.Goals.{After-into_pair}

became : (c : After-into_pair) → c.remove.new.self.items ≡ without c.args.key.now c.self.inside.entries.items
became c = c.remove.ensures.items ∙ removed c.args.key.now c.self.inside.entries.items c.in-Ok.at c.remove.result (rw c.deref.ensures.value at c.in-Ok.ensures)

pub invariant_of-self : goal.invariant_of-self
invariant_of-self c = rw (became c) (ascending_without _ _ c.self.invariant)

pub returns-in-Ok-clause-pairs : goal.returns-in-Ok-clause-pairs
returns-in-Ok-clause-pairs c = rw (← c.self.view_is) (became c)

pub returns-in-Err-clause-pairs : goal.returns-in-Err-clause-pairs
returns-in-Err-clause-pairs c = rw (← c.self.view_is) (sym (without_none c.args.key.now c.self.inside.entries.items (rw c.deref.ensures.value at c.in-Err.ensures.none)))
