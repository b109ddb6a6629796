use Rattle.std.proofs.Common.{◌≡◌, ◌∙◌}
use Rattle.eng_tree.specs.Map.{put}
use Rattle.eng_tree.proofs.Places.{replaced, inserted}
use Rattle.eng_tree.proofs.Laws.{ascending_put}
use Rattle.eng_tree.proofs.tree.Tree.insert.Goals as goal
use Rattle.eng_tree.proofs.tree.Tree.insert.Goals.{After-drop-key-inside, In_ok-insert-in-Err}
use Rattle.std.specs.Prelude.{slice_set}

became : (c : After-drop-key-inside) → slice_set c.self.inside.entries.items c.in-Ok.at c.replace.new.self ≡ put c.args.key c.args.value c.self.inside.entries.items
became c = rw c.replace.ensures.now (replaced c.args.key c.args.value c.self.inside.entries.items c.in-Ok.at c.index_mut.result.now (rw (c.as_slice.ensures, c.deref.ensures.value) at c.in-Ok.ensures) c.index_mut.ensures.value)

became_more : (c : In_ok-insert-in-Err) → c.insert.new.self.items ≡ put c.args.key c.args.value c.self.inside.entries.items
became_more c = c.in_ok-insert-in-Err.ensures.items ∙ rw c.new.ensures (inserted c.args.key c.args.value c.self.inside.entries.items c.in-Err.at (rw (c.as_slice.ensures, c.deref.ensures.value) at c.in-Err.ensures))

pub invariant_of-self : goal.invariant_of-self
invariant_of-self c = rw (became c) (ascending_put _ _ _ c.self.invariant)

pub invariant_of-self-in-Err : goal.invariant_of-self-in-Err
invariant_of-self-in-Err c = rw (became_more c) (ascending_put _ _ _ c.self.invariant)

pub returns-in-Ok-clause-pairs : goal.returns-in-Ok-clause-pairs
returns-in-Ok-clause-pairs c = rw (← c.self.view_is) (became c)

pub returns-in_ok-insert-in-Err-clause-pairs : goal.returns-in_ok-insert-in-Err-clause-pairs
returns-in_ok-insert-in-Err-clause-pairs c = rw (← c.self.view_is) (became_more c)
