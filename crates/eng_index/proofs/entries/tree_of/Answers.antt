use Rattle.eng_index.proofs.Gathering.{none_taken, one_taken}
use Rattle.eng_index.proofs.entries.tree_of.Goals as goal

pub loop-key-init : goal.loop-key-init
loop-key-init c = none_taken c.args.entries.items c.new-tree.result.pairs c.new-tree.ensures

pub loop-key-preserved-in_ok-insert : goal.loop-key-preserved-in_ok-insert
loop-key-preserved-in_ok-insert c =
    one_taken c.args.entries.items c.loop-key.entries.items c.pop.new.self.items c.loop-key.tree.pairs c.insert.new.self.pairs c.in-Some.key c.in-Some.mark c.in-Some.ensures.items c.in_ok-insert.ensures.pairs c.loop-key.invariant

pub loop-key-preserved : goal.loop-key-preserved
loop-key-preserved c =
    one_taken c.args.entries.items c.loop-key.entries.items c.pop.new.self.items c.loop-key.tree.pairs c.insert.new.self.pairs c.in-Some.key c.in-Some.mark c.in-Some.ensures.items c.in_ok-insert.ensures.pairs c.loop-key.invariant
