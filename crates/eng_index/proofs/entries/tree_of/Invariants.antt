use Rattle.std.proofs.Common.{vec_len}
use Rattle.eng_index.proofs.Gathering.{IsSplit}
use Rattle.eng_index.proofs.entries.tree_of.Given as goal

abbrev pub invariant-loop-key : goal.invariant-loop-key
invariant-loop-key l = IsSplit l.initial.entries.items l.entries.items l.tree.pairs

abbrev pub decreases-loop-key : goal.decreases-loop-key
decreases-loop-key l = vec_len l.entries
