use Rattle.std.proofs.Common.{length}
use Rattle.eng_index.specs.Fronts.{pairs_at}
use Rattle.eng_index.proofs.Searching.{IsFoundSoFar}
use Rattle.eng_index.proofs.walking.rowids_between.Given as goal

abbrev pub invariant-loop-rowid : goal.invariant-loop-rowid
invariant-loop-rowid l = IsFoundSoFar l.fronts.from l.fronts.to l.tree.pairs l.rowids.items l.cursor

abbrev pub decreases-loop-rowid : goal.decreases-loop-rowid
decreases-loop-rowid l = length (pairs_at l.tree.pairs l.cursor)
