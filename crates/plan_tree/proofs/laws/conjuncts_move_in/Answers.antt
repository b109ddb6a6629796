use Rattle.plan_tree.proofs.Planning.{moves_in}
use Rattle.plan_tree.proofs.laws.conjuncts_move_in.Goals as goal

pub returns : goal.returns
returns c = λ params from conjuncts order assigned p is. moves_in params from conjuncts order assigned p is
