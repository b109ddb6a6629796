use Rattle.bound_size.proofs.SizeLaws.{tree_nodes}
use Rattle.bound_size.proofs.SplitLaws.{conjunct_nodes, test_nodes}
use Rattle.bound_size.proofs.laws.expressions_are_linear.Goals as goal

pub returns-clause-tree : goal.returns-clause-tree
returns-clause-tree c x s w r plain bare own h = tree_nodes x s w r plain bare own h

pub returns-clause-conjuncts : goal.returns-clause-conjuncts
returns-clause-conjuncts c x s w r plain bare own h = conjunct_nodes x s w r plain bare own h

pub returns-clause-tests : goal.returns-clause-tests
returns-clause-tests c x s w r plain bare own h = test_nodes x s w r plain bare own h
