-- What conjuncts mean as they are tested.
use Rattle.bound_tree.specs.Exprs as e
use Rattle.bound_tree.specs.Exprs.{BoundExpr}
use Rattle.bound_tree.specs.Seen.{seen}
use Rattle.eng_value.specs.declared.operators.BinaryOperator.TheVariants as binary
use Rattle.plan_tree.specs.declared.conjuncts.Form.{Form}
use Rattle.plan_tree.specs.declared.conjuncts.Form.TheVariants as form

abbrev pub meant : Form → BoundExpr
meant (form.Whole x) = x.now
meant (form.Comparison op sides a b) = e.Binary (binary.Compare op sides) (seen a.now) (seen b.now)
