-- What a WHERE tests: a BETWEEN at its top is two conditions.
use Rattle.std.specs.Prelude.{List, [], ◌∷◌}
use Rattle.eng_value.specs.declared.compare_op.CompareOp.TheVariants as compare
use Rattle.eng_value.specs.declared.operators.BinaryOperator.TheVariants as binary
use Rattle.bound_tree.specs.Exprs as e
use Rattle.bound_tree.specs.Exprs.{BoundExpr}

abbrev pub conditions_of : BoundExpr → List BoundExpr
conditions_of (e.Between above below a low high) =
    e.Binary (binary.Compare compare.Ge above) a low ∷ e.Binary (binary.Compare compare.Le below) a high ∷ []
conditions_of other = other ∷ []
