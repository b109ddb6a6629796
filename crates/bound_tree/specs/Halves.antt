-- An AND and its operands.
use Rattle.std.specs.Prelude.{Result, Ok, Err}
use Rattle.eng_value.specs.declared.operators.BinaryOperator.TheVariants as binary
use Rattle.bound_tree.specs.Exprs.{BoundExpr}
use Rattle.bound_tree.specs.Exprs as e

-- the operands of an AND, or else the expression itself
abbrev pub halves_of : BoundExpr → Result (BoundExpr × BoundExpr) BoundExpr
halves_of (e.Binary binary.And a b) = Ok (a, b)
halves_of other = Err other
