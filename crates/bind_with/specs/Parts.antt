-- Parts of a FROM as they are written.
use Rattle.std.specs.Prelude.{List, [], Option, Some, None}
use Rattle.sql_tree.specs.declared.expr.Expr.{Expr}

abbrev pub arguments_of : Option (List Expr) → List Expr
arguments_of None = []
arguments_of (Some arguments) = arguments
