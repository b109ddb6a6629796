-- Operands without an affinity that are no column.
use Rattle.std.specs.Prelude.{Option, None}
use Rattle.eng_value.specs.declared.affinity.Affinity.TheVariants as affinity
use Rattle.eng_value.specs.declared.collation.Collation.{Collation}
use Rattle.bound_tree.specs.Exprs.{BoundExpr}
use Rattle.sql_bound.specs.declared.scopes.Form.TheVariants as form
use Rattle.sql_bound.specs.declared.scopes.Operand.{Operand}

-- over operands, of which the leftmost COLLATE is this
abbrev pub bare : Option Collation → BoundExpr → Operand
bare explicit tree =
    record { tree = tree; affinity = affinity.None; explicit = explicit; column = None; form = form.Plain; name = None }
