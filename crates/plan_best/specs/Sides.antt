-- What the sides of a comparison read, and how they turn round.
use Rattle.std.specs.Prelude.{ℕ, nat_eq, Bool, true, false, not, Option, Some, None, if◌then◌else◌}
use Rattle.bound_tree.specs.Exprs as e
use Rattle.bound_tree.specs.Exprs.{BoundExpr}
use Rattle.eng_index.specs.declared.key_term.TermSource.{TermSource}
use Rattle.eng_index.specs.declared.key_term.TermSource.TheVariants as term
use Rattle.eng_value.specs.Casts.{is_numeric}
use Rattle.eng_value.specs.declared.affinity.Affinity.{Affinity}
use Rattle.eng_value.specs.declared.affinity.Affinity.TheVariants as affinity
use Rattle.eng_value.specs.declared.compare_op.CompareOp.{CompareOp}
use Rattle.eng_value.specs.declared.compare_op.CompareOp.TheVariants as compare
use Rattle.eng_value.specs.declared.operators.Sides.{Sides}
use Rattle.sql_meaning.specs.Searches.{has_none}

-- of the item that is asked for
abbrev pub source_at : ℕ → ℕ → TermSource → Option TermSource
source_at item own source = if nat_eq own item then Some source else None

-- the rowid or a column of the item
abbrev pub source_of : ℕ → BoundExpr → Option TermSource
source_of item (e.Rowid own) = source_at item own term.Rowid
source_of item (e.Column own column) = source_at item own (term.Column column)
source_of item other = None

-- values of this own affinity are compared as they are beside the other
abbrev pub is_kept_beside : Affinity → Affinity → Bool
is_kept_beside affinity.Integer own = is_numeric own
is_kept_beside affinity.Numeric own = is_numeric own
is_kept_beside affinity.Text own = not (has_none own)
is_kept_beside affinity.Real own = true
is_kept_beside affinity.Blob own = true
is_kept_beside affinity.None own = true

-- `a < b` is `b > a`
abbrev pub op_round : CompareOp → CompareOp
op_round compare.Eq = compare.Eq
op_round compare.Lt = compare.Gt
op_round compare.Le = compare.Ge
op_round compare.Gt = compare.Lt
op_round compare.Ge = compare.Le

abbrev pub sides_round : Sides → Sides
sides_round sides = record { left = sides.right; right = sides.left; collation = sides.collation }
