-- Expressions with what they come to, computed by the definitions.
use Rattle.std.specs.Prelude.{◌≡◌, ℕ, List, [], ◌∷◌, pos, codes, refl}
use Rattle.eng_value.specs.Applied.{plain}
use Rattle.eng_value.specs.Casts.{beside}
use Rattle.eng_value.specs.Comparisons.{comparison_of}
use Rattle.eng_value.specs.Causes.{only}
use Rattle.eng_value.specs.Environments.{Environment, ItemRow, bad_row, environment, table_row}
use Rattle.eng_value.specs.HostMeanings.{no_hosts, nobody}
use Rattle.eng_value.specs.Truths.{and_of, choice_of, truth_of}
use Rattle.eng_value.specs.declared.builtin.Builtin.TheVariants as builtin
use Rattle.eng_value.specs.declared.cause.Cause.TheVariants as cause
use Rattle.eng_value.specs.declared.compare_op.CompareOp.TheVariants as compare
use Rattle.eng_value.specs.declared.operators.BinaryOperator.TheVariants as binary
use Rattle.eng_value.specs.declared.out.Out.TheVariants.{Good, Bad}
use Rattle.eng_value.specs.declared.value.Value.{Value}
use Rattle.eng_value.specs.declared.value.Value.TheVariants as value
use Rattle.bound_tree.specs.Exprs as e
use Rattle.bound_tree.specs.Exprs.{BoundExpr}
use Rattle.sql_words.specs.declared.literal.Literal.TheVariants as literal
use Rattle.sql_meaning.specs.Expression.{value_of}

abbrev at_rows : List ItemRow → Environment
at_rows rows = environment (record { params = []; hosts = no_hosts; world = []; ask = nobody }) [] [] rows

abbrev one_row : List Value → Environment
one_row row = at_rows (table_row (record { rowid = pos 1; values = row }) ∷ [])

abbrev number : ℕ → BoundExpr
number n = e.Literal (literal.Value (value.Integer (pos n)))

abbrev real : BoundExpr
real = e.Literal (literal.Bad cause.Real)

-- a > 3 over the row (12, 'x')
twelve_is_above_three : value_of (e.Binary (binary.Compare compare.Gt plain) (e.Column 0 0) (number 3)) (one_row (value.Integer (pos 12) ∷ value.Text (codes "x") ∷ [])) ≡ Good (value.Integer (pos 1))
unfolding comparison_of beside
twelve_is_above_three = refl

-- 0 AND 1.5
a_false_side_decides : value_of (e.Binary binary.And (number 0) real) (one_row []) ≡ Good (value.Integer (pos 0))
unfolding and_of truth_of
a_false_side_decides = refl

-- CASE WHEN 1 THEN 3 ELSE 1.5 END
the_first_arm_decides : value_of (e.Choose (record { condition = number 1; value = number 3 } ∷ []) real) (one_row []) ≡ Good (value.Integer (pos 3))
unfolding choice_of truth_of
the_first_arm_decides = refl

-- coalesce(2, 1.5)
the_first_decides : value_of (e.Coalesce builtin.Coalesce (number 2 ∷ real ∷ [])) (one_row []) ≡ Good (value.Integer (pos 2))
the_first_decides = refl

-- a column of a row that could not be made
a_bad_row_is_bad : value_of (e.Column 0 1) (at_rows (bad_row 2 (only cause.Overflow) ∷ [])) ≡ Bad (only cause.Overflow)
a_bad_row_is_bad = refl

-- the rowid of a row
a_rowid : value_of (e.Rowid 0) (one_row []) ≡ Good (value.Integer (pos 1))
a_rowid = refl
