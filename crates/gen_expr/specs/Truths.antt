-- Expressions that come to truths.
use Rattle.std.specs.Prelude.{◌≡◌}
use Rattle.eng_value.specs.Environments.{Environment}
use Rattle.eng_value.specs.Truths.{truth_of}
use Rattle.eng_value.specs.declared.out.Out.{Out}
use Rattle.sql_meaning.specs.Expression.{value_of}
use Rattle.bound_tree.specs.Exprs.{BoundExpr}

-- it is its own truth: 1, 0, NULL or bad
abbrev pub IsTruth : Out → Type 0
IsTruth a = truth_of a ≡ a

abbrev pub GivesTruth : BoundExpr → Type 0
GivesTruth e = (env : Environment) → IsTruth (value_of e env)
