-- What an expression comes to in an environment: a value, or causes.
use Rattle.std.specs.Prelude.{ℕ, zero, suc, List, [], ◌∷◌, map, slice_index_or}
use Rattle.eng_key.specs.Values.{value_keys}
use Rattle.eng_value.specs.Applied.{unary_of, binary_of, member_of, or_else, function_by}
use Rattle.eng_value.specs.Comparisons.{comparison_of, like_escaped_of}
use Rattle.eng_value.specs.Collations.{Keys, keys_of}
use Rattle.eng_value.specs.Environments.{Environment, column_of, row_at}
use Rattle.eng_value.specs.Operators.{made}
use Rattle.eng_value.specs.Outs.{bad}
use Rattle.eng_value.specs.Truths.{and_of, choice_of}
use Rattle.eng_value.specs.declared.builtin.Builtin.{Builtin}
use Rattle.eng_value.specs.declared.cause.Cause.TheVariants as cause
use Rattle.eng_value.specs.declared.collation.Collation.{Collation}
use Rattle.eng_value.specs.declared.compare_op.CompareOp.TheVariants as compare
use Rattle.eng_value.specs.declared.operators.Sides.{Sides}
use Rattle.eng_value.specs.declared.out.Out.{Out}
use Rattle.eng_value.specs.declared.out.Out.TheVariants.{Good}
use Rattle.eng_value.specs.declared.value.Value.{Value}
use Rattle.eng_value.specs.declared.value.Value.TheVariants as value
use Rattle.sql_words.specs.declared.literal.Literal.{Literal}
use Rattle.sql_words.specs.declared.literal.Literal.TheVariants as literal
use Rattle.bound_tree.specs.Exprs as e
use Rattle.bound_tree.specs.Exprs.{BoundArm, BoundArms, BoundExpr, BoundExprs, BoundMatch, BoundMatches, NoExprs, AnExpr, NoArms, AnArm, NoMatches, AMatch}

-- what something comes to, by the environment
abbrev pub Meaning : Type 0
Meaning = Environment → Out

-- ---- what holds no other expression

abbrev pub literal_out : Literal → Out
literal_out (literal.Value v) = Good v
literal_out (literal.Bad why) = bad why

-- a column of the row of an item, bad where the row is; NULL where there is none
abbrev pub column_of_item : Environment → ℕ → ℕ → Out
column_of_item env item place = column_of (row_at env item) place

-- the parameter of this number, from 1 on: one that is missing is NULL, and one that is too long is bad
abbrev pub parameter_of : List Value → ℕ → Out
parameter_of params zero = Good value.Null
parameter_of params (suc k) = made (slice_index_or params k value.Null)

-- what does not run yet
abbrev pub unbuilt : Out
unbuilt = bad cause.NotYet

-- ---- what looks at operands in order, and not past the one that decides

abbrev pub first_known : List Out → Out
first_known [] = Good value.Null
first_known (a ∷ rest) = or_else a (first_known rest)

-- WHEN condition THEN value
pub record Arm : Type 0 where
  pub condition : Meaning
  pub value : Meaning

abbrev pub chosen_in : Environment → List Arm → Out → Out
chosen_in env [] otherwise = otherwise
chosen_in env (arm ∷ arms) otherwise = choice_of (arm.condition env) (arm.value env) (chosen_in env arms otherwise)

-- WHEN operand THEN value, where the operand is compared so
pub record MatchArm : Type 0 where
  pub sides : Sides
  pub operand : Meaning
  pub value : Meaning

abbrev pub matched_in : Environment → Out → List MatchArm → Out → Out
matched_in env a [] otherwise = otherwise
matched_in env a (arm ∷ arms) otherwise =
    choice_of (comparison_of (keys_of env.hosts) compare.Eq arm.sides a (arm.operand env)) (arm.value env) (matched_in env a arms otherwise)

-- ---- all of them

abbrev pub between_of : Keys → Sides → Sides → Out → Out → Out → Out
between_of keys above below a low high = and_of (comparison_of keys compare.Ge above a low) (comparison_of keys compare.Le below a high)

abbrev pub function_of : Keys → Builtin → Collation → List Out → Out
function_of keys f collation args = function_by (value_keys keys) f collation args

abbrev mutual
  -- what an expression comes to; arguments, aggregates, queries, functions of hosts and RAISE do not run yet
  pub value_of : BoundExpr → Meaning
  value_of (e.Literal l) env = literal_out l
  value_of (e.Parameter number) env = parameter_of env.params number
  value_of (e.Column item place) env = column_of_item env item place
  value_of (e.Rowid item) env = (row_at env item).rowid
  value_of (e.Argument place) env = unbuilt
  value_of (e.Aggregate slot) env = unbuilt
  value_of (e.Unary op a) env = unary_of op (value_of a env)
  value_of (e.Binary op a b) env = binary_of (keys_of env.hosts) op (value_of a env) (value_of b env)
  value_of (e.LikeEscaped a b c) env = like_escaped_of (value_of a env) (value_of b env) (value_of c env)
  value_of (e.Between above below a low high) env = between_of (keys_of env.hosts) above below (value_of a env) (value_of low env) (value_of high env)
  value_of (e.InList sides a others) env = member_of (keys_of env.hosts) sides (value_of a env) (values_of others env)
  value_of (e.ChooseArm arms otherwise) env = chosen_in env (arms_of arms) (value_of otherwise env)
  value_of (e.MatchArm a arms otherwise) env = matched_in env (value_of a env) (matches_of arms) (value_of otherwise env)
  value_of (e.Iif a b c) env = choice_of (value_of a env) (value_of b env) (value_of c env)
  value_of (e.CoalesceList f es) env = first_known (values_of es env)
  value_of (e.CallBuiltin f collation args) env = function_of (keys_of env.hosts) f collation (values_of args env)
  value_of (e.CallHost name args) env = unbuilt
  value_of (e.ScalarOf unit args) env = unbuilt
  value_of (e.ExistsIn unit args) env = unbuilt
  value_of (e.InUnit sides a unit args) env = unbuilt
  value_of e.RaiseIgnore env = unbuilt
  value_of (e.RaiseAbort text) env = unbuilt

  pub values_of : BoundExprs → Environment → List Out
  values_of NoExprs env = []
  values_of (AnExpr a rest) env = value_of a env ∷ values_of rest env

  pub arms_of : BoundArms → List Arm
  arms_of NoArms = []
  arms_of (AnArm a b rest) = record { condition = value_of a; value = value_of b } ∷ arms_of rest

  pub matches_of : BoundMatches → List MatchArm
  matches_of NoMatches = []
  matches_of (AMatch sides a b rest) = record { sides = sides; operand = value_of a; value = value_of b } ∷ matches_of rest

abbrev pub arm_of : BoundArm → Arm
arm_of arm = record { condition = value_of arm.condition; value = value_of arm.value }

abbrev pub match_of : BoundMatch → MatchArm
match_of arm = record { sides = arm.sides; operand = value_of arm.operand; value = value_of arm.value }

abbrev pub in_all : List Meaning → Environment → List Out
in_all es env = map (λ e. e env) es
