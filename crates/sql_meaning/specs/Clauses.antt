-- What expressions over lists of others come to, said of plain lists.
use Rattle.std.specs.Prelude.{◌≡◌, List, [], ◌∷◌, map, refl}
use Rattle.std.proofs.Common.{ap}
use Rattle.eng_value.specs.Applied.{member_of}
use Rattle.eng_value.specs.Collations.{keys_of}
use Rattle.eng_value.specs.Environments.{Environment}
use Rattle.eng_value.specs.declared.builtin.Builtin.{Builtin}
use Rattle.eng_value.specs.declared.collation.Collation.{Collation}
use Rattle.eng_value.specs.declared.operators.Sides.{Sides}
use Rattle.bound_tree.specs.Exprs as e
use Rattle.bound_tree.specs.Exprs.{BoundArm, BoundExpr, BoundMatch, arms, exprs, matches}
use Rattle.sql_meaning.specs.Expression.{arm_of, arms_of, chosen_in, first_known, function_of, in_all, match_of, matched_in, matches_of, value_of, values_of}

pub values-all : (es : List BoundExpr) (env : Environment) → values_of (exprs es) env ≡ in_all (map value_of es) env
values-all [] env = refl
values-all (a ∷ es) env = ap (λ outs. value_of a env ∷ outs) (values-all es env)

pub arms-all : (those : List BoundArm) → arms_of (arms those) ≡ map arm_of those
arms-all [] = refl
arms-all (a ∷ those) = ap (λ rest. arm_of a ∷ rest) (arms-all those)

pub matches-all : (those : List BoundMatch) → matches_of (matches those) ≡ map match_of those
matches-all [] = refl
matches-all (a ∷ those) = ap (λ rest. match_of a ∷ rest) (matches-all those)

pub value_of-In : (sides : Sides) (a : BoundExpr) (others : List BoundExpr) (env : Environment)
    → value_of (e.In sides a others) env ≡ member_of (keys_of env.hosts) sides (value_of a env) (in_all (map value_of others) env)
value_of-In sides a others env = ap (member_of (keys_of env.hosts) sides (value_of a env)) (values-all others env)

pub value_of-Coalesce : (f : Builtin) (es : List BoundExpr) (env : Environment) → value_of (e.Coalesce f es) env ≡ first_known (in_all (map value_of es) env)
value_of-Coalesce f es env = ap first_known (values-all es env)

pub value_of-Choose : (those : List BoundArm) (otherwise : BoundExpr) (env : Environment)
    → value_of (e.Choose those otherwise) env ≡ chosen_in env (map arm_of those) (value_of otherwise env)
value_of-Choose those otherwise env = ap (λ l. chosen_in env l (value_of otherwise env)) (arms-all those)

pub value_of-Match : (a : BoundExpr) (those : List BoundMatch) (otherwise : BoundExpr) (env : Environment)
    → value_of (e.Match a those otherwise) env ≡ matched_in env (value_of a env) (map match_of those) (value_of otherwise env)
value_of-Match a those otherwise env = ap (λ l. matched_in env (value_of a env) l (value_of otherwise env)) (matches-all those)

pub value_of-Call : (f : Builtin) (collation : Collation) (args : List BoundExpr) (env : Environment)
    → value_of (e.Call f collation args) env ≡ function_of (keys_of env.hosts) f collation (in_all (map value_of args) env)
value_of-Call f collation args env = ap (function_of (keys_of env.hosts) f collation) (values-all args env)
