-- A group expression is not looked into, and what is none is.
use Rattle.std.proofs.Common.{◌≡◌, ℕ, true, false, List, Option, None, ap, refl, if◌then◌else◌}
use Rattle.bound_tree.specs.Exprs.{BoundExpr}
use Rattle.bound_tree.specs.Exprs as e
use Rattle.bound_tree.specs.declared.units.BoundKey.{BoundKey}
use Rattle.sql_bound.specs.Groups.{bare_column, is_key, unless_key}
use Rattle.sql_bound.specs.Scopes.{Level}

unless_key-key : (keys : List BoundKey) (x : BoundExpr) (bare : Option (List ℕ)) → is_key keys x ≡ true → unless_key keys x bare ≡ None
unless_key-key keys x bare is = ap (λ k. if k then None else bare) is

pub unless_key-other : (keys : List BoundKey) (x : BoundExpr) (bare : Option (List ℕ)) → is_key keys x ≡ false → unless_key keys x bare ≡ bare
unless_key-other keys x bare is = ap (λ k. if k then None else bare) is

pub bare_column-key : (keys : List BoundKey) (own : Level) (x : BoundExpr) → is_key keys x ≡ true → bare_column keys own x ≡ None
bare_column-key keys own (e.Literal l) is = refl
bare_column-key keys own (e.Parameter n) is = refl
bare_column-key keys own (e.Column i c) is = unless_key-key keys (e.Column i c) _ is
bare_column-key keys own (e.Rowid i) is = unless_key-key keys (e.Rowid i) _ is
bare_column-key keys own (e.Argument n) is = refl
bare_column-key keys own (e.Aggregate n) is = refl
bare_column-key keys own (e.Unary o a) is = unless_key-key keys (e.Unary o a) _ is
bare_column-key keys own (e.Binary o a b) is = unless_key-key keys (e.Binary o a b) _ is
bare_column-key keys own (e.LikeEscaped a b c) is = unless_key-key keys (e.LikeEscaped a b c) _ is
bare_column-key keys own (e.Between s t a b c) is = unless_key-key keys (e.Between s t a b c) _ is
bare_column-key keys own (e.InList s a xs) is = unless_key-key keys (e.InList s a xs) _ is
bare_column-key keys own (e.ChooseArm xs a) is = unless_key-key keys (e.ChooseArm xs a) _ is
bare_column-key keys own (e.MatchArm a xs b) is = unless_key-key keys (e.MatchArm a xs b) _ is
bare_column-key keys own (e.Iif a b c) is = unless_key-key keys (e.Iif a b c) _ is
bare_column-key keys own (e.CoalesceList f xs) is = unless_key-key keys (e.CoalesceList f xs) _ is
bare_column-key keys own (e.CallBuiltin f s xs) is = unless_key-key keys (e.CallBuiltin f s xs) _ is
bare_column-key keys own (e.CallHost f xs) is = unless_key-key keys (e.CallHost f xs) _ is
bare_column-key keys own (e.ScalarOf u xs) is = unless_key-key keys (e.ScalarOf u xs) _ is
bare_column-key keys own (e.ExistsIn u xs) is = unless_key-key keys (e.ExistsIn u xs) _ is
bare_column-key keys own (e.InUnit s a u xs) is = unless_key-key keys (e.InUnit s a u xs) _ is
bare_column-key keys own e.RaiseIgnore is = refl
bare_column-key keys own (e.RaiseAbort t) is = refl

pub ruleset group_steps = (unless_key-other, bare_column-key)
