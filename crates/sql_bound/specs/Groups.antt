-- Groups: the columns of a grouped query that stand outside its aggregates and in no group expression (SELECT, section 2.5).
use Rattle.std.specs.Prelude.{ℕ, Bool, true, false, List, [], Option, Some, None, Ok, Err, slice_get, codes, if◌then◌else◌}
use Rattle.std.specs.List.{list_any}
use Rattle.eng_value.specs.declared.cause.Cause.TheVariants.{BareColumn}
use Rattle.bound_tree.specs.Exprs as e
use Rattle.bound_tree.specs.Exprs.{AMatch, AnArm, AnExpr, BoundArms, BoundExpr, BoundExprs, BoundMatches, NoArms, NoExprs, NoMatches}
use Rattle.bound_tree.specs.Same.{same_expr}
use Rattle.bound_tree.specs.declared.units.BoundKey.{BoundKey}
use Rattle.sql_bound.specs.Refusals.{Checked}
use Rattle.sql_bound.specs.Scopes.{Level}
use Rattle.sql_bound.specs.declared.scopes.ScopeColumn.{ScopeColumn}
use Rattle.sql_bound.specs.declared.scopes.ScopeItem.{ScopeItem}

-- ---- names of columns, as they are declared

abbrev pub name_of_column : Option ScopeColumn → List ℕ
name_of_column None = []
name_of_column (Some c) = c.name

abbrev pub name_in_item : Option ScopeItem → ℕ → List ℕ
name_in_item None column = []
name_in_item (Some item) column = name_of_column (slice_get item.columns column)

abbrev pub name_at_place : Level → ℕ → ℕ → List ℕ
name_at_place level item column = name_in_item (slice_get level item) column

-- ---- the first column that stands in no group expression

infixr 5 ◌then◌
abbrev pub ◌then◌ : {A : Type 0} → Option A → Option A → Option A
None then b = b
(Some a) then b = Some a

abbrev pub is_key : List BoundKey → BoundExpr → Bool
is_key keys tree = list_any (λ (k : BoundKey). same_expr k.expr tree) keys

-- a group expression is not looked into
abbrev pub unless_key : List BoundKey → BoundExpr → Option (List ℕ) → Option (List ℕ)
unless_key keys tree bare = if is_key keys tree then None else bare

-- what is handed over to a query is a part of its own; a rowid that is no column is called rowid, since the tree does not keep which of its names is written
abbrev mutual
  pub bare_column : List BoundKey → Level → BoundExpr → Option (List ℕ)
  bare_column keys own (e.Literal l) = None
  bare_column keys own (e.Parameter n) = None
  bare_column keys own (e.Column item column) = unless_key keys (e.Column item column) (Some (name_at_place own item column))
  bare_column keys own (e.Rowid item) = unless_key keys (e.Rowid item) (Some (codes "rowid"))
  bare_column keys own (e.Argument n) = None
  bare_column keys own (e.Aggregate n) = None
  bare_column keys own (e.Unary o a) = unless_key keys (e.Unary o a) (bare_column keys own a)
  bare_column keys own (e.Binary o a b) = unless_key keys (e.Binary o a b) (bare_column keys own a then bare_column keys own b)
  bare_column keys own (e.LikeEscaped a b c) =
      unless_key keys (e.LikeEscaped a b c) (bare_column keys own a then bare_column keys own b then bare_column keys own c)
  bare_column keys own (e.Between s t a b c) =
      unless_key keys (e.Between s t a b c) (bare_column keys own a then bare_column keys own b then bare_column keys own c)
  bare_column keys own (e.InList s a others) = unless_key keys (e.InList s a others) (bare_column keys own a then bare_in_list keys own others)
  bare_column keys own (e.ChooseArm arms a) = unless_key keys (e.ChooseArm arms a) (bare_in_arms keys own arms then bare_column keys own a)
  bare_column keys own (e.MatchArm a arms b) =
      unless_key keys (e.MatchArm a arms b) (bare_column keys own a then bare_in_matches keys own arms then bare_column keys own b)
  bare_column keys own (e.Iif a b c) = unless_key keys (e.Iif a b c) (bare_column keys own a then bare_column keys own b then bare_column keys own c)
  bare_column keys own (e.CoalesceList f args) = unless_key keys (e.CoalesceList f args) (bare_in_list keys own args)
  bare_column keys own (e.CallBuiltin f c args) = unless_key keys (e.CallBuiltin f c args) (bare_in_list keys own args)
  bare_column keys own (e.CallHost name args) = unless_key keys (e.CallHost name args) (bare_in_list keys own args)
  bare_column keys own (e.ScalarOf unit handed) = unless_key keys (e.ScalarOf unit handed) (bare_in_list keys own handed)
  bare_column keys own (e.ExistsIn unit handed) = unless_key keys (e.ExistsIn unit handed) (bare_in_list keys own handed)
  bare_column keys own (e.InUnit s a unit handed) = unless_key keys (e.InUnit s a unit handed) (bare_column keys own a then bare_in_list keys own handed)
  bare_column keys own e.RaiseIgnore = None
  bare_column keys own (e.RaiseAbort text) = None

  pub bare_in_list : List BoundKey → Level → BoundExprs → Option (List ℕ)
  bare_in_list keys own NoExprs = None
  bare_in_list keys own (AnExpr a rest) = bare_column keys own a then bare_in_list keys own rest

  pub bare_in_arms : List BoundKey → Level → BoundArms → Option (List ℕ)
  bare_in_arms keys own NoArms = None
  bare_in_arms keys own (AnArm a b rest) = bare_column keys own a then bare_column keys own b then bare_in_arms keys own rest

  pub bare_in_matches : List BoundKey → Level → BoundMatches → Option (List ℕ)
  bare_in_matches keys own NoMatches = None
  bare_in_matches keys own (AMatch s a b rest) = bare_column keys own a then bare_column keys own b then bare_in_matches keys own rest

abbrev pub if_none_bare : Option (List ℕ) → Checked (Unit {0})
if_none_bare None = Ok tt
if_none_bare (Some name) = Err (BareColumn name)

-- in a grouped query
abbrev pub grouped_checked : Bool → List BoundKey → Level → BoundExpr → Checked (Unit {0})
grouped_checked false keys own tree = Ok tt
grouped_checked true keys own tree = if_none_bare (bare_column keys own tree)
