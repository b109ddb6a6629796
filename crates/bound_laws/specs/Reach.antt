-- Whether what a bound expression names is there.
use Rattle.std.specs.Prelude.{◌≡◌, ◌<◌, ℕ, zero, suc, List, [], ◌∷◌, length, Option, Some, None}
use Rattle.std.specs.Bool.{⊤}
use Rattle.std.specs.List.{AllByRecursion}
use Rattle.bound_tree.specs.Exprs as e
use Rattle.bound_tree.specs.Exprs.{AMatch, AnArm, AnExpr, BoundArms, BoundExpr, BoundExprs, BoundMatches, NoArms, NoExprs, NoMatches}
use Rattle.bound_tree.specs.declared.units.BoundColumn.{BoundColumn}
use Rattle.bound_tree.specs.declared.units.BoundUnit.TheVariants.{Queried, Recursed}
use Rattle.bound_tree.specs.declared.units.BoundUnit.{BoundUnit}

-- what stands around an expression: the units that may be named, how many arguments its own unit takes, and how many aggregates its own SELECT has
pub record Reach : Type 0 where
  pub units : List BoundUnit
  pub arguments : ℕ
  pub aggregates : ℕ

-- ---- units

abbrev pub arguments_of : BoundUnit → ℕ
arguments_of (Queried q) = q.arguments
arguments_of (Recursed r) = r.arguments

abbrev pub columns_of : BoundUnit → List BoundColumn
columns_of (Queried q) = q.columns
columns_of (Recursed r) = r.columns

-- there is a unit of this number, which takes so many arguments and gives so many columns
abbrev pub Serves : List BoundUnit → ℕ → ℕ → ℕ → Type 0
Serves [] unit given width = ⊥
Serves (u ∷ units) zero given width = (arguments_of u ≡ given) × (length (columns_of u) ≡ width)
Serves (u ∷ units) (suc unit) given width = Serves units unit given width

-- the same, however many columns it gives
abbrev pub Takes : List BoundUnit → ℕ → ℕ → Type 0
Takes units unit given = (width : ℕ) × Serves units unit given width

-- ---- columns: a FROM is told by how many columns each of its items has, from left to right

-- there is an item in this place, and a column in that one
abbrev pub HasColumn : List ℕ → ℕ → ℕ → Type 0
HasColumn [] item place = ⊥
HasColumn (width ∷ widths) zero place = place < width
HasColumn (width ∷ widths) (suc item) place = HasColumn widths item place

abbrev pub HasItem : List ℕ → ℕ → Type 0
HasItem [] item = ⊥
HasItem (width ∷ widths) zero = ⊤
HasItem (width ∷ widths) (suc item) = HasItem widths item

-- ---- expressions

abbrev pub count_of : BoundExprs → ℕ
count_of NoExprs = 0
count_of (AnExpr a rest) = suc (count_of rest)

abbrev mutual
  -- it names columns of the FROM alone that is told, and arguments, aggregates and units that there are; a unit is handed what it takes, and gives one column where a value is asked of it
  pub IsWithin : Reach → List ℕ → BoundExpr → Type 0
  IsWithin r from (e.Literal l) = ⊤
  IsWithin r from (e.Parameter number) = ⊤
  IsWithin r from (e.Column item place) = HasColumn from item place
  IsWithin r from (e.Rowid item) = HasItem from item
  IsWithin r from (e.Argument place) = place < r.arguments
  IsWithin r from (e.Aggregate slot) = slot < r.aggregates
  IsWithin r from (e.Unary o a) = IsWithin r from a
  IsWithin r from (e.Binary o a b) = IsWithin r from a × IsWithin r from b
  IsWithin r from (e.LikeEscaped a b c) = IsWithin r from a × IsWithin r from b × IsWithin r from c
  IsWithin r from (e.Between above below a low high) = IsWithin r from a × IsWithin r from low × IsWithin r from high
  IsWithin r from (e.InList sides a others) = IsWithin r from a × AreWithin r from others
  IsWithin r from (e.ChooseArm arms last) = ArmsAreWithin r from arms × IsWithin r from last
  IsWithin r from (e.MatchArm a arms last) = IsWithin r from a × MatchesAreWithin r from arms × IsWithin r from last
  IsWithin r from (e.Iif a b c) = IsWithin r from a × IsWithin r from b × IsWithin r from c
  IsWithin r from (e.CoalesceList f args) = AreWithin r from args
  IsWithin r from (e.CallBuiltin f collation args) = AreWithin r from args
  IsWithin r from (e.CallHost name args) = AreWithin r from args
  IsWithin r from (e.ScalarOf unit handed) = Serves r.units unit (count_of handed) 1 × AreWithin r from handed
  IsWithin r from (e.ExistsIn unit handed) = Takes r.units unit (count_of handed) × AreWithin r from handed
  IsWithin r from (e.InUnit sides a unit handed) = IsWithin r from a × Serves r.units unit (count_of handed) 1 × AreWithin r from handed
  IsWithin r from e.RaiseIgnore = ⊤
  IsWithin r from (e.RaiseAbort text) = ⊤

  pub AreWithin : Reach → List ℕ → BoundExprs → Type 0
  AreWithin r from NoExprs = ⊤
  AreWithin r from (AnExpr a rest) = IsWithin r from a × AreWithin r from rest

  pub ArmsAreWithin : Reach → List ℕ → BoundArms → Type 0
  ArmsAreWithin r from NoArms = ⊤
  ArmsAreWithin r from (AnArm a b rest) = IsWithin r from a × IsWithin r from b × ArmsAreWithin r from rest

  pub MatchesAreWithin : Reach → List ℕ → BoundMatches → Type 0
  MatchesAreWithin r from NoMatches = ⊤
  MatchesAreWithin r from (AMatch sides a b rest) = IsWithin r from a × IsWithin r from b × MatchesAreWithin r from rest

-- ---- lists and options of them

abbrev pub EachIsWithin : Reach → List ℕ → List BoundExpr → Type 0
EachIsWithin r from trees = AllByRecursion (IsWithin r from) trees

abbrev pub IsWithinIfThere : Reach → List ℕ → Option BoundExpr → Type 0
IsWithinIfThere r from None = ⊤
IsWithinIfThere r from (Some a) = IsWithin r from a
