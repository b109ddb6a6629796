-- Expressions as they read rows that are stored: NULL stands in place of the columns that are ignored (Compile-Time Authorization Callbacks), and
-- the rowid in place of the column that is it (Rowid Tables).
use Rattle.std.specs.Prelude.{ℕ, nat_eq, Bool, true, false, List, [], map, Option, Some, None, slice_index_or}
use Rattle.std.specs.List.{list_any}
use Rattle.eng_value.specs.declared.value.Value.TheVariants as value
use Rattle.sql_words.specs.declared.literal.Literal.TheVariants as literal
use Rattle.bound_tree.specs.Exprs as e
use Rattle.bound_tree.specs.Exprs.{BoundArm, BoundArms, BoundExpr, BoundExprs, BoundMatch, BoundMatches, NoExprs, AnExpr, NoArms, AnArm, NoMatches, AMatch}
use Rattle.bound_tree.specs.declared.units.BoundItem.{BoundItem}

-- of an item of the own FROM which of its columns are ignored, where that without a place is its rowid, and which column is the rowid, if one is
pub record ItemMarks : Type 0 where
  pub ignored : List (Option ℕ)
  pub rowid : Option ℕ

-- of each item
abbrev pub Marks : Type 0
Marks = List ItemMarks

-- of an item whose columns are all read where they stand
abbrev pub no_marks : ItemMarks
no_marks = record { ignored = []; rowid = None }

-- what these items are marked with
abbrev pub marks_of : List BoundItem → Marks
marks_of items = map (λ (i : BoundItem). record { ignored = i.ignored; rowid = i.rowid }) items

abbrev pub marks_at : Marks → ℕ → ItemMarks
marks_at marks item = slice_index_or marks item no_marks

abbrev pub same_place : Option ℕ → Option ℕ → Bool
same_place None None = true
same_place None (Some q) = false
same_place (Some p) None = false
same_place (Some p) (Some q) = nat_eq p q

abbrev pub is_marked : Marks → ℕ → Option ℕ → Bool
is_marked marks item place = list_any (same_place place) (marks_at marks item).ignored

-- the column is the rowid
abbrev pub is_rowid : Marks → ℕ → ℕ → Bool
is_rowid marks item column = same_place (Some column) (marks_at marks item).rowid

abbrev pub null : BoundExpr
null = e.Literal (literal.Value value.Null)

abbrev pub or_null : Bool → BoundExpr → BoundExpr
or_null true x = null
or_null false x = x

-- a column, or the rowid where it is that
abbrev pub column_or_rowid : Bool → ℕ → ℕ → BoundExpr
column_or_rowid true item column = e.Rowid item
column_or_rowid false item column = e.Column item column

-- ---- expressions

abbrev mutual
  pub erased : Marks → BoundExpr → BoundExpr
  erased m (e.Literal l) = e.Literal l
  erased m (e.Parameter n) = e.Parameter n
  erased m (e.Column item column) = or_null (is_marked m item (Some column)) (column_or_rowid (is_rowid m item column) item column)
  erased m (e.Rowid item) = or_null (is_marked m item None) (e.Rowid item)
  erased m (e.Argument n) = e.Argument n
  erased m (e.Aggregate n) = e.Aggregate n
  erased m (e.Unary o a) = e.Unary o (erased m a)
  erased m (e.Binary o a b) = e.Binary o (erased m a) (erased m b)
  erased m (e.LikeEscaped a b c) = e.LikeEscaped (erased m a) (erased m b) (erased m c)
  erased m (e.Between above below a b c) = e.Between above below (erased m a) (erased m b) (erased m c)
  erased m (e.InList sides a others) = e.InList sides (erased m a) (erased_in m others)
  erased m (e.ChooseArm arms a) = e.ChooseArm (erased_arms m arms) (erased m a)
  erased m (e.MatchArm a arms b) = e.MatchArm (erased m a) (erased_matches m arms) (erased m b)
  erased m (e.Iif a b c) = e.Iif (erased m a) (erased m b) (erased m c)
  erased m (e.CoalesceList f args) = e.CoalesceList f (erased_in m args)
  erased m (e.CallBuiltin f c args) = e.CallBuiltin f c (erased_in m args)
  erased m (e.CallHost name args) = e.CallHost name (erased_in m args)
  erased m (e.ScalarOf unit handed) = e.ScalarOf unit (erased_in m handed)
  erased m (e.ExistsIn unit handed) = e.ExistsIn unit (erased_in m handed)
  erased m (e.InUnit sides a unit handed) = e.InUnit sides (erased m a) unit (erased_in m handed)
  erased m e.RaiseIgnore = e.RaiseIgnore
  erased m (e.RaiseAbort text) = e.RaiseAbort text

  pub erased_in : Marks → BoundExprs → BoundExprs
  erased_in m NoExprs = NoExprs
  erased_in m (AnExpr a rest) = AnExpr (erased m a) (erased_in m rest)

  pub erased_arms : Marks → BoundArms → BoundArms
  erased_arms m NoArms = NoArms
  erased_arms m (AnArm a b rest) = AnArm (erased m a) (erased m b) (erased_arms m rest)

  pub erased_matches : Marks → BoundMatches → BoundMatches
  erased_matches m NoMatches = NoMatches
  erased_matches m (AMatch sides a b rest) = AMatch sides (erased m a) (erased m b) (erased_matches m rest)

-- ---- single arms

abbrev pub erased_arm : Marks → BoundArm → BoundArm
erased_arm m arm = record { condition = erased m arm.condition; value = erased m arm.value }

abbrev pub erased_match : Marks → BoundMatch → BoundMatch
erased_match m arm = record { sides = arm.sides; operand = erased m arm.operand; value = erased m arm.value }
