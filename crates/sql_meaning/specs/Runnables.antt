-- The statements that run, once their names are bound.
use Rattle.std.specs.Prelude.{ℕ, List, Bool, Option}
use Rattle.eng_entry.specs.declared.entry.Entry.{Entry}
use Rattle.eng_index.specs.declared.key_term.KeyTerm.{KeyTerm}
use Rattle.bound_tree.specs.Exprs.{BoundExpr}
use Rattle.sql_tree.specs.declared.statement.Explain.{Explain}
use Rattle.sql_meaning.specs.declared.bound.BoundInsert.{BoundInsert}
use Rattle.sql_meaning.specs.declared.bound.Join.{Join}
use Rattle.sql_meaning.specs.declared.column.TableEntry.{TableEntry}

-- an item of a FROM: its table, how many columns it has, which of them are ignored, so that they read NULL, where that without a place is the rowid, the terms
-- of the keys of its indexes, oldest first, and how it is joined with those on its left
pub record FromItem : Type 0 where
  pub table : TableEntry
  pub width : ℕ
  pub ignored : List (Option ℕ)
  pub indexes : List (List KeyTerm)
  pub join : Join

-- a query: the items of its FROM, leftmost first, the conjuncts of its WHERE and of each ON that is no LEFT JOIN's, and what is shown
pub record Query : Type 0 where
  pub from : List FromItem
  pub conjuncts : List BoundExpr
  pub results : List BoundExpr

-- rows for a table
pub record Put : Type 0 where
  pub table : TableEntry
  pub insert : BoundInsert

-- an index that is created: its entry, its table, the terms of its key, and whether no two rows may share that
pub record NewIndex : Type 0 where
  pub entry : Entry
  pub table : TableEntry
  pub terms : List KeyTerm
  pub unique : Bool

-- a table's entry that is created, a table that is dropped, an index that is created, one that is dropped by its name, rows that are put, a query,
-- rows of values that are shown, nothing at all, or the way in which such a statement would be run, which is shown instead
pub data Runnable : Type 0 where
  Creates : Entry → Runnable
  Drops : TableEntry → Runnable
  Indexes : NewIndex → Runnable
  Unindexes : List ℕ → Runnable
  Puts : Put → Runnable
  Queries : Query → Runnable
  Shows : List (List BoundExpr) → Runnable
  DoesNothing : Runnable
  Explains : Explain → Runnable → Runnable
