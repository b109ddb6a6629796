-- What is ignored, worked out.
use Rattle.std.specs.Prelude.{◌≡◌, ℕ, List, [], ◌∷◌, map, Option, Some, None, codes, refl}
use Rattle.eng_value.specs.declared.authorizing.ActionKind.TheVariants as kind
use Rattle.eng_value.specs.declared.builtin.Builtin.TheVariants as builtin
use Rattle.sql_words.specs.Collations.{by_bytes}
use Rattle.bound_tree.specs.Exprs as e
use Rattle.bound_tree.specs.declared.units.BoundItem.{BoundItem}
use Rattle.bound_tree.specs.declared.units.BoundPart.TheVariants as part
use Rattle.bound_tree.specs.declared.units.BoundSource.TheVariants as source
use Rattle.bound_tree.specs.declared.units.BoundUnit.{BoundUnit}
use Rattle.bound_tree.specs.declared.writes.BoundChange.TheVariants.{Defaulted, Deleted}
use Rattle.bound_tree.specs.declared.writes.BoundStep.TheVariants.{Writes}
use Rattle.bound_tree.specs.declared.writes.BoundTrigger.{BoundTrigger}
use Rattle.bound_actions.specs.Pieces.{action}
use Rattle.bound_actions.specs.Samples.{asking, both, core, item, query_in, read, t_item, trigger, u_item, write, writing}
use Rattle.bound_ignored.specs.Erased.{Marks, erased, marks_of, null}
use Rattle.bound_ignored.specs.Marked.{ignoring, marked}

abbrev ignores : List (Option ℕ) → BoundItem → BoundItem
ignores places i = record i { ignored = places }

-- ---- expressions over two items, of which column 1 and the rowid of the first are ignored
abbrev marks : Marks
marks = marks_of (ignores (None ∷ Some 1 ∷ []) t_item ∷ u_item ∷ [])

what_is_ignored_reads_null : erased marks (both (e.Column 0 1) (e.Rowid 0)) ≡ both null null
what_is_ignored_reads_null = refl

-- another column, what stands in other items, and an item that is not there
other_things_stay : erased marks (both (both (e.Column 0 0) (e.Column 1 1)) (both (e.Rowid 1) (e.Column 2 1))) ≡ both (both (e.Column 0 0) (e.Column 1 1)) (both (e.Rowid 1) (e.Column 2 1))
other_things_stay = refl

-- `max(a, b)`, what is handed over to a query, and CASE
arguments_and_arms : erased marks (e.Choose (record { condition = e.Column 0 1; value = e.Call builtin.Max by_bytes (e.Column 0 0 ∷ e.Column 0 1 ∷ []) } ∷ []) (e.Scalar 0 (e.Rowid 0 ∷ []))) ≡ e.Choose (record { condition = null; value = e.Call builtin.Max by_bytes (e.Column 0 0 ∷ null ∷ []) } ∷ []) (e.Scalar 0 (null ∷ []))
arguments_and_arms = refl

-- column 1 of the second item is its rowid, which is no other's; one that is ignored reads NULL also there
abbrev keyed : BoundItem → BoundItem
keyed i = record i { rowid = Some 1 }

a_column_that_is_the_rowid : erased (marks_of (t_item ∷ keyed u_item ∷ [])) (both (both (e.Column 1 1) (e.Column 1 0)) (both (e.Column 0 1) (e.Rowid 1))) ≡ both (both (e.Rowid 1) (e.Column 1 0)) (both (e.Column 0 1) (e.Rowid 1))
a_column_that_is_the_rowid = refl

a_rowid_is_ignored_by_its_name : erased (marks_of (ignores (Some 1 ∷ []) (keyed t_item) ∷ ignores (None ∷ []) (keyed u_item) ∷ [])) (both (both (e.Column 0 1) (e.Rowid 0)) (both (e.Column 1 1) (e.Rowid 1))) ≡ both (both null (e.Rowid 0)) (both (e.Rowid 1) null)
a_rowid_is_ignored_by_its_name = refl

-- ---- of an item: a table's column and its rowid; what stands in another text, another table's column, and what is no read are nothing to it
a_column_of_a_table : marked (read None (codes "t") (codes "b") ∷ []) None t_item ≡ ignores (Some 1 ∷ []) t_item
a_column_of_a_table = refl

a_rowid : marked (read None (codes "t") (codes "a") ∷ read None (codes "t") (codes "rowid") ∷ []) None t_item ≡ ignores (None ∷ Some 0 ∷ []) t_item
a_rowid = refl

nothing_of_it : marked (read None (codes "u") (codes "a") ∷ read (Some (codes "v")) (codes "t") (codes "a") ∷ action None kind.Update (codes "t") (codes "a") ∷ []) None t_item ≡ t_item
nothing_of_it = refl

-- a query in FROM has no columns of its own
a_query_in_from : marked (read None [] (codes "x") ∷ []) None (item (source.Query 0 []) (codes "x" ∷ [])) ≡ item (source.Query 0 []) (codes "x" ∷ [])
a_query_in_from = refl

-- ---- `SELECT a FROM v, t` where `CREATE VIEW v AS SELECT a FROM t`: within the view alone
abbrev units : BoundItem → BoundItem → List BoundUnit
units of_view own =
    query_in (Some (codes "v")) [] (part.Select (core (e.Column 0 0 ∷ []) (of_view ∷ []) []))
    ∷ query_in None [] (part.Select (core (e.Column 0 0 ∷ []) (item (source.View (codes "v") 0) (codes "a" ∷ []) ∷ own ∷ []) []))
    ∷ []

within_a_view : ignoring (read (Some (codes "v")) (codes "t") (codes "a") ∷ []) (asking (units t_item t_item) 1) ≡ asking (units (ignores (Some 0 ∷ []) t_item) t_item) 1
within_a_view = refl

outside_of_it : ignoring (read None (codes "t") (codes "a") ∷ []) (asking (units t_item t_item) 1) ≡ asking (units t_item (ignores (Some 0 ∷ []) t_item)) 1
outside_of_it = refl

-- ---- `DELETE FROM t` with `CREATE TRIGGER p .. ON t WHEN old.a BEGIN DELETE FROM u WHERE c; END`: OLD and NEW have the columns of t, and the
-- target of the trigger's own write is marked there
abbrev deletes : List (Option ℕ) → List (Option ℕ) → BoundTrigger
deletes places in_body =
    let t = trigger (codes "p") (Some (e.Column 0 0)) (Writes (write (ignores in_body u_item) (Deleted (e.Column 0 0 ∷ [])) []) ∷ []) in
    record t { rows = map (ignores places) t.rows }

in_a_trigger : ignoring (read (Some (codes "p")) (codes "t") (codes "a") ∷ read (Some (codes "p")) (codes "u") (codes "c") ∷ []) (writing [] (deletes [] [] ∷ []) (write t_item (Deleted []) (0 ∷ []))) ≡ writing [] (deletes (Some 0 ∷ []) (Some 0 ∷ []) ∷ []) (write t_item (Deleted []) (0 ∷ []))
in_a_trigger = refl

-- ---- the target of a write
a_target : ignoring (read None (codes "u") (codes "c") ∷ []) (writing [] [] (write u_item Defaulted [])) ≡ writing [] [] (write (ignores (Some 0 ∷ []) u_item) Defaulted [])
a_target = refl
