-- What runs is small beside its tree.
use Rattle.std.proofs.Common.{◌≡◌, ℕ, suc, ◌+◌, ◌*◌, ◌≤◌, List, [], ◌∷◌, length, map, Option, Some, None, Result, Ok, Err, slice_get, refl, ap, subst, arith}
use Rattle.eng_value.specs.declared.cause.Cause.{Cause}
use Rattle.eng_value.specs.declared.cause.Cause.TheVariants as cause
use Rattle.sql_tree.specs.Layers.{PartLayer, SelectLayer, of_part, of_query, of_select}
use Rattle.sql_tree.specs.Sizes.{part_size, select_size, size_of_filter, size_of_from, size_of_query, size_of_result, size_of_row, total}
use Rattle.sql_tree.specs.declared.expr.Expr.TheOpen.{QueryPart-F}
use Rattle.sql_tree.specs.declared.query.Query.{Query as Tree}
use Rattle.bound_tree.specs.Exprs.{BoundExpr}
use Rattle.bound_tree.specs.declared.units.BoundCore.{BoundCore}
use Rattle.bound_tree.specs.declared.units.BoundItem.{BoundItem}
use Rattle.bound_tree.specs.declared.units.BoundPart.{BoundPart}
use Rattle.bound_tree.specs.declared.units.BoundPart.TheVariants as part
use Rattle.bound_tree.specs.declared.units.BoundQuery.{BoundQuery}
use Rattle.bound_tree.specs.declared.units.BoundUnit.{BoundUnit}
use Rattle.bound_tree.specs.declared.units.BoundUnit.TheVariants as unit
use Rattle.bound_tree.specs.declared.writes.BoundChange.TheVariants as change
use Rattle.bound_tree.specs.declared.writes.BoundTarget.{BoundTarget}
use Rattle.bound_size.specs.Counts.{rows_size}
use Rattle.bound_size.specs.Small as small
use Rattle.bound_size.specs.Small.{IsSmallCore, IsSmallPart, MakesSmall}
use Rattle.sql_meaning.specs.declared.bound.RowidFrom.{RowidFrom}
use Rattle.sql_meaning.specs.declared.column.TableEntry.{TableEntry}
use Rattle.sql_meaning.specs.Running.{columns_put, first_part, from_of, is_plain_core, is_plain_query, item_of_table, keys_of, part_of, put_at, put_into, query_of, rowid_from, rows_of_part, select_of, table_of_source}
use Rattle.sql_meaning.specs.Runnables.{FromItem, Put, Queries, Runnable, Shows}
use Rattle.sql_meaning.proofs.ValidLaws.{if_built-ok, same-ok, then-ok}
use Rattle.sql_words.specs.Refusals.{◌>>=◌}
use Rattle.bind_stmt.specs.Small.{AreFew, IsSmall, IsSmallQuery, columns_in, from_size}
use Rattle.bind_stmt.proofs.Steps.{put_from, query_over}

-- ---- queries

first-is : (u : BoundQuery) (p : BoundPart) → first_part (Some (unit.Queried u)) ≡ Ok p → u.first ≡ p
first-is u p e = same-ok u.first p (if_built-ok (is_plain_query u) (Ok u.first) p e).1

-- as many columns as the items that are bound
record Widths (items : List BoundItem) (from : List FromItem) : Type 0 where
  columns : columns_in from ≡ small.columns_in items
  count : length from ≡ length items
  size : from_size from ≡ small.from_size items

widths : (tables : List TableEntry) (items : List BoundItem) (from : List FromItem) → from_of tables items ≡ Ok from → Widths items from
widths tables [] from e = subst (Widths []) (same-ok [] from e) (record { columns = refl; count = refl; size = refl })
widths tables (i ∷ items) from e =
    let behind : TableEntry → List FromItem → Result (List FromItem) Cause = λ t others. Ok (item_of_table i t ∷ others) in
    let t = then-ok (table_of_source tables i.source) (λ t. from_of tables items >>= behind t) from e in
    let others = then-ok (from_of tables items) (behind t.0) from t.2 in
    let rest = widths tables items others.0 others.1 in
    subst (Widths (i ∷ items)) (same-ok (item_of_table i t.0 ∷ others.0) from others.2) (record { columns = ap (λ n. length i.columns + n) rest.columns; count = ap suc rest.count; size = ap (λ n. 1 + suc n) rest.count })

query-few : (size : ℕ) (s : SelectLayer) (c : BoundCore) (from : List FromItem) → select_size s ≤ size → IsSmallCore s c → Widths c.items from → IsSmallQuery size (query_over c from)
query-few size s c from le core wide =
    let most : 1 + total (map size_of_result s.results) + size_of_from s.from + size_of_filter s.filter ≤ size = le in
    record {
      filter = size_of_filter s.filter;
      shown = total (map size_of_result s.results);
      stars = core.results.stars;
      within = omega (arith, most, core.items, wide.size);
      hundred = core.results.hundred;
      of_table = omega (arith, core.results.of_columns, wide.columns);
      results = core.results.nodes;
    }

select-small : (size : ℕ) (tables : List TableEntry) (s : SelectLayer) (c : BoundCore) (x : Runnable) → select_size s ≤ size → IsSmallCore s c → select_of tables c ≡ Ok x → IsSmall size x
select-small size tables s c x le core e =
    let shown : List FromItem → Result Runnable Cause = λ from. Ok (Queries (query_over c from)) in
    let from = then-ok (from_of tables c.items) shown x (if_built-ok (is_plain_core c) (from_of tables c.items >>= shown) x e).1 in
    subst (IsSmall size) (same-ok (Queries (query_over c from.0)) x from.2) (query-few size s c from.0 le core (widths tables c.items from.0 from.1))

part-small : (size : ℕ) (tables : List TableEntry) (p : PartLayer) (made : BoundPart) (x : Runnable) → part_size p ≤ size → IsSmallPart p made → part_of tables made ≡ Ok x → IsSmall size x
part-small size tables (QueryPart-F.Select s) (part.Select c) x le few e = select-small size tables (of_select s) c x le few e
part-small size tables (QueryPart-F.Values rows) (part.Values made) x le few e =
    let most : total (map size_of_row rows) ≤ size = le in
    let small : rows_size made ≤ 2 * size = omega (arith, most, few.nodes) in
    subst (IsSmall size) (same-ok (Shows made) x e) small
part-small size tables (QueryPart-F.Select s) (part.Values made) x le few e = absurd few
part-small size tables (QueryPart-F.Values rows) (part.Select c) x le few e = absurd few

pub query-small : (size : ℕ) (tables : List TableEntry) (q : Tree) (units : List BoundUnit) (place : ℕ) (x : Runnable) → size_of_query q ≤ size → MakesSmall q place units → query_of tables units place ≡ Ok x → IsSmall size x
query-small size tables q units place x le m e =
    let one = then-ok (first_part (slice_get units place)) (part_of tables) x e in
    let first : m.unit.first ≡ one.0 = first-is m.unit one.0 (subst (λ u. first_part u ≡ Ok one.0) m.placed one.1) in
    part-small size tables (of_part (of_query q).first) one.0 x le (subst (IsSmallPart (of_part (of_query q).first)) first m.small) one.2

-- ---- INSERT

rows-small : (size : ℕ) (p : PartLayer) (made : BoundPart) (rows : List (List BoundExpr)) → 2 + part_size p ≤ size → IsSmallPart p made → rows_of_part made ≡ Ok rows → AreFew size rows
rows-small size (QueryPart-F.Values written) (part.Values made) rows le few e =
    let most : 2 + total (map size_of_row written) ≤ size = le in
    subst (AreFew size) (same-ok made rows e) (record { nodes = omega (arith, most, few.nodes); count = omega (arith, most, few.count) })
rows-small size (QueryPart-F.Select s) (part.Select c) rows le few e = absurd (let bad : Err cause.NotYet ≡ Ok rows = e in cc)
rows-small size (QueryPart-F.Select s) (part.Values made) rows le few e = absurd few
rows-small size (QueryPart-F.Values written) (part.Select c) rows le few e = absurd few

-- what is put are these rows
rows-put : (t : TableEntry) (target : BoundTarget) (places : List (Option ℕ)) (given : Option ℕ) (rows : List (List BoundExpr)) (p : Put) → put_at t target places given rows ≡ Ok p → rows ≡ p.insert.rows
rows-put t target places given rows p e =
    let columns = columns_put t.columns places target.defaults target.not_nulls in
    let put : RowidFrom → Put = put_from t columns target.checks (keys_of t.rowid target.item.indexes) rows in
    let from = then-ok (rowid_from columns t.rowid given) (λ f. Ok (put f)) p e in
    ap (λ (y : Put). y.insert.rows) (same-ok (put from.0) p from.2)

-- an INSERT of rows, by its change
pub inserted-small : (size : ℕ) (t : TableEntry) (target : BoundTarget) (q : Tree) (units : List BoundUnit) (columns : List (Option ℕ)) (rowid : Option ℕ) (source : ℕ) (args : List BoundExpr) (p : Put) → 2 + size_of_query q ≤ size → MakesSmall q source units
    → put_into t target units (change.Inserted columns rowid source args) ≡ Ok p → AreFew size p.insert.rows
inserted-small size t target q units columns rowid source args p le m e =
    let all = then-ok (first_part (slice_get units source) >>= rows_of_part) (λ rows. put_at t target columns rowid rows) p e in
    let one = then-ok (first_part (slice_get units source)) rows_of_part all.0 all.1 in
    let first : m.unit.first ≡ one.0 = first-is m.unit one.0 (subst (λ u. first_part u ≡ Ok one.0) m.placed one.1) in
    let few = rows-small size (of_part (of_query q).first) one.0 all.0 le (subst (IsSmallPart (of_part (of_query q).first)) first m.small) one.2 in
    subst (AreFew size) (rows-put t target columns rowid all.0 p all.2) few

pub defaulted-small : (size : ℕ) (t : TableEntry) (target : BoundTarget) (units : List BoundUnit) (p : Put) → 2 ≤ size → put_into t target units change.Defaulted ≡ Ok p → AreFew size p.insert.rows
defaulted-small size t target units p le e =
    subst (AreFew size) (rows-put t target [] None ([] ∷ []) p e) (record { nodes = omega (arith, le); count = omega (arith, le) })
