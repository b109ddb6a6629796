-- The rows that loops give are made of rows of their tables, or of none, so that each is found again by its rowids.
use Rattle.std.proofs.Common.{◌≡◌, ◌≢◌, ℕ, ◌≤◌, ◌<◌, Contains, List, [], ◌∷◌, length, Option, Some, None, sym, ap, ◌∙◌, subst, arith, ⊎_elim}
use Rattle.std.specs.Prelude.{slice_index_or}
use Rattle.std.specs.List.{AllByRecursion}
use Rattle.std.proofs.Math.ListN.{length-set}
use Rattle.std.proofs.lemmas.Bool.{cases_order}
use Rattle.std.proofs.lemmas.List.{get_or-set_other, get_or-set_same}
use Rattle.eng_value.specs.Environments.{Environment, ItemRow, null_row, table_row}
use Rattle.eng_value.specs.StoredRows.{StoredRow}
use Rattle.eng_value.specs.declared.out.Out.{Out}
use Rattle.gen_loop.specs.Stretches.{ArePlaced, Stand}
use Rattle.gen_loop.proofs.Giving.{Keeps, all-gathered}
use Rattle.plan_tree.specs.Plans.{gathered}
use Rattle.plan_tree.specs.declared.access.JoinPlan.{JoinPlan}
use Rattle.plan_tree.specs.declared.access.Loop.{Loop}
use Rattle.sql_meaning.specs.Products.{FromRow, with_item}
use Rattle.vm_code.specs.Machine.{Cursor, Open, World, cursor_at, row_read, rows_of}
use Rattle.vm_code.proofs.Seeks.{IsRowOf}

-- the row of the item in a place
abbrev pub item_row : FromRow → ℕ → ItemRow
item_row row place = slice_index_or row.rows place null_row

-- it is that of a row of a table, or there is none
abbrev pub IsOf : World → ℕ → ItemRow → Type 0
IsOf w t r = (o : Option StoredRow) × (r ≡ row_read o) × IsRowOf w t o

-- ---- rows

-- the items whose cursors are open on a table have rows of it or none, and behind so many places is none
pub record IsFound (w : World) (cursors : List Cursor) (width : ℕ) (row : FromRow) : Type 0 where
  pub long : length row.rows ≡ length cursors
  pub none : (k : ℕ) → width ≤ k → item_row row k ≡ null_row
  pub back : (k t : ℕ) → cursor_at cursors k ≡ Open t None → IsOf w t (item_row row k)

module _ (env : Environment) (cursors : List Cursor) (width : ℕ) (wide : width ≤ length cursors) where
  abbrev Found : FromRow → Type 0
  Found row = IsFound env.world cursors width row

  -- no item has a row
  pub found-none : (row : FromRow) → length row.rows ≡ length cursors → ((k : ℕ) → item_row row k ≡ null_row) → Found row
  found-none row long none = record {
    long = long;
    none = λ k le. none k;
    back = λ k t is. (None, none k, tt);
  }

  -- causes make no difference
  found-causes : (row : FromRow) (causes : Out) → Found row → Found (record row { causes = causes })
  found-causes row causes f = record { long = f.long; none = f.none; back = f.back }

  module _ (place table : ℕ) (inside : place < width) (is_open : cursor_at cursors place ≡ Open table None) where
    -- with a row of its table
    found-with : (row : FromRow) (r : StoredRow) → Contains (rows_of env.world table) r → Found row → Found (with_item place row (table_row r))
    found-with row r is f = record {
      long = length-set row.rows place (table_row r) ∙ f.long;
      none = λ k le. get_or-set_other row.rows place k (table_row r) null_row (λ same. absurd (omega (arith, same, le, inside))) ∙ f.none k le;
      back = λ k t at. ⊎_elim (λ same. here_it k t same at) (λ other. elsewhere k t (⊎_elim (λ lt same. absurd (omega (arith, lt, same))) (λ lt same. absurd (omega (arith, lt, same))) other) at) (cases_order k place);
    }
      where
        here_it : (k t : ℕ) → k ≡ place → cursor_at cursors k ≡ Open t None → IsOf env.world t (item_row (with_item place row (table_row r)) k)
        here_it k t same at =
            let tables : Open table None ≡ Open t None = sym is_open ∙ ap (cursor_at cursors) (sym same) ∙ at in
            let t_is : table ≡ t = cc in
            let now : item_row (with_item place row (table_row r)) k ≡ table_row r = ap (item_row (with_item place row (table_row r))) same ∙ get_or-set_same row.rows place (table_row r) null_row (omega (arith, inside, wide, f.long)) in
            (Some r, now, subst (λ t. Contains (rows_of env.world t) r) t_is is)

        elsewhere : (k t : ℕ) → k ≢ place → cursor_at cursors k ≡ Open t None → IsOf env.world t (item_row (with_item place row (table_row r)) k)
        elsewhere k t ne at =
            subst (IsOf env.world t) (sym (get_or-set_other row.rows place k (table_row r) null_row ne)) (f.back k t at)

  -- each loop keeps it so
  keeps-each : (loops : List Loop) (n : ℕ) → n ≤ width → ArePlaced n loops → Stand loops cursors → AllByRecursion (Keeps env Found found-causes) loops
  keeps-each [] n le placed stand = tt
  keeps-each (l ∷ loops) n le placed stand =
      (found-with l.place l.table (omega (arith, placed.0, le)) stand.0, keeps-each loops n le placed.3 stand.1)

  pub found-gathered : (p : JoinPlan) → ArePlaced width p.loops → Stand p.loops cursors → (row : FromRow) → Found row → AllByRecursion Found (gathered env p row)
  found-gathered p placed stand row f = all-gathered env Found found-causes p (keeps-each p.loops width (omega arith) placed stand) row f
