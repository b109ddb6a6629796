-- The rows of a FROM ascend by the rowids of its items, leftmost first, where tables ascend by rowid.
use Rattle.std.proofs.Common.{◌≡◌, ◌+◌, ◌<◌, ℕ, zero, suc, ℤ, ◌<ℤ◌, List, [], ◌∷◌, length, map, Some, None, true, refl, sym, ap, ◌∙◌, arith, All}
use Rattle.std.specs.Prelude.{cond, int_lt, slice_index_or, slice_set}
use Rattle.std.specs.Cmp.{IsStrictWeakOrder, IsTotalOrder}
use Rattle.std.specs.List.{AllByRecursion, flat_map}
use Rattle.std.specs.Ordering.{int_cmp, is_lt, ordering_then}
use Rattle.std.specs.declared.cmp.Ordering.TheVariants.{Less, Equal, Greater}
use Rattle.std.specs.declared.option.Option.{Option}
use Rattle.std.proofs.lemmas.Cmp.{on_total, then_total, tied_itself}
use Rattle.std.proofs.lemmas.Int.{ints}
use Rattle.std.proofs.lemmas.List.{get_or-set_other, get_or-set_same}
use Rattle.std.proofs.lemmas.List.MinMax.{ranks_by}
use Rattle.bound_tree.specs.Exprs.{BoundExpr}
use Rattle.eng_value.proofs.Arranging.{all_each, chain_more}
use Rattle.eng_value.proofs.CollationLaws.{compare_total}
use Rattle.eng_value.specs.Arrangements.{Ascends, Chain}
use Rattle.eng_value.specs.Collations.{compare}
use Rattle.eng_value.specs.Environments.{Environment, ItemRow, Lists, null_row, table_row}
use Rattle.eng_value.specs.HostMeanings.{no_hosts}
use Rattle.eng_value.specs.StoredRows.{IsAscending, StoredRow}
use Rattle.eng_value.specs.declared.built.Built.TheVariants as built
use Rattle.eng_value.specs.declared.collation.Collation.TheVariants as collation
use Rattle.eng_value.specs.declared.out.Out.{Out}
use Rattle.eng_value.specs.declared.value.Value.{Value}
use Rattle.eng_value.specs.declared.value.Value.TheVariants.{Integer}
use Rattle.plan_tree.proofs.Chains.{chain-flat_map, chain-map}
use Rattle.plan_tree.proofs.Lists.{all-each, all-flat_map-each}
use Rattle.plan_tree.proofs.Nesting.{Wide, nested, next-wide, next_rows}
use Rattle.plan_tree.proofs.Passing.{joined-all, passed-all, row_if}
use Rattle.plan_tree.specs.Assigned.{numbered}
use Rattle.plan_tree.specs.Plans.{joined_table, position, position_cmp, split_join, stands_before, value_or_null}
use Rattle.sql_meaning.specs.Products.{FromRow, in_row, joined, or_alone, passed, sifted, with_item}
use Rattle.sql_meaning.specs.World.{rows_at}
use Rattle.sql_meaning.specs.declared.bound.FromTable.{FromTable}
use Rattle.sql_meaning.specs.declared.bound.Join.{Join}
use Rattle.sql_meaning.specs.declared.bound.Join.TheVariants.{Inner, Left}

-- ---- the order

binary_total : IsTotalOrder (compare built.Binary)
binary_total = compare_total no_hosts (collation.Built built.Binary)

position_total : (place count : ℕ) → IsTotalOrder (position_cmp place count)
position_total place zero = record { antisymm = λ a b. refl; trans = λ a b c p q. absurd (cc); congr = λ a b c p. refl }
position_total place (suc count) =
    then_total (on_total (position place) binary_total) (position_total (suc place) count)

pub stands_before-orders : (width : ℕ) → IsStrictWeakOrder (stands_before width)
stands_before-orders width = ranks_by (position_total 0 width) (λ (row : FromRow). row)

-- ---- the first item whose rowids differ

abbrev row_in : List ItemRow → ℕ → ItemRow
row_in rows place = slice_index_or rows place null_row

-- the rows of all items in front of a place are the same
abbrev Agree : ℕ → List ItemRow → List ItemRow → Type 0
Agree place xs ys = (other : ℕ) → other < place → row_in xs other ≡ row_in ys other

abbrev rowid_in : List ItemRow → ℕ → Value
rowid_in rows place = value_or_null (row_in rows place).rowid

-- they are the same in front of a place, and there the rowid of the first is less
record DifferAt (place : ℕ) (xs ys : List ItemRow) : Type 0 where
  agree : Agree place xs ys
  less : compare built.Binary (rowid_in xs place) (rowid_in ys place) ≡ Less

-- somewhere in front of a place
record Precedes (width : ℕ) (xs ys : List ItemRow) : Type 0 where
  place : ℕ
  within : place < width
  differ : DifferAt place xs ys

less-at : (gap at count place : ℕ) (a b : FromRow) → place ≡ at + gap → gap < count → DifferAt place a.rows b.rows → position_cmp at count a b ≡ Less
less-at gap at zero place a b is within differ = absurd (omega arith)
less-at zero at (suc count) place a b is within differ =
    let here : at ≡ place = omega arith in
    ap (λ p. ordering_then (compare built.Binary (rowid_in a.rows p) (rowid_in b.rows p)) (position_cmp (suc at) count a b)) here
    ∙ ap (λ o. ordering_then o (position_cmp (suc at) count a b)) differ.less
less-at (suc gap) at (suc count) place a b is within differ =
    let same : row_in a.rows at ≡ row_in b.rows at = differ.agree at (omega arith) in
    ap (λ (r : ItemRow). ordering_then (compare built.Binary (value_or_null r.rowid) (rowid_in b.rows at)) (position_cmp (suc at) count a b)) same
    ∙ ap (λ o. ordering_then o (position_cmp (suc at) count a b)) (tied_itself binary_total (rowid_in b.rows at))
    ∙ less-at gap (suc at) count place a b (omega arith) (omega arith) differ

precedes-before : (width : ℕ) (a b : FromRow) → Precedes width a.rows b.rows → stands_before width a b ≡ true
precedes-before width a b is =
    ap is_lt (less-at is.place 0 width is.place a b (omega arith) is.within is.differ)

-- of rows that agree with those in front of the place and there too
differ-further : (place : ℕ) (xs us ys vs : List ItemRow) → Agree (suc place) xs us → Agree (suc place) ys vs → DifferAt place us vs → DifferAt place xs ys
differ-further place xs us ys vs same_x same_y differ = record {
  agree = λ other lt. same_x other (omega arith) ∙ differ.agree other lt ∙ sym (same_y other (omega arith));
  less =
      ap (λ (r : ItemRow). compare built.Binary (value_or_null r.rowid) (rowid_in ys place)) (same_x place (omega arith))
      ∙ ap (λ (r : ItemRow). compare built.Binary (rowid_in us place) (value_or_null r.rowid)) (same_y place (omega arith))
      ∙ differ.less;
}

-- ---- the rows of a table

abbrev Below : StoredRow → StoredRow → Type 0
Below a b = a.rowid <ℤ b.rowid

all-from-places : {X : Type 0} (P : X → Type 0) (xs : List X) → ((i : ℕ) (d : X) → i < length xs → P (slice_index_or xs i d)) → AllByRecursion P xs
all-from-places P [] at = tt
all-from-places P (x ∷ xs) at =
    (at zero x (omega arith), all-from-places P xs (λ i d lt. at (suc i) d (omega arith)))

chain-rows : (rows : List StoredRow) → IsAscending rows → Chain Below rows
chain-rows [] up = tt
chain-rows (r ∷ rows) up =
    (all-from-places (Below r) rows (λ k d lt. up zero (suc k) d (omega arith) (omega arith)), chain-rows rows (λ i j d lt within. up (suc i) (suc j) d (omega arith) (omega arith)))

rows-ascend : (world : Lists) (table : ℕ) → All IsAscending world → IsAscending (rows_at world table)
rows-ascend [] table up = λ i j d lt within. absurd (omega arith)
rows-ascend (rows ∷ world) zero up = up zero rows (omega arith)
rows-ascend (rows ∷ world) (suc table) up = rows-ascend world table (λ k d lt. up (suc k) d (omega arith))

int-less : (a b : ℤ) → a <ℤ b → int_cmp a b ≡ Less
int-less a b lt =
    let is : int_lt a b ≡ true = grind (arith, ints) in
    ap (λ t. cond t Less (cond (int_lt b a) Greater Equal)) is

-- ---- the pairs of an item

module _ (env : Environment) where
  chain-passed : (R : FromRow → FromRow → Type 0) (cs : List BoundExpr) (row : FromRow) → Chain R (passed env cs row)
  chain-passed R cs row = by (sifted cs (in_row env row) row.causes)
    where
      by : (causes : Option Out) → Chain R (row_if row causes)
      by None = tt
      by (Some c) = (tt, tt)

  -- what holds of two rows holds of what passes of them
  passed-both : (R : List ItemRow → List ItemRow → Type 0) (cs : List BoundExpr) (a b : FromRow) → R a.rows b.rows → AllByRecursion (λ (x : FromRow). AllByRecursion (λ (y : FromRow). R x.rows y.rows) (passed env cs b)) (passed env cs a)
  passed-both R cs a b holds =
      passed-all (λ xs. AllByRecursion (λ (y : FromRow). R xs y.rows) (passed env cs b)) env cs a (passed-all (R a.rows) env cs b holds)

  module _ (place : ℕ) (row : FromRow) (wide : place < length row.rows) where
    abbrev with_row : ItemRow → List ItemRow
    with_row r = slice_set row.rows place r

    set-differ : (a b : StoredRow) → Below a b → DifferAt place (with_row (table_row a)) (with_row (table_row b))
    set-differ a b below = record {
      agree = λ other lt.
          get_or-set_other row.rows place other (table_row a) null_row (omega arith)
          ∙ sym (get_or-set_other row.rows place other (table_row b) null_row (omega arith));
      less =
          ap (λ (r : ItemRow). compare built.Binary (value_or_null r.rowid) (rowid_in (with_row (table_row b)) place)) (get_or-set_same row.rows place (table_row a) null_row wide)
          ∙ ap (λ (r : ItemRow). compare built.Binary (Integer a.rowid) (value_or_null r.rowid)) (get_or-set_same row.rows place (table_row b) null_row wide)
          ∙ int-less a.rowid b.rowid below;
    }

    abbrev Differs : FromRow → FromRow → Type 0
    Differs a b = DifferAt place a.rows b.rows

    abbrev RowsDiffer : ItemRow → ItemRow → Type 0
    RowsDiffer a b = DifferAt place (with_row a) (with_row b)

    alone-differ : (pairs : List FromRow) → Chain Differs pairs → Chain Differs (or_alone row pairs)
    alone-differ [] chain = (tt, tt)
    alone-differ (pair ∷ pairs) chain = chain

    joined-differ : (join : Join) (rows : List ItemRow) → Chain RowsDiffer rows → Chain Differs (joined env place rows join row)
    joined-differ Inner rows chain = chain-map Differs RowsDiffer (with_item place row) (λ a b differ. differ) rows chain
    joined-differ (Left ons) rows chain =
        alone-differ (flat_map (λ r. passed env ons (with_item place row r)) rows) (chain-flat_map Differs RowsDiffer (λ r. passed env ons (with_item place row r)) (λ a b differ. passed-both (DifferAt place) ons (with_item place row a) (with_item place row b) differ) rows (all_each (λ r. Chain Differs (passed env ons (with_item place row r))) (λ r. chain-passed Differs ons (with_item place row r)) rows) chain)

    next-differ : All IsAscending env.world → (f : FromTable) → Chain Differs (next_rows env (place, f) row)
    next-differ up f =
        joined-differ (split_join f.join) (map table_row (rows_at env.world f.table)) (chain-map RowsDiffer Below table_row set-differ (rows_at env.world f.table) (chain-rows (rows_at env.world f.table) (rows-ascend env.world f.table up)))

  -- ---- the rows of all items

  -- the items in front of a place keep their rows
  nested-agree : (place : ℕ) (from : List FromTable) (row : FromRow) → AllByRecursion (λ (r : FromRow). Agree place r.rows row.rows) (nested env (numbered place from) row)
  nested-agree place [] row = ((λ other lt. refl), tt)
  nested-agree place (f ∷ from) row =
      all-flat_map-each (λ (pair : FromRow). Agree place pair.rows row.rows) (λ (r : FromRow). Agree place r.rows row.rows) (nested env (numbered (suc place) from)) (next_rows env (place, f) row) (λ pair same. all-each (λ (r : FromRow). Agree (suc place) r.rows pair.rows) (λ (r : FromRow). Agree place r.rows row.rows) (nested env (numbered (suc place) from) pair) (λ r own other lt. own other (omega arith) ∙ same other lt) (nested-agree (suc place) from pair)) (joined-all (λ rows. Agree place rows row.rows) env place (joined_table env f).rows (joined_table env f).join row (λ other lt. refl) (λ r other lt. get_or-set_other row.rows place other r null_row (omega arith)))

  abbrev Ordered : ℕ → List FromRow → Type 0
  Ordered width rows = Chain (λ (a b : FromRow). Precedes width a.rows b.rows) rows

  nested-ordered : All IsAscending env.world → (width place : ℕ) (from : List FromTable) (row : FromRow) → place + length from ≡ width → Wide width row.rows → Ordered width (nested env (numbered place from) row)
  nested-ordered up width place [] row is wide = (tt, tt)
  nested-ordered up width place (f ∷ from) row is wide =
      chain-flat_map (λ (a b : FromRow). Precedes width a.rows b.rows) (λ (a b : FromRow). DifferAt place a.rows b.rows) rest between (next_rows env (place, f) row) (all-each (λ (pair : FromRow). Wide width pair.rows) (λ pair. Ordered width (rest pair)) (next_rows env (place, f) row) (λ pair own. nested-ordered up width (suc place) from pair (omega arith) own) (next-wide env width (place, f) row wide)) (next-differ place row (omega arith) up f)
    where
      rest : FromRow → List FromRow
      rest pair = nested env (numbered (suc place) from) pair

      between : (a b : FromRow) → DifferAt place a.rows b.rows → AllByRecursion (λ (x : FromRow). AllByRecursion (λ (y : FromRow). Precedes width x.rows y.rows) (rest b)) (rest a)
      between a b differ =
          all-each (λ (x : FromRow). Agree (suc place) x.rows a.rows) (λ (x : FromRow). AllByRecursion (λ (y : FromRow). Precedes width x.rows y.rows) (rest b)) (rest a) (λ x same_x. all-each (λ (y : FromRow). Agree (suc place) y.rows b.rows) (λ (y : FromRow). Precedes width x.rows y.rows) (rest b) (λ y same_y. record { place = place; within = omega arith; differ = differ-further place x.rows a.rows y.rows b.rows same_x same_y differ }) (nested-agree (suc place) from b)) (nested-agree (suc place) from a)

  -- and of those that conjuncts keep
  kept-ordered : (width : ℕ) (cs : List BoundExpr) (rows : List FromRow) → Ordered width rows → Ordered width (flat_map (passed env cs) rows)
  kept-ordered width cs rows chain =
      chain-flat_map (λ (a b : FromRow). Precedes width a.rows b.rows) (λ (a b : FromRow). Precedes width a.rows b.rows) (passed env cs) (passed-both (Precedes width) cs) rows (all_each (λ (row : FromRow). Ordered width (passed env cs row)) (λ row. chain-passed (λ (a b : FromRow). Precedes width a.rows b.rows) cs row) rows) chain

  pub kept-ascend : All IsAscending env.world → (width : ℕ) (from : List FromTable) (cs : List BoundExpr) (row : FromRow) → length from ≡ width → Wide width row.rows → Ascends (stands_before width) (flat_map (passed env cs) (nested env (numbered 0 from) row))
  kept-ascend up width from cs row is wide =
      let rows : List FromRow = nested env (numbered 0 from) row in
      chain_more (λ (a b : FromRow). Precedes width a.rows b.rows) (λ a b. stands_before width a b ≡ true) (precedes-before width) (flat_map (passed env cs) rows) (kept-ordered width cs rows (nested-ordered up width 0 from row (omega arith) wide))
