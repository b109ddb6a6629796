-- What stands for rows of a FROM in a sorter is in order where the rows are.
use Rattle.std.proofs.Common.{◌≡◌, ℕ, zero, suc, add-one, ◌+◌, ◌-◌, ◌≤◌, ◌<◌, Bool, List, [], ◌∷◌, ◌++◌, get_or, length, length-append, map, refl, ap, ◌∙◌, arith}
use Rattle.std.specs.Prelude.{slice_index_or}
use Rattle.std.specs.List.{range_with_len}
use Rattle.std.specs.Ordering.{is_lt, ordering_then}
use Rattle.std.proofs.Math.ListN.{get_or-map}
use Rattle.std.proofs.Math.Seq.{get_or-append_right}
use Rattle.std.proofs.lemmas.List.{get_or_append_left}
use Rattle.std.proofs.lemmas.List.FromFn.{get_or-map-range_with_len, length-map-range_with_len}
use Rattle.eng_index.specs.Keys.{key_cmp, term_value}
use Rattle.eng_value.specs.Arrangements.{Chain, arranged}
use Rattle.eng_value.specs.Collations.{compare}
use Rattle.eng_value.specs.Environments.{column_of, null_row}
use Rattle.eng_value.specs.declared.built.Built.TheVariants as built
use Rattle.eng_value.specs.declared.out.Out.{Out}
use Rattle.eng_value.specs.declared.out.Out.TheVariants.{Bad, Good}
use Rattle.eng_value.specs.declared.value.Value.TheVariants.{Null}
use Rattle.eng_value.proofs.Arranging.{all_each, arranged-agree, arranged-map}
use Rattle.gen_loop.specs.Sorting.{position_term, position_terms, rowids_of, sorted_row}
use Rattle.gen_loop.proofs.Found.{item_row}
use Rattle.plan_tree.specs.Plans.{position, position_cmp, stands_before, value_or_null}
use Rattle.sql_meaning.specs.Products.{FromRow}
use Rattle.vm_code.specs.Machine.{comes_before, compared, good_or_null}

same_value : (o : Out) → good_or_null o ≡ value_or_null o
same_value (Good v) = refl
same_value (Bad causes) = refl

module _ (width : ℕ) where
  abbrev rowids : FromRow → List Out
  rowids row = rowids_of width row.rows

  long-rowids : (row : FromRow) → length (rowids row) ≡ width
  long-rowids row = length-map-range_with_len (λ place. (slice_index_or row.rows place null_row).rowid) 0 width

  pub long-outs : (row : FromRow) → length (rowids row ++ row.causes ∷ []) ≡ width + 1
  long-outs row = omega (arith, length-append (rowids row) (row.causes ∷ []), long-rowids row)

  pub column-rowid : (row : FromRow) (k : ℕ) → k < width → column_of (sorted_row width row) k ≡ (item_row row k).rowid
  column-rowid row k lt =
      get_or_append_left (rowids row) (row.causes ∷ []) (Good Null) k (omega (arith, lt, long-rowids row))
      ∙ get_or-map-range_with_len (λ place. (slice_index_or row.rows place null_row).rowid) 0 width k k (Good Null) lt (omega arith)

  pub column-causes : (row : FromRow) → column_of (sorted_row width row) width ≡ row.causes
  column-causes row =
      let none : width - length (rowids row) ≡ 0 = omega (arith, long-rowids row) in
      get_or-append_right (rowids row) (row.causes ∷ []) width (Good Null) (omega (arith, long-rowids row))
      ∙ ap (λ k. get_or (row.causes ∷ []) k (Good Null)) none

  -- a term reads the position
  term-position : (row : FromRow) (k : ℕ) → k < width → term_value (position_term k) (compared (sorted_row width row)) ≡ position k row
  term-position row k lt =
      get_or-map good_or_null (sorted_row width row).columns k (Good Null)
      ∙ ap good_or_null (column-rowid row k lt)
      ∙ same_value (item_row row k).rowid

  keys-positions : (a b : FromRow) (count k : ℕ) → k + count ≤ width → key_cmp (map position_term (range_with_len k count)) (compared (sorted_row width a)) (compared (sorted_row width b)) ≡ position_cmp k count a b
  keys-positions a b zero k le = refl
  keys-positions a b (suc count) k le =
      let rest = key_cmp (map position_term (range_with_len (k + 1) count)) (compared (sorted_row width a)) (compared (sorted_row width b)) in
      ap (λ v. ordering_then (compare built.Binary v (term_value (position_term k) (compared (sorted_row width b)))) rest) (term-position a k (omega (arith, le)))
      ∙ ap (λ v. ordering_then (compare built.Binary (position k a) v) rest) (term-position b k (omega (arith, le)))
      ∙ ap (ordering_then (compare built.Binary (position k a) (position k b))) (keys-positions a b count (k + 1) (omega (arith, le)) ∙ ap (λ j. position_cmp j count a b) (add-one k))

  before-same : (a b : FromRow) → comes_before (position_terms width) (sorted_row width a) (sorted_row width b) ≡ stands_before width a b
  before-same a b = ap is_lt (keys-positions a b width 0 (omega arith))

  chain_each : (R : FromRow → FromRow → Type 0) → ((a b : FromRow) → R a b) → (rows : List FromRow) → Chain R rows
  chain_each R all [] = tt
  chain_each R all (row ∷ rows) = (all_each (R row) (all row) rows, chain_each R all rows)

  pub arranged-sorted : (rows : List FromRow) → arranged (comes_before (position_terms width)) (map (sorted_row width) rows) ≡ map (sorted_row width) (arranged (stands_before width) rows)
  arranged-sorted rows =
      let by_rows : FromRow → FromRow → Bool = λ a b. comes_before (position_terms width) (sorted_row width a) (sorted_row width b) in
      arranged-map (sorted_row width) (comes_before (position_terms width)) rows
      ∙ ap (map (sorted_row width)) (arranged-agree by_rows (stands_before width) rows (chain_each (λ a b. by_rows b a ≡ stands_before width b a) (λ a b. before-same b a) rows))
