-- Rows of VALUES are as large as they are written, but for the factor, and as many.
use Rattle.std.proofs.Common.{◌≡◌, ◌≤◌, ℕ, ◌+◌, ◌*◌, true, List, [], ◌∷◌, ◌++◌, length, map, Ok, refl, subst, arith, length-append, codes}
use Rattle.std.proofs.lemmas.List.{length-map}
use Rattle.std.specs.List.{list_all}
use Rattle.sql_tree.specs.Sizes.{size_of, size_of_row, total}
use Rattle.sql_tree.specs.declared.expr.Expr.{Expr}
use Rattle.sql_words.specs.Refusals.{◌>>=◌}
use Rattle.bound_tree.specs.declared.units.BoundPart.TheVariants as bound_part
use Rattle.sql_bound.specs.Compounds.{row_bound, rows_behind, trees_in, values_bound, values_given, width_fits}
use Rattle.sql_bound.specs.Limits.{room_behind}
use Rattle.sql_bound.specs.Scopes.{Scope}
use Rattle.sql_bound.specs.Trees.{of_expr}
use Rattle.sql_bound.specs.declared.scopes.Operand.{Operand}
use Rattle.sql_bound.specs.declared.scopes.Work.{Work}
use Rattle.bound_size.specs.Brought.{AllBringNodes, own_of}
use Rattle.bound_size.specs.Plain.{is_plain, is_plain_row}
use Rattle.bound_size.specs.Counts.{row_size, rows_size}
use Rattle.bound_size.specs.Sizes.{all_nodes, nodes_of}
use Rattle.bound_size.specs.Small.{AreFewRows}
use Rattle.bound_size.proofs.BoundLaws.{both_hold, bound_by, same_answer}
use Rattle.bound_size.proofs.SizeLaws.{tree_nodes}

abbrev Row : Type 0
Row = List Operand × Work

abbrev Rows : Type 0
Rows = List (List Operand) × Work

trees-append : (row : List Operand) (a : Operand) → all_nodes (trees_in (row ++ a ∷ [])) ≡ all_nodes (trees_in row) + nodes_of a.tree
trees-append [] a = omega arith
trees-append (b ∷ row) a = omega (arith, trees-append row a)

rows-append : (rows : List (List Operand)) (row : List Operand) → rows_size (map trees_in (rows ++ row ∷ [])) ≡ rows_size (map trees_in rows) + row_size (trees_in row)
rows-append [] row = omega arith
rows-append (r ∷ rows) row = omega (arith, rows-append rows row)

module _ (s : Scope) (bare : s.aliases ≡ []) (own : AllBringNodes (own_of s.outer.levels)) where
  row_grown : (xs : List Expr) (before after : Row) → list_all is_plain xs ≡ true → row_bound s (map of_expr xs) before ≡ Ok after → all_nodes (trees_in after.0) ≤ all_nodes (trees_in before.0) + 2 * total (map size_of xs)
  row_grown [] before after plain h = subst (λ (x : Row). all_nodes (trees_in x.0) ≤ all_nodes (trees_in before.0) + 2 * 0) (same_answer before after h) (omega arith)
  row_grown (x ∷ xs) before after plain h =
      let both = both_hold (is_plain x) (list_all is_plain xs) plain in
      let room = bound_by (room_behind before.0) (λ u. (of_expr x).bound s before.1 >>= λ a. row_bound s (map of_expr xs) (before.0 ++ a.0 ∷ [], a.1)) after h in
      let a = bound_by ((of_expr x).bound s before.1) (λ a. row_bound s (map of_expr xs) (before.0 ++ a.0 ∷ [], a.1)) after room.2 in
      omega (arith, tree_nodes x s before.1 a.0 both.0 bare own a.1, trees-append before.0 a.0.0, row_grown xs (before.0 ++ a.0.0 ∷ [], a.0.1) after both.1 a.2)

  row_sized : (xs : List Expr) (w : Work) (row : Row) → is_plain_row xs ≡ true → row_bound s (map of_expr xs) ([], w) ≡ Ok row → row_size (trees_in row.0) ≤ 2 * size_of_row xs
  row_sized xs w row plain h = omega (arith, row_grown xs ([], w) row plain h)

  record Grown (size many : ℕ) (before after : Rows) : Type 0 where
    nodes : rows_size (map trees_in after.0) ≤ rows_size (map trees_in before.0) + 2 * size
    count : length after.0 ≡ length before.0 + many

  rows_grown : (width : ℕ) (rows : List (List Expr)) (before after : Rows) → list_all is_plain_row rows ≡ true → rows_behind s width (map (map of_expr) rows) before ≡ Ok after
      → Grown (total (map size_of_row rows)) (length rows) before after
  rows_grown width [] before after plain h = subst (λ x. Grown 0 0 before x) (same_answer before after h) (record { nodes = omega arith; count = omega arith })
  rows_grown width (row ∷ rows) before after plain h =
      let both = both_hold (is_plain_row row) (list_all is_plain_row rows) plain in
      let r = bound_by (row_bound s (map of_expr row) ([], before.1)) (λ r. width_fits (codes "VALUES") width (length r.0) >>= λ u. rows_behind s width (map (map of_expr) rows) (before.0 ++ r.0 ∷ [], r.1)) after h in
      let u = bound_by (width_fits (codes "VALUES") width (length r.0.0)) (λ u. rows_behind s width (map (map of_expr) rows) (before.0 ++ r.0.0 ∷ [], r.0.1)) after r.2 in
      let one = row_sized row before.1 r.0 both.0 r.1 in
      let rest = rows_grown width rows (before.0 ++ r.0.0 ∷ [], r.0.1) after both.1 u.2 in
      record { nodes = omega (arith, one, rest.nodes, rows-append before.0 r.0.0); count = omega (arith, rest.count, length-append before.0 (r.0.0 ∷ [])) }

  rows_many : (rows : List (List Expr)) → length rows ≤ total (map size_of_row rows)
  rows_many [] = omega arith
  rows_many (row ∷ rows) = omega (arith, rows_many rows)

  pub values_few : (rows : List (List Expr)) (w : Work) (r : Rows) → list_all is_plain_row rows ≡ true → values_bound s (map (map of_expr) rows) w ≡ Ok r → AreFewRows (total (map size_of_row rows)) (map trees_in r.0)
  values_few [] w r plain h = subst (λ (x : Rows). AreFewRows 0 (map trees_in x.0)) (same_answer ([], w) r h) (record { nodes = omega arith; count = omega arith })
  values_few (row ∷ rows) w r plain h =
      let both = both_hold (is_plain_row row) (list_all is_plain_row rows) plain in
      let first = bound_by (row_bound s (map of_expr row) ([], w)) (λ first. rows_behind s (length first.0) (map (map of_expr) rows) (first.0 ∷ [], first.1)) r h in
      let one = row_sized row w first.0 both.0 first.1 in
      let rest = rows_grown (length first.0.0) rows (first.0.0 ∷ [], first.0.1) r both.1 first.2 in
      record { nodes = omega (arith, one, rest.nodes); count = omega (arith, rest.count, rows_many rows, length-map r.0 trees_in) }

pub given_values : (rows : List (List Operand)) → (values_given rows).part ≡ bound_part.Values (map trees_in rows)
given_values [] = refl
given_values (row ∷ rows) = refl
