-- How large what runs is.
use Rattle.std.specs.Prelude.{◌≤◌, ℕ, ◌+◌, ◌*◌, List, [], ◌∷◌, length, map}
use Rattle.sql_tree.specs.Sizes.{total}
use Rattle.bound_tree.specs.Exprs.{BoundExpr}
use Rattle.sql_meaning.specs.Runnables.{Runnable, FromItem, Puts, Queries, Query, Shows}
use Rattle.bound_size.specs.Counts.{rows_size}
use Rattle.bound_size.specs.Sizes.{all_nodes}

-- how many columns the tables of a FROM have
abbrev pub columns_in : List FromItem → ℕ
columns_in items = total (map (λ (i : FromItem). i.width) items)

-- FROM and each item
abbrev pub from_size : List FromItem → ℕ
from_size [] = 0
from_size (i ∷ items) = 1 + length (i ∷ items)

-- what is shown by `*` adds at most a hundred columns, and none of a table that has none; a WHERE may repeat what results show
pub record IsSmallQuery (size : ℕ) (q : Query) : Type 0 where
  pub filter : ℕ
  pub shown : ℕ
  pub stars : ℕ
  pub within : 1 + shown + from_size q.from + filter ≤ size
  pub hundred : stars ≤ 100
  pub of_table : stars ≤ 100 * columns_in q.from
  pub results : all_nodes q.results ≤ 2 * shown + stars

-- rows that are put: not more of them than the tree is large, and with few nodes
pub record AreFew (size : ℕ) (rows : List (List BoundExpr)) : Type 0 where
  pub nodes : 3 + rows_size rows ≤ 2 * size
  pub count : length rows ≤ size

-- beside a tree of this size; what an INSERT takes from its table was written where that was created
abbrev pub IsSmall : ℕ → Runnable → Type 0
IsSmall size (Queries q) = IsSmallQuery size q
IsSmall size (Puts p) = AreFew size p.insert.rows
IsSmall size (Shows rows) = rows_size rows ≤ 2 * size
IsSmall size other = 1 ≤ size
