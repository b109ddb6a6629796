-- The rows of a FROM, and which of them conjuncts keep (SELECT, sections 2.1 and 2.2).
use Rattle.std.specs.Prelude.{◌≡◌, ℕ, suc, List, [], ◌∷◌, length, map, pos, refl, replicate, slice_set, Option, Some, None}
use Rattle.std.specs.List.{flat_map}
use Rattle.std.specs.Option.{option_map, option_to_list}
use Rattle.bound_tree.specs.Exprs as e
use Rattle.bound_tree.specs.Exprs.{BoundExpr}
use Rattle.eng_value.specs.Applied.{merged}
use Rattle.eng_value.specs.Environments.{Environment, ItemRow, no_causes, null_row, table_row, with_causes}
use Rattle.eng_value.specs.Truths.{truth_in, truth_of}
use Rattle.eng_value.specs.declared.out.Out.{Out}
use Rattle.eng_value.specs.declared.out.Out.TheVariants.{Bad}
use Rattle.eng_value.specs.declared.truth.Truth.{Truth}
use Rattle.eng_value.specs.declared.truth.Truth.TheVariants as truth
use Rattle.eng_value.specs.declared.value.Value.TheVariants.{Integer}
use Rattle.sql_words.specs.declared.literal.Literal.TheVariants as literal
use Rattle.sql_meaning.specs.declared.bound.Join.{Join}
use Rattle.sql_meaning.specs.declared.bound.Join.TheVariants.{Inner, Left}
use Rattle.sql_meaning.specs.Expression.{value_of}

-- ---- conjuncts

-- the causes so far with those of a conjunct; none where it is false or NULL
abbrev pub after_conjunct : Out → Truth → Option Out
after_conjunct causes truth.True = Some causes
after_conjunct causes truth.False = None
after_conjunct causes truth.Unknown = None
after_conjunct causes (truth.Failed why) = Some (merged (Bad why) causes)

abbrev pub if_some : {A B : Type 0} → Option A → (A → Option B) → Option B
if_some None f = None
if_some (Some a) f = f a

-- no conjunct rejects the row; then with the causes of all of them
abbrev pub sifted : List BoundExpr → Environment → Out → Option Out
sifted [] env causes = Some causes
sifted (c ∷ cs) env causes = if_some (after_conjunct causes (truth_in (truth_of (value_of c env)))) (sifted cs env)

-- ---- rows of a FROM

-- a row for each of its items, leftmost first, and the causes that it carries
pub record FromRow : Type 0 where
  pub rows : List ItemRow
  pub causes : Out

-- an item: its rows, and how it is joined
pub record JoinedItem : Type 0 where
  pub rows : List ItemRow
  pub join : Join

-- no item of so many has a row yet
abbrev pub no_rows : ℕ → FromRow
no_rows width = record { rows = replicate width null_row; causes = no_causes }

-- with this row of the item in a place, and the causes that it carries
abbrev pub with_item : ℕ → FromRow → ItemRow → FromRow
with_item place row r = record { rows = slice_set row.rows place r; causes = with_causes row.causes r.causes }

-- what is seen at a row
abbrev pub in_row : Environment → FromRow → Environment
in_row env row = record env { rows = row.rows }

-- the row unless one of the conjuncts rejects it; it carries the causes of those that are bad
abbrev pub passed : Environment → List BoundExpr → FromRow → List FromRow
passed env conjuncts row =
    option_to_list (option_map (λ causes. record row { causes = causes }) (sifted conjuncts (in_row env row) row.causes))

-- the row stays alone where it has no pair
abbrev pub or_alone : FromRow → List FromRow → List FromRow
or_alone row [] = row ∷ []
or_alone row (pair ∷ pairs) = pair ∷ pairs

-- a row with each of those of the item in a place
abbrev pub joined : Environment → ℕ → List ItemRow → Join → FromRow → List FromRow
joined env place rows Inner row = map (with_item place row) rows
joined env place rows (Left ons) row = or_alone row (flat_map (λ r. passed env ons (with_item place row r)) rows)

-- with each of those of the items from a place on
abbrev pub product_from : Environment → ℕ → List JoinedItem → FromRow → List FromRow
product_from env place [] row = row ∷ []
product_from env place (i ∷ items) row = flat_map (product_from env (suc place) items) (joined env place i.rows i.join row)

-- in nested order, leftmost item outermost
abbrev pub product : Environment → List JoinedItem → List FromRow
product env items = product_from env 0 items (no_rows (length items))

-- ---- examples

abbrev row_of : ℕ → ItemRow
row_of n = table_row (record { rowid = pos n; values = [] })

abbrev all_of : List ItemRow → Join → JoinedItem
all_of rows join = record { rows = rows; join = join }

abbrev with_rows : List ItemRow → FromRow
with_rows rows = record { rows = rows; causes = no_causes }

abbrev never : BoundExpr
never = e.Literal (literal.Value (Integer (pos 0)))

-- the row of an item on the right changes first
in_nested_order : (env : Environment) → product env (all_of (row_of 1 ∷ row_of 2 ∷ []) Inner ∷ all_of (row_of 3 ∷ row_of 4 ∷ []) Inner ∷ [])
    ≡ with_rows (row_of 1 ∷ row_of 3 ∷ []) ∷ with_rows (row_of 1 ∷ row_of 4 ∷ []) ∷ with_rows (row_of 2 ∷ row_of 3 ∷ []) ∷ with_rows (row_of 2 ∷ row_of 4 ∷ []) ∷ []
in_nested_order env = refl

-- without a pair a row is left out, but by a LEFT JOIN
without_a_pair : (env : Environment) → (product env (all_of (row_of 1 ∷ []) Inner ∷ all_of [] Inner ∷ []) ≡ [])
    × (product env (all_of (row_of 1 ∷ []) Inner ∷ all_of [] (Left []) ∷ []) ≡ with_rows (row_of 1 ∷ null_row ∷ []) ∷ [])
    × (product env (all_of (row_of 1 ∷ []) Inner ∷ all_of (row_of 3 ∷ []) (Left (never ∷ [])) ∷ []) ≡ with_rows (row_of 1 ∷ null_row ∷ []) ∷ [])
    × (product env (all_of (row_of 1 ∷ []) Inner ∷ all_of (row_of 3 ∷ []) (Left []) ∷ []) ≡ with_rows (row_of 1 ∷ row_of 3 ∷ []) ∷ [])
unfolding truth_of
without_a_pair env = (refl, refl, refl, refl)
