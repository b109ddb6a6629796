-- The searches among the conjuncts of a WHERE over one table, and how many of its rows they leave to be read (SQLite Query Optimizer Overview, section 2).
use Rattle.std.specs.Prelude.{◌≡◌, ℕ, nat_eq, nat_lt, max, Bool, true, false, ◌&&◌, ◌||◌, if◌then◌else◌, List, [], ◌∷◌, ◌++◌, pos, codes, length, map, fold, refl, Some, None}
use Rattle.std.proofs.Common.{ap}
use Rattle.std.specs.List.{filter, list_any}
use Rattle.bound_ignored.specs.Erased.{Marks, erased, null}
use Rattle.bound_tree.specs.Exprs as e
use Rattle.bound_tree.specs.Exprs.{BoundExpr}
use Rattle.eng_index.specs.declared.key_term.KeyTerm.{KeyTerm}
use Rattle.eng_index.specs.declared.key_term.TermSource.{TermSource}
use Rattle.eng_index.specs.declared.key_term.TermSource.TheVariants as term
use Rattle.eng_value.specs.Applied.{plain}
use Rattle.eng_value.specs.Casts.{beside}
use Rattle.eng_value.specs.Comparisons.{comparison_of}
use Rattle.eng_value.specs.Environments.{Environment, Surroundings, environment, table_row}
use Rattle.eng_value.specs.HostMeanings.{nobody, no_hosts}
use Rattle.eng_value.specs.Outs.{bad}
use Rattle.eng_value.specs.StoredRows.{StoredRow}
use Rattle.eng_value.specs.Truths.{truth_in, truth_of}
use Rattle.eng_value.specs.declared.affinity.Affinity.{Affinity}
use Rattle.eng_value.specs.declared.affinity.Affinity.TheVariants as affinity
use Rattle.eng_value.specs.declared.built.Built.{Built}
use Rattle.eng_value.specs.declared.built.Built.TheVariants as built
use Rattle.eng_value.specs.declared.cause.Cause.TheVariants as cause
use Rattle.eng_value.specs.declared.collation.Collation.{Collation}
use Rattle.eng_value.specs.declared.collation.Collation.TheVariants as collation
use Rattle.eng_value.specs.declared.compare_op.CompareOp.TheVariants as compare
use Rattle.eng_value.specs.declared.limits.TheConstants.{MAX_VALUE_BYTES}
use Rattle.eng_value.specs.declared.operators.BinaryOperator.TheVariants as binary
use Rattle.eng_value.specs.declared.operators.UnaryOperator.TheVariants as unary
use Rattle.eng_value.specs.declared.out.Out.{Out}
use Rattle.eng_value.specs.declared.out.Out.TheVariants.{Good, Bad}
use Rattle.eng_value.specs.declared.truth.Truth.{Truth}
use Rattle.eng_value.specs.declared.truth.Truth.TheVariants as truth
use Rattle.eng_value.specs.declared.value.Value.{Value}
use Rattle.eng_value.specs.declared.value.Value.TheVariants.{Integer, Text}
use Rattle.sql_words.specs.declared.literal.Literal.TheVariants as literal
use Rattle.sql_meaning.specs.Expression.{literal_out, parameter_of, value_of}
use Rattle.sql_meaning.specs.Runnables.{FromItem}

-- which columns of the items of a FROM are ignored, and which is the rowid
abbrev pub marks_in : List FromItem → Marks
marks_in from = map (λ (i : FromItem). record { ignored = i.ignored; rowid = i.table.rowid }) from

-- ---- what a search is: `c = k`, either way round, over rows as they are stored

abbrev pub is_good : Out → Bool
is_good (Good v) = true
is_good (Bad causes) = false

-- k: a literal or a parameter that has a value; a REAL has none, nor has what is too long
abbrev pub is_given : List Value → BoundExpr → Bool
is_given params (e.Literal l) = is_good (literal_out l)
is_given params (e.Parameter n) = is_good (parameter_of params n)
is_given params other = false

abbrev pub same_built : Built → Built → Bool
same_built built.Binary built.Binary = true
same_built built.NoCase built.NoCase = true
same_built built.Rtrim built.Rtrim = true
same_built a b = false

abbrev pub is_collation : Collation → Built → Bool
is_collation (collation.Built b) own = same_built b own
is_collation (collation.Host place) own = false

abbrev pub is_column : ℕ → TermSource → Bool
is_column column term.Rowid = false
is_column column (term.Column own) = nat_eq column own

-- the first column of the key is this one, under the collation
abbrev pub begins_with : Collation → ℕ → List KeyTerm → Bool
begins_with c column [] = false
begins_with c column (t ∷ terms) = is_column column t.source && is_collation c t.collation

-- c: the rowid, or the first column of an index that has the collation of the comparison. What is ignored is neither, since NULL stands in its place
abbrev pub is_key : List (List KeyTerm) → Collation → BoundExpr → Bool
is_key indexes c (e.Rowid item) = nat_eq item 0
is_key indexes c (e.Column item column) = nat_eq item 0 && list_any (begins_with c column) indexes
is_key indexes c other = false

-- what has no affinity, as literals and parameters have none, leaves a column as it is
abbrev pub has_none : Affinity → Bool
has_none affinity.None = true
has_none other = false

abbrev pub is_search : List (List KeyTerm) → List Value → BoundExpr → Bool
is_search indexes params (e.Binary (binary.Compare compare.Eq sides) a b) =
    (is_key indexes sides.collation a && is_given params b && has_none sides.right)
    || (is_key indexes sides.collation b && is_given params a && has_none sides.left)
is_search indexes params other = false

-- ---- the rows that count

-- what an expression sees at a row of a table that stands alone in its FROM
abbrev pub at_row : Surroundings → StoredRow → Environment
at_row x r = environment x [] [] (table_row r ∷ [])

abbrev pub is_met : Truth → Bool
is_met truth.True = true
is_met other = false

abbrev pub meets : Surroundings → BoundExpr → StoredRow → Bool
meets x e r = is_met (truth_in (truth_of (value_of e (at_row x r))))

-- how many rows meet it
abbrev pub rows_met : Surroundings → List StoredRow → BoundExpr → ℕ
rows_met x rows e = length (filter (meets x e) rows)

-- the largest, and where there is none the other
abbrev pub largest_or : ℕ → List ℕ → ℕ
largest_or other [] = other
largest_or other (n ∷ ns) = fold max n ns

-- those that meet a search; of several searches the one that keeps most counts; where none is a search it is all of them
abbrev pub rows_counted : Surroundings → List (List KeyTerm) → List BoundExpr → List StoredRow → ℕ
rows_counted x indexes conjuncts rows = largest_or (length rows) (map (rows_met x rows) (filter (is_search indexes x.params) conjuncts))

-- ---- examples

abbrev key_on : ℕ → Built → List KeyTerm
key_on column b = record { source = term.Column column; collation = b; descending = false } ∷ []

-- `column = k`, or `k = column`, under the collation
abbrev equals : Built → BoundExpr → BoundExpr → BoundExpr
equals b c k = e.Binary (binary.Compare compare.Eq (record { left = affinity.Blob; right = affinity.None; collation = collation.Built b })) c k

abbrev equals_turned : Built → BoundExpr → BoundExpr → BoundExpr
equals_turned b k c = e.Binary (binary.Compare compare.Eq (record { left = affinity.None; right = affinity.Blob; collation = collation.Built b })) k c

abbrev below : BoundExpr → BoundExpr → BoundExpr
below c k = e.Binary (binary.Compare compare.Lt (record { left = affinity.Blob; right = affinity.None; collation = collation.Built built.Binary })) c k

abbrev number : ℕ → BoundExpr
number n = e.Literal (literal.Value (Integer (pos n)))

abbrev an_a : BoundExpr
an_a = e.Literal (literal.Value (Text (codes "a")))

-- the first column and the second have an index each
abbrev two_keys : List (List KeyTerm)
two_keys = key_on 0 built.Binary ∷ key_on 1 built.NoCase ∷ []

-- a column with an index and the rowid are searched, whichever side they stand on; what has no index isn't, nor is REAL a key
an_integer : (is_search two_keys [] (equals built.Binary (e.Column 0 0) (number 5)) ≡ true)
    × (is_search two_keys [] (equals_turned built.Binary (number 5) (e.Column 0 0)) ≡ true)
    × (is_search two_keys [] (equals built.Binary (e.Rowid 0) (number 5)) ≡ true)
    × (is_search two_keys [] (equals built.Binary (e.Column 0 2) (number 5)) ≡ false)
    × (is_search two_keys [] (equals built.Binary (e.Column 0 0) (e.Literal (literal.Bad cause.Real))) ≡ false)
    × (is_search two_keys [] (equals built.Binary (e.Column 0 0) (e.Unary unary.Negative (number 5))) ≡ false)
an_integer = (refl, refl, refl, refl, refl, refl)

-- an index serves the comparisons under its own collation alone
a_text : (is_search two_keys [] (equals built.NoCase (e.Column 0 1) an_a) ≡ true)
    × (is_search two_keys [] (equals built.Binary (e.Column 0 1) an_a) ≡ false)
    × (is_search two_keys [] (equals built.NoCase (e.Column 0 0) an_a) ≡ false)
    × (is_search (key_on 1 built.Binary ∷ two_keys) [] (equals built.Binary (e.Column 0 1) an_a) ≡ true)
a_text = (refl, refl, refl, refl)

-- a column behind the first one of an index is none that is searched
a_later_column : is_search ((key_on 0 built.Binary ++ key_on 1 built.Binary) ∷ []) [] (equals built.Binary (e.Column 0 1) (number 5)) ≡ false
a_later_column = refl

-- a range is no search, nor is `c BETWEEN 5 AND 5`
a_range : (is_search two_keys [] (below (e.Column 0 0) (number 5)) ≡ false)
    × (is_search two_keys [] (e.Between plain plain (e.Column 0 0) (number 5) (number 5)) ≡ false)
a_range = (refl, refl)

-- a parameter is a key, also one that is missing, unless it is too long
a_parameter : (is_search two_keys (Integer (pos 5) ∷ []) (equals built.Binary (e.Column 0 0) (e.Parameter 1)) ≡ true)
    × (is_search two_keys [] (equals built.Binary (e.Column 0 0) (e.Parameter 1)) ≡ true)
    × ((text : List ℕ) → nat_lt MAX_VALUE_BYTES (length text) ≡ true → is_search two_keys (Text text ∷ []) (equals built.Binary (e.Column 0 0) (e.Parameter 1)) ≡ false)
a_parameter = (refl, refl, λ text long. ap (λ too_long. is_good (if too_long then bad cause.TooBig else Good (Text text)) && true || false) long)

-- NULL is a key, but no column: what is ignored is searched by nothing
abbrev second_ignored : Marks
second_ignored = record { ignored = Some 1 ∷ []; rowid = None } ∷ []

a_null : (is_search two_keys [] (equals built.Binary (e.Column 0 0) null) ≡ true)
    × (is_search two_keys [] (equals built.Binary null (number 5)) ≡ false)
    × (is_search two_keys [] (erased second_ignored (equals built.NoCase (e.Column 0 1) an_a)) ≡ false)
    × (is_search two_keys [] (erased second_ignored (equals built.Binary (e.Column 0 0) an_a)) ≡ true)
a_null = (refl, refl, refl, refl)

-- ---- how many rows count, of (1, 'a'), (1, 'A') and (2, 'b')

abbrev three_rows : List StoredRow
three_rows = stored 1 1 (codes "a") ∷ stored 2 1 (codes "A") ∷ stored 3 2 (codes "b") ∷ []
  where
    stored : ℕ → ℕ → List ℕ → StoredRow
    stored rowid n text = record { rowid = pos rowid; values = Integer (pos n) ∷ Text text ∷ [] }

abbrev counted : List BoundExpr → ℕ
counted conjuncts = rows_counted (record { params = []; hosts = no_hosts; world = []; ask = nobody }) two_keys conjuncts three_rows

-- by a search those that meet it, whatever else is asked of them; without one all
the_rows_of_a_search : (counted (equals built.Binary (e.Column 0 0) (number 1) ∷ []) ≡ 2)
    × (counted (below (e.Column 0 0) (number 1) ∷ equals built.Binary (e.Column 0 0) (number 2) ∷ []) ≡ 1)
    × (counted (equals built.Binary (e.Column 0 0) null ∷ []) ≡ 0)
    × (counted (below (e.Column 0 0) (number 2) ∷ []) ≡ 3)
    × (counted [] ≡ 3)
unfolding comparison_of beside truth_of
the_rows_of_a_search = (refl, refl, refl, refl, refl)

-- of two searches that which keeps more
the_larger_of_two : (counted (equals built.Binary (e.Rowid 0) (number 3) ∷ equals built.NoCase (e.Column 0 1) an_a ∷ []) ≡ 2)
    × (counted (equals built.NoCase (e.Column 0 1) an_a ∷ equals built.Binary (e.Rowid 0) (number 3) ∷ []) ≡ 2)
unfolding comparison_of beside truth_of
the_larger_of_two = (refl, refl)
