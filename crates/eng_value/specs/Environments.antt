-- What an expression sees.
use Rattle.std.specs.Prelude.{◌≡◌, ℕ, List, [], ◌∷◌, fold, map, pos, refl, replicate, slice_index_or, slice_set, Option, Some, None}
use Rattle.eng_value.specs.Applied.{merged}
use Rattle.eng_value.specs.Causes.{CauseSet, only}
use Rattle.eng_value.specs.HostMeanings.{HostMeanings, Oracle}
use Rattle.eng_value.specs.StoredRows.{StoredRow}
use Rattle.eng_value.specs.declared.cause.Cause.TheVariants as cause
use Rattle.eng_value.specs.declared.out.Out.{Out}
use Rattle.eng_value.specs.declared.out.Out.TheVariants.{Good, Bad}
use Rattle.eng_value.specs.declared.value.Value.{Value}
use Rattle.eng_value.specs.declared.value.Value.TheVariants.{Null, Integer}

-- ---- the rows of a FROM's items

-- a row: its rowid, its columns, and the causes that it carries
pub record ItemRow : Type 0 where
  pub rowid : Out
  pub columns : List Out
  pub causes : Out

abbrev pub no_causes : Out
no_causes = Good Null

-- causes and those of what something came to
abbrev pub with_causes : Out → Out → Out
with_causes causes out = merged out causes

-- the row of a table
abbrev pub table_row : StoredRow → ItemRow
table_row r = record { rowid = Good (Integer r.rowid); columns = map Good r.values; causes = no_causes }

-- where there is no row, everything reads NULL
abbrev pub null_row : ItemRow
null_row = record { rowid = Good Null; columns = []; causes = no_causes }

-- a row of so many columns that could not be made reads bad in each of them, and carries the causes
abbrev pub bad_row : ℕ → CauseSet → ItemRow
bad_row width causes = record { rowid = Bad causes; columns = replicate width (Bad causes); causes = Bad causes }

-- a column; NULL where there is none
abbrev pub column_of : ItemRow → ℕ → Out
column_of row place = slice_index_or row.columns place (Good Null)

-- a column that is ignored reads NULL; without a place it is the rowid
abbrev pub without_column : ItemRow → Option ℕ → ItemRow
without_column row None = record row { rowid = Good Null }
without_column row (Some place) = record row { columns = slice_set row.columns place (Good Null) }

abbrev pub ignoring : List (Option ℕ) → ItemRow → ItemRow
ignoring places row = fold without_column row places

-- the causes that some rows carry
abbrev pub carried : List ItemRow → Out
carried rows = fold with_causes no_causes (map (λ (r : ItemRow). r.causes) rows)

-- ---- environments

-- the rows of each table, which go by their numbers
abbrev pub Lists : Type 0
Lists = List (List StoredRow)

-- the rows of the FROM's items, leftmost first; the arguments of the query; what stands in its slots, as aggregates do; the parameters of the statement; what the hosts mean; the tables; and who answers what a function of a host asks
pub record Environment : Type 0 where
  pub rows : List ItemRow
  pub arguments : List Out
  pub slots : List Out
  pub params : List Value
  pub hosts : HostMeanings
  pub world : Lists
  pub ask : Oracle

-- what all expressions of a statement see alike
pub record Surroundings : Type 0 where
  pub params : List Value
  pub hosts : HostMeanings
  pub world : Lists
  pub ask : Oracle

-- the environment of an expression there, for these arguments and slots at these rows
abbrev pub environment : Surroundings → List Out → List Out → List ItemRow → Environment
environment s arguments slots rows =
    record { rows = rows; arguments = arguments; slots = slots; params = s.params; hosts = s.hosts; world = s.world; ask = s.ask }

abbrev pub row_at : Environment → ℕ → ItemRow
row_at env item = slice_index_or env.rows item null_row

-- ---- examples

a_bad_row_reads_bad : (column_of (bad_row 2 (only cause.Real)) 1 ≡ Bad (only cause.Real)) × (carried (table_row (record { rowid = pos 1; values = [] }) ∷ bad_row 1 (only cause.Real) ∷ []) ≡ Bad (only cause.Real))
a_bad_row_reads_bad = (refl, refl)

abbrev seven : ItemRow
seven = table_row (record { rowid = pos 5; values = Integer (pos 7) ∷ Integer (pos 8) ∷ [] })

an_ignored_column_reads_null : (column_of (ignoring (Some 0 ∷ []) seven) 0 ≡ Good Null) × (column_of (ignoring (Some 0 ∷ []) seven) 1 ≡ Good (Integer (pos 8))) × ((ignoring (Some 0 ∷ []) seven).rowid ≡ Good (Integer (pos 5))) × ((ignoring (None ∷ []) seven).rowid ≡ Good Null)
an_ignored_column_reads_null = (refl, refl, refl, refl)
