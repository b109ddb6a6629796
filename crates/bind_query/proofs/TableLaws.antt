-- WITH tables, one after another, and queries that are entered.
use Rattle.std.proofs.Common.{◌≡◌, ℕ, ◌+◌, add-one, List, [], ◌∷◌, ◌++◌, map, length, Ok, Err, refl, ap, sym, ◌∙◌, rules}
use Rattle.bind_query.specs.Scopes.{Levels, around_of, entered, inside_of, outer_of, written_of}
use Rattle.bind_query.specs.Where.{Where}
use Rattle.bind_scope.specs.Entries.{entry_of, itself_of}
use Rattle.bound_tree.specs.declared.units.BoundUnit.{BoundUnit}
use Rattle.eng_value.specs.declared.cause.Cause.TheVariants.{Limit}
use Rattle.eng_value.specs.declared.cause.Cause.{Cause}
use Rattle.eng_value.specs.declared.cause.LimitKind.TheVariants as limit
use Rattle.sql_bound.specs.Carriers.{QueryBinding, QueryParts, TableParts}
use Rattle.sql_bound.specs.Froms.{Inside, beside_from}
use Rattle.sql_bound.specs.Limits.{within_columns}
use Rattle.sql_bound.specs.Queries.{Written, entered as entered_at}
use Rattle.sql_bound.specs.Recursions.{naming_itself, table_bound, table_in}
use Rattle.sql_bound.specs.Refusals.{Checked}
use Rattle.sql_bound.specs.Scopes.{UnitsAnswer}
use Rattle.sql_bound.specs.Trees.{depth_of, of_query, of_table}
use Rattle.sql_bound.specs.Withs.{seeing, table_asked, table_entry, tables_bound}
use Rattle.sql_bound.specs.declared.scopes.Asked.{Asked}
use Rattle.sql_bound.specs.declared.scopes.WithEntry.{WithEntry}
use Rattle.sql_words.specs.Refusals.{◌>>=◌}
use Rattle.sql_words.specs.Spelled.{name_at}
use Rattle.sql_tree.specs.declared.expr.Expr.{the_lemmas}
use Rattle.sql_tree.specs.declared.query.CommonTable.{CommonTable, out-CommonTable}
use Rattle.sql_tree.specs.declared.query.Query.{Query}
use Rattle.sql_tree.specs.declared.token.Token.{Token}

-- ---- one after another

abbrev behind : Inside → List ℕ → TableParts → List TableParts → Asked × List BoundUnit → UnitsAnswer (Inside × List ℕ)
behind i so_far t ts a = tables_bound (seeing (table_entry i (name_at i.outer.text t.name) a) i) (so_far ++ a.0.unit ∷ []) ts a.1

abbrev next : List TableParts → UnitsAnswer (Inside × List ℕ) → UnitsAnswer (Inside × List ℕ)
next ts (Ok x) = tables_bound x.0.0 x.0.1 ts x.1
next ts (Err why) = Err why

then-next : (i : Inside) (so_far : List ℕ) (t : TableParts) (ts : List TableParts) (r : UnitsAnswer Asked) → (r >>= behind i so_far t ts) ≡ next ts (r >>= behind i so_far t [])
then-next i so_far t ts (Err why) = refl
then-next i so_far t ts (Ok a) = refl

module _ (i : Inside) (so_far : List ℕ) (t : TableParts) (ts : List TableParts) (units : List BoundUnit) where
  pub tables-on : (j : Inside) (q : List ℕ) (v : List BoundUnit) → tables_bound i so_far (t ∷ []) units ≡ Ok ((j, q), v) → tables_bound i so_far (t ∷ ts) units ≡ tables_bound j q ts v
  tables-on j q v is = then-next i so_far t ts (table_asked i t units) ∙ ap (next ts) is

  pub tables-refused : (why : Cause) → tables_bound i so_far (t ∷ []) units ≡ Err why → tables_bound i so_far (t ∷ ts) units ≡ Err why
  tables-refused why is = then-next i so_far t ts (table_asked i t units) ∙ ap (next ts) is

-- ---- one level deeper

module _ (q : Written) (name : List ℕ) (names : List (List ℕ)) (w : Where) (ls : Levels) (ts : List WithEntry) (units : List BoundUnit) where
  at-depth : ℕ → UnitsAnswer Asked
  at-depth n = entered_at (naming_itself name (outer_of w ls ts)) (depth_of (λ text. of_query) (around_of w) n) (table_in q name names) units

  pub table-deeper : (d : ℕ) → w.depth ≡ d + 1 → table_bound q name names (outer_of w ls ts) units ≡ table_in q name names (inside_of (entered d w) ls (itself_of name (length ls) ∷ ts)) units
  unfolding at-depth
  table-deeper d is = ap at-depth (is ∙ add-one d)

  pub table-bottom : w.depth ≡ 0 → table_bound q name names (outer_of w ls ts) units ≡ Err (Limit limit.Queries)
  unfolding at-depth
  table-bottom is = ap at-depth is

-- ---- as a table

pub as-table : (q : Query) → (of_query q).as_table ≡ table_bound (written_of q)
as-table q = search (rules, the_lemmas)

pub table-query : (t : CommonTable) → (of_table t).query ≡ of_query (out-CommonTable t).query
table-query t = search (rules, the_lemmas)

pub table-columns : (t : CommonTable) → (of_table t).columns ≡ (out-CommonTable t).columns
table-columns t = search (rules, the_lemmas)

pub table-name : (t : CommonTable) → (of_table t).name ≡ (out-CommonTable t).name
table-name t = search (rules, the_lemmas)

module _ (w : Where) (ls : Levels) (ts : List WithEntry) (t : CommonTable) (units : List BoundUnit) where
  -- the columns are no more than there may be
  abbrev asked_by : QueryParts → Token → Checked (List Token) → UnitsAnswer Asked
  asked_by q name columns = columns >>= λ cs. q.as_table (name_at w.text name) (map (name_at w.text) cs) (beside_from (outer_of w ls ts)) units

  parts-asked : table_asked (inside_of w ls ts) (of_table t) units ≡ asked_by (of_query (out-CommonTable t).query) (out-CommonTable t).name (within_columns (out-CommonTable t).columns)
  parts-asked =
      ap (λ (cs : List Token). asked_by (of_table t).query (of_table t).name (within_columns cs)) (table-columns t)
      ∙ ap (λ (name : Token). asked_by (of_table t).query name (within_columns (out-CommonTable t).columns)) (table-name t)
      ∙ ap (λ (q : QueryParts). asked_by q (out-CommonTable t).name (within_columns (out-CommonTable t).columns)) (table-query t)

  pub table-refused : (why : Cause) → within_columns (out-CommonTable t).columns ≡ Err why → table_asked (inside_of w ls ts) (of_table t) units ≡ Err why
  table-refused why many = parts-asked ∙ ap (asked_by (of_query (out-CommonTable t).query) (out-CommonTable t).name) many

  pub table-written : (name : List ℕ) (names : List (List ℕ)) (ms : Levels) → within_columns (out-CommonTable t).columns ≡ Ok (out-CommonTable t).columns
      → name ≡ name_at w.text (out-CommonTable t).name → names ≡ map (name_at w.text) (out-CommonTable t).columns → ms ≡ [] ∷ ls
      → table_asked (inside_of w ls ts) (of_table t) units ≡ table_bound (written_of (out-CommonTable t).query) name names (outer_of w ms ts) units
  table-written name names ms fits called named deeper =
      let q = (out-CommonTable t).query in
      let columns = map (name_at w.text) (out-CommonTable t).columns in
      parts-asked
      ∙ ap (asked_by (of_query q) (out-CommonTable t).name) fits
      ∙ ap (λ (f : List ℕ → List (List ℕ) → QueryBinding). f (name_at w.text (out-CommonTable t).name) columns (outer_of w ([] ∷ ls) ts) units) (as-table q)
      ∙ ap (λ (n : List ℕ). table_bound (written_of q) n columns (outer_of w ([] ∷ ls) ts) units) (sym called)
      ∙ ap (λ (ns : List (List ℕ)). table_bound (written_of q) name ns (outer_of w ([] ∷ ls) ts) units) (sym named)
      ∙ ap (λ (l : Levels). table_bound (written_of q) name names (outer_of w l ts) units) (sym deeper)

  -- behind these tables, whose units these are
  abbrev seen : List BoundUnit → List WithEntry → List ℕ → UnitsAnswer (Inside × List ℕ)
  seen all es places = Ok ((inside_of w ls es, places), all)

  pub tables-more : (so_far : List ℕ) (a : Asked × List BoundUnit) (entries : List WithEntry) (places : List ℕ) → table_asked (inside_of w ls ts) (of_table t) units ≡ Ok a
      → entries ≡ entry_of (name_at w.text (out-CommonTable t).name) (length ls) a ∷ ts → places ≡ so_far ++ a.0.unit ∷ []
      → tables_bound (inside_of w ls ts) so_far (of_table t ∷ []) units ≡ Ok ((inside_of w ls entries, places), a.1)
  tables-more so_far a entries places is more placed =
      ap (λ (r : UnitsAnswer Asked). r >>= behind (inside_of w ls ts) so_far (of_table t) []) is
      ∙ ap (λ (name : Token). seen a.1 (entry_of (name_at w.text name) (length ls) a ∷ ts) (so_far ++ a.0.unit ∷ [])) (table-name t)
      ∙ ap (λ (es : List WithEntry). seen a.1 es (so_far ++ a.0.unit ∷ [])) (sym more)
      ∙ ap (seen a.1 entries) (sym placed)

  pub tables-none : (so_far : List ℕ) (why : Cause) → table_asked (inside_of w ls ts) (of_table t) units ≡ Err why → tables_bound (inside_of w ls ts) so_far (of_table t ∷ []) units ≡ Err why
  tables-none so_far why is = ap (λ (r : UnitsAnswer Asked). r >>= behind (inside_of w ls ts) so_far (of_table t) []) is

pub ruleset table_steps = (table-name, table-columns)
