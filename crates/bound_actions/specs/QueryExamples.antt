-- What an authorizer is asked about queries.
use Rattle.std.specs.Prelude.{◌≡◌, true, [], ◌∷◌, Some, None, codes, refl}
use Rattle.sql_tree.specs.declared.query.CompoundOp.TheVariants as op
use Rattle.eng_value.specs.declared.authorizing.ActionKind.TheVariants as kind
use Rattle.eng_value.specs.declared.builtin.Builtin.TheVariants as builtin
use Rattle.sql_words.specs.Collations.{by_bytes}
use Rattle.bound_tree.specs.Exprs as e
use Rattle.bound_tree.specs.declared.units.AggregateKind.TheVariants as aggregate
use Rattle.bound_tree.specs.declared.units.BoundItem.{BoundItem}
use Rattle.bound_tree.specs.declared.units.BoundPart.TheVariants as part
use Rattle.bound_tree.specs.declared.units.BoundSource.TheVariants as source
use Rattle.bound_tree.specs.declared.units.BoundUnit.TheVariants.{Queried, Recursed}
use Rattle.bound_tree.specs.declared.units.BoundUnit.{BoundUnit}
use Rattle.bound_actions.specs.Pieces.{action}
use Rattle.bound_actions.specs.Samples.{asking, both, calls, core, item, null, query, query_in, read, select, t_item, u_item, with_aggregate}
use Rattle.bound_actions.specs.Statements.{actions_of}

-- `SELECT NULL, a FROM t`
a_column : actions_of (asking (query (core (null ∷ e.Column 0 0 ∷ []) (t_item ∷ []) []) ∷ []) 0) ≡ select None ∷ read None (codes "t") (codes "a") ∷ []
a_column = refl

-- `SELECT NULL FROM t`, `SELECT NULL FROM t WHERE rowid` and `SELECT count(*) FROM t`: a table of which no column is read is read itself
no_column : actions_of (asking (query (core (null ∷ []) (t_item ∷ []) []) ∷ []) 0) ≡ select None ∷ read None (codes "t") [] ∷ []
no_column = refl

a_rowid : actions_of (asking (query (core (null ∷ []) (t_item ∷ []) (e.Rowid 0 ∷ [])) ∷ []) 0) ≡ select None ∷ read None (codes "t") (codes "rowid") ∷ []
a_rowid = refl

a_count : actions_of (asking (query (with_aggregate aggregate.CountRows [] (core (e.Aggregate 0 ∷ []) (t_item ∷ []) [])) ∷ []) 0) ≡ select None ∷ calls None (codes "count") ∷ read None (codes "t") [] ∷ []
a_count = refl

-- `SELECT x.b FROM t AS x, t`: each item counts for itself
two_items : actions_of (asking (query (core (e.Column 0 1 ∷ []) (t_item ∷ t_item ∷ []) []) ∷ []) 0) ≡ select None ∷ read None (codes "t") (codes "b") ∷ read None (codes "t") [] ∷ []
two_items = refl

-- `SELECT a FROM t JOIN u USING (a)`: what USING and NATURAL make names nothing
made_by_using : actions_of (asking (query (core (e.Column 0 0 ∷ []) (t_item ∷ record u_item { ons = both (e.Column 0 0) (e.Column 1 0) ∷ [] } ∷ []) []) ∷ []) 0) ≡ select None ∷ read None (codes "t") (codes "a") ∷ read None (codes "u") [] ∷ []
made_by_using = refl

-- `SELECT x FROM v` over `CREATE VIEW v(x) AS SELECT a FROM t`: a view is read as a table, and does what it does itself
a_view : actions_of (asking (query_in (Some (codes "v")) [] (part.Select (core (e.Column 0 0 ∷ []) (t_item ∷ []) [])) ∷ query (core (e.Column 0 0 ∷ []) (item (source.View (codes "v") 0) (codes "x" ∷ []) ∷ []) []) ∷ []) 1) ≡ select None ∷ read None (codes "v") (codes "x") ∷ select (Some (codes "v")) ∷ read (Some (codes "v")) (codes "t") (codes "a") ∷ []
a_view = refl

-- `SELECT (SELECT c FROM u WHERE a || c) FROM t`: a column further out is read where it is named, and then t is not read itself
a_correlated_query : actions_of (asking (query (core (e.Column 0 0 ∷ []) (u_item ∷ []) (both (e.Argument 0) (e.Column 0 0) ∷ [])) ∷ query (core (e.Scalar 0 (e.Column 0 0 ∷ []) ∷ []) (t_item ∷ []) []) ∷ []) 1) ≡ select None ∷ select None ∷ read None (codes "u") (codes "c") ∷ read None (codes "t") (codes "a") ∷ read None (codes "u") (codes "c") ∷ []
a_correlated_query = refl

-- `SELECT x FROM (SELECT a FROM t)`
a_query_in_from : actions_of (asking (query (core (e.Column 0 0 ∷ []) (t_item ∷ []) []) ∷ query (core (e.Column 0 0 ∷ []) (item (source.Query 0 []) (codes "x" ∷ []) ∷ []) []) ∷ []) 1) ≡ select None ∷ select None ∷ read None (codes "t") (codes "a") ∷ []
a_query_in_from = refl

-- `WITH w AS (SELECT a FROM t) SELECT x.a FROM w AS x, w`: a WITH table does what it does where it is written, once
abbrev w_item : BoundItem
w_item = item (source.With 0 []) (codes "a" ∷ [])

a_with_table : actions_of (asking (query (core (e.Column 0 0 ∷ []) (t_item ∷ []) []) ∷ query_in None (0 ∷ []) (part.Select (core (e.Column 0 0 ∷ []) (w_item ∷ w_item ∷ []) [])) ∷ []) 1) ≡ select None ∷ read None (codes "t") (codes "a") ∷ select None ∷ []
a_with_table = refl

-- `SELECT (WITH w AS (SELECT a AS p) SELECT p FROM w) FROM t`: what is handed over to a WITH table is read where the table is named
a_correlated_table : actions_of (asking (query (core (e.Argument 0 ∷ []) [] []) ∷ query_in None (0 ∷ []) (part.Select (core (e.Column 0 0 ∷ []) (item (source.With 0 (e.Argument 0 ∷ [])) (codes "p" ∷ []) ∷ []) [])) ∷ query (core (e.Scalar 1 (e.Column 0 0 ∷ []) ∷ []) (t_item ∷ []) []) ∷ []) 2) ≡ select None ∷ select None ∷ select None ∷ read None (codes "t") (codes "a") ∷ []
a_correlated_table = refl

-- a unit names only units in front of it: one that names itself or one behind asks nothing there
not_in_front : actions_of (asking (query (core (e.Scalar 0 [] ∷ e.Scalar 1 [] ∷ []) [] []) ∷ query (core (null ∷ []) [] []) ∷ []) 0) ≡ select None ∷ []
not_in_front = refl

-- `SELECT a FROM t UNION SELECT NULL FROM t LIMIT length(NULL)`
abbrev compound : BoundUnit
compound =
    Queried (record { within = None; arguments = 0; tables = []; first = part.Select (core (e.Column 0 0 ∷ []) (t_item ∷ []) []); others = record { op = op.Union; part = part.Select (core (null ∷ []) (t_item ∷ []) []); collations = [] } ∷ []; order = []; limit = Some (e.Call builtin.Length by_bytes (null ∷ [])); offset = None; columns = [] })

a_compound : actions_of (asking (compound ∷ []) 0) ≡ select None ∷ read None (codes "t") (codes "a") ∷ select None ∷ read None (codes "t") [] ∷ calls None (codes "length") ∷ []
a_compound = refl

-- `WITH r(n) AS (SELECT c FROM u UNION ALL SELECT a FROM r, t) SELECT n FROM r`: it is told that r is recursive where r is asked
abbrev recursion : BoundUnit
recursion =
    Recursed (record { within = None; arguments = 0; tables = []; first = part.Select (core (e.Column 0 0 ∷ []) (u_item ∷ []) []); others = []; all = true; part = core (e.Column 1 0 ∷ []) (item source.Queue (codes "n" ∷ []) ∷ t_item ∷ []) []; collations = []; limit = None; offset = None; columns = [] })

a_recursive_table : actions_of (asking (recursion ∷ query_in None (0 ∷ []) (part.Select (core (e.Column 0 0 ∷ []) (item (source.Recursive 0 []) (codes "n" ∷ []) ∷ []) [])) ∷ []) 1) ≡ select None ∷ read None (codes "u") (codes "c") ∷ select None ∷ read None (codes "t") (codes "a") ∷ select None ∷ action None kind.Recursive [] [] ∷ []
a_recursive_table = refl

-- `VALUES (length(NULL))`
values_alone : actions_of (asking (query_in None [] (part.Values ((e.Call builtin.Length by_bytes (null ∷ []) ∷ []) ∷ [])) ∷ []) 0) ≡ calls None (codes "length") ∷ []
values_alone = refl
