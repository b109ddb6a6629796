-- The outcome of a statement.
use Rattle.std.specs.Prelude.{◌≡◌, ⊤, ℕ, Bool, true, false, List, [], ◌∷◌, ◌++◌, length, map, fold, ◌+◌, ◌&&◌, if◌then◌else◌, Option, Some, None, Result, Ok, Err, option_map, drop, slice_set}
use Rattle.std.specs.FinSet as set
use Rattle.std.specs.List.{flat_map}
use Rattle.std.specs.Option.{option_to_list}
use Rattle.eng_entry.specs.Entries.{Entries, with_entry, without_indexes, without_name}
use Rattle.eng_entry.specs.declared.entry.Entry.{Entry}
use Rattle.eng_entry.specs.declared.entry.Space.TheVariants as space
use Rattle.eng_index.specs.Keys.{has_doubles}
use Rattle.eng_value.specs.Applied.{merged}
use Rattle.eng_value.specs.Causes.{CauseSet, has_cause, named, only}
use Rattle.eng_value.specs.Environments.{Environment, ItemRow, carried, ignoring, no_causes, table_row, with_causes}
use Rattle.eng_value.specs.Truths.{truth_in, truth_of}
use Rattle.eng_value.specs.Written.{Told, Written, unwritten}
use Rattle.eng_value.specs.declared.cause.Cause.{Cause}
use Rattle.eng_value.specs.declared.cause.Cause.TheVariants as cause
use Rattle.eng_value.specs.declared.cause.ConstraintKind.TheVariants as constraint
use Rattle.eng_value.specs.declared.cause.LimitKind.{LimitKind}
use Rattle.eng_value.specs.declared.cause.LimitKind.TheVariants as limit
use Rattle.eng_value.specs.declared.out.Out.{Out}
use Rattle.eng_value.specs.declared.out.Out.TheVariants.{Good, Bad}
use Rattle.eng_value.specs.declared.truth.Truth.{Truth}
use Rattle.eng_value.specs.declared.truth.Truth.TheVariants as truth
use Rattle.eng_value.specs.declared.value.Value.{Value}
use Rattle.sql_grammar.specs.declared.counts.Limit.{Limit}
use Rattle.sql_grammar.specs.declared.counts.Limit.TheVariants as grammar_limit
use Rattle.sql_grammar.specs.Answers.{Answer, Tree, Syntax, TooMuch, place}
use Rattle.sql_lex.specs.Cutting.{start_of}
use Rattle.sql_lex.specs.Tokens.{tokens_of}
use Rattle.sql_tree.specs.declared.statement.Explain.{Explain}
use Rattle.sql_tree.specs.declared.statement.Statement.{Statement}
use Rattle.bound_tree.specs.Exprs.{BoundExpr}
use Rattle.sql_meaning.specs.declared.bound.BoundInsert.{BoundInsert}
use Rattle.sql_meaning.specs.declared.column.TableEntry.{TableEntry}
use Rattle.sql_words.specs.Bodies.{answer_of, body_of}
use Rattle.sql_words.specs.Refusals.{◌>>=◌}
use Rattle.sql_bound.specs.Scopes.{Around, Facts}
use Rattle.sql_bound.specs.Statements.{bound_of}
use Rattle.sql_meaning.specs.Permits.{Asking, asked_by, permitted}
use Rattle.sql_meaning.specs.Running.{if_built, runnable_of}
use Rattle.sql_meaning.specs.Runnables.{Runnable, Creates, DoesNothing, Drops, FromItem, Indexes, NewIndex, Put, Puts, Queries, Query, Shows, Unindexes, Explains}
use Rattle.sql_meaning.specs.Declarations.{tables_of}
use Rattle.sql_meaning.specs.Built.{is_built}
use Rattle.sql_meaning.specs.Expression.{value_of}
pub use Rattle.sql_meaning.specs.Rows.{good_or_null}
pub use Rattle.sql_meaning.specs.Products.{FromRow, JoinedItem, after_conjunct, if_some, product, sifted}
use Rattle.sql_meaning.specs.Rows.{row_put}
use Rattle.sql_meaning.specs.Steps.{Effect, Done, Left, Fails, each, or_next}
use Rattle.sql_meaning.specs.World.{Context, State, World, environment_at, rows_at, seen}

-- what a statement means: the causes why it is refused, if it is, any of which may be named; the rows that it gives, unless these are those of its plan, which are no part of the meaning; what the update hook is told; how many rows it changes, and what the connection then holds
pub record Outcome : Type 0 where
  pub refusal : Option CauseSet
  pub given : List (List Value)
  pub shows_plan : Bool
  pub told : List Told
  pub changed : ℕ
  pub next : State

-- a statement that does nothing
abbrev pub nothing : State → Outcome
nothing state = record { refusal = None; given = []; shows_plan = false; told = []; changed = 0; next = state }

-- a refused statement gives nothing and changes nothing
abbrev pub refused : State → CauseSet → Outcome
refused state causes = record (nothing state) { refusal = Some causes }

-- what is bad is refused: of its causes those count that may be named
abbrev pub failed : State → CauseSet → Outcome
failed state causes = refused state (named causes)

-- a query, or a change of the catalog
abbrev pub done : List (List Value) → State → Outcome
done given next = record (nothing next) { given = given }

-- ---- CREATE TABLE and DROP TABLE

-- a table more, behind the others, which has no row
abbrev pub with_created : State → Entry → State
with_created state e =
    record state { world = record { catalog = with_entry e state.world.catalog; tables = state.world.tables ++ [] ∷ [] } }

abbrev pub create_outcome : State → Entry → Outcome
create_outcome state e = done [] (with_created state e)

-- without the table, its indexes and its rows; no other table gets another number
abbrev pub without_table : State → TableEntry → State
without_table state t =
    record state { world = record { catalog = without_name space.Names t.name (without_indexes t.name state.world.catalog); tables = slice_set state.world.tables t.number [] } }

abbrev pub drop_outcome : State → TableEntry → Outcome
drop_outcome state t = done [] (without_table state t)

-- ---- CREATE INDEX and DROP INDEX

abbrev pub with_catalog : State → Entries → State
with_catalog state c = record state { world = record state.world { catalog = c } }

-- an index holds nothing of its own; but of one that is unique, no two rows of its table may share the key
abbrev pub index_outcome : State → NewIndex → Outcome
index_outcome state i =
    if i.unique && has_doubles i.terms (rows_at state.world.tables i.table.number) then failed state (only (cause.Constraint constraint.Unique i.table.name))
    else done [] (with_catalog state (with_entry i.entry state.world.catalog))

abbrev pub unindex_outcome : State → List ℕ → Outcome
unindex_outcome state name = done [] (with_catalog state (without_name space.Names name state.world.catalog))

-- ---- items: a row, or why it is bad

pub data Item : Type 0 where
  Row : List Value → Item
  Failed : CauseSet → Item

abbrev pub item_by : List Out → Out → Item
item_by outs (Good v) = Row (map good_or_null outs)
item_by outs (Bad causes) = Failed causes

-- bad for the causes that are there already, and for those of all columns
abbrev pub item_of : Out → List Out → Item
item_of causes outs = item_by outs (fold with_causes causes outs)

-- the good items in front of the first bad one
abbrev pub given_of : List Item → List (List Value)
given_of [] = []
given_of (Row row ∷ items) = row ∷ given_of items
given_of (Failed causes ∷ items) = []

-- the causes of the first bad one
abbrev pub refusal_of : List Item → Option CauseSet
refusal_of [] = None
refusal_of (Row row ∷ items) = refusal_of items
refusal_of (Failed causes ∷ items) = Some causes

-- ---- queries

abbrev pub shown : List BoundExpr → Environment → Out → Item
shown results env causes = item_of causes (map (λ r. value_of r env) results)

-- the item of some rows, unless they are rejected; it is bad for the causes that they carry, too
abbrev pub items_at : List BoundExpr → List BoundExpr → Environment → Out → List Item
items_at conjuncts results env causes = option_to_list (option_map (shown results env) (sifted conjuncts env causes))

-- the rows of an item, as they are seen
abbrev pub item_rows : Context → FromItem → List ItemRow
item_rows ctx i = map (λ r. ignoring i.ignored (table_row (seen i.table.rowid r))) (rows_at ctx.state.world.tables i.table.number)

abbrev pub joined_item : Context → FromItem → JoinedItem
joined_item ctx i = record { rows = item_rows ctx i; join = i.join }

-- the rows of its FROM
abbrev pub from_rows : Context → List FromItem → List FromRow
from_rows ctx items = product (environment_at ctx []) (map (joined_item ctx) items)

abbrev pub items_of : Context → Query → List Item
items_of ctx q = flat_map (λ (row : FromRow). items_at q.conjuncts q.results (environment_at ctx row.rows) row.causes) (from_rows ctx q.from)

-- the items of rows of values, which see no row of a table
abbrev pub shown_rows : Context → List (List BoundExpr) → List Item
shown_rows ctx rows = map (λ values. shown values (environment_at ctx []) no_causes) rows

-- a query changes nothing; it gives its good items up to the first bad one
abbrev pub query_outcome : State → List Item → Outcome
query_outcome state items = record (nothing state) { refusal = option_map named (refusal_of items); given = given_of items }

-- ---- INSERT

-- one row after another: one that is left does not end the others
abbrev pub rows_put : Environment → BoundInsert → List (List Value) → Written → Effect
rows_put env b source x = each (λ row x. or_next (row_put env b row x)) source x

-- what a write begins with
abbrev pub begun : State → Written
begun state = unwritten state.world.tables state.last_rowid

-- what a write leaves that is not refused
abbrev pub written : State → Written → Outcome
written state x =
    record (nothing state) {
      given = x.returned;
      told = x.told;
      changed = x.changes;
      next = record state { world = record state.world { tables = x.world }; changes = x.changes; last_rowid = x.last_rowid };
    }

-- what becomes of the tables is decided once: a statement that fails leaves them as they were
abbrev pub closed : State → Effect → Outcome
closed state (Done u x) = written state x
closed state (Left x) = written state x
closed state (Fails causes x) = failed state causes

-- the causes of all bad items, of each those that may be named
abbrev pub with_others : CauseSet → Option CauseSet → CauseSet
with_others causes None = causes
with_others causes (Some others) = set.union causes others

abbrev pub causes_of : List Item → Option CauseSet
causes_of [] = None
causes_of (Row row ∷ items) = causes_of items
causes_of (Failed causes ∷ items) = Some (with_others (named causes) (causes_of items))

-- a bad row in a source fails the write before any row is put, and the cause of any bad one may be named
abbrev pub put_source : Context → Put → Option CauseSet → List (List Value) → Outcome
put_source ctx p (Some causes) source = refused ctx.state causes
put_source ctx p None source = closed ctx.state (rows_put (environment_at ctx []) p.insert source (begun ctx.state))

abbrev pub source_of : Context → Put → List Item
source_of ctx p = shown_rows ctx p.insert.rows

abbrev pub put_outcome : Context → Put → Outcome
put_outcome ctx p = put_source ctx p (causes_of (source_of ctx p)) (given_of (source_of ctx p))

-- ---- any statement

-- what was bound leads to an outcome
abbrev pub outcome_of : Context → Runnable → Outcome
outcome_of ctx (Creates e) = create_outcome ctx.state e
outcome_of ctx (Drops t) = drop_outcome ctx.state t
outcome_of ctx (Indexes i) = index_outcome ctx.state i
outcome_of ctx (Unindexes name) = unindex_outcome ctx.state name
outcome_of ctx (Puts p) = put_outcome ctx p
outcome_of ctx (Queries q) = query_outcome ctx.state (items_of ctx q)
outcome_of ctx (Shows rows) = query_outcome ctx.state (shown_rows ctx rows)
outcome_of ctx DoesNothing = nothing ctx.state
outcome_of ctx (Explains how b) = record (nothing ctx.state) { shows_plan = true }

-- ---- what a text is bound to

-- nobody tells anything: there are no hosts
abbrev pub nobody_tells : Facts
nobody_tells = record {
  scalar = λ name. None;
  aggregate = λ name. None;
  collation = λ name. None;
  host_module = λ name. None;
  columns = λ name table. None;
  savepoint = λ name. false;
  recursive_triggers = false;
  rowids = true;
}

abbrev pub around : Entries → Around
around catalog = record { catalog = catalog; facts = nobody_tells }

-- what is not built is refused before all else; then names are bound, and then what is denied is refused
abbrev pub plain_bound : Asking → Entries → ℕ → List ℕ → Statement → Result Runnable Cause
plain_bound asked catalog number text s =
    if_built (is_built text s) (bound_of (around catalog) text s >>= λ b. permitted b (asked b) >>= runnable_of (tables_of catalog) number text s)

abbrev pub limit_kind : Limit → LimitKind
limit_kind grammar_limit.Nestings = limit.Nestings
limit_kind grammar_limit.Operators = limit.Operators
limit_kind grammar_limit.Parts = limit.Parts

-- what stands behind EXPLAIN is bound as it is without
abbrev pub explained : Option Explain → Result Runnable Cause → Result Runnable Cause
explained None answer = answer
explained (Some how) answer = answer >>= λ b. Ok (Explains how b)

abbrev pub statement_bound : Asking → Entries → ℕ → List ℕ → Statement → Result Runnable Cause
statement_bound asked catalog number text s = explained s.explain (plain_bound asked catalog number text s)

-- what a text with so many bytes in front of its first token is bound to; where the grammar derives nothing, or not within its limits, that is why
abbrev pub answer_bound : Asking → World → ℕ → List ℕ → Answer Statement → Result Runnable Cause
answer_bound asked w before text (Tree s) = statement_bound asked w.catalog (length w.tables) (body_of text) s
answer_bound asked w before text (Syntax rest) = Err (cause.Syntax (before + place (length text) rest))
answer_bound asked w before text (TooMuch l rest) = Err (cause.Limit (limit_kind l))

-- what a text is bound to whose first token starts at a byte
abbrev pub text_bound_from : Asking → World → ℕ → List ℕ → Result Runnable Cause
text_bound_from asked w before text = answer_bound asked w before (drop before text) (answer_of (drop before text))

abbrev pub text_bound : Asking → World → List ℕ → Result Runnable Cause
text_bound asked w text = text_bound_from asked w (start_of (tokens_of text) 0) text

abbrev pub bound_outcome : Context → Result Runnable Cause → Outcome
bound_outcome ctx (Ok b) = outcome_of ctx b
bound_outcome ctx (Err why) = refused ctx.state (only why)

-- what a text is bound to for which the authorizer of these hosts is asked
abbrev pub bound_for : Context → List ℕ → Result Runnable Cause
bound_for ctx text = text_bound (asked_by ctx.hosts.authorizer) ctx.state.world text

-- the outcome of a statement's text, where this is said of what statements do
abbrev pub outcome_where : Asking → Context → List ℕ → Outcome
outcome_where asked ctx text = bound_outcome ctx (text_bound asked ctx.state.world text)

-- and where the authorizer is asked
abbrev pub text_outcome : Context → List ℕ → Outcome
text_outcome ctx text = outcome_where (asked_by ctx.hosts.authorizer) ctx text

-- the rows that it may give: its own, or any that show a plan
abbrev pub UnlessPlan : Bool → Type 0 → Type 0
UnlessPlan true P = ⊤
UnlessPlan false P = P

abbrev pub MayGive : Outcome → List (List Value) → Type 0
MayGive o rows = UnlessPlan o.shows_plan (rows ≡ o.given)

-- one of the causes is named, where there are any
abbrev pub IsNamed : Option CauseSet → Option Cause → Type 0
IsNamed None None = ⊤
IsNamed (Some causes) (Some why) = has_cause causes why ≡ true
IsNamed _ _ = ⊥
