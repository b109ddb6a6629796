-- The size of a statement and the work that it asks for. Together they bound the instructions that it runs, whatever its plan.
use Rattle.std.specs.Prelude.{ℕ, ◌+◌, ◌*◌, ◌-◌, List, [], ◌∷◌, ◌++◌, length, map, sum, Option, Some, None, Result, Ok, Err}
use Rattle.std.specs.List.{flat_map, filter}
use Rattle.std.specs.Option.{option_to_list}
use Rattle.eng_entry.specs.Entries.{Entries, is_index_on}
use Rattle.eng_entry.specs.declared.entry.Entry.{Entry}
use Rattle.eng_value.specs.Causes.{CauseSet}
use Rattle.eng_value.specs.declared.cause.Cause.{Cause}
use Rattle.eng_value.specs.declared.value.Value.{Value}
use Rattle.sql_lex.specs.Tokens.{tokens_of}
use Rattle.sql_meaning.specs.declared.bound.BoundInsert.{BoundInsert}
use Rattle.sql_meaning.specs.declared.bound.Join.{Join}
use Rattle.sql_meaning.specs.declared.bound.Join.TheVariants.{Inner, Left}
use Rattle.sql_meaning.specs.declared.bound.PutColumn.{PutColumn}
use Rattle.sql_meaning.specs.declared.column.TableEntry.{TableEntry}
use Rattle.sql_meaning.specs.Runnables.{Runnable, Creates, DoesNothing, Drops, FromItem, Indexes, Puts, Queries, Query, Shows, Unindexes, Explains}
use Rattle.bound_ignored.specs.Erased.{erased}
use Rattle.bound_size.specs.Sizes.{all_nodes}
use Rattle.bound_tree.specs.Exprs.{BoundExpr}
use Rattle.sql_meaning.specs.Permits.{Asking, asked_by}
use Rattle.sql_meaning.specs.Statement.{causes_of, given_of, item_rows, source_of, text_bound}
use Rattle.sql_meaning.specs.Searches.{marks_in, rows_counted}
use Rattle.sql_meaning.specs.World.{Context, rows_at, surroundings_of}

-- ---- size

-- the tokens of the texts that created the indexes of a table
abbrev pub index_tokens : Entries → List ℕ → ℕ
index_tokens c table = sum (map (λ (e : Entry). length (tokens_of e.text)) (filter (is_index_on table) c.names))

-- what opening a table adds to the size beside the columns: the tokens of its CREATE TABLE, without the `;`, and of its indexes' CREATE INDEX
abbrev pub texts_size : Entries → TableEntry → ℕ
texts_size c t = t.tokens + index_tokens c t.name

-- the nodes of its defaults and CHECKs add nothing to that of an INSERT, since the CREATE TABLE spells them out
abbrev pub constraints_size : BoundInsert → ℕ
constraints_size b = all_nodes (flat_map (λ (c : PutColumn). option_to_list c.default) b.columns) + all_nodes b.checks

abbrev pub from_size : Entries → List FromItem → ℕ
from_size c items = sum (map (λ (i : FromItem). texts_size c i.table + i.width) items)

-- of the tables that a statement opens
abbrev pub opened_size : Entries → Runnable → ℕ
opened_size c (Creates e) = 0
opened_size c (Drops t) = 0
opened_size c (Indexes i) = 0
opened_size c (Unindexes name) = 0
opened_size c (Puts p) = texts_size c p.table + length p.table.columns
opened_size c (Queries q) = from_size c q.from
opened_size c (Shows rows) = 0
opened_size c DoesNothing = 0
opened_size c (Explains how b) = 0

-- the conjuncts that reject pairs of an item
abbrev pub ons_of : Join → List BoundExpr
ons_of Inner = []
ons_of (Left ons) = ons

-- all conjuncts of a query
abbrev pub tested_in : Query → List BoundExpr
tested_in q = q.conjuncts ++ flat_map (λ (i : FromItem). ons_of i.join) q.from

-- a WHERE repeats an expression wherever it names the result: what the trees of conjuncts have beyond sixteen nodes for each token and column that
-- the size counts already
abbrev pub repeated_size : ℕ → Runnable → ℕ
repeated_size size (Creates e) = 0
repeated_size size (Drops t) = 0
repeated_size size (Indexes i) = 0
repeated_size size (Unindexes name) = 0
repeated_size size (Puts p) = 0
repeated_size size (Queries q) = all_nodes (tested_in q) - 16 * size
repeated_size size (Shows rows) = 0
repeated_size size DoesNothing = 0
repeated_size size (Explains how b) = 0

-- of a text of so many tokens
abbrev pub size_of : Entries → ℕ → Runnable → ℕ
size_of c tokens b = let told = tokens + opened_size c b in told + repeated_size told b

-- ---- work

-- the product, over the items of a FROM, of 1 and how many rows each has
abbrev pub product_work : Context → List FromItem → ℕ
product_work ctx [] = 1
product_work ctx (i ∷ items) = (1 + length (item_rows ctx i)) * product_work ctx items

-- the rows of a table that stands alone in its FROM that count, where these are the conjuncts; they are searched as the rows are stored
abbrev pub item_work : Context → List BoundExpr → FromItem → ℕ
item_work ctx conjuncts i =
    rows_counted (surroundings_of ctx) i.indexes (map (erased (marks_in (i ∷ []))) conjuncts) (rows_at ctx.state.world.tables i.table.number)

-- of an item that stands alone; a LEFT JOIN tests its own ON alone
abbrev pub alone_work : Context → List BoundExpr → FromItem → Join → ℕ
alone_work ctx conjuncts i Inner = 1 + item_work ctx conjuncts i
alone_work ctx conjuncts i (Left ons) = product_work ctx (i ∷ [])

-- the work of a FROM under the conjuncts of a WHERE
abbrev pub from_work : Context → List BoundExpr → List FromItem → ℕ
from_work ctx conjuncts (i ∷ []) = alone_work ctx conjuncts i i.join
from_work ctx conjuncts items = product_work ctx items

-- a write takes the rows of its source whole, and has a turn for each; a bad source has none
abbrev pub source_work : Option CauseSet → List (List Value) → ℕ
source_work (Some causes) source = 0
source_work None source = length source

-- no expression holds another query yet, so that a query has the work of its FROM; a write has that of its source, which is 1, and its turns; an index has
-- that of the rows of its table; what else is neither query nor write has none
abbrev pub work_of : Context → Runnable → ℕ
work_of ctx (Creates e) = 0
work_of ctx (Drops t) = 0
work_of ctx (Indexes i) = length (rows_at ctx.state.world.tables i.table.number)
work_of ctx (Unindexes name) = 0
work_of ctx (Puts p) = 1 + source_work (causes_of (source_of ctx p)) (given_of (source_of ctx p))
work_of ctx (Queries q) = from_work ctx q.conjuncts q.from
work_of ctx (Shows rows) = 1
work_of ctx DoesNothing = 0
work_of ctx (Explains how b) = 0

-- ---- the bound

-- of a text of so many tokens; what is refused before evaluation runs nothing
abbrev pub bound_within : Context → ℕ → Result Runnable Cause → ℕ
bound_within ctx tokens (Ok b) = 256 * size_of ctx.state.world.catalog tokens b * (work_of ctx b + 1)
bound_within ctx tokens (Err why) = 0

-- the most instructions that a text runs, where this is said of what statements do
abbrev pub bound_where : Asking → Context → List ℕ → ℕ
bound_where asked ctx text = bound_within ctx (length (tokens_of text)) (text_bound asked ctx.state.world text)

-- and where the authorizer is asked
abbrev pub instruction_bound : Context → List ℕ → ℕ
instruction_bound ctx text = bound_where (asked_by ctx.hosts.authorizer) ctx text
