-- Views and triggers, bound where they are used.
use Rattle.std.specs.Prelude.{◌≡◌, ℕ, Bool, true, false, List, [], ◌∷◌, Option, Some, None, Ok, Err, length, map, codes, refl}
use Rattle.eng_entry.specs.Names.{is_same_name}
use Rattle.eng_entry.specs.declared.entry.Entry.{Entry}
use Rattle.eng_entry.specs.declared.entry.EntryKind.TheVariants as entry_kind
use Rattle.eng_value.specs.declared.affinity.Affinity.TheVariants as affinity
use Rattle.eng_value.specs.declared.cause.Cause.TheVariants.{Misuse, Unknown}
use Rattle.eng_value.specs.declared.cause.Cause.TheVariants.{NotYet}
use Rattle.eng_value.specs.declared.cause.Cause.{Cause}
use Rattle.eng_value.specs.declared.cause.NameKind.TheVariants as kind
use Rattle.sql_grammar.specs.Marks.{count}
use Rattle.sql_grammar.specs.Statements.{all_statement_rules}
use Rattle.sql_lex.specs.Pieces.{word_kind}
use Rattle.sql_lex.specs.Tokens.{tokens_of}
use Rattle.sql_tree.specs.declared.statement.Command.TheVariants as command
use Rattle.sql_tree.specs.declared.statement.ConflictChoice.TheVariants as choice
use Rattle.sql_tree.specs.declared.statement.Transaction.TheVariants as transaction
use Rattle.sql_tree.specs.declared.statement.TriggerEvent.TheVariants as event
use Rattle.sql_tree.specs.declared.statement.TriggerTime.TheVariants as time
use Rattle.sql_tree.specs.declared.token.Token.{Token}
use Rattle.sql_words.specs.Collations.{by_bytes}
use Rattle.sql_words.specs.Spelled.{the_text_test}
use Rattle.bound_tree.specs.Exprs as e
use Rattle.bound_tree.specs.Exprs.{BoundExpr}
use Rattle.bound_tree.specs.declared.units.BoundSource.TheVariants.{Given}
use Rattle.bound_tree.specs.declared.units.BoundSource.TheVariants.{Table, View}
use Rattle.bound_tree.specs.declared.writes.BoundStep.TheVariants.{Asks, Writes}
use Rattle.bound_tree.specs.declared.writes.BoundStep.{BoundStep}
use Rattle.bound_tree.specs.declared.writes.BoundTrigger.{BoundTrigger}
use Rattle.bound_tree.specs.declared.writes.BoundWrite.{BoundWrite}
use Rattle.bound_tree.specs.declared.writes.FiringEvent.TheVariants.{AtUpdate}
use Rattle.sql_bound.specs.Carriers.{All, Deletes, Expression, InsertParts, Inserts, Queries, QueryParts, RowParts, TriggerParts, Updates}
use Rattle.sql_bound.specs.Froms.{plain_source}
use Rattle.sql_bound.specs.Refusals.{Checked}
use Rattle.sql_bound.specs.Samples.{around_of, asked_by, asked_in, col, common, core, dot, insert, lit, named, no_facts, no_token, query, raise_ignore, refusal_of, res, results_at, scalar, set, sources_at, units_of, update, values, why, with_tables}
use Rattle.sql_bound.specs.Scopes.{Around, UnitsAnswer, begun, in_statement}
use Rattle.sql_bound.specs.Statements.{nothing_opened}
use Rattle.sql_bound.specs.Targets.{may_write_view}
use Rattle.sql_bound.specs.Trees.{full_depth, outer_at}
use Rattle.sql_bound.specs.Triggers.{opening_of}
use Rattle.sql_bound.specs.Writes.{Opened, delete_begun, insert_begun, update_begun, write_bound}
use Rattle.sql_bound.specs.declared.froms.Sourced.{Sourced}
use Rattle.sql_bound.specs.declared.scopes.Asked.{Asked}

-- ---- a view: its query is bound in its own text, and its list of columns must fit

abbrev with_view : Around
with_view = around_of (codes "CREATE TABLE t(a, b)" ∷ codes "CREATE VIEW v(x) AS SELECT a FROM t" ∷ []) []

-- its query, over the tokens of its text
abbrev view_query : QueryParts
view_query = query (core (res view_tokens (col view_tokens 8) 8 8 ∷ []) (named view_tokens 10 ∷ []) None)
  where
    view_tokens : List Token
    view_tokens = tokens_of (codes "CREATE VIEW v(x) AS SELECT a FROM t")

abbrev used : List ℕ → (List Token → QueryParts) → UnitsAnswer Asked
used text tree = asked_by view_query with_view 2 text (tree (tokens_of text))

a_view : sources_at 1 (used (codes "SELECT x FROM v") (λ t. query (core (res t (col t 1) 1 1 ∷ []) (named t 3 ∷ []) None))) ≡ View (codes "v") 0 ∷ []
unfolding all_statement_rules count tokens_of word_kind the_text_test
a_view = refl

-- what is asked in a view or trigger and outside of it is two units, since the authorizer may answer otherwise there
not_one_with_a_view : results_at 2 (used (codes "SELECT (SELECT a FROM t) FROM v") (λ t. query (core (res t (scalar (query (core (res t (col t 3) 3 3 ∷ []) (named t 5 ∷ []) None))) 1 6 ∷ []) (named t 8 ∷ []) None))) ≡ e.Scalar 1 [] ∷ []
unfolding all_statement_rules count tokens_of word_kind the_text_test
not_one_with_a_view = refl

abbrev all_of_t : QueryParts
all_of_t = query (core (All ∷ []) (named (tokens_of (codes "SELECT * FROM t")) 3 ∷ []) None)

-- how many units there are once a trigger asks this, behind a statement that asks it
abbrev units_behind : Checked (ℕ × Opened) → ℕ
units_behind (Ok opened) = length opened.1.units
units_behind (Err reason) = 0

not_one_with_a_trigger : units_behind (opening_of (λ entry. Some (record { time = time.After; event = event.Insert; condition = None; body = Queries all_of_t ∷ [] })) with_view 1 (plain_source (Some (codes "t")) Given []) (record { kind = entry_kind.Trigger; name = codes "g"; owner = codes "t"; number = 0; text = codes "SELECT * FROM t"; def = record { explain = None; command = command.Transaction transaction.Begin } }) (record { units = units_of (asked_in with_view 20 (codes "SELECT * FROM t") all_of_t); triggers = [] })) ≡ 2
unfolding all_statement_rules count tokens_of word_kind the_text_test
not_one_with_a_trigger = refl

-- by the names of its list, and without a rowid
no_rowid : refusal_of (used (codes "SELECT rowid FROM v") (λ t. query (core (res t (col t 1) 1 1 ∷ []) (named t 3 ∷ []) None))) ≡ Some (Unknown kind.Column (codes "rowid"))
unfolding all_statement_rules count tokens_of word_kind the_text_test
no_rowid = refl

-- it sees nothing of the place where it is used: no WITH table that has the name of its table, and no column of a FROM around it
with_tables_unseen : sources_at 1 (used (codes "WITH t AS (SELECT 1) SELECT x FROM v") (λ t. with_tables (common t 1 [] (query (core (res t (lit t 5) 5 5 ∷ []) [] None)) ∷ []) (core (res t (col t 8) 8 8 ∷ []) (named t 10 ∷ []) None))) ≡ Table (codes "t") 0 ∷ []
unfolding all_statement_rules count tokens_of word_kind the_text_test
with_tables_unseen = refl

abbrev with_another_view : Around
with_another_view = around_of (codes "CREATE TABLE t(a, b)" ∷ codes "CREATE VIEW w AS SELECT a" ∷ []) []

abbrev another_view_query : QueryParts
another_view_query = query (core (res view_tokens (col view_tokens 5) 5 5 ∷ []) [] None)
  where
    view_tokens : List Token
    view_tokens = tokens_of (codes "CREATE VIEW w AS SELECT a")

abbrev another_used : List ℕ → (List Token → QueryParts) → UnitsAnswer Asked
another_used text tree = asked_by another_view_query with_another_view 3 text (tree (tokens_of text))

columns_unseen : refusal_of (another_used (codes "SELECT (SELECT 1 FROM w) FROM t") (λ t. query (core (res t (scalar (query (core (res t (lit t 3) 3 3 ∷ []) (named t 5 ∷ []) None))) 1 6 ∷ []) (named t 8 ∷ []) None))) ≡ Some (Unknown kind.Column (codes "a"))
unfolding all_statement_rules count tokens_of word_kind the_text_test
columns_unseen = refl

-- ---- triggers: one that fires another and itself

abbrev with_triggers : Around
with_triggers =
    around_of (codes "CREATE TABLE t(a, b)" ∷ codes "CREATE TABLE u(c)" ∷ [])
    (codes "CREATE TRIGGER g AFTER UPDATE OF a ON t BEGIN INSERT INTO u VALUES(new.b); END" ∷ codes "CREATE TRIGGER h AFTER INSERT ON u BEGIN UPDATE t SET a=new.c; END" ∷ [])

abbrev g_tokens : List Token
g_tokens = tokens_of (codes "CREATE TRIGGER g AFTER UPDATE OF a ON t BEGIN INSERT INTO u VALUES(new.b); END")

abbrev h_tokens : List Token
h_tokens = tokens_of (codes "CREATE TRIGGER h AFTER INSERT ON u BEGIN UPDATE t SET a=new.c; END")

-- what they are written as
abbrev g_parts : TriggerParts
g_parts = record { time = time.After; event = event.Update []; condition = None; body = insert g_tokens choice.Abort 12 [] (Some (values ((dot g_tokens 15 17 ∷ []) ∷ []))) ∷ [] }

abbrev h_parts : TriggerParts
h_parts = record { time = time.After; event = event.Insert; condition = None; body = update h_tokens 9 (set h_tokens 11 (dot h_tokens 13 15) ∷ []) None ∷ [] }

abbrev parts_by : Bool → Option TriggerParts
parts_by true = Some g_parts
parts_by false = Some h_parts

abbrev parts_of : Entry → Option TriggerParts
parts_of entry = parts_by (is_same_name entry.name (codes "g"))

abbrev written : List ℕ → (List Token → RowParts) → Checked (BoundWrite × Opened)
written text tree = by_parts (tree (tokens_of text))
  where
    by_parts : RowParts → Checked (BoundWrite × Opened)
    by_parts (Updates u) = write_bound (opening_of parts_of with_triggers 2) with_triggers true (update_begun (outer_at with_triggers (full_depth with_triggers) text [] in_statement) u (begun [])) nothing_opened
    by_parts (Deletes d) = write_bound (opening_of parts_of with_triggers 2) with_triggers true (delete_begun (outer_at with_triggers (full_depth with_triggers) text [] in_statement) d (begun [])) nothing_opened
    by_parts (Inserts i) = write_bound (opening_of parts_of with_triggers 2) with_triggers true (insert_begun (outer_at with_triggers (full_depth with_triggers) text [] in_statement) i (begun [])) nothing_opened
    by_parts (Queries q) = Err NotYet

abbrev fires_of : Checked (BoundWrite × Opened) → List ℕ
fires_of (Ok w) = w.0.fires
fires_of (Err reason) = []

abbrev triggers_of : Checked (BoundWrite × Opened) → List BoundTrigger
triggers_of (Ok w) = w.1.triggers
triggers_of (Err reason) = []

-- the writes in a body: what is handed over to each, and what it fires
abbrev steps_of : List BoundTrigger → List (List (List BoundExpr × List ℕ))
steps_of triggers = map (λ (t : BoundTrigger). map handed_and_fired t.body) triggers
  where
    handed_and_fired : BoundStep → List BoundExpr × List ℕ
    handed_and_fired (Writes w) = (w.captures, w.fires)
    handed_and_fired (Asks u captures) = (captures, [])

-- SET b fires nothing, SET a the trigger of a
update_of : (fires_of (written (codes "UPDATE t SET b=1") (λ t. update t 1 (set t 3 (lit t 5) ∷ []) None)) ≡ []) × (fires_of (written (codes "UPDATE t SET a=1") (λ t. update t 1 (set t 3 (lit t 5) ∷ []) None)) ≡ 0 ∷ [])
unfolding all_statement_rules count tokens_of word_kind the_text_test
update_of = (refl, refl)

-- each stands once in the list; the body of the first fires the second, whose body fires the first; NEW is item 1
each_once : steps_of (triggers_of (written (codes "UPDATE t SET a=1") (λ t. update t 1 (set t 3 (lit t 5) ∷ []) None))) ≡ ((e.Column 1 1 ∷ [], 1 ∷ []) ∷ []) ∷ ((e.Column 1 0 ∷ [], 0 ∷ []) ∷ []) ∷ []
unfolding all_statement_rules count tokens_of word_kind the_text_test
each_once = refl

-- an INSERT has no OLD, and RAISE may stand in a trigger
abbrev body_refused : TriggerParts → Option Cause
body_refused t = why (opening_of (λ entry. Some t) with_triggers 2 u_source u_entry nothing_opened)
  where
    u_source : Sourced
    u_source = plain_source (Some (codes "u")) Given (record { name = codes "c"; affinity = affinity.Blob; collation = by_bytes } ∷ [])

    u_entry : Entry
    u_entry = record { kind = entry_kind.Trigger; name = codes "h"; owner = codes "u"; number = 0; text = codes "old.c new.c c"; def = record { explain = None; command = command.Transaction transaction.Begin } }

abbrev when : (List Token → Expression) → TriggerParts
when x = record h_parts { condition = Some (x (tokens_of (codes "old.c new.c c"))); body = [] }

rows_seen : (body_refused (when (λ t. dot t 0 2)) ≡ Some (Unknown kind.Column (codes "old.c"))) × (body_refused (when (λ t. dot t 3 5)) ≡ None) × (body_refused (when (λ t. col t 6)) ≡ Some (Unknown kind.Column (codes "c"))) × (body_refused (when (λ t. raise_ignore)) ≡ None)
unfolding all_statement_rules count tokens_of word_kind the_text_test
rows_seen = (refl, refl, refl, refl)

-- ---- OR REPLACE opens the DELETE triggers of its table while triggers may fire themselves

abbrev with_deletes : Bool → Around
with_deletes recursive =
    record (around_of (codes "CREATE TABLE t(a UNIQUE)" ∷ []) (codes "CREATE TRIGGER g AFTER DELETE ON t BEGIN SELECT 1; END" ∷ [])) { facts = record no_facts { recursive_triggers = recursive } }

abbrev replaced : Bool → Option (List ℕ)
replaced recursive = all_fired (write_bound (opening_of (λ entry. Some (record h_parts { event = event.Delete; body = [] })) (with_deletes recursive) 1) (with_deletes recursive) true (insert_begun (outer_at (with_deletes recursive) (full_depth (with_deletes recursive)) (codes "REPLACE INTO t VALUES(1)") [] in_statement) (an_insert (insert (tokens_of (codes "REPLACE INTO t VALUES(1)")) choice.Replace 2 [] (Some (values ((lit (tokens_of (codes "REPLACE INTO t VALUES(1)")) 5 ∷ []) ∷ []))))) (begun [])) nothing_opened)
  where
    all_fired : Checked (BoundWrite × Opened) → Option (List ℕ)
    all_fired (Ok w) = Some w.0.fires
    all_fired (Err reason) = None

    an_insert : RowParts → InsertParts
    an_insert (Inserts i) = i
    an_insert other = record { choice = choice.Abort; table = no_token; columns = []; source = None }

replaces : (replaced true ≡ Some (0 ∷ [])) × (replaced false ≡ Some [])
unfolding all_statement_rules count tokens_of word_kind the_text_test
replaces = (refl, refl)

-- ---- a view without a trigger that can fire cannot be written

abbrev view_written : List (List ℕ) → Option Cause
view_written triggers = why (may_write_view (around_of [] triggers) (plain_source (Some (codes "v")) (View (codes "v") 0) (record { name = codes "x"; affinity = affinity.Blob; collation = by_bytes } ∷ record { name = codes "y"; affinity = affinity.Blob; collation = by_bytes } ∷ [])) (record { event = AtUpdate; sets = codes "Y" ∷ [] }) (View (codes "v") 0))

views_written : (view_written [] ≡ Some (Misuse (codes "v"))) × (view_written (codes "CREATE TRIGGER g INSTEAD OF DELETE ON v BEGIN SELECT 1; END" ∷ []) ≡ Some (Misuse (codes "v"))) × (view_written (codes "CREATE TRIGGER g INSTEAD OF UPDATE OF x ON v BEGIN SELECT 1; END" ∷ []) ≡ Some (Misuse (codes "v"))) × (view_written (codes "CREATE TRIGGER g INSTEAD OF UPDATE OF y ON V BEGIN SELECT 1; END" ∷ []) ≡ None)
unfolding all_statement_rules count tokens_of word_kind the_text_test
views_written = (refl, refl, refl, refl)
