-- What statements come to that are ready to run, and in how many instructions at most.
use Rattle.std.specs.Prelude.{⊤, ℕ, ◌&&◌, true, List, [], ℤ, if◌then◌else◌, Option, None, Some, slice_set}
use Rattle.eng_entry.specs.Entries.{Entries, with_entry, without_indexes, without_name}
use Rattle.eng_index.specs.Keys.{has_doubles}
use Rattle.eng_value.specs.Causes.{only}
use Rattle.eng_value.specs.declared.cause.Cause.TheVariants.{Constraint}
use Rattle.eng_value.specs.declared.cause.ConstraintKind.TheVariants.{Unique}
use Rattle.eng_entry.specs.declared.entry.Space.TheVariants as space
use Rattle.eng_value.specs.Environments.{Surroundings}
use Rattle.eng_value.specs.HostMeanings.{HostMeanings, nobody}
use Rattle.eng_value.specs.declared.value.Value.{Value}
use Rattle.gen_query.specs.Queries.{items_in, query_run, query_steps, values_run, values_steps}
use Rattle.gen_write.specs.Writes.{create_run, create_steps, drop_run, drop_steps, index_run, index_steps, nothing_run, nothing_steps, put_run, put_steps}
use Rattle.bound_tree.specs.Exprs.{BoundExpr}
use Rattle.sql_meaning.specs.declared.bound.BoundInsert.{BoundInsert}
use Rattle.sql_meaning.specs.declared.bound.BoundSelect.{BoundSelect}
use Rattle.sql_meaning.specs.Statement.{Outcome, create_outcome, done, failed, nothing, query_outcome, refused, shown_rows}
use Rattle.sql_meaning.specs.World.{State, context, rows_at}
use Rattle.sql_tree.specs.declared.statement.Explain.{Explain}
use Rattle.bind_stmt.specs.declared.statement.DroppedTable.{DroppedTable}
use Rattle.vm_code.specs.Machine.{World as Lists, Run, Shared, Ending, Finished, Failed, world_of}
use Rattle.engine.specs.declared.preparing.NewIndexEntry.{NewIndexEntry}
use Rattle.engine.specs.declared.preparing.Ready.{Ready}
use Rattle.engine.specs.declared.preparing.Ready.TheVariants as ready
use Rattle.engine.specs.Held.{state_of}

-- what a program goes by; nobody answers what a function of a host asks
abbrev pub surroundings_in : HostMeanings → List Value → Lists → Surroundings
surroundings_in hosts params lists = record { params = params; hosts = hosts; world = lists; ask = nobody }

-- without the table of this name, its indexes and the rows under its number
abbrev pub drop_outcome_in : Entries → Lists → ℕ → ℤ → DroppedTable → Outcome
drop_outcome_in entries lists changes last d = done [] (state_of (without_name space.Names d.name (without_indexes d.name entries)) (slice_set lists d.table []) changes last)

-- with the entry of an index, where no two rows of its table share the key that may not
abbrev pub index_outcome_in : Entries → Lists → ℕ → ℤ → NewIndexEntry → Outcome
index_outcome_in entries lists changes last n =
    if n.index.unique && has_doubles n.index.terms (rows_at lists n.index.table) then failed (state_of entries lists changes last) (only (Constraint Unique n.index.table_name))
    else done [] (state_of (with_entry n.entry entries) lists changes last)

-- without the entry of an index
abbrev pub unindex_outcome_in : Entries → Lists → ℕ → ℤ → List ℕ → Outcome
unindex_outcome_in entries lists changes last name = done [] (state_of (without_name space.Names name entries) lists changes last)

-- what is shown of a table
abbrev pub query_outcome_in : HostMeanings → Entries → Lists → ℕ → ℤ → List Value → BoundSelect → Outcome
query_outcome_in hosts entries lists changes last params q =
    query_outcome (state_of entries lists changes last) (items_in q (surroundings_in hosts params lists))

-- what is shown of rows of expressions
abbrev pub values_outcome_in : HostMeanings → Entries → Lists → ℕ → ℤ → List Value → List (List BoundExpr) → Outcome
values_outcome_in hosts entries lists changes last params rows =
    query_outcome (state_of entries lists changes last) (shown_rows (context hosts (state_of entries lists changes last) params) rows)

-- what a write's run leaves: where it fails, all is as before
abbrev pub left_by : Entries → Lists → ℕ → ℤ → Ending → Shared → Outcome
left_by entries lists changes last Finished x =
    record (nothing (state_of entries (world_of x) x.written.changes x.written.last_rowid)) { given = x.given; told = x.written.told; changed = x.written.changes }
left_by entries lists changes last (Failed causes) x = record (refused (state_of entries lists changes last) causes) { given = x.given }

abbrev pub put_outcome_in : HostMeanings → Entries → Lists → ℕ → ℤ → List Value → BoundInsert → Outcome
put_outcome_in hosts entries lists changes last params b =
    let run = put_run b (surroundings_in hosts params lists) last in left_by entries lists changes last run.ending run.shared

-- of any statement
abbrev pub outcome_in : HostMeanings → Entries → Lists → ℕ → ℤ → List Value → Ready → Outcome
outcome_in hosts entries lists changes last params (ready.Create n) = create_outcome (state_of entries lists changes last) n.entry
outcome_in hosts entries lists changes last params (ready.Drop d) = drop_outcome_in entries lists changes last d
outcome_in hosts entries lists changes last params (ready.CreateIndex n) = index_outcome_in entries lists changes last n
outcome_in hosts entries lists changes last params (ready.DropIndex name) = unindex_outcome_in entries lists changes last name
outcome_in hosts entries lists changes last params (ready.Insert b) = put_outcome_in hosts entries lists changes last params b
outcome_in hosts entries lists changes last params (ready.Select q) = query_outcome_in hosts entries lists changes last params q
outcome_in hosts entries lists changes last params (ready.Values rows) = values_outcome_in hosts entries lists changes last params rows
outcome_in hosts entries lists changes last params ready.Nothing = nothing (state_of entries lists changes last)

abbrev pub steps_in : Surroundings → Ready → ℕ
steps_in x (ready.Create n) = create_steps x
steps_in x (ready.Drop d) = drop_steps x
steps_in x (ready.CreateIndex n) = index_steps x
steps_in x (ready.DropIndex name) = nothing_steps x
steps_in x (ready.Insert b) = put_steps b x
steps_in x (ready.Select q) = query_steps q x
steps_in x (ready.Values rows) = values_steps rows x
steps_in x ready.Nothing = nothing_steps x

-- ---- a statement that may stand behind EXPLAIN

-- nothing is done then, and what is given are the lines of how it would be
abbrev pub outcome_behind : Option Explain → State → Outcome → Outcome
outcome_behind None state o = o
outcome_behind (Some how) state o = record (nothing state) { shows_plan = true }

abbrev pub steps_behind : Option Explain → ℕ → ℕ
steps_behind None steps = steps
steps_behind (Some how) steps = 0

-- ---- the run of a statement's program, and what is left behind it

abbrev pub run_in : Ready → Surroundings → ℤ → Run
run_in (ready.Create n) x last = create_run x last
run_in (ready.Drop d) x last = drop_run d.table x last
run_in (ready.CreateIndex n) x last = index_run n.index.table n.index.table_name n.index.terms n.index.unique x last
run_in (ready.DropIndex name) x last = nothing_run x last
run_in (ready.Insert b) x last = put_run b x last
run_in (ready.Select q) x last = query_run q x last
run_in (ready.Values rows) x last = values_run rows x last
run_in ready.Nothing x last = nothing_run x last

-- any but one that creates
abbrev pub IsOther : Ready → Type 0
IsOther (ready.Create n) = ⊥
IsOther (ready.CreateIndex n) = ⊥
IsOther r = ⊤

-- where a run that came to its end changed so many rows and put the last one under this rowid
abbrev pub state_after : Ready → Entries → Lists → ℕ → ℤ → ℕ → ℤ → State
state_after (ready.Create n) entries lists changes last changed rowid = state_of entries lists changes last
state_after (ready.Drop d) entries lists changes last changed rowid = state_of (without_name space.Names d.name (without_indexes d.name entries)) lists changes last
state_after (ready.CreateIndex n) entries lists changes last changed rowid = state_of entries lists changes last
state_after (ready.DropIndex name) entries lists changes last changed rowid = state_of (without_name space.Names name entries) lists changes last
state_after (ready.Insert b) entries lists changes last changed rowid = state_of entries lists changed rowid
state_after (ready.Select q) entries lists changes last changed rowid = state_of entries lists changes last
state_after (ready.Values rows) entries lists changes last changed rowid = state_of entries lists changes last
state_after ready.Nothing entries lists changes last changed rowid = state_of entries lists changes last

abbrev pub changed_by : Ready → ℕ → ℕ
changed_by (ready.Insert b) changed = changed
changed_by r changed = 0
