-- Every statement: what it comes to where its names are bound, or the first refusal.
use Rattle.std.specs.Prelude.{ℕ, Bool, true, false, ◌&&◌, List, [], Option, Some, None, Ok, Err, if◌then◌else◌, codes}
use Rattle.eng_entry.specs.Entries.{entry_named}
use Rattle.eng_entry.specs.Names.{is_same_name}
use Rattle.eng_entry.specs.declared.entry.Entry.{Entry}
use Rattle.eng_entry.specs.declared.entry.EntryKind.TheVariants as entry_kind
use Rattle.eng_entry.specs.declared.entry.EntryKind.{EntryKind}
use Rattle.eng_value.specs.declared.cause.Cause.TheVariants.{Unknown}
use Rattle.eng_value.specs.declared.cause.NameKind.TheVariants as kind
use Rattle.eng_value.specs.declared.cause.NameKind.{NameKind}
use Rattle.sql_tree.specs.declared.statement.Command.TheVariants as command
use Rattle.sql_tree.specs.declared.statement.Command.{Command}
use Rattle.sql_tree.specs.declared.statement.Explain.{Explain}
use Rattle.sql_tree.specs.declared.statement.ObjectKind.TheVariants as object
use Rattle.sql_tree.specs.declared.statement.ObjectKind.{ObjectKind}
use Rattle.sql_tree.specs.declared.statement.Pragma.{Pragma}
use Rattle.sql_tree.specs.declared.statement.Remove.{Remove}
use Rattle.sql_tree.specs.declared.statement.Statement.{Statement}
use Rattle.sql_tree.specs.declared.statement.Transaction.TheVariants as transaction
use Rattle.sql_tree.specs.declared.statement.Transaction.{Transaction}
use Rattle.sql_words.specs.Refusals.{◌>>=◌}
use Rattle.sql_words.specs.Spelled.{name_at}
use Rattle.sql_words.specs.Spelled.{is_off}
use Rattle.bound_tree.specs.declared.statements.BoundCommand.TheVariants as bound_command
use Rattle.bound_tree.specs.declared.statements.BoundCommand.TheVariants.{Asked, Nothing, Removed, Transacted, Written}
use Rattle.bound_tree.specs.declared.statements.BoundCommand.{BoundCommand}
use Rattle.bound_tree.specs.declared.statements.BoundStatement.{BoundStatement}
use Rattle.bound_tree.specs.declared.statements.BoundTransaction.TheVariants.{Begins, Commits, Releases, RollsBack, RollsBackTo, Saves}
use Rattle.bound_tree.specs.declared.statements.BoundTransaction.{BoundTransaction}
use Rattle.bound_tree.specs.declared.statements.ThingKind.TheVariants.{AModuleTable, ATable, ATrigger, AView, AnIndex}
use Rattle.bound_tree.specs.declared.statements.ThingKind.{ThingKind}
use Rattle.sql_bound.specs.Carriers.{Deletes, Inserts, Queries, RowParts, Updates}
use Rattle.sql_bound.specs.Creates.{create_bound, name_of_entry}
use Rattle.sql_bound.specs.Refusals.{Checked}
use Rattle.sql_bound.specs.Scopes.{Answer, Around, Outer, begun, in_statement}
use Rattle.sql_bound.specs.Trees.{full_depth, of_rows, outer_at}
use Rattle.sql_bound.specs.Triggers.{opening}
use Rattle.sql_bound.specs.Writes.{Begun, Opened, delete_begun, insert_begun, update_begun, write_bound}

-- ---- a command, with the units and the triggers that it opens

abbrev pub plain : BoundCommand → BoundCommand × Opened
plain c = (c, record { units = []; triggers = [] })

abbrev pub nothing_opened : Opened
nothing_opened = record { units = []; triggers = [] }

-- ---- queries and writes

abbrev pub written : Around → Answer Begun → Checked (BoundCommand × Opened)
written around begun_write = write_bound (opening around) around true begun_write nothing_opened >>= λ b. Ok (Written b.0, b.1)

abbrev pub rows_bound : Outer → RowParts → Checked (BoundCommand × Opened)
rows_bound o (Queries q) = q.bound o [] >>= λ a. Ok (Asked a.0.unit, record { units = a.1; triggers = [] })
rows_bound o (Inserts i) = written o.around (insert_begun o i (begun []))
rows_bound o (Updates u) = written o.around (update_begun o u (begun []))
rows_bound o (Deletes d) = written o.around (delete_begun o d (begun []))

-- ---- DROP: a thing of the kind that is named

abbrev pub removed_kind : ObjectKind → NameKind
removed_kind object.Table = kind.Table
removed_kind object.Index = kind.Index
removed_kind object.View = kind.View
removed_kind object.Trigger = kind.Trigger

-- the thing, where an entry is one of the kind
abbrev pub thing_of : ObjectKind → EntryKind → Option ThingKind
thing_of object.Table entry_kind.Table = Some ATable
thing_of object.Table entry_kind.Module = Some AModuleTable
thing_of object.Index entry_kind.Index = Some AnIndex
thing_of object.View entry_kind.View = Some AView
thing_of object.Trigger entry_kind.Trigger = Some ATrigger
thing_of other there = None

abbrev pub thing_meant : ObjectKind → ThingKind
thing_meant object.Table = ATable
thing_meant object.Index = AnIndex
thing_meant object.View = AView
thing_meant object.Trigger = ATrigger

abbrev pub removed : Bool → ObjectKind → List ℕ → Option Entry → Option (ThingKind × Entry) → Checked BoundCommand
removed if_exists k name there (Some t) = Ok (Removed (record { kind = t.0; name = t.1.name; owner = t.1.owner }))
removed true k name there None = Ok (Nothing (thing_meant k) (name_of_entry name there) [])
removed false k name there None = Err (Unknown (removed_kind k) name)

abbrev pub thing_with : Entry → Option ThingKind → Option (ThingKind × Entry)
thing_with entry None = None
thing_with entry (Some k) = Some (k, entry)

abbrev pub thing_there : ObjectKind → Option Entry → Option (ThingKind × Entry)
thing_there k None = None
thing_there k (Some entry) = thing_with entry (thing_of k entry.kind)

abbrev pub entries_of : Around → ObjectKind → List Entry
entries_of around object.Trigger = around.catalog.triggers
entries_of around other = around.catalog.names

abbrev pub remove_of : Bool → ObjectKind → List ℕ → Option Entry → Checked BoundCommand
remove_of if_exists k name there = removed if_exists k name there (thing_there k there)

abbrev pub remove_bound : Outer → Remove → Checked BoundCommand
remove_bound o r = remove_of r.if_exists r.kind (name_at o.text r.name) (entry_named (name_at o.text r.name) (entries_of o.around r.kind))

-- ---- transactions: a savepoint that is named is there

abbrev pub with_savepoint : Outer → List ℕ → BoundTransaction → Checked BoundCommand
with_savepoint o name t = if o.around.facts.savepoint name then Ok (Transacted t) else Err (Unknown kind.Savepoint name)

abbrev pub transaction_bound : Outer → Transaction → Checked BoundCommand
transaction_bound o transaction.Begin = Ok (Transacted Begins)
transaction_bound o transaction.Commit = Ok (Transacted Commits)
transaction_bound o transaction.Rollback = Ok (Transacted RollsBack)
transaction_bound o (transaction.RollbackTo t) = with_savepoint o (name_at o.text t) (RollsBackTo (name_at o.text t))
transaction_bound o (transaction.Savepoint t) = Ok (Transacted (Saves (name_at o.text t)))
transaction_bound o (transaction.Release t) = with_savepoint o (name_at o.text t) (Releases (name_at o.text t))

-- ---- PRAGMA: `foreign_keys = OFF` does nothing, and there is no other

abbrev pub pragma_bound : Outer → Pragma → Checked BoundCommand
pragma_bound o p =
    if is_same_name (name_at o.text p.name) (codes "foreign_keys") && is_off o.text p.value then Ok (bound_command.Pragma (codes "foreign_keys"))
    else Err (Unknown kind.Pragma (name_at o.text p.name))

-- ---- the whole

abbrev pub opening_nothing : Checked BoundCommand → Checked (BoundCommand × Opened)
opening_nothing c = c >>= λ b. Ok (plain b)

abbrev pub command_bound : Outer → Command → Checked (BoundCommand × Opened)
command_bound o (command.Rows r) = rows_bound o (of_rows r)
command_bound o (command.Create c) = opening_nothing (create_bound o c)
command_bound o (command.Remove r) = opening_nothing (remove_bound o r)
command_bound o (command.Transaction t) = opening_nothing (transaction_bound o t)
command_bound o (command.Pragma p) = opening_nothing (pragma_bound o p)

abbrev pub statement_with : Option Explain → BoundCommand × Opened → BoundStatement
statement_with explain b = record { explain = explain; units = b.1.units; triggers = b.1.triggers; command = b.0 }

-- a statement of this text over a catalog, and what hosts and the connection tell
abbrev pub bound_of : Around → List ℕ → Statement → Checked BoundStatement
bound_of around text s =
    command_bound (outer_at around (full_depth around) text [] in_statement) s.command >>= λ b. Ok (statement_with s.explain b)
