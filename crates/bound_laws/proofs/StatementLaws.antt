-- Whole statements name what is there.
use Rattle.std.proofs.Common.{◌≡◌, ◌≤◌, ℕ, Bool, true, false, ◌&&◌, cond, List, [], ◌∷◌, length, Option, Some, None, is_some, codes, Ok, refl, subst, arith}
use Rattle.std.specs.List.{AllByRecursion}
use Rattle.eng_entry.specs.Names.{is_same_name}
use Rattle.eng_entry.specs.declared.entry.Entry.{Entry}
use Rattle.sql_tree.specs.declared.statement.Command.TheVariants as command
use Rattle.sql_tree.specs.declared.statement.Command.{Command}
use Rattle.sql_tree.specs.declared.statement.Create.{Create}
use Rattle.sql_tree.specs.declared.statement.Definition.TheVariants as definition
use Rattle.sql_tree.specs.declared.statement.Definition.{Definition}
use Rattle.sql_tree.specs.declared.statement.ObjectKind.{ObjectKind}
use Rattle.sql_tree.specs.declared.statement.Pragma.{Pragma}
use Rattle.sql_tree.specs.declared.statement.Statement.{Statement}
use Rattle.sql_tree.specs.declared.statement.Transaction.TheVariants as transaction
use Rattle.sql_tree.specs.declared.statement.Transaction.{Transaction}
use Rattle.sql_words.specs.Spelled.{is_off, name_at}
use Rattle.bound_tree.specs.declared.statements.BoundCommand.{BoundCommand}
use Rattle.bound_tree.specs.declared.statements.BoundStatement.{BoundStatement}
use Rattle.bound_tree.specs.declared.statements.BoundTransaction.{BoundTransaction}
use Rattle.bound_tree.specs.declared.statements.ThingKind.{ThingKind}
use Rattle.bound_tree.specs.declared.units.BoundUnit.{BoundUnit}
use Rattle.bound_tree.specs.declared.writes.BoundTrigger.{BoundTrigger}
use Rattle.sql_bound.specs.Carriers.{Deletes, Inserts, Queries, RowParts, Updates}
use Rattle.sql_bound.specs.Creates.{create_bound, create_there, created_by, entries_beside, is_free, name_of_entry, nothing_created}
use Rattle.sql_bound.specs.Limits.{most_queries}
use Rattle.sql_bound.specs.Refusals.{Checked}
use Rattle.sql_bound.specs.Scopes.{Answer, Around, Outer, begun, in_statement}
use Rattle.sql_bound.specs.Statements.{bound_of, command_bound, entries_of, nothing_opened, opening_nothing, pragma_bound, remove_bound, removed, rows_bound, statement_with, thing_there, transaction_bound, with_savepoint, written}
use Rattle.sql_bound.specs.Trees.{full_depth, of_rows, outer_at}
use Rattle.sql_bound.specs.Triggers.{opening}
use Rattle.sql_bound.specs.Writes.{Begun, Opened, delete_begun, insert_begun, update_begun}
use Rattle.eng_entry.specs.Entries.{entry_named}
use Rattle.bound_laws.specs.Order.{AddsUnits}
use Rattle.bound_laws.specs.Reach.{Serves}
use Rattle.bound_laws.specs.Writes.{CommandIsWithin, StatementIsWithin, TriggerIsWithin}
use Rattle.bound_laws.proofs.Lists.{BeginsWith, adds_nothing, begins_itself, order_of_all}
use Rattle.bound_laws.proofs.PlainLaws.{IsPlain, PlainSteps}
use Rattle.bound_laws.proofs.QueryLaws.{begun_plain}
use Rattle.bound_laws.proofs.SourceLaws.{nothing_needed}
use Rattle.bound_laws.proofs.States.{OuterFits}
use Rattle.bound_laws.proofs.TriggerLaws.{OpenedFits, opening_well, rows_good, write_stands}
use Rattle.bound_laws.proofs.Triples.{Gives, given, gives, past, refuses, seq}
use Rattle.bound_laws.proofs.ViewLaws.{levels_fit}
use Rattle.bound_laws.proofs.WriteLaws.{BegunFits, GoodRows, delete_stays, insert_stays, update_stays}

-- a command with what it opens
record CommandStands (c : BoundCommand × Opened) : Type 0 where
  units : AddsUnits [] c.1.units
  triggers : OpenedFits c.1
  command : CommandIsWithin c.1.units (length c.1.triggers) c.0

-- ---- queries and writes

module _ (o : Outer) (fits : OuterFits [] [] o) where
  write_is : (m : Answer Begun) → Gives (PlainSteps [] [] BegunFits (begun [])) m → Gives CommandStands (written o.around m)
  write_is m well =
      seq _ _ _ _ (write_stands (opening o.around) (opening_well o.around (length o.around.catalog.triggers)) o.around [] tt true m nothing_opened tt well)
      (λ b hb. gives _ _ (record { units = hb.opens.units; triggers = hb.fits; command = hb.holds b.1.units (length b.1.triggers) (begins_itself b.1.units) (omega arith) }))

  start : IsPlain [] [] (begun [])
  start = begun_plain [] [] [] (begins_itself [])

  rows_are : (r : RowParts) → GoodRows r → Gives CommandStands (rows_bound o r)
  rows_are (Queries q) good =
      seq _ _ _ _ (good.asks [] [] o fits [] (begins_itself [])) (λ a ha. gives _ _ (record {
        units = ha.adds;
        triggers = tt;
        command = (length a.0.columns, subst (λ needs. Serves a.1 a.0.unit (length needs) (length a.0.columns)) (nothing_needed a.0.needs ha.needs) ha.serves);
      }))
  rows_are (Inserts i) good = write_is (insert_begun o i (begun [])) (insert_stays [] [] o fits i (begun []) good start refl)
  rows_are (Updates u) good = write_is (update_begun o u (begun [])) (update_stays [] [] o fits u (begun []) good start refl)
  rows_are (Deletes d) good = write_is (delete_begun o d (begun [])) (delete_stays [] [] o fits d (begun []) good start refl)

-- ---- others name nothing

abbrev NamesNothing : BoundCommand → Type 0
NamesNothing c = CommandIsWithin [] 0 c

by_test : (test : Bool) (m k : Checked BoundCommand) → Gives NamesNothing m → Gives NamesNothing k → Gives NamesNothing (cond test m k)
by_test true m k h j = h
by_test false m k h j = j

nothing_is : (o : Outer) (name : List ℕ) (d : Definition) → NamesNothing (nothing_created o name d)
nothing_is o name (definition.Table t) = tt
nothing_is o name (definition.Index i) = tt
nothing_is o name (definition.View v) = tt
nothing_is o name (definition.Trigger t) = tt
nothing_is o name (definition.VirtualTable v) = tt

create_is : (o : Outer) (c : Create) (name : List ℕ) (there : Option Entry) → Gives NamesNothing (create_there o c name there)
create_is o c name there =
    by_test (c.if_not_exists && is_some there) _ _ (gives _ _ (nothing_is o (name_of_entry name there) c.definition))
    (past (is_free name there) _ _ (λ u. past (created_by o name c.definition) _ _ (λ made. gives _ _ tt)))

removed_is : (if_exists : Bool) (k : ObjectKind) (name : List ℕ) (there : Option Entry) (t : Option (ThingKind × Entry)) → Gives NamesNothing (removed if_exists k name there t)
removed_is true k name there None = gives _ _ tt
removed_is false k name there None = refuses _ _
removed_is true k name there (Some t) = gives _ _ tt
removed_is false k name there (Some t) = gives _ _ tt

savepoint_is : (o : Outer) (name : List ℕ) (t : BoundTransaction) → Gives NamesNothing (with_savepoint o name t)
savepoint_is o name t = by_test (o.around.facts.savepoint name) _ _ (gives _ _ tt) (refuses _ _)

transaction_is : (o : Outer) (t : Transaction) → Gives NamesNothing (transaction_bound o t)
transaction_is o transaction.Begin = gives _ _ tt
transaction_is o transaction.Commit = gives _ _ tt
transaction_is o transaction.Rollback = gives _ _ tt
transaction_is o (transaction.RollbackTo t) = savepoint_is o (name_at o.text t) _
transaction_is o (transaction.Savepoint t) = gives _ _ tt
transaction_is o (transaction.Release t) = savepoint_is o (name_at o.text t) _

pragma_is : (o : Outer) (p : Pragma) → Gives NamesNothing (pragma_bound o p)
pragma_is o p = by_test (is_same_name (name_at o.text p.name) (codes "foreign_keys") && is_off o.text p.value) _ _ (gives _ _ tt) (refuses _ _)

opens_none : (m : Checked BoundCommand) → Gives NamesNothing m → Gives CommandStands (opening_nothing m)
opens_none m h = seq _ _ _ _ h (λ c hc. gives _ _ (record { units = adds_nothing []; triggers = tt; command = hc }))

-- ---- any

command_is : (o : Outer) → OuterFits [] [] o → (c : Command) → Gives CommandStands (command_bound o c)
command_is o fits (command.Rows r) = rows_are o fits (of_rows r) (rows_good r)
command_is o fits (command.Create c) = opens_none (create_bound o c) (create_is o c (name_at o.text c.name) (entry_named (name_at o.text c.name) (entries_beside o.around c.definition)))
command_is o fits (command.Remove r) =
    let there = entry_named (name_at o.text r.name) (entries_of o.around r.kind) in
    opens_none (remove_bound o r) (removed_is r.if_exists r.kind (name_at o.text r.name) there (thing_there r.kind there))
command_is o fits (command.Transaction t) = opens_none (transaction_bound o t) (transaction_is o t)
command_is o fits (command.Pragma p) = opens_none (pragma_bound o p) (pragma_is o p)

pub statement_is : (around : Around) (text : List ℕ) (s : Statement) (b : BoundStatement) → bound_of around text s ≡ Ok b → StatementIsWithin b
statement_is around text s b is = given StatementIsWithin (bound_of around text s) b (seq _ _ _ _ (command_is (outer_at around (full_depth around) text [] in_statement) fits s.command) (λ c hc. gives _ _ (ends c hc))) is where
  fits : OuterFits [] [] (outer_at around (full_depth around) text [] in_statement)
  fits = record { levels = tt; tables = tt; depth = levels_fit around most_queries }

  now : (op : Opened) (ts : List BoundTrigger) → AllByRecursion (λ (t : BoundTrigger). (us : List BoundUnit) (n : ℕ) → BeginsWith op.units us → length op.triggers ≤ n → TriggerIsWithin us n t) ts → AllByRecursion (TriggerIsWithin op.units (length op.triggers)) ts
  now op [] all = tt
  now op (t ∷ ts) all = (all.0 op.units (length op.triggers) (begins_itself op.units) (omega arith), now op ts all.1)

  ends : (c : BoundCommand × Opened) → CommandStands c → StatementIsWithin (statement_with s.explain c)
  ends c hc = record { units = order_of_all [] c.1.units hc.units tt; triggers = now c.1 c.1.triggers hc.triggers; command = hc.command }
