-- Commands as code has them, from what the steps come to.
use Rattle.std.proofs.Common.{◌≡◌, ℕ, List, [], None, Result, true, sym, subst}
use Rattle.bind_command.specs.Tops.{top_of}
use Rattle.bind_query.specs.Scopes.{AnswersAs, in_text, outer_of}
use Rattle.bind_query.specs.Where.{Where}
use Rattle.bind_target.specs.Meant.{opened_meant}
use Rattle.bind_target.specs.declared.written.Opened.{Opened as OpenedHere}
use Rattle.binder.specs.Commands.{command_meant, write_command}
use Rattle.bound_tree.specs.declared.statements.BoundCommand.{BoundCommand}
use Rattle.bound_tree.specs.declared.units.BoundUnit.{BoundUnit}
use Rattle.eng_entry.specs.Entries.{Entries}
use Rattle.eng_value.specs.declared.cause.Cause.{Cause}
use Rattle.sql_bound.specs.Scopes.{Answer, Around, Outer, in_statement}
use Rattle.sql_bound.specs.Statements.{command_bound, nothing_opened, rows_bound, written}
use Rattle.sql_bound.specs.Trees.{of_rows}
use Rattle.sql_bound.specs.Triggers.{opening}
use Rattle.sql_bound.specs.Writes.{Begun, Opened, write_bound}
use Rattle.sql_bound.specs.declared.facts.HostFacts.{HostFacts}
use Rattle.sql_tree.specs.declared.statement.Command.TheVariants as command
use Rattle.sql_tree.specs.declared.statement.Command.{Command}
use Rattle.sql_tree.specs.declared.statement.RowCommand.{RowCommand}

pub written-by : (around : Around) (b : List BoundUnit → Answer Begun) (first : OpenedHere) (r : Result (BoundCommand × OpenedHere) Cause)
    → opened_meant first ≡ nothing_opened → AnswersAs command_meant (write_command (write_bound (opening around) around true (b first.units) (opened_meant first))) r
    → AnswersAs command_meant (written around (b [])) r
written-by around b first r is h =
    subst (λ (o : Opened). AnswersAs command_meant (write_command (write_bound (opening around) around true (b o.units) o)) r) is h

pub rows-by : (o : Outer) (t u : RowCommand) (r : Result (BoundCommand × OpenedHere) Cause)
    → t ≡ u → AnswersAs command_meant (rows_bound o (of_rows u)) r → AnswersAs command_meant (rows_bound o (of_rows t)) r
rows-by o t u r is h = subst (λ (x : RowCommand). AnswersAs command_meant (rows_bound o (of_rows x)) r) (sym is) h

pub command-rows : (catalog : Entries) (facts : HostFacts) (text : List ℕ) (c : Command) (rows : RowCommand) (w : Where) (r : Result (BoundCommand × OpenedHere) Cause)
    → c ≡ command.Rows rows → w ≡ in_text text None catalog facts in_statement → AnswersAs command_meant (rows_bound (outer_of w [] []) (of_rows rows)) r
    → AnswersAs command_meant (command_bound (top_of catalog facts text) c) r
command-rows catalog facts text c rows w r is same h =
    subst (λ (x : Command). AnswersAs command_meant (command_bound (top_of catalog facts text) x) r) (sym is)
    (subst (λ (v : Where). AnswersAs command_meant (rows_bound (outer_of v [] []) (of_rows rows)) r) same h)
