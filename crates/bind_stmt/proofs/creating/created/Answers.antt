use Rattle.std.proofs.Common.{◌≤◌, length, arith, Some, ap, map, subst, sym, ◌∙◌}
use Rattle.std.proofs.lemmas.Grind.{common_steps}
use Rattle.eng_value.specs.declared.limits.TheConstants.{MAX_COLUMNS}
use Rattle.sql_meaning.specs.Declarations.{column_of}
use Rattle.sql_meaning.specs.Running.{entry_with}
use Rattle.sql_meaning.specs.Runnables.{Creates}
use Rattle.bind_stmt.specs.Binds.{AnswersBy, IsBound}
use Rattle.bind_stmt.proofs.Steps.{columns-are, created-is, indexed-is, rowid-is}
use Rattle.bind_stmt.proofs.creating.created.Goals as goal

pub returns-in_ok-rowid_of-in-Table : goal.returns-in_ok-rowid_of-in-Table
returns-in_ok-rowid_of-in-Table c number =
    let s = c.args.statement.now in
    let text = c.args.text.now in
    let few : length c.in-Table.table.columns ≤ MAX_COLUMNS = grind (arith, common_steps) in
    let made = c.in_ok-declared_columns-in-Table.ensures ∙ ap (map (column_of text)) c.as_slice.ensures in
    (Creates (entry_with number text c.args.creation.now.name s), created-is c.args.tables.now number text s c.args.creation.now c.in-Create.create c.in-Table.table c.in-Create.is c.in-Table.is few, (c.in_ok-clone-in-Table.ensures.cases, columns-are text s c.in-Create.create c.in-Table.table c.in-Create.is c.in-Table.is few ∙ ap Some (sym made), c.in_ok-rowid_of-in-Table.ensures.ok ∙ sym (rowid-is text s c.in-Create.create c.in-Table.table c.in-Create.is c.in-Table.is)))

pub returns-in-Index : goal.returns-in-Index
returns-in-Index c number =
    let s = c.args.statement.now in
    let text = c.args.text.now in
    subst (λ r. AnswersBy IsBound r c.indexed.result) (sym (indexed-is c.args.tables.now number text s c.args.creation.now c.in-Create.create c.in-Index.field-0 c.in-Create.is c.in-Index.is)) c.indexed.ensures
