use Rattle.std.proofs.Common.{◌≡◌, Ok, Err, sym, ap, ◌∙◌, arith}
use Rattle.std.specs.List.{flat_map}
use Rattle.std.proofs.lemmas.Grind.{common_steps}
use Rattle.sql_bound.specs.HostFacts.{facts_of}
use Rattle.sql_bound.specs.Lasting.{all_there, of_column}
use Rattle.sql_tree.specs.declared.statement.ColumnDefinition.{ColumnDefinition}
use Rattle.bind_entry.proofs.ThereLaws.{step-passed, step-refused}
use Rattle.bind_entry.proofs.lasting.columns_there.Goals as goal

pub loop-column-preserved : goal.loop-column-preserved
loop-column-preserved c =
    let facts = facts_of c.args.facts.now in
    let text = c.args.text.now in
    let x = c.column-item.result in
    c.loop-column.invariant
    ∙ step-passed of_column facts text c.args.columns.now c.loop-column.column-index x c.loop-column-test.true
    (ap (λ (d : ColumnDefinition). all_there facts text (of_column d)) (sym c.column-item.is) ∙ c.in_ok-column_there.ensures)

pub returns-in_err-column_there : goal.returns-in_err-column_there
returns-in_err-column_there c =
    let facts = facts_of c.args.facts.now in
    let text = c.args.text.now in
    let x = c.column-item.result in
    let why = c.in_err-column_there.field-0.0 in
    let refused : all_there facts text (of_column x) ≡ Err why → all_there facts text (flat_map of_column c.args.columns.now) ≡ Err why = λ h.
    c.loop-column.invariant
    ∙ step-refused of_column facts text c.args.columns.now c.loop-column.column-index x why c.loop-column-test.true
    (ap (λ (d : ColumnDefinition). all_there facts text (of_column d)) (sym c.column-item.is) ∙ h) in
    grind (arith, common_steps, refused)
