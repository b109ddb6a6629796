use Rattle.std.proofs.Common.{◌≡◌, Ok, subst}
use Rattle.std.proofs.lemmas.Result.{err_from_is_err_and}
use Rattle.eng_record.specs.Columns.{column_at}
use Rattle.eng_record.specs.Reading.{Gives}
use Rattle.eng_record.proofs.ColumnSteps.{column_fault, column_is, column_there, value_fault, value_there}
use Rattle.eng_record.proofs.columns.column.Goals as goal

pub returns-in_err-kind-clause-exact : goal.returns-in_err-kind-clause-exact
returns-in_err-kind-clause-exact c =
    let p = err_from_is_err_and c.from_residual.result c.from_residual.ensures.1 in
    rw (p.1, p.2) (column_fault c.in_err-kind.field-0.0 c.args.place c.args.bytes.now c.in_err-kind.ensures.exact)

pub returns-in_err-kind-clause-row : goal.returns-in_err-kind-clause-row
returns-in_err-kind-clause-row c = λ row is. subst (Gives (λ v. v) c.from_residual.result) (column_is c.args.bytes.now row c.args.place is) (returns-in_err-kind-clause-exact c)

pub returns-in_err-value-clause-exact : goal.returns-in_err-value-clause-exact
returns-in_err-value-clause-exact c =
    let p = err_from_is_err_and c.from_residual-in_err-value.result c.from_residual-in_err-value.ensures.1 in
    rw (p.1, p.2) (value_fault c.in_err-value.field-0.0 c.in_ok-kind.kind c.in_ok-kind.bodies.now (column_at c.args.place c.args.bytes.now) (column_there c.args.place c.args.bytes.now c.in_ok-kind.kind c.in_ok-kind.bodies.now c.in_ok-kind.ensures.exact) c.in_err-value.ensures)

pub returns-in_err-value-clause-row : goal.returns-in_err-value-clause-row
returns-in_err-value-clause-row c = λ row is. subst (Gives (λ v. v) c.from_residual-in_err-value.result) (column_is c.args.bytes.now row c.args.place is) (returns-in_err-value-clause-exact c)

pub returns-clause-exact : goal.returns-clause-exact
returns-clause-exact c =
    value_there c.in_ok-kind.kind c.in_ok-kind.bodies.now (column_at c.args.place c.args.bytes.now) c.in_ok-value.value _ (column_there c.args.place c.args.bytes.now c.in_ok-kind.kind c.in_ok-kind.bodies.now c.in_ok-kind.ensures.exact) c.in_ok-value.ensures

pub returns-clause-row : goal.returns-clause-row
returns-clause-row c = λ row is. subst (λ r. r ≡ Ok c.in_ok-value.value) (column_is c.args.bytes.now row c.args.place is) (returns-clause-exact c)
