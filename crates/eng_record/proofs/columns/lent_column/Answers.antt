use Rattle.std.proofs.Common.{sym, subst}
use Rattle.eng_record.specs.declared.columns.Lent.TheVariants as lent
use Rattle.eng_record.specs.Columns.{column_at}
use Rattle.eng_record.specs.Lent.{LendsRead}
use Rattle.eng_record.proofs.ColumnSteps.{column_fault, column_there}
use Rattle.eng_record.proofs.Lending.{fault_lends, lends_column}
use Rattle.eng_record.proofs.columns.lent_column.Goals as goal

pub returns-in-Ok-clause-exact : goal.returns-in-Ok-clause-exact
returns-in-Ok-clause-exact c =
    subst (LendsRead c.lent_at.result) (sym (column_there c.args.place c.args.bytes.now c.in-Ok.kind c.in-Ok.bodies.now c.in-Ok.ensures.exact)) c.lent_at.ensures

pub returns-in-Ok-clause-row : goal.returns-in-Ok-clause-row
returns-in-Ok-clause-row c = λ row is. lends_column c.lent_at.result c.args.bytes.now row c.args.place (returns-in-Ok-clause-exact c) is

pub returns-in-Err-clause-exact : goal.returns-in-Err-clause-exact
returns-in-Err-clause-exact c = fault_lends c.in-Err.field-0 (column_at c.args.place c.args.bytes.now) c.in-Err.ensures.no_memory (column_fault c.in-Err.field-0 c.args.place c.args.bytes.now c.in-Err.ensures.exact)

pub returns-in-Err-clause-row : goal.returns-in-Err-clause-row
returns-in-Err-clause-row c = λ row is. lends_column lent.Other c.args.bytes.now row c.args.place (returns-in-Err-clause-exact c) is
