use Rattle.bind_column.specs.Stars.{those_of}
use Rattle.bind_result.proofs.NumberLaws.{nothing-of}
use Rattle.bind_result.proofs.numbering.columns_of_table.Goals as goal

pub returns-in-Err-clause-ok : goal.returns-in-Err-clause-ok
returns-in-Err-clause-ok c = nothing-of (those_of c.args.table.now c.args.own.now) c.in-Err.why c.no_columns.result c.in-Err.ensures c.no_columns.ensures.ok
