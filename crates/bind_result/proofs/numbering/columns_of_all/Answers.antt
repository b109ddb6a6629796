use Rattle.bind_column.specs.Stars.{all_of}
use Rattle.bind_result.proofs.NumberLaws.{nothing-of}
use Rattle.bind_result.proofs.numbering.columns_of_all.Goals as goal

pub returns-in-Err-clause-ok : goal.returns-in-Err-clause-ok
returns-in-Err-clause-ok c = nothing-of (all_of c.args.own.now) c.in-Err.why c.no_columns.result c.in-Err.ensures c.no_columns.ensures.ok
