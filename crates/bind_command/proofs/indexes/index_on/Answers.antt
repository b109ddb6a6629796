use Rattle.std.proofs.Common.{rules}
use Rattle.bind_command.specs.Tops.{around_of}
use Rattle.bind_command.proofs.IndexLaws.{index-by}
use Rattle.bind_command.proofs.indexes.index_on.Goals as goal

pub returns : goal.returns
returns c =
    index-by (around_of c.args.catalog.now c.args.facts.now) c.args.text.now c.args.called c.args.index.now c.args.entry.now c.args.table.now _ c.index_over.result
    (search rules) (search rules) c.index_over.ensures
