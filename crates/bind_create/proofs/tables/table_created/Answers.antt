use Rattle.bind_create.proofs.TableLaws.{table-by}
use Rattle.bind_create.specs.Meant.{creating_of}
use Rattle.bind_source.specs.Arounds.{around_of}
use Rattle.bind_create.proofs.tables.table_created.Goals as goal

pub returns : goal.returns
returns c =
    table-by (around_of c.args.catalog.now c.args.facts.now) c.args.text.now c.args.name c.args.table.now (creating_of c.in_ok-creating.creating) c.created.result c.in_ok-creating.ensures.ok c.created.ensures
