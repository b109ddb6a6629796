use Rattle.sql_bound.specs.HostFacts.{facts_of}
use Rattle.bind_command.proofs.IndexLaws.{part-is}
use Rattle.bind_command.proofs.indexes.part_is_there.Goals as goal

pub returns : goal.returns
returns c =
    part-is (facts_of c.args.facts.now) c.args.text.now c.args.columns.now c.args.part.now _ _ c.in_ok-name.ensures.ok c.in_ok-is_column.ensures c.written_is_there.ensures
