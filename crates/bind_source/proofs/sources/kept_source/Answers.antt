use Rattle.bind_source.specs.Arounds.{around_of}
use Rattle.bind_source.proofs.SourceLaws.{kept-is}
use Rattle.bind_source.proofs.sources.kept_source.Goals as goal

pub returns : goal.returns
returns c o is =
    kept-is o (around_of c.args.catalog.now c.args.facts.now) c.args.name.now c.args.entry.now c.args.table.now c.declared_source.result is c.in_ok-collations_kept.ensures (c.declared_source.ensures.ok o is) c.declared_source.ensures.mem
