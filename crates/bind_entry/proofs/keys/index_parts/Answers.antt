use Rattle.std.proofs.Common.{◌∙◌}
use Rattle.sql_bound.specs.HostFacts.{facts_of}
use Rattle.bind_entry.proofs.KeyLaws.{parts-step}
use Rattle.bind_entry.proofs.keys.index_parts.Goals as goal

pub loop-part-preserved : goal.loop-part-preserved
loop-part-preserved c =
    c.loop-part.invariant
    ∙ parts-step (facts_of c.args.facts.now) c.args.text.now c.args.columns.now c.loop-part.parts c.put_part.new.parts c.args.written.now c.loop-part.part-index _ c.in_ok-found.found c.loop-part-test.true c.in_ok-found.ensures.ok c.in_ok-put_part.ensures.ok
