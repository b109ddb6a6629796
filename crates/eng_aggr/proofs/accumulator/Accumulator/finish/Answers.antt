use Rattle.std.proofs.Common.{◌∙◌}
use Rattle.eng_aggr.proofs.Finishing.{finished_after}
use Rattle.eng_aggr.proofs.accumulator.Accumulator.finish.Goals as goal

pub returns : goal.returns
returns c = λ f collation rows is. c.finish.ensures ∙ finished_after c.args.self f collation rows is
