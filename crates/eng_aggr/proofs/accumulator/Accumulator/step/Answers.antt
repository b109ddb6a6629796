use Rattle.std.proofs.lemmas.Result.{on_ok_weaker}
use Rattle.eng_aggr.proofs.Stepping.{has_room, stepped_more}
use Rattle.eng_aggr.proofs.accumulator.Accumulator.step.Goals as goal

pub step-requires : goal.step-requires
step-requires c = has_room c.args.self.now c.requires.few

pub returns-clause-stepped : goal.returns-clause-stepped
returns-clause-stepped c = λ f collation rows is.
    on_ok_weaker c.step.result (λ e. stepped_more c.args.self.now f collation rows c.args.args.now c.step.new.self is e) c.step.ensures.stepped
