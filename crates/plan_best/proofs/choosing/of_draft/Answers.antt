use Rattle.plan_best.proofs.Fitting.{draft_fits}
use Rattle.plan_tree.specs.declared.access.Order.TheVariants.{Rowid}
use Rattle.plan_best.proofs.choosing.of_draft.Goals as goal

pub returns : goal.returns
returns c = λ params item indexes conjuncts serves. draft_fits params item indexes conjuncts c.args.draft Rowid serves
