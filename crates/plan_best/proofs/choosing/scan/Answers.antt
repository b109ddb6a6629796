use Rattle.plan_best.proofs.Fitting.{scan_fits}
use Rattle.plan_tree.specs.declared.access.Order.TheVariants.{Rowid}
use Rattle.plan_best.proofs.choosing.scan.Goals as goal

pub returns : goal.returns
returns c = λ params item indexes conjuncts none. rw c.new.ensures (scan_fits params item indexes conjuncts Rowid none)
