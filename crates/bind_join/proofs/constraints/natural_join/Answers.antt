use Rattle.bind_join.proofs.ConstraintLaws.{natural-on, natural-plain, natural-using}
use Rattle.bind_join.proofs.constraints.natural_join.Goals as goal

pub returns-in-Unconstrained : goal.returns-in-Unconstrained
returns-in-Unconstrained c = λ i w. natural-plain i c.args.left.now c.args.joining w c.args.constraint.now c.natural_all.result c.in-Unconstrained.is c.natural_all.ensures

pub returns-in-On : goal.returns-in-On
returns-in-On c = λ i w. natural-on i c.args.left.now c.args.joining w c.args.constraint.now c.misused.result _ c.in-On.is c.misused.ensures

pub returns-in-Using : goal.returns-in-Using
returns-in-Using c = λ i w. natural-using i c.args.left.now c.args.joining w c.args.constraint.now c.misused-in-Using.result _ c.in-Using.is c.misused-in-Using.ensures
