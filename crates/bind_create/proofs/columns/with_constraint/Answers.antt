use Rattle.bind_create.proofs.HoldLaws.{check-by, default-by}
use Rattle.bind_create.specs.Meant.{creating_of}
use Rattle.bind_create.proofs.columns.with_constraint.Goals as goal

pub returns-in-Check : goal.returns-in-Check
returns-in-Check c =
    check-by (creating_of c.args.creating.now) c.args.constraint.now _ c.args.declaring.now c.constraint_holds.result c.in-Check.is (c.constraint_holds.ensures c.args.declaring.now)

pub returns-in-Default : goal.returns-in-Default
returns-in-Default c =
    default-by (creating_of c.args.creating.now) c.args.constraint.now _ c.args.declaring.now c.constraint_holds-in-Default.result c.in-Default.is (c.constraint_holds-in-Default.ensures c.args.declaring.now)
