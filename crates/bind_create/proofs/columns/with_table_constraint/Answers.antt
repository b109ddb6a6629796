use Rattle.bind_create.proofs.HoldLaws.{table-check-by, table-primary-by, table-unique-by}
use Rattle.bind_create.specs.Meant.{creating_of}
use Rattle.bind_create.proofs.columns.with_table_constraint.Goals as goal

pub returns-in_ok-with_primary-in-PrimaryKey : goal.returns-in_ok-with_primary-in-PrimaryKey
returns-in_ok-with_primary-in-PrimaryKey c =
    table-primary-by (creating_of c.args.creating.now) c.args.constraint.now _ c.as_slice.result.now c.args.declaring.now c.with_primary.new.declaring c.key_of.result
    c.in-PrimaryKey.is c.as_slice.ensures c.in_ok-with_primary-in-PrimaryKey.ensures (c.key_of.ensures c.with_primary.new.declaring)

pub returns-in-Unique : goal.returns-in-Unique
returns-in-Unique c =
    table-unique-by (creating_of c.args.creating.now) c.args.constraint.now _ c.as_slice-in-Unique.result.now c.args.declaring.now c.key_of-in-Unique.result
    c.in-Unique.is c.as_slice-in-Unique.ensures (c.key_of-in-Unique.ensures c.args.declaring.now)

pub returns-in-Check : goal.returns-in-Check
returns-in-Check c =
    table-check-by (creating_of c.args.creating.now) c.args.constraint.now _ c.args.declaring.now c.constraint_holds.result c.in-Check.is (c.constraint_holds.ensures c.args.declaring.now)
