use Rattle.vm_core.proofs.running.Running.change_schema.Goals as goal

pub returns-in-AddTable-clause-leads : goal.returns-in-AddTable-clause-leads
returns-in-AddTable-clause-leads c e = rw c.in-AddTable.is (c.add_table.ensures.leads e)

pub returns-in-DropTable-clause-leads : goal.returns-in-DropTable-clause-leads
returns-in-DropTable-clause-leads c e = rw c.in-DropTable.is (c.drop_table.ensures.leads e)
