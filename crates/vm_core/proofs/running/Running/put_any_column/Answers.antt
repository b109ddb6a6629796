use Rattle.vm_core.proofs.running.Running.put_any_column.Goals as goal

pub returns : goal.returns
returns c e = c.put_made.ensures _ c.column-made.ensures e c.args.tables.now.world
