use Rattle.vm_core.proofs.running.Running.put_unary.Goals as goal

pub returns : goal.returns
returns c e = c.put_made.ensures _ c.unary-made.ensures e c.args.tables.now.world
