use Rattle.vm_core.proofs.running.Running.put_call.Goals as goal

pub returns : goal.returns
returns c e = c.put_made.ensures _ c.function-made.ensures e c.args.tables.now.world
