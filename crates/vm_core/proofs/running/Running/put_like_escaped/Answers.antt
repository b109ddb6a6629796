use Rattle.vm_core.proofs.running.Running.put_like_escaped.Goals as goal

pub returns : goal.returns
returns c e = c.put_made.ensures _ c.like_escaped-made.ensures e c.args.tables.now.world
