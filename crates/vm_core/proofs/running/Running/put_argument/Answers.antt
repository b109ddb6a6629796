use Rattle.vm_core.proofs.running.Running.put_argument.Goals as goal

pub returns : goal.returns
returns c = c.put_made.ensures _ (rw c.arguments.ensures at c.copied-made.ensures)
