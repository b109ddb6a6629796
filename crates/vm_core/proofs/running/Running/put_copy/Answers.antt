use Rattle.vm_core.proofs.running.Running.put_copy.Goals as goal

pub returns : goal.returns
returns c = c.put_made.ensures _ (rw c.registers.ensures at c.copied-made.ensures)
