use Rattle.vm_core.proofs.running.Running.put_parameter.Goals as goal

pub returns : goal.returns
returns c = c.put_made.ensures _ (rw c.as_slice.ensures at c.parameter-made.ensures)
