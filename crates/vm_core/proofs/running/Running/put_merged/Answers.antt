use Rattle.vm_core.proofs.running.Running.put_merged.Goals as goal

pub returns-then-holds_bad : goal.returns-then-holds_bad
returns-then-holds_bad c = c.put_made.ensures _ (rw c.registers.ensures at c.merge-made.ensures)
