use Rattle.vm_core.specs.Meant.{meant}
use Rattle.bind_asked.proofs.binding.bind.Given as goal

abbrev pub ghosts-permit : goal.ghosts-permit
ghosts-permit g a = record { hosts = meant (λ b. (g.dyn-1.0.entry b.vtable).1.verdicts b.value) a.hosts.now }
