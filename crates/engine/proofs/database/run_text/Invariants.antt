use Rattle.vm_core.specs.Meant.{meant}
use Rattle.engine.proofs.database.run_text.Given as goal

abbrev pub ghosts-run_prepared : goal.ghosts-run_prepared
ghosts-run_prepared g a = record { hosts = meant (λ b. (g.dyn-1.0.entry b.vtable).1.verdicts b.value) a.hosts.now }
