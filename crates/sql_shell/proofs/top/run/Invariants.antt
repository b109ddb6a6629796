use Rattle.vm_core.specs.Meant.{meant}
use Rattle.sql_shell.proofs.top.run.Given as goal

abbrev pub ghosts-run_source : goal.ghosts-run_source
ghosts-run_source g a = record { hosts = meant (λ b. (g.dyn-1.0.entry b.vtable).1.verdicts b.value) a.hosts.now }
