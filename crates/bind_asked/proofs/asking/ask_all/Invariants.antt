use Rattle.std.proofs.Common.{◌≡◌, drop}
use Rattle.eng_value.specs.HostMeanings.{IsTold, verdict_of}
use Rattle.sql_meaning.specs.Permits.{permit_of}
use Rattle.vm_core.specs.Meant.{meant}
use Rattle.bind_asked.specs.Said.{said_behind}
use Rattle.bind_asked.proofs.asking.ask_all.Given as goal

abbrev pub invariant-loop-i : goal.invariant-loop-i
invariant-loop-i g l =
    record {
      told : meant (λ b. (goal.Authorizer-dyn g (b.vtable, b.value)).verdicts b.value) l.hosts ≡ g.M.Meanings.hosts;
      said : IsTold g.M.Meanings.hosts.authorizer → permit_of (verdict_of g.M.Meanings.hosts.authorizer) l.actions ≡ said_behind (verdict_of g.M.Meanings.hosts.authorizer) l.i l.ignored (drop l.i l.actions);
    }
