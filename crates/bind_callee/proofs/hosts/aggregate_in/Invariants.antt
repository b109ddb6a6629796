use Rattle.std.proofs.Common.{◌≡◌, drop}
use Rattle.std.specs.List.{find}
use Rattle.eng_entry.specs.Names.{is_same_name}
use Rattle.sql_bound.specs.declared.facts.HostAggregate.{HostAggregate}
use Rattle.bind_callee.proofs.hosts.aggregate_in.Given as goal

abbrev pub invariant-loop-f : goal.invariant-loop-f
invariant-loop-f l = find (λ (f : HostAggregate). is_same_name f.name l.name) (drop l.f-index l.aggregates) ≡ find (λ (f : HostAggregate). is_same_name f.name l.name) l.aggregates
