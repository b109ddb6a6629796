use Rattle.std.proofs.Common.{◌≡◌, map, drop}
use Rattle.bind_callee.specs.Meant.{named_in, row}
use Rattle.bind_callee.proofs.callees.named_in.Given as goal

abbrev pub invariant-loop-known : goal.invariant-loop-known
invariant-loop-known l = named_in (map (λ b. row b.0.now b.1 b.2) (drop l.known-index l.table)) l.name ≡ named_in (map (λ b. row b.0.now b.1 b.2) l.table) l.name
