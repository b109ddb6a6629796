use Rattle.std.proofs.Common.{◌≡◌, ◌-◌}
use Rattle.eng_record.specs.Columns.{body_among, body_of}
use Rattle.eng_record.proofs.columns.body_of.Given as goal

abbrev pub invariant-loop : goal.invariant-loop
invariant-loop l = body_among (l.number - l.counter) l.types l.bodies ≡ body_of l.number l.bytes
