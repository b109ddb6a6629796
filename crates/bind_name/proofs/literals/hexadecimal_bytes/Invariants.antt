use Rattle.std.proofs.Common.{◌≡◌, ◌++◌, length}
use Rattle.sql_words.specs.Spelled.{hexadecimal_bytes}
use Rattle.bind_name.proofs.literals.hexadecimal_bytes.Given as goal

abbrev pub invariant-loop-rest : goal.invariant-loop-rest
invariant-loop-rest l = l.made.items ++ hexadecimal_bytes l.rest ≡ hexadecimal_bytes l.digits

abbrev pub decreases-loop-rest : goal.decreases-loop-rest
decreases-loop-rest l = length l.rest
