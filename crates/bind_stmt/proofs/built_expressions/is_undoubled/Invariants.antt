use Rattle.std.proofs.Common.{◌≡◌, length}
use Rattle.eng_entry.specs.Names.{is_same_name}
use Rattle.sql_words.specs.Spelled.{undoubled}
use Rattle.bind_stmt.proofs.built_expressions.is_undoubled.Given as goal

abbrev pub invariant-loop-rest : goal.invariant-loop-rest
invariant-loop-rest l = is_same_name l.wanted (undoubled l.quote l.rest) ≡ is_same_name l.name (undoubled l.quote l.bytes)

abbrev pub decreases-loop-rest : goal.decreases-loop-rest
decreases-loop-rest l = length l.rest
