use Rattle.std.proofs.Common.{◌≡◌, map, take}
use Rattle.sql_meaning.specs.Running.{term_at}
use Rattle.bind_stmt.proofs.keys.terms_of.Given as goal

abbrev pub invariant-loop-part : goal.invariant-loop-part
invariant-loop-part l = l.terms ≡ map (term_at l.rowid) (take l.part-index l.parts)
