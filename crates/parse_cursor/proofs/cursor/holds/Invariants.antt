use Rattle.std.proofs.Common.{◌≡◌, drop}
use Rattle.sql_grammar.specs.Rules.{has}
use Rattle.parse_cursor.proofs.cursor.holds.Given as goal

abbrev pub invariant-loop-known : goal.invariant-loop-known
invariant-loop-known l = has l.kinds l.kind ≡ has (drop l.known-index l.kinds) l.kind
