use Rattle.std.proofs.Common.{◌≡◌, drop}
use Rattle.sql_lex.specs.Pieces.{up_to}
use Rattle.sql_lex.specs.Widths.{further}
use Rattle.sql_lex.proofs.quotes.up_to.Given as goal

abbrev pub invariant-loop-i : goal.invariant-loop-i
invariant-loop-i l = further l.i (up_to l.byte (drop l.i l.bytes)) ≡ up_to l.byte l.bytes
