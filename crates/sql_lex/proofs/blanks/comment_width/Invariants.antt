use Rattle.std.proofs.Common.{◌≡◌, ◌+◌, drop}
use Rattle.sql_lex.specs.Pieces.{comment_width}
use Rattle.sql_lex.proofs.blanks.comment_width.Given as goal

abbrev pub invariant-loop-i : goal.invariant-loop-i
invariant-loop-i l = l.i + comment_width (drop l.i l.bytes) ≡ comment_width l.bytes
