use Rattle.std.proofs.Common.{◌≡◌, drop}
use Rattle.sql_lex.specs.Widths.{further}
use Rattle.sql_meaning.specs.Parts.{line_end}
use Rattle.sql_shell.proofs.cutting.line_end.Given as goal

abbrev pub invariant-loop-place : goal.invariant-loop-place
invariant-loop-place l = further l.place (line_end (drop l.place l.bytes)) ≡ line_end l.text
