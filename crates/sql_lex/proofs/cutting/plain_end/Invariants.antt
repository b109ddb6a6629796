use Rattle.std.proofs.Common.{◌≡◌, ◌+◌, length}
use Rattle.sql_lex.specs.Plain.{plain_end}
use Rattle.sql_lex.proofs.cutting.plain_end.Given as goal

abbrev pub invariant-loop-first : goal.invariant-loop-first
invariant-loop-first l = record {
  end : plain_end l.start l.rest ≡ plain_end l.from l.text;
  place : l.start + length l.rest ≡ l.from + length l.text;
}

abbrev pub decreases-loop-first : goal.decreases-loop-first
decreases-loop-first l = length l.rest
