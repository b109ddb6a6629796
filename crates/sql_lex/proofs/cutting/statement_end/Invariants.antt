use Rattle.std.proofs.Common.{◌≡◌, ◌+◌, length, drop}
use Rattle.sql_lex.specs.Cutting.{statement_end}
use Rattle.sql_lex.specs.Plain.{end_at}
use Rattle.sql_lex.proofs.cutting.statement_end.Given as goal

abbrev pub invariant-loop-first : goal.invariant-loop-first
invariant-loop-first l = record {
  end : end_at l.reading l.start l.rest ≡ statement_end l.text;
  place : l.start + length l.rest ≡ length l.text;
  rest : drop l.start l.text ≡ l.rest;
}

abbrev pub decreases-loop-first : goal.decreases-loop-first
decreases-loop-first l = length l.rest
