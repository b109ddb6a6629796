use Rattle.std.proofs.Common.{◌≡◌, ◌-◌, ◌≤◌, length, drop}
use Rattle.sql_lex.specs.Pieces.{up_to_quote}
use Rattle.sql_lex.specs.Widths.{further}
use Rattle.sql_lex.proofs.quotes.up_to_quote.Given as goal

abbrev pub invariant-loop-width : goal.invariant-loop-width
invariant-loop-width l = record {
  value : further l.width (up_to_quote l.quote (drop l.width l.bytes)) ≡ up_to_quote l.quote l.bytes;
  within : l.width ≤ length l.bytes;
}

abbrev pub decreases-loop-width : goal.decreases-loop-width
decreases-loop-width l = length l.bytes - l.width
