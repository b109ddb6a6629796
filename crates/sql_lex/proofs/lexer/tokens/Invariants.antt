use Rattle.std.proofs.Common.{◌≡◌, ◌+◌, ◌≤◌, ◌++◌, length}
use Rattle.sql_lex.specs.Tokens.{lexed, tokens_of}
use Rattle.sql_lex.proofs.lexer.tokens.Given as goal

abbrev pub invariant-loop-first : goal.invariant-loop-first
invariant-loop-first l = record {
  tokens : l.tokens.items ++ lexed l.start l.largest 0 l.rest ≡ tokens_of l.text;
  place : l.start + length l.rest ≡ length l.text;
  largest : l.largest ≤ 999;
}

abbrev pub decreases-loop-first : goal.decreases-loop-first
decreases-loop-first l = length l.rest
