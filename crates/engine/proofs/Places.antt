-- The place of a syntax error stands in the text.
use Rattle.std.proofs.Common.{◌≤◌, ℕ, List, [], ◌∷◌, ◌++◌, length, drop, length-drop, Err, subst, arith}
use Rattle.parse_cursor.specs.Whole.{Shows}
use Rattle.parse_cursor.specs.declared.texts.Failure.{Failure}
use Rattle.parse_cursor.specs.declared.texts.Failure.TheVariants as failure
use Rattle.sql_grammar.proofs.StatementLaws.{an_answer}
use Rattle.sql_grammar.specs.Answers.{Answer, Tree, Syntax, TooMuch, place}
use Rattle.sql_grammar.specs.Marks.{plain}
use Rattle.sql_grammar.specs.StatementTexts.{AnswersAs}
use Rattle.sql_lex.specs.Tokens.{InOrder}
use Rattle.sql_tree.specs.declared.statement.Statement.{Statement}
use Rattle.sql_tree.specs.declared.token.Token.{Token}
use Rattle.engine.specs.Prepared.{StandsIn}

order_within : (from end : ℕ) (ts : List Token) → InOrder from end ts → from ≤ end
order_within from end [] order = order
order_within from end (t ∷ ts) order = omega (arith, order.0, order.1, order_within t.span.end end ts order.2)

-- where some of them begin
place_within : (from end : ℕ) (front rest : List Token) → InOrder from end (front ++ rest) → place end rest ≤ end
place_within from end [] [] order = omega arith
place_within from end [] (t ∷ ts) order = omega (arith, order.1, order_within t.span.end end ts order.2)
place_within from end (t ∷ front) rest order = place_within t.span.end end front rest order.2

module _ (text : List ℕ) (start : ℕ) (tokens : List Token) (before : start ≤ length text) (order : InOrder 0 (length (drop start text)) tokens) where
  stands_in : (x : Answer Statement) → AnswersAs tokens x → (f : Failure) → Shows (length (drop start text)) x (Err f) → StandsIn (length text) start f
  stands_in x answers failure.Memory shows = tt
  stands_in x answers (failure.TooMuch limit at) shows = tt
  stands_in (Tree tree) answers (failure.Syntax at) shows = absurd shows
  stands_in (Syntax rest) answers (failure.Syntax at) shows =
      let within = place_within 0 (length (drop start text)) (plain answers.0) rest (subst (InOrder 0 (length (drop start text))) answers.1 order) in
      omega (arith, shows, within, before, length-drop start text)
  stands_in (TooMuch limit rest) answers (failure.Syntax at) shows = absurd shows

  pub failure_stands : (f : Failure) → ((x : Answer Statement) → AnswersAs tokens x → Shows (length (drop start text)) x (Err f)) → StandsIn (length text) start f
  failure_stands f shows = let a = an_answer tokens in stands_in a.0 a.1 f (shows a.0 a.1)
