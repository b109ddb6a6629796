use Rattle.sql_grammar.specs.StatementTexts.{AnswersAs, read_statement}
use Rattle.sql_grammar.proofs.StatementLaws.{read_as_answered}
use Rattle.parse_cursor.proofs.Exact.{read_whole, too_long, stopped}
use Rattle.parse_stmt.proofs.parsing.parse.Goals as goal

pub returns-then-cursor-eq0 : goal.returns-then-cursor-eq0
returns-then-cursor-eq0 c x m = read_whole read_statement AnswersAs read_as_answered c.args.len c.start.result c.args.tokens.now _ _ _ x c.start.ensures c.in-Ok.ensures c.if-cursor-eq0.true m

pub returns-else-cursor-eq0 : goal.returns-else-cursor-eq0
returns-else-cursor-eq0 c x m = too_long read_statement AnswersAs read_as_answered c.args.len c.start.result c.args.tokens.now _ _ _ x _ c.start.ensures c.in-Ok.ensures c.if-cursor-eq0.false c.place-at.ensures m

pub returns-in-Err : goal.returns-in-Err
returns-in-Err c x m = rw c.failure_at.ensures (stopped read_statement AnswersAs read_as_answered c.args.len c.start.result c.args.tokens.now _ x c.in-Err.error _ c.start.ensures c.place-at.ensures c.in-Err.ensures m)
