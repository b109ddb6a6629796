use Rattle.sql_lex.proofs.GapLaws.{tokens_make_up}
use Rattle.sql_lex.proofs.laws.tokens_make_up_the_text.Goals as goal

pub returns : goal.returns
returns c = tokens_make_up
