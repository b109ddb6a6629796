use Rattle.sql_lex.proofs.AloneLaws.{tokens_alone}
use Rattle.sql_lex.proofs.laws.a_token_alone_is_itself.Goals as goal

pub returns : goal.returns
returns c = tokens_alone
