use Rattle.sql_lex.proofs.FrontLaws.{tokens_cut_behind}
use Rattle.sql_lex.proofs.laws.a_cut_text_keeps_its_tokens.Goals as goal

pub returns : goal.returns
returns c = tokens_cut_behind
