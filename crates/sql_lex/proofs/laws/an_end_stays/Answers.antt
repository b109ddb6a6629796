use Rattle.sql_lex.proofs.Lasting.{statement_end_stays}
use Rattle.sql_lex.proofs.laws.an_end_stays.Goals as goal

pub returns : goal.returns
returns c = statement_end_stays
