use Rattle.sql_lex.proofs.Lasting.{blank_width_stays}
use Rattle.sql_lex.proofs.laws.a_blank_stays.Goals as goal

pub returns : goal.returns
returns c = blank_width_stays
