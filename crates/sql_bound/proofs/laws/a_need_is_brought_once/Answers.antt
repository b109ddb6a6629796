use Rattle.sql_bound.proofs.NeedLaws.{again, argument_of}
use Rattle.sql_bound.proofs.SameLaws.{expr_itself}
use Rattle.sql_bound.proofs.laws.a_need_is_brought_once.Goals as goal

pub returns-clause-itself : goal.returns-clause-itself
returns-clause-itself c = expr_itself

pub returns-clause-again : goal.returns-clause-again
returns-clause-again c = again

pub returns-clause-argument : goal.returns-clause-argument
returns-clause-argument c = argument_of
