use Rattle.bound_laws.proofs.StatementLaws.{statement_is}
use Rattle.bound_laws.proofs.laws.a_statement_names_what_is_there.Goals as goal

pub returns : goal.returns
returns c around text s b is = statement_is around text s b is
