use Rattle.meaning_laws.proofs.StatementLaws.{statement_runs}
use Rattle.meaning_laws.proofs.laws.a_runnable_names_what_is_there.Goals as goal

pub returns : goal.returns
returns c asked entries number body s r is = (statement_runs asked entries number body s r is).within
