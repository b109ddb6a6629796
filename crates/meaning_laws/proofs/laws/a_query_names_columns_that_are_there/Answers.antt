use Rattle.meaning_laws.proofs.StatementLaws.{statement_runs}
use Rattle.meaning_laws.proofs.laws.a_query_names_columns_that_are_there.Goals as goal

pub returns : goal.returns
returns c asked entries number body s r is = (statement_runs asked entries number body s r is).columns
