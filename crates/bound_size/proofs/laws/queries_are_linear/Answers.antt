use Rattle.bound_size.proofs.PlaceLaws.{inserted_placed, query_placed}
use Rattle.bound_size.proofs.laws.queries_are_linear.Goals as goal

pub returns-clause-anywhere : goal.returns-clause-anywhere
returns-clause-anywhere c q o units r plain h = query_placed q o units r plain h

pub returns-clause-source : goal.returns-clause-source
returns-clause-source c q o t listed w r plain h = inserted_placed q o t listed w r plain h
