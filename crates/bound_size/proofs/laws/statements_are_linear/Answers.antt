use Rattle.bound_size.proofs.StatementLaws.{insert_small, query_small}
use Rattle.bound_size.proofs.laws.statements_are_linear.Goals as goal

pub returns-clause-query : goal.returns-clause-query
returns-clause-query c around text s q b is plain h = query_small around text s q b is plain h

pub returns-clause-insert : goal.returns-clause-insert
returns-clause-insert c around text s i q b is from none plain h = insert_small around text s i q b is from none plain h
