use Rattle.engine.proofs.database.compiled.Goals as goal

pub returns-in-Select-clause-performs : goal.returns-in-Select-clause-performs
returns-in-Select-clause-performs c = rw c.in-Select.is c.compiled_query.ensures.performs
