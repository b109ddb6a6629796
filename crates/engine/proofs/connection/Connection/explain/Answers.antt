use Rattle.engine.proofs.connection.Connection.explain.Goals as goal

pub returns-in-Ok-clause-shows : goal.returns-in-Ok-clause-shows
returns-in-Ok-clause-shows g c = rw (← c.self.view_is) c.in-Ok.ensures.shows

pub returns-in-Err-clause-shows : goal.returns-in-Err-clause-shows
returns-in-Err-clause-shows g c = rw (← c.self.view_is) c.in-Err.ensures.shows
