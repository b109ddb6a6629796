use Rattle.sql_meaning.proofs.DoneLaws.{creates, drops, indexes, inserts, selects, shows, unindexes}
use Rattle.sql_meaning.proofs.states.statements_do_what_they_say.Goals as goal

pub returns-clause-inserts : goal.returns-clause-inserts
returns-clause-inserts c = inserts

pub returns-clause-creates : goal.returns-clause-creates
returns-clause-creates c = creates

pub returns-clause-selects : goal.returns-clause-selects
returns-clause-selects c = selects

pub returns-clause-drops : goal.returns-clause-drops
returns-clause-drops c = drops

pub returns-clause-shows : goal.returns-clause-shows
returns-clause-shows c = shows

pub returns-clause-indexes : goal.returns-clause-indexes
returns-clause-indexes c = indexes

pub returns-clause-unindexes : goal.returns-clause-unindexes
returns-clause-unindexes c = unindexes
