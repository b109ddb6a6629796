use Rattle.engine.specs.Held.{state_of}
use Rattle.engine.specs.Outcomes.{outcome_in}
use Rattle.engine.proofs.database.run_prepared.Goals as goal

pub returns-in-Some-clause-carried : goal.returns-in-Some-clause-carried
returns-in-Some-clause-carried g c =
    let db = c.args.database.now in
    let old = state_of db.schema db.tables.world db.changes db.last_rowid in
    rw c.in-Some.is (c.show.ensures.carried old (outcome_in g.M.Meanings.hosts db.schema db.tables.world db.changes db.last_rowid c.args.params.now c.args.prepared.ready) c.args.budget c.args.steps.now)
