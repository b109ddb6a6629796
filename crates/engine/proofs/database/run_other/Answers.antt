use Rattle.std.proofs.Common.{◌-◌, ap, ◌∙◌, arith, ◌≡◌, refl, rules, to_z, of_z, w64}
use Rattle.eng_value.specs.HostMeanings.{nobody}
use Rattle.host_traits.specs.Faults.{Rose}
use Rattle.vm_code.specs.Machine.{setting, world_of}
use Rattle.engine.specs.Held.{state_of}
use Rattle.engine.specs.Outcomes.{changed_by, outcome_in, run_in, state_after, steps_in, surroundings_in}
use Rattle.engine.proofs.CarryingOut.{carries_Ok, carries_Err, carries_Mem}
use Rattle.engine.proofs.Leaving.{changed_in, next_in, shows_in}
use Rattle.engine.proofs.Starting.{from_copy}
use Rattle.engine.proofs.Telling.{all_told}
use Rattle.engine.proofs.database.run_other.Goals as goal

pub returns-in_default-clause-carried : goal.returns-in_default-clause-carried
returns-in_default-clause-carried g c =
    let db = c.args.database.now in
    let old = state_of db.schema db.tables.world db.changes db.last_rowid in
    carries_Mem (outcome_in g.M.Meanings.hosts db.schema db.tables.world db.changes db.last_rowid c.args.params.now c.args.ready.now) old c.args.budget (steps_in (surroundings_in g.M.Meanings.hosts c.args.params.now db.tables.world) c.args.ready.now) c.args.steps.now (g.R.RowSink.taken c.args.rows.now) (Rose (g.R.RowSink.fault_count c.args.rows.now) (g.R.RowSink.fault_count c.args.rows.now))

pub returns-in-Ok-execute-clause-carried : goal.returns-in-Ok-execute-clause-carried
returns-in-Ok-execute-clause-carried g c =
    let db = c.args.database.now in
    let r = c.args.ready.now in
    let hosts = g.M.Meanings.hosts in
    let old = state_of db.schema db.tables.world db.changes db.last_rowid in
    let around = surroundings_in hosts c.args.params.now db.tables.world in
    let run = run_in r around db.last_rowid in
    let most = steps_in around r in
    let told = all_told hosts c.in-Ok.program c.requires.told in
    let same : to_z w64 (of_z w64 db.last_rowid) ≡ db.last_rowid = search rules in
    let ends = from_copy (setting hosts nobody c.args.params.now c.in-Ok.program) most c.in-Ok.program db.tables.world run.ending run.shared same (c.in-Ok.ensures.performs around db.last_rowid refl c.requires.sound) in
    let a = c.in-Ok-execute.ensures.runs told nobody most run.ending run.shared ends in
    let completed = c.in-Ok-execute.completed in
    let state : state_after r db.schema c.execute.new.tables.world db.changes db.last_rowid completed.changed completed.last_rowid ≡ state_after r db.schema (world_of run.shared) db.changes db.last_rowid run.shared.written.changes run.shared.written.last_rowid =
    ap (λ w. state_after r db.schema w db.changes db.last_rowid completed.changed completed.last_rowid) a.answer.1
    ∙ ap (λ n. state_after r db.schema (world_of run.shared) db.changes db.last_rowid n completed.last_rowid) a.answer.4
    ∙ ap (λ n. state_after r db.schema (world_of run.shared) db.changes db.last_rowid run.shared.written.changes n) a.answer.5 in
    let next = c.finish.ensures.state ∙ state ∙ next_in hosts db.schema db.tables.world db.changes db.last_rowid c.args.params.now r c.requires.other a.answer.0 in
    let changed = c.finish.ensures.changed ∙ ap (changed_by r) a.answer.4 ∙ changed_in hosts db.schema db.tables.world db.changes db.last_rowid c.args.params.now r c.requires.other a.answer.0 in
    carries_Ok old (outcome_in hosts db.schema db.tables.world db.changes db.last_rowid c.args.params.now r) run.ending run.shared (shows_in hosts db.schema db.tables.world db.changes db.last_rowid c.args.params.now r c.requires.other) most most c.args.budget (c.execute.new.steps - c.args.steps.now) c.execute.new.tables.world (g.R.RowSink.taken c.args.rows.now) (g.R.RowSink.taken c.execute.new.rows) (Rose (g.R.RowSink.fault_count c.args.rows.now) (g.R.RowSink.fault_count c.execute.new.rows)) (omega arith) (state_of c.finish.new.self.schema c.finish.new.self.tables.world c.finish.new.self.changes c.finish.new.self.last_rowid) completed c.finish.result next c.finish.ensures.given changed a

pub returns-in-Err-clause-kept : goal.returns-in-Err-clause-kept
returns-in-Err-clause-kept g c =
    let db = c.args.database.now in ap (λ w. state_of db.schema w db.changes db.last_rowid) c.in-Err.ensures.kept

pub returns-in-Err-clause-carried : goal.returns-in-Err-clause-carried
returns-in-Err-clause-carried g c =
    let db = c.args.database.now in
    let r = c.args.ready.now in
    let hosts = g.M.Meanings.hosts in
    let old = state_of db.schema db.tables.world db.changes db.last_rowid in
    let around = surroundings_in hosts c.args.params.now db.tables.world in
    let run = run_in r around db.last_rowid in
    let most = steps_in around r in
    let told = all_told hosts c.in-Ok.program c.requires.told in
    let same : to_z w64 (of_z w64 db.last_rowid) ≡ db.last_rowid = search rules in
    let ends = from_copy (setting hosts nobody c.args.params.now c.in-Ok.program) most c.in-Ok.program db.tables.world run.ending run.shared same (c.in-Ok.ensures.performs around db.last_rowid refl c.requires.sound) in
    let a = c.in-Err.ensures.runs told nobody most run.ending run.shared ends in
    carries_Err old (outcome_in hosts db.schema db.tables.world db.changes db.last_rowid c.args.params.now r) run.ending run.shared (shows_in hosts db.schema db.tables.world db.changes db.last_rowid c.args.params.now r c.requires.other) most most c.args.budget (c.execute.new.steps - c.args.steps.now) c.execute.new.tables.world (g.R.RowSink.taken c.args.rows.now) (g.R.RowSink.taken c.execute.new.rows) (Rose (g.R.RowSink.fault_count c.args.rows.now) (g.R.RowSink.fault_count c.execute.new.rows)) (omega arith) (state_of db.schema c.execute.new.tables.world db.changes db.last_rowid) c.in-Err.cause (ap (λ w. state_of db.schema w db.changes db.last_rowid) c.in-Err.ensures.kept) a
