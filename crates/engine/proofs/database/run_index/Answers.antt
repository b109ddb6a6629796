use Rattle.std.proofs.Common.{◌≡◌, ◌-◌, [], ap, ◌∙◌, refl, subst, arith, rules, to_z, of_z, w64}
use Rattle.std.proofs.lemmas.Result.{err_from_is_err_and}
use Rattle.eng_value.specs.HostMeanings.{nobody}
use Rattle.gen_write.specs.Writes.{index_run, index_steps}
use Rattle.host_traits.specs.Faults.{Rose}
use Rattle.eng_entry.specs.Entries.{with_entry, without_name}
use Rattle.eng_entry.specs.Spaces.{space_of}
use Rattle.eng_entry.specs.declared.entry.Space.TheVariants as space
use Rattle.vm_code.specs.Machine.{Performs, setting}
use Rattle.engine.specs.Held.{state_of}
use Rattle.engine.specs.Outcomes.{index_outcome_in, surroundings_in}
use Rattle.engine.proofs.Leaving.{index_changed, index_next, index_shows}
use Rattle.engine.specs.declared.preparing.NewIndexEntry.{NewIndexEntry}
use Rattle.engine.proofs.Writing.{taken_back}
use Rattle.engine.proofs.CarryingOut.{carries_Ok, carries_Err, carries_Mem}
use Rattle.engine.proofs.Starting.{from_copy}
use Rattle.engine.proofs.Telling.{all_told}
use Rattle.engine.proofs.database.run_index.Goals as goal

pub returns-in_default-clause-carried : goal.returns-in_default-clause-carried
returns-in_default-clause-carried g c =
    let db = c.args.database.now in
    let old = state_of db.schema db.tables.world db.changes db.last_rowid in
    carries_Mem (index_outcome_in db.schema db.tables.world db.changes db.last_rowid c.args.new) old c.args.budget (index_steps (surroundings_in g.M.Meanings.hosts [] db.tables.world)) c.args.steps.now (g.R.RowSink.taken c.args.rows.now) (Rose (g.R.RowSink.fault_count c.args.rows.now) (g.R.RowSink.fault_count c.args.rows.now))

pub returns-in-Ok-execute-clause-carried : goal.returns-in-Ok-execute-clause-carried
returns-in-Ok-execute-clause-carried g c =
    let db = c.args.database.now in
    let old = state_of db.schema db.tables.world db.changes db.last_rowid in
    let around = surroundings_in g.M.Meanings.hosts [] db.tables.world in
    let i = c.args.new.index in
    let run = index_run i.table i.table_name i.terms i.unique around db.last_rowid in
    let most = index_steps (surroundings_in g.M.Meanings.hosts [] db.tables.world) in
    let told = all_told g.M.Meanings.hosts c.in-Ok.program c.requires.told in
    let performs = subst (λ (n : NewIndexEntry). Performs c.in-Ok.program (index_run n.index.table n.index.table_name n.index.terms n.index.unique) index_steps) c.get.ensures c.in-Ok.ensures.performs in
    let same : to_z w64 (of_z w64 db.last_rowid) ≡ db.last_rowid = search rules in
    let ends = from_copy (setting g.M.Meanings.hosts nobody [] c.in-Ok.program) most c.in-Ok.program db.tables.world run.ending run.shared same (performs around db.last_rowid c.requires.sound) in
    let a = c.in-Ok-execute.ensures.runs told nobody most run.ending run.shared ends in
    carries_Ok old (index_outcome_in db.schema db.tables.world db.changes db.last_rowid c.args.new) run.ending run.shared (index_shows g.M.Meanings.hosts db.schema db.tables.world db.changes db.last_rowid c.args.new) most most c.args.budget (c.execute.new.steps - c.args.steps.now) c.execute.new.tables.world (g.R.RowSink.taken c.args.rows.now) (g.R.RowSink.taken c.execute.new.rows) (Rose (g.R.RowSink.fault_count c.args.rows.now) (g.R.RowSink.fault_count c.execute.new.rows)) (omega arith) (state_of c.add_index.new.self c.execute.new.tables.world db.changes db.last_rowid) c.in-Ok-execute.completed c.done.result (rw (a.answer.1, c.in-Ok-add_index.ensures.ok, c.into_inner-entry.ensures) (index_next g.M.Meanings.hosts db.schema db.tables.world db.changes db.last_rowid c.args.new a.answer.0)) c.done.ensures.given (c.done.ensures.changed ∙ index_changed g.M.Meanings.hosts db.schema db.tables.world db.changes db.last_rowid c.args.new) a

pub returns-clause-kept : goal.returns-clause-kept
returns-clause-kept g c =
    let db = c.args.database.now in
    let back = c.remove.ensures ∙ ap (without_name space.Names c.as_str.result.now) c.in-Ok-add_index.ensures.ok ∙ ap (λ name. without_name space.Names name (with_entry c.into_inner-entry.result.entry db.schema)) (c.as_str.ensures ∙ c.in_ok-name.ensures.cases) ∙ ap (λ (n : NewIndexEntry). without_name space.Names n.entry.name (with_entry n.entry db.schema)) c.into_inner-entry.ensures ∙ taken_back c.args.new.entry db.schema (ap space_of c.requires.new.kind) c.requires.new.free in
    rw (c.in-Err.ensures.kept, back) refl

pub returns-clause-carried : goal.returns-clause-carried
returns-clause-carried g c =
    let db = c.args.database.now in
    let old = state_of db.schema db.tables.world db.changes db.last_rowid in
    let around = surroundings_in g.M.Meanings.hosts [] db.tables.world in
    let i = c.args.new.index in
    let run = index_run i.table i.table_name i.terms i.unique around db.last_rowid in
    let most = index_steps (surroundings_in g.M.Meanings.hosts [] db.tables.world) in
    let told = all_told g.M.Meanings.hosts c.in-Ok.program c.requires.told in
    let performs = subst (λ (n : NewIndexEntry). Performs c.in-Ok.program (index_run n.index.table n.index.table_name n.index.terms n.index.unique) index_steps) c.get.ensures c.in-Ok.ensures.performs in
    let same : to_z w64 (of_z w64 db.last_rowid) ≡ db.last_rowid = search rules in
    let ends = from_copy (setting g.M.Meanings.hosts nobody [] c.in-Ok.program) most c.in-Ok.program db.tables.world run.ending run.shared same (performs around db.last_rowid c.requires.sound) in
    let a = c.in-Err.ensures.runs told nobody most run.ending run.shared ends in
    let back = c.remove.ensures ∙ ap (without_name space.Names c.as_str.result.now) c.in-Ok-add_index.ensures.ok ∙ ap (λ name. without_name space.Names name (with_entry c.into_inner-entry.result.entry db.schema)) (c.as_str.ensures ∙ c.in_ok-name.ensures.cases) ∙ ap (λ (n : NewIndexEntry). without_name space.Names n.entry.name (with_entry n.entry db.schema)) c.into_inner-entry.ensures ∙ taken_back c.args.new.entry db.schema (ap space_of c.requires.new.kind) c.requires.new.free in
    carries_Err old (index_outcome_in db.schema db.tables.world db.changes db.last_rowid c.args.new) run.ending run.shared (index_shows g.M.Meanings.hosts db.schema db.tables.world db.changes db.last_rowid c.args.new) most most c.args.budget (c.execute.new.steps - c.args.steps.now) c.execute.new.tables.world (g.R.RowSink.taken c.args.rows.now) (g.R.RowSink.taken c.execute.new.rows) (Rose (g.R.RowSink.fault_count c.args.rows.now) (g.R.RowSink.fault_count c.execute.new.rows)) (omega arith) (state_of c.remove.new.self c.execute.new.tables.world db.changes db.last_rowid) c.in-Err.cause (rw (c.in-Err.ensures.kept, back) refl) a

pub returns-in_default-add_index-clause-carried : goal.returns-in_default-add_index-clause-carried
returns-in_default-add_index-clause-carried g c =
    let db = c.args.database.now in
    let old = state_of db.schema db.tables.world db.changes db.last_rowid in
    rw c.in_default-add_index.ensures.err (carries_Mem (index_outcome_in db.schema db.tables.world db.changes db.last_rowid c.args.new) old c.args.budget (index_steps (surroundings_in g.M.Meanings.hosts [] db.tables.world)) c.args.steps.now (g.R.RowSink.taken c.args.rows.now) (Rose (g.R.RowSink.fault_count c.args.rows.now) (g.R.RowSink.fault_count c.args.rows.now)))

pub returns-in_default-add_index-clause-kept : goal.returns-in_default-add_index-clause-kept
returns-in_default-add_index-clause-kept g c = rw c.in_default-add_index.ensures.err refl

pub returns-in_err-name-clause-carried : goal.returns-in_err-name-clause-carried
returns-in_err-name-clause-carried g c =
    let db = c.args.database.now in
    let old = state_of db.schema db.tables.world db.changes db.last_rowid in
    let why = err_from_is_err_and c.from_residual.result c.from_residual.ensures.1 in
    rw (why.1, why.2) (carries_Mem (index_outcome_in db.schema db.tables.world db.changes db.last_rowid c.args.new) old c.args.budget (index_steps (surroundings_in g.M.Meanings.hosts [] db.tables.world)) c.args.steps.now (g.R.RowSink.taken c.args.rows.now) (Rose (g.R.RowSink.fault_count c.args.rows.now) (g.R.RowSink.fault_count c.args.rows.now)))
