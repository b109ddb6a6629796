use Rattle.std.proofs.Common.{◌-◌, ◌∙◌, Err, length, subst, sym}
use Rattle.eng_value.specs.HostMeanings.{HostMeanings}
use Rattle.host_traits.specs.Faults.{Rose}
use Rattle.sql_lex.specs.Tokens.{tokens_of}
use Rattle.sql_meaning.specs.Permits.{asked_as}
use Rattle.sql_meaning.specs.Statement.{outcome_where}
use Rattle.sql_meaning.specs.Work.{bound_where}
use Rattle.sql_meaning.specs.World.{context}
use Rattle.vm_core.specs.Meant.{meant}
use Rattle.engine.specs.Connected.{CarriesOut}
use Rattle.engine.specs.Held.{state_of}
use Rattle.engine.specs.Outcomes.{outcome_behind, outcome_in, steps_behind, steps_in, surroundings_in}
use Rattle.engine.proofs.CarryingOut.{carries_as}
use Rattle.engine.proofs.Explanations.{gives}
use Rattle.engine.proofs.InstructionBounds.{runs_within}
use Rattle.engine.proofs.Saying.{as_told}
use Rattle.engine.proofs.Texts.{may_run, text_stands, refusal_carries}
use Rattle.engine.proofs.database.run_text.Goals as goal

pub returns-in-Ok-clause-said : goal.returns-in-Ok-clause-said
returns-in-Ok-clause-said g c =
    let db = c.args.database.now in
    let old = state_of db.schema db.tables.world db.changes db.last_rowid in
    let after = c.run_prepared.new.database in
    let hosts = meant (λ b. (goal.Authorizer-dyn g (b.vtable, b.value)).verdicts b.value) c.args.hosts.now in
    let params = c.args.params.now in
    let text = c.args.text.now in
    let b = c.in-Ok.prepared.ready in
    let how = c.in-Ok.prepared.explain in
    let said = c.in-Ok.ensures.readies in
    let asked = asked_as hosts.authorizer said.0 in
    let p = said.1 db.tables.world (sym c.len-number.ensures) in
    let ctx = context hosts old params in (
      said.0,
      carries_as (outcome_where asked ctx text) (outcome_behind how old (outcome_in hosts db.schema db.tables.world db.changes db.last_rowid params b)) old (state_of after.schema after.tables.world after.changes after.last_rowid) c.args.budget (steps_behind how (steps_in (surroundings_in hosts params db.tables.world) b)) (bound_where asked ctx text) (c.run_prepared.new.steps - c.args.steps.now) (g.R.RowSink.taken c.args.rows.now) (g.R.RowSink.taken c.run_prepared.new.rows) (Rose (g.R.RowSink.fault_count c.args.rows.now) (g.R.RowSink.fault_count c.run_prepared.new.rows)) c.run_prepared.result
          (text_stands asked hosts db.schema db.tables.world db.changes db.last_rowid params text c.requires.valid how p.0 b c.order.ensures p.1 p.2 p.4)
          (runs_within asked hosts db.schema db.tables.world db.changes db.last_rowid params text c.requires.valid how p.0 b p.1 p.2 p.3)
          (subst (λ (h : HostMeanings). CarriesOut (outcome_behind how old (outcome_in h db.schema db.tables.world db.changes db.last_rowid params b)) old (state_of after.schema after.tables.world after.changes after.last_rowid) c.args.budget (steps_behind how (steps_in (surroundings_in h params db.tables.world) b)) (c.run_prepared.new.steps - c.args.steps.now) (g.R.RowSink.taken c.args.rows.now) (g.R.RowSink.taken c.run_prepared.new.rows) (Rose (g.R.RowSink.fault_count c.args.rows.now) (g.R.RowSink.fault_count c.run_prepared.new.rows)) c.run_prepared.result)
          c.in-Ok.ensures.hosts c.run_prepared.ensures.carried),
    )

pub returns-in-Err-clause-said : goal.returns-in-Err-clause-said
returns-in-Err-clause-said g c =
    let db = c.args.database.now in
    let old = state_of db.schema db.tables.world db.changes db.last_rowid in
    let hosts = meant (λ b. (goal.Authorizer-dyn g (b.vtable, b.value)).verdicts b.value) c.args.hosts.now in
    let said = c.in-Err.ensures.readies in
    let asked = asked_as hosts.authorizer said.0 in
    (said.0, refusal_carries asked hosts db.schema db.tables.world db.changes db.last_rowid c.args.params.now c.args.text.now c.requires.valid c.in-Err.cause (said.1 db.tables.world (sym c.len-number.ensures)) c.args.budget (bound_where asked (context hosts old c.args.params.now) c.args.text.now) c.args.steps.now (g.R.RowSink.taken c.args.rows.now) (Rose (g.R.RowSink.fault_count c.args.rows.now) (g.R.RowSink.fault_count c.args.rows.now)))

pub returns-in-Ok-clause-carried : goal.returns-in-Ok-clause-carried
returns-in-Ok-clause-carried g c =
    let db = c.args.database.now in
    let after = c.run_prepared.new.database in
    let old = state_of db.schema db.tables.world db.changes db.last_rowid in
    as_told (meant (λ b. (goal.Authorizer-dyn g (b.vtable, b.value)).verdicts b.value) c.args.hosts.now) old c.args.params.now c.args.text.now
    (λ o bound. CarriesOut o old (state_of after.schema after.tables.world after.changes after.last_rowid) c.args.budget bound (c.run_prepared.new.steps - c.args.steps.now) (g.R.RowSink.taken c.args.rows.now) (g.R.RowSink.taken c.run_prepared.new.rows) (Rose (g.R.RowSink.fault_count c.args.rows.now) (g.R.RowSink.fault_count c.run_prepared.new.rows)) c.run_prepared.result)
    (returns-in-Ok-clause-said g c)

pub returns-in-Err-clause-carried : goal.returns-in-Err-clause-carried
returns-in-Err-clause-carried g c =
    let db = c.args.database.now in
    let old = state_of db.schema db.tables.world db.changes db.last_rowid in
    as_told (meant (λ b. (goal.Authorizer-dyn g (b.vtable, b.value)).verdicts b.value) c.args.hosts.now) old c.args.params.now c.args.text.now
    (λ o bound. CarriesOut o old old c.args.budget bound (c.args.steps.now - c.args.steps.now) (g.R.RowSink.taken c.args.rows.now) (g.R.RowSink.taken c.args.rows.now) (Rose (g.R.RowSink.fault_count c.args.rows.now) (g.R.RowSink.fault_count c.args.rows.now)) (Err c.in-Err.cause))
    (returns-in-Err-clause-said g c)

pub run_prepared-requires-clause-runs : goal.run_prepared-requires-clause-runs
run_prepared-requires-clause-runs g c =
    let db = c.args.database.now in
    let hosts = meant (λ b. (goal.Authorizer-dyn g (b.vtable, b.value)).verdicts b.value) c.args.hosts.now in
    let said = c.in-Ok.ensures.readies in
    let p = said.1 db.tables.world (sym c.len-number.ensures) in
    may_run (asked_as hosts.authorizer said.0) hosts db.schema db.tables.world db.changes db.last_rowid c.args.params.now c.args.text.now c.requires.valid c.in-Ok.prepared.explain p.0 c.in-Ok.prepared.ready p.1 p.2 p.4

pub returns-in-Ok-clause-hosts : goal.returns-in-Ok-clause-hosts
returns-in-Ok-clause-hosts g c = c.run_prepared.ensures.told ∙ c.in-Ok.ensures.hosts

pub returns-in-Err-clause-hosts : goal.returns-in-Err-clause-hosts
returns-in-Err-clause-hosts g c = c.in-Err.ensures.hosts

pub returns-in-Ok-clause-plan : goal.returns-in-Ok-clause-plan
returns-in-Ok-clause-plan g c =
    let db = c.args.database.now in
    let text = c.args.text.now in
    let hosts = meant (λ b. (goal.Authorizer-dyn g (b.vtable, b.value)).verdicts b.value) c.args.hosts.now in
    let said = c.in-Ok.ensures.readies in
    let asked = asked_as hosts.authorizer said.0 in (
      said.0,
      gives hosts db.schema db.tables.world db.changes db.last_rowid asked text c.requires.valid c.order.ensures (length (tokens_of text)) c.in-Ok.prepared (g.R.RowSink.taken c.args.rows.now) (g.R.RowSink.taken c.run_prepared.new.rows) c.run_prepared.result
          (said.1 db.tables.world (sym c.len-number.ensures)) c.run_prepared.ensures.plan,
    )

pub returns-in-Err-clause-plan : goal.returns-in-Err-clause-plan
returns-in-Err-clause-plan g c = (c.in-Err.ensures.readies.0, tt)
