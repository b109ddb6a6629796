use Rattle.std.proofs.Common.{ap, ◌∙◌, arith}
use Rattle.sql_meaning.proofs.ValidLaws.{outcome_where-valid}
use Rattle.sql_meaning.specs.Permits.{asked_as}
use Rattle.sql_meaning.specs.World.{context}
use Rattle.vm_core.specs.Meant.{meant}
use Rattle.engine.specs.Held.{state_of}
use Rattle.engine.proofs.CarryingOut.{carries_valid}
use Rattle.engine.proofs.connection.Connection.run.Goals as goal
use Rattle.engine.proofs.connection.Connection.run.Goals.{in-Ok, in-Err}

pub returns-clause-done : goal.returns-clause-done
returns-clause-done g c = elim c.match-run_text.branch [
  | in-Ok w ↦ rw (w.result-is, ← c.self.view_is) (λ told. (w.in-Ok.ensures.carried told).answer.0)
  | in-Err w ↦ rw w.result-is tt
]

pub returns-clause-next : goal.returns-clause-next
returns-clause-next g c = elim c.match-run_text.branch [
  | in-Ok w ↦ rw (w.result-is, ← c.self.view_is) (λ told. (w.in-Ok.ensures.carried told).answer.1)
  | in-Err w ↦ rw w.result-is tt
]

pub returns-clause-rows : goal.returns-clause-rows
returns-clause-rows g c = elim c.match-run_text.branch [
  | in-Ok w ↦ rw (w.result-is, ← c.self.view_is) (λ told. (w.in-Ok.ensures.carried told).answer.2)
  | in-Err w ↦ rw w.result-is tt
]

pub returns-clause-changed : goal.returns-clause-changed
returns-clause-changed g c = elim c.match-run_text.branch [
  | in-Ok w ↦ rw (w.result-is, ← c.self.view_is) (λ told. (w.in-Ok.ensures.carried told).answer.3)
  | in-Err w ↦ rw w.result-is tt
]

pub returns-clause-cause : goal.returns-clause-cause
returns-clause-cause g c = elim c.match-run_text.branch [
  | in-Ok w ↦ rw w.result-is tt
  | in-Err w ↦ rw (w.result-is, ← c.self.view_is) (λ told. (w.in-Err.ensures.carried told).answer)
]

pub returns-clause-front : goal.returns-clause-front
returns-clause-front g c = rw (← c.self.view_is) (λ told. (c.run_text.ensures.carried told).front)

pub returns-clause-bound : goal.returns-clause-bound
returns-clause-bound g c =
    let ticks = c.run_text.ensures.ticks in
    rw (← c.self.view_is) (λ told. let within = (c.run_text.ensures.carried told).within in omega arith)

pub returns-clause-kept : goal.returns-clause-kept
returns-clause-kept g c = elim c.match-run_text.branch [
  | in-Ok w ↦ rw w.result-is tt
  | in-Err w ↦ rw w.result-is (ap (λ s. record { state = s; budget = c.self.inside.budget }) w.in-Err.ensures.kept ∙ c.self.view_is)
]

-- src/connection.rt:69:5
pub invariant_of-self : goal.invariant_of-self
invariant_of-self g c =
    let hosts = meant (λ b. (goal.Authorizer-dyn g (b.vtable, b.value)).verdicts b.value) c.args.hosts.now in
    let db = c.self.inside.database in
    let old = state_of db.schema db.tables.world db.changes db.last_rowid in
    let said = c.run_text.ensures.said in
    record {
      unmarked = c.run_text.ensures.marks ∙ c.self.invariant.unmarked;
      valid = carries_valid _ old _ _ _ _ _ _ _ _ c.self.invariant.valid (outcome_where-valid (asked_as hosts.authorizer said.0) (context hosts old c.args.params.now) c.args.sql.now c.self.invariant.valid) said.1;
    }

pub returns-clause-valid : goal.returns-clause-valid
returns-clause-valid g c =
    let hosts = meant (λ b. (goal.Authorizer-dyn g (b.vtable, b.value)).verdicts b.value) c.args.hosts.now in
    let db = c.self.inside.database in
    let old = state_of db.schema db.tables.world db.changes db.last_rowid in
    let said = c.run_text.ensures.said in
    carries_valid _ old _ _ _ _ _ _ _ _ c.self.invariant.valid (outcome_where-valid (asked_as hosts.authorizer said.0) (context hosts old c.args.params.now) c.args.sql.now c.self.invariant.valid) said.1

pub returns-clause-plan : goal.returns-clause-plan
returns-clause-plan g c = elim c.match-run_text.branch [
  | in-Ok w ↦ rw (w.result-is, ← c.self.view_is) w.in-Ok.ensures.plan
  | in-Err w ↦ rw w.result-is tt
]
