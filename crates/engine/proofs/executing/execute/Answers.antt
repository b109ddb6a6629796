use Rattle.std.proofs.Common.{◌≡◌, rules, to_z, of_z, w64}
use Rattle.vm_code.specs.Machine.{setting}
use Rattle.engine.proofs.Answering.{executes-Ok, executes-Err}
use Rattle.engine.proofs.Starting.{from_copy}
use Rattle.engine.proofs.executing.execute.Goals as goal

pub returns-in-Ok-clause-runs : goal.returns-in-Ok-clause-runs
returns-in-Ok-clause-runs g c told ask most e x ends =
    let same : to_z w64 (of_z w64 c.args.last_rowid) ≡ c.args.last_rowid = search rules in
    let copied = from_copy (setting g.M.Meanings.hosts ask c.args.params.now c.args.program) most c.args.program c.args.tables.now.world e x same ends in
    executes-Ok e x _ _ _ _ _ _ _ c.in-Ok.completed (c.in-Ok.ensures.runs told ask most e x copied)

pub returns-in-Err-clause-runs : goal.returns-in-Err-clause-runs
returns-in-Err-clause-runs g c told ask most e x ends =
    let same : to_z w64 (of_z w64 c.args.last_rowid) ≡ c.args.last_rowid = search rules in
    let copied = from_copy (setting g.M.Meanings.hosts ask c.args.params.now c.args.program) most c.args.program c.args.tables.now.world e x same ends in
    executes-Err e x _ _ _ _ _ _ _ c.in-Err.stop c.cause_of.result c.cause_of.ensures (c.in-Err.ensures.runs told ask most e x copied)
