use Rattle.std.proofs.Common.{◌≡◌, ◌-◌, ◌∙◌, arith, subst, sym}
use Rattle.std.proofs.lemmas.Result.{err_from_is_err_and}
use Rattle.eng_value.specs.HostMeanings.{nobody}
use Rattle.host_traits.specs.Faults.{Rose}
use Rattle.vm_code.specs.Honesty.{ProgramIsTold}
use Rattle.vm_code.specs.Machine.{setting}
use Rattle.engine.proofs.Stretches.{needed_then, drive_stops, drive_ends, along_next, some_ran}
use Rattle.engine.proofs.Takings.{rose_since}
use Rattle.engine.proofs.Telling.{all_told}
use Rattle.engine.proofs.running.drive.Goals as goal

pub returns-in_err-next-clause-needed : goal.returns-in_err-next-clause-needed
returns-in_err-next-clause-needed g c told ask =
    let i = c.loop-given.invariant in
    let here = subst (ProgramIsTold g.M.Meanings.hosts) (sym i.program) told in
    needed_then (i.along told ask) i.program i.params (c.next.new.budget.ran - c.loop-given.budget.ran) (c.next.new.steps - c.args.steps.now) (omega arith) (c.in_err-next.ensures.needed here ask)

pub returns-in_err-next-clause-run : goal.returns-in_err-next-clause-run
returns-in_err-next-clause-run g c told ask =
    let i = c.loop-given.invariant in
    let h = c.in_err-next.ensures in
    let here = subst (ProgramIsTold g.M.Meanings.hosts) (sym i.program) told in
    let n = c.next.new.budget.ran - c.loop-given.budget.ran in
    let before = g.R.RowSink.fault_count c.args.rows.now in
    let since = g.R.RowSink.fault_count c.loop-given.rows in
    let now = g.R.RowSink.fault_count c.next.new.rows in
    let why = err_from_is_err_and c.from_residual.result c.from_residual.ensures.1 in
    let ran = c.next.new.steps - c.args.steps.now in
    let counted : c.next.new.budget.ran ≡ ran = omega arith in
    let stops = drive_stops (i.along told ask) i.program i.params n ran (omega arith) c.next.new.machine c.next.new.tables.world (g.R.RowSink.taken c.next.new.rows) c.loop-given.budget.whole c.args.budget c.next.new.budget.ran (Rose since now) (Rose before now) c.in_err-next.field-0.0 i.whole counted (rose_since before since now i.faults) (h.next here ask) in
    rw (why.1, why.2) stops

pub returns-clause-needed : goal.returns-clause-needed
returns-clause-needed g c told ask =
    let i = c.loop-given.invariant in
    let here = subst (ProgramIsTold g.M.Meanings.hosts) (sym i.program) told in
    needed_then (i.along told ask) i.program i.params (c.next.new.budget.ran - c.loop-given.budget.ran) (c.next.new.steps - c.args.steps.now) (omega arith) (c.in_ok-next.ensures.needed here ask)

pub returns-clause-run : goal.returns-clause-run
returns-clause-run g c told ask =
    let i = c.loop-given.invariant in
    let here = subst (ProgramIsTold g.M.Meanings.hosts) (sym i.program) told in
    let n = c.next.new.budget.ran - c.loop-given.budget.ran in
    let next = c.in_ok-next.ensures.next here ask in
    let ends = rw c.if-branch.false at next in
    drive_ends (i.along told ask) i.program i.params n (c.next.new.steps - c.args.steps.now) (omega arith) c.next.new.machine c.next.new.tables.world (g.R.RowSink.taken c.next.new.rows) ends.0 ends.1

pub overflow_add-given : goal.overflow_add-given
overflow_add-given g c =
    let i = c.loop-given.invariant in
    let n = c.next.new.budget.ran - c.loop-given.budget.ran in
    let hosts = g.M.Meanings.hosts in
    let next = c.in_ok-next.ensures.next (all_told hosts c.loop-given.machine.prog i.told) nobody in
    let goes = rw c.if-branch.true at next in
    let some = some_ran (setting hosts nobody c.loop-given.machine.params c.loop-given.machine.prog) n c.loop-given.machine c.next.new.machine c.loop-given.tables.world c.next.new.tables.world goes.0 goes.1 in
    omega arith

pub loop-given-preserved : goal.loop-given-preserved
loop-given-preserved g c =
    let i = c.loop-given.invariant in
    let h = c.in_ok-next.ensures in
    let n = c.next.new.budget.ran - c.loop-given.budget.ran in
    let hosts = g.M.Meanings.hosts in
    let next = h.next (all_told hosts c.loop-given.machine.prog i.told) nobody in
    let goes = rw c.if-branch.true at next in
    let some = some_ran (setting hosts nobody c.loop-given.machine.params c.loop-given.machine.prog) n c.loop-given.machine c.next.new.machine c.loop-given.tables.world c.next.new.tables.world goes.0 goes.1 in
    record {
      within = omega arith;
      whole = h.whole ∙ i.whole;
      counted = omega arith;
      program = h.program ∙ i.program;
      params = h.params ∙ i.params;
      marks = h.marks ∙ i.marks;
      faults = omega arith;
      few = omega arith;
      told = h.told;
      along = λ told ask.
          let here = subst (ProgramIsTold hosts) (sym i.program) told in
          let answers = h.next here ask in
          let more = rw c.if-branch.true at answers in
          along_next (i.along told ask) i.program i.params n c.next.new.budget.ran (omega arith) c.next.new.machine c.next.new.tables.world (g.R.RowSink.taken c.next.new.rows) more.0 more.1 more.2;
    }

pub loop-given-smaller : goal.loop-given-smaller
loop-given-smaller g c =
    let i = c.loop-given.invariant in
    let h = c.in_ok-next.ensures in
    let n = c.next.new.budget.ran - c.loop-given.budget.ran in
    let hosts = g.M.Meanings.hosts in
    let next = h.next (all_told hosts c.loop-given.machine.prog i.told) nobody in
    let goes = rw c.if-branch.true at next in
    let some = some_ran (setting hosts nobody c.loop-given.machine.params c.loop-given.machine.prog) n c.loop-given.machine c.next.new.machine c.loop-given.tables.world c.next.new.tables.world goes.0 goes.1 in
    omega (arith, some, h.whole, h.within, i.within)
