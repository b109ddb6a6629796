use Rattle.std.proofs.Common.{[]}
use Rattle.gen_write.proofs.Columns.{loads_null}
use Rattle.vm_code.specs.Frames.{needing}
use Rattle.gen_write.proofs.rows.load.Goals as goal

pub returns-in_ok-op-in-None-clause-loads : goal.returns-in_ok-op-in-None-clause-loads
returns-in_ok-op-in-None-clause-loads c =
    rw (c.in_ok-op-in-None.ensures, c.in-None.is) (loads_null (needing []) c.args.b.now c.args.to c.requires.taken c.requires.counted)

pub returns-in_ok-load_kept-in-Some-clause-loads : goal.returns-in_ok-load_kept-in-Some-clause-loads
returns-in_ok-load_kept-in-Some-clause-loads c = rw c.in-Some.is c.in_ok-load_kept-in-Some.ensures.loads
