use Rattle.bind_target.proofs.allowing.may_write_module.Goals as goal

pub returns-in-Some : goal.returns-in-Some
returns-in-Some c catalog = rw c.in-Some.is (c.may_write_entry.ensures catalog)

pub returns-in-None : goal.returns-in-None
returns-in-None c catalog = rw c.in-None.is (c.may_write_own.ensures catalog)
