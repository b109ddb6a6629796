use Rattle.gen_write.proofs.rows.emit_beside.Goals as goal

pub returns-in-Given-clause-held : goal.returns-in-Given-clause-held
returns-in-Given-clause-held c = rw c.in-Given.is c.emit_value.ensures.held
