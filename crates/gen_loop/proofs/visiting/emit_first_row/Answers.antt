use Rattle.gen_loop.proofs.visiting.emit_first_row.Goals as goal

pub returns-in-Scan : goal.returns-in-Scan
returns-in-Scan c = rw c.in-Scan.is c.op.ensures

pub returns-in-Search : goal.returns-in-Search
returns-in-Search c = rw c.in-Search.is c.emit_search.ensures
