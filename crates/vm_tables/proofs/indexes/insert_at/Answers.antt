use Rattle.std.proofs.Common.{add-one, sym, subst}
use Rattle.vm_tables.specs.Indexes.{AreInsertedFrom}
use Rattle.vm_tables.proofs.IndexLaws.{one_dropped}
use Rattle.vm_tables.proofs.indexes.insert_at.Goals as goal

pub returns-then-is_err-clause-inserted : goal.returns-then-is_err-clause-inserted
returns-then-is_err-clause-inserted c = λ rows free from.
    let more = subst (λ k. AreInsertedFrom k rows c.args.row.now c.args.indexes.now.items) (add-one c.args.place) from in
    subst (AreInsertedFrom c.args.place rows c.args.row.now) (sym c.remove.ensures.items) (one_dropped rows c.args.row.now c.args.indexes.now.items c.args.place c.insert.new.self c.requires more)
