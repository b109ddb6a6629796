use Rattle.std.proofs.Common.{◌≡◌, ◌+◌, ◌-◌, arith, subst}
use Rattle.vm_tables.specs.Indexes.{AreInsertedFrom}
use Rattle.vm_tables.proofs.indexes.Indexes.insert.Goals as goal

pub loop-place-preserved : goal.loop-place-preserved
loop-place-preserved c =
    let place = c.loop-place.place in
    let before : place ≡ place - 1 + 1 = omega arith in
    record {
      within = c.insert_at.ensures.within;
      inserted = λ rows free are. c.insert_at.ensures.inserted rows free (subst (λ k. AreInsertedFrom k rows c.args.row.now c.loop-place.self-inside.indexes.items) before (c.loop-place.invariant.inserted rows free are));
    }
