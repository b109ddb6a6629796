use Rattle.std.proofs.Common.{◌∙◌, arith, rules}
use Rattle.gen_write.specs.Writes.{NamesWhatIsThere, row_steps}
use Rattle.gen_write.proofs.RowRuns.{puts_all, puts_none, puts_row}
use Rattle.gen_write.proofs.rows.put_rows.Goals as goal

pub loop-kept-init : goal.loop-kept-init
loop-kept-init c = record { puts = puts_none (NamesWhatIsThere c.args.insert.now) c.args.b.now c.args.causes c.args.insert.now c.args.source.now (row_steps c.args.insert.now); cursors = search rules; units = search rules }

pub put_row-requires-clause-taken : goal.put_row-requires-clause-taken
put_row-requires-clause-taken c = omega (arith, c.requires.taken, c.loop-kept.invariant.puts.next)

pub put_row-requires-clause-counted : goal.put_row-requires-clause-counted
put_row-requires-clause-counted c = omega (arith, c.requires.counted, c.loop-kept.invariant.puts.next, c.loop-kept.invariant.puts.grows.most)

pub put_row-requires-clause-cursors : goal.put_row-requires-clause-cursors
put_row-requires-clause-cursors c = c.loop-kept.invariant.cursors ∙ c.requires.cursors

pub loop-kept-preserved : goal.loop-kept-preserved
loop-kept-preserved c =
    let row = rw c.as_slice.ensures at c.in_ok-put_row.ensures.puts in
    record {
      puts = puts_row c.args.insert.now c.args.source.now c.loop-kept.kept-index (row_steps c.args.insert.now) c.kept-item.result c.loop-kept-test.true c.kept-item.is c.loop-kept.invariant.puts row;
      cursors = c.in_ok-put_row.ensures.cursors ∙ c.loop-kept.invariant.cursors;
      units = c.in_ok-put_row.ensures.units ∙ c.loop-kept.invariant.units;
    }

pub returns-clause-puts : goal.returns-clause-puts
returns-clause-puts c =
    puts_all c.args.insert.now c.args.source.now c.loop-kept.kept-index (row_steps c.args.insert.now) (omega arith) c.loop-kept.invariant.puts
