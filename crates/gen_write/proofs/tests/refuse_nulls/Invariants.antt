use Rattle.std.proofs.Common.{◌≡◌, drop}
use Rattle.gen_write.specs.Stretches.{with_nulls_refused}
use Rattle.gen_write.proofs.tests.refuse_nulls.Given as goal

abbrev pub invariant-loop-column : goal.invariant-loop-column
invariant-loop-column l =
    with_nulls_refused l.b (drop l.column-index l.columns) l.table l.register l.causes ≡ with_nulls_refused l.initial.b l.columns l.table l.first l.causes
