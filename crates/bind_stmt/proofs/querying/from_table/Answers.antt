use Rattle.std.proofs.Common.{refl, ap, ◌∙◌}
use Rattle.sql_meaning.specs.Running.{index_terms}
use Rattle.bind_stmt.proofs.querying.from_table.Goals as goal

pub returns : goal.returns
returns c = record {
  table = refl;
  indexes = c.in_ok-indexes.ensures ∙ ap (index_terms c.args.table.now.rowid) c.as_slice.ensures;
  join = c.in_ok-join.ensures;
}
