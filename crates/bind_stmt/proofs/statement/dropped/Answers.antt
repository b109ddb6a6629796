use Rattle.std.proofs.Common.{Ok, ap, ◌∙◌}
use Rattle.sql_meaning.specs.declared.column.TableEntry.{TableEntry}
use Rattle.sql_meaning.specs.Runnables.{Drops}
use Rattle.sql_words.specs.Refusals.{◌>>=◌}
use Rattle.bind_stmt.proofs.statement.dropped.Goals as goal

pub returns : goal.returns
returns c =
    let w = c.in_ok-table.ensures in
    (Drops w.0, ap (λ r. r >>= (λ t. Ok (Drops t))) w.1, (c.in_ok-clone.ensures.cases ∙ ap (λ (t : TableEntry). t.name) w.2, ap (λ (t : TableEntry). t.number) w.2))
