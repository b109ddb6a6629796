use Rattle.std.proofs.Common.{Option, subst}
use Rattle.sql_tree.specs.declared.statement.TableDefinition.{TableDefinition}
use Rattle.sql_bound.specs.Answers.{Answers}
use Rattle.sql_bound.specs.Froms.{of_table}
use Rattle.bind_source.proofs.sources.of_table.Goals as goal

pub returns-in-Some : goal.returns-in-Some
returns-in-Some c o is =
    subst (λ (d : Option TableDefinition). Answers (of_table o c.args.name.now c.args.entry.now d) c.kept_source.result) c.in-Some.ensures (c.kept_source.ensures o is)
