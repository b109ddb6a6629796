use Rattle.std.proofs.Common.{Ok, ap, refl, ◌∙◌}
use Rattle.bound_tree.specs.declared.units.BoundPart.TheVariants as part
use Rattle.sql_meaning.specs.Runnables.{Shows}
use Rattle.bind_stmt.proofs.Steps.{query-is}
use Rattle.bind_stmt.proofs.querying.query.Goals as goal

pub returns : goal.returns
returns c =
    (Shows c.in-Values.rows, query-is c.args.tables.now c.args.units c.args.place (part.Values c.in-Values.rows) (Ok (Shows c.in-Values.rows)) (c.in_ok-part.ensures ∙ ap Ok c.in-Values.is) refl, c.replace.ensures.value)
