use Rattle.std.proofs.Common.{Some, ap, ◌∙◌}
use Rattle.sql_meaning.specs.Running.{kind_removed, removal_of}
use Rattle.sql_meaning.specs.Runnables.{Unindexes}
use Rattle.bind_stmt.proofs.statement.removed.Goals as goal

pub returns-in_ok-clone-in-Index : goal.returns-in_ok-clone-in-Index
returns-in_ok-clone-in-Index c =
    let name = c.args.removal.now.name in
    (Unindexes name, ap (λ k. removal_of c.args.tables.now k name) (ap kind_removed c.in-Remove.is ∙ ap Some c.in-Index.is), c.in_ok-clone-in-Index.ensures.cases)
