use Rattle.std.proofs.Common.{◌≡◌, false, sym, ◌∙◌}
use Rattle.bind_stmt.specs.Ignored.{are_marked}
use Rattle.bind_stmt.proofs.IgnoredLaws.{unmarked-same}
use Rattle.bind_stmt.proofs.querying.as_stored.Goals as goal

pub returns-else-are_marked : goal.returns-else-are_marked
returns-else-are_marked c =
    let none : are_marked c.args.marks.now ≡ false = sym c.are_marked.ensures ∙ c.if-are_marked.false in unmarked-same c.args.marks.now none c.args.expressions
