use Rattle.std.proofs.Common.{◌≡◌, map, Ok, rules}
use Rattle.bind_with.proofs.EntryLaws.{plain-is}
use Rattle.bind_with.proofs.entries.plain_table.Goals as goal
use Rattle.sql_bound.specs.Froms.{without_arguments}
use Rattle.sql_bound.specs.Trees.{of_expr}

pub returns : goal.returns
returns c =
    let args = map of_expr c.args.arguments.now in
    let none : without_arguments c.args.entry.now.name args ≡ Ok tt = search rules in
    λ i f w same. plain-is i c.args.name.now c.args.entry.now args f w c.of_table.result none (c.of_table.ensures i.outer same)
