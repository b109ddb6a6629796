use Rattle.std.proofs.Common.{arith, rules}
use Rattle.std.specs.Option.{option_copied}
use Rattle.bind_scope.specs.Sights.{candidates}
use Rattle.bind_scope.proofs.SightLaws.{nearest_column-answers}
use Rattle.bind_scope.proofs.names.nearest_column.Goals as goal

pub returns-in-Some : goal.returns-in-Some
returns-in-Some c =
    nearest_column-answers c.args.name.now (candidates (option_copied c.args.table) c.args.name.now) c.args.levels.now c.loop-level.level-index c.level-item.result
    c.in-Some.column.now _ c.sighted.result c.loop-level.up c.another_of.result (omega arith) c.level-item.is c.loop-level.invariant.1 (search rules)
    c.loop-level.invariant.0 (search rules) c.sighted.ensures
