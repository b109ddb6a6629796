use Rattle.std.proofs.Common.{arith, rules, sym}
use Rattle.std.specs.Option.{option_copied}
use Rattle.bind_scope.specs.Sights.{candidates}
use Rattle.bind_scope.proofs.SightLaws.{another_of-on, another_of-there}
use Rattle.bind_scope.proofs.sights.another_of.Goals as goal

pub returns-then-another_in : goal.returns-then-another_in
returns-then-another_in c =
    another_of-there (candidates (option_copied c.args.table) c.args.name.now) c.args.level.now c.loop-item.item-index c.item-item.result c.loop-item.one _
    (omega arith) c.item-item.is c.loop-item.invariant (search rules)

pub loop-item-preserved : goal.loop-item-preserved
loop-item-preserved c =
    another_of-on (candidates (option_copied c.args.table) c.args.name.now) c.args.level.now c.loop-item.item-index c.item-item.result c.loop-item.one _
    (omega arith) c.item-item.is c.loop-item.invariant _ (search rules) c.is_behind-one.ensures
