use Rattle.std.proofs.Common.{rules, sym}
use Rattle.std.specs.Option.{option_copied}
use Rattle.bind_scope.proofs.SightLaws.{first_in-some}
use Rattle.bind_scope.proofs.sights.first_in.Goals as goal

pub returns-in-Some : goal.returns-in-Some
returns-in-Some c = sym (first_in-some (option_copied c.args.table) c.args.name.now c.args.item.now c.in-Some.column.now (search rules) (search rules))
