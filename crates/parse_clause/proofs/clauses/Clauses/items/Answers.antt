use Rattle.std.proofs.Common.{arith}
use Rattle.parse_clause.proofs.Lists.{items_steps, item_shorter}
use Rattle.parse_clause.proofs.clauses.Clauses.items.Goals as goal

pub loop-found-smaller : goal.loop-found-smaller
loop-found-smaller g c = item_shorter _ _ _ _ _ _ c.in_ok-joined_item.ensures

pub returns-in_err-first_item : goal.returns-in_err-first_item
returns-in_err-first_item g c = grind (arith, items_steps)

pub returns-in_err-push : goal.returns-in_err-push
returns-in_err-push g c = grind (arith, items_steps)

pub returns-in_err-joined_item : goal.returns-in_err-joined_item
returns-in_err-joined_item g c = grind (arith, items_steps)

pub loop-found-preserved : goal.loop-found-preserved
loop-found-preserved g c = grind (arith, items_steps)

pub returns-in_err-push-2 : goal.returns-in_err-push-2
returns-in_err-push-2 g c = grind (arith, items_steps)

pub returns : goal.returns
returns g c = grind (arith, items_steps)
