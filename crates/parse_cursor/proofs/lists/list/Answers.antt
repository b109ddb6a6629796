use Rattle.std.proofs.Common.{arith}
use Rattle.parse_cursor.proofs.Items.{items_steps, items_shorter}
use Rattle.parse_cursor.proofs.lists.list.Goals as goal

pub returns-in_err-read : goal.returns-in_err-read
returns-in_err-read g c = grind (arith, items_steps)

pub returns-in_err-push : goal.returns-in_err-push
returns-in_err-push g c = grind (arith, items_steps)

pub loop-tokens-init : goal.loop-tokens-init
loop-tokens-init g c = grind (arith, items_steps)

pub returns-in_err-expect : goal.returns-in_err-expect
returns-in_err-expect g c = grind (arith, items_steps)

pub returns-in_err-read-2 : goal.returns-in_err-read-2
returns-in_err-read-2 g c = grind (arith, items_steps)

pub loop-tokens-preserved : goal.loop-tokens-preserved
loop-tokens-preserved g c = grind (arith, items_steps)

pub returns-in_err-push-2 : goal.returns-in_err-push-2
returns-in_err-push-2 g c = grind (arith, items_steps)

pub returns : goal.returns
returns g c = grind (arith, items_steps)

pub loop-tokens-smaller : goal.loop-tokens-smaller
loop-tokens-smaller g c = items_shorter (g.E.Element.rule c.args.element.now) (g.E.Element.depth c.args.element.now) _ _ _ _ _ _ _ _ c.requires.clear c.in_ok-expect.ensures c.in_ok-read-2.ensures
