use Rattle.std.proofs.Common.{arith}
use Rattle.parse_cursor.proofs.Items.{run_steps, run_shorter}
use Rattle.parse_cursor.proofs.lists.several.Goals as goal

pub returns-in_err-read : goal.returns-in_err-read
returns-in_err-read g c = grind (arith, run_steps)

pub returns-in_err-push : goal.returns-in_err-push
returns-in_err-push g c = grind (arith, run_steps)

pub loop-found-init : goal.loop-found-init
loop-found-init g c = grind (arith, run_steps)

pub returns-in_err-read-2 : goal.returns-in_err-read-2
returns-in_err-read-2 g c = grind (arith, run_steps)

pub loop-found-preserved : goal.loop-found-preserved
loop-found-preserved g c = grind (arith, run_steps)

pub returns-in_err-push-2 : goal.returns-in_err-push-2
returns-in_err-push-2 g c = grind (arith, run_steps)

pub returns : goal.returns
returns g c = grind (arith, run_steps)

pub loop-found-smaller : goal.loop-found-smaller
loop-found-smaller g c = run_shorter (g.E.Element.rule c.args.element.now) (g.E.Element.depth c.args.element.now) _ _ _ _ _ c.requires.clear c.in_ok-read-2.ensures
