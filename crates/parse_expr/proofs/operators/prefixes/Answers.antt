use Rattle.std.proofs.Common.{arith}
use Rattle.sql_grammar.specs.declared.counts.Role.TheVariants as role
use Rattle.parse_cursor.proofs.Steps.{one_shorter}
use Rattle.parse_expr.proofs.Lists.{prefixes_steps}
use Rattle.parse_expr.proofs.operators.prefixes.Goals as goal

pub loop-found-smaller : goal.loop-found-smaller
loop-found-smaller c = one_shorter role.Operator c.args.kinds.now _ _ _ _ _ c.in_ok-expect_any.ensures

pub returns : goal.returns
returns c = grind (arith, prefixes_steps)

pub returns-in_err-expect_any : goal.returns-in_err-expect_any
returns-in_err-expect_any c = grind (arith, prefixes_steps)

pub loop-found-preserved : goal.loop-found-preserved
loop-found-preserved c = grind (arith, prefixes_steps)

pub returns-in_err-push : goal.returns-in_err-push
returns-in_err-push c = grind (arith, prefixes_steps)
