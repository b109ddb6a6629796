use Rattle.std.proofs.Common.{arith}
use Rattle.parse_expr.proofs.Straight.{member_of_is}
use Rattle.parse_expr.proofs.precedence.Levels.member_of.Goals as goal

pub returns-in_err-expect : goal.returns-in_err-expect
returns-in_err-expect g c = grind (arith, member_of_is)

pub returns : goal.returns
returns g c = grind (arith, member_of_is)

pub in_members-requires : goal.in_members-requires
in_members-requires g c = record { exprs = c.requires.exprs; queries = c.requires.queries }
