use Rattle.std.proofs.Common.{◌-◌, sym, ◌∙◌, arith}
use Rattle.parse_operand.proofs.Alone.{lone_literal_is}
use Rattle.parse_operand.proofs.operands.OperandsElementExpr.read.Goals as goal

pub returns-in_err-expect_any : goal.returns-in_err-expect_any
returns-in_err-expect_any g c =
    let alone = lone_literal_is (c.args.self.now.depth - 1) c.args.tokens.now.counts c.args.tokens.now.rest.now (sym c.sees_lone_literal.ensures ∙ c.if-sees_lone_literal.true) in
    grind (arith, alone)

pub returns-then-sees_lone_literal : goal.returns-then-sees_lone_literal
returns-then-sees_lone_literal g c =
    let alone = lone_literal_is (c.args.self.now.depth - 1) c.args.tokens.now.counts c.args.tokens.now.rest.now (sym c.sees_lone_literal.ensures ∙ c.if-sees_lone_literal.true) in
    grind (arith, alone)
