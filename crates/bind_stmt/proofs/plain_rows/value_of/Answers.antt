use Rattle.std.proofs.Common.{sym, subst}
use Rattle.bound_tree.specs.Exprs.{BoundExpr}
use Rattle.sql_tree.specs.declared.expr.Expr.TheVariants as x
use Rattle.bind_stmt.specs.Plain.{IsValue}
use Rattle.bind_stmt.proofs.PlainValues.{literal-value}
use Rattle.bind_stmt.proofs.plain_rows.value_of.Goals as goal

pub returns-in_ok-literal_of-in-Literal : goal.returns-in_ok-literal_of-in-Literal
returns-in_ok-literal_of-in-Literal c =
    let text = c.args.text.now in
    let made = c.in_ok-literal_of-in-Literal.field-0 in
    subst (λ v. IsValue text v made) (sym c.in-Literal.is) (subst (λ (b : BoundExpr). IsValue text (x.Literal c.in-Literal.token) b) (sym c.in_ok-literal_of-in-Literal.ensures) (literal-value text c.in-Literal.token))
