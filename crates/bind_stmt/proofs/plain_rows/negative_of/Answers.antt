use Rattle.std.proofs.Common.{◌≡◌, ap, false, subst, sym, ◌∙◌}
use Rattle.bound_tree.specs.Exprs as e
use Rattle.bound_tree.specs.Exprs.{BoundExpr}
use Rattle.eng_value.specs.declared.operators.UnaryOperator.TheVariants as unary
use Rattle.sql_lex.specs.Tokens.{slice_of}
use Rattle.sql_tree.specs.declared.expr.Expr.TheVariants as x
use Rattle.sql_tree.specs.declared.expr.UnaryOp.TheVariants as sign
use Rattle.sql_words.specs.Spelled.{is_least_magnitude}
use Rattle.bind_stmt.specs.Plain.{IsValue}
use Rattle.bind_stmt.proofs.PlainValues.{negative-value}
use Rattle.bind_stmt.proofs.plain_rows.negative_of.Goals as goal

pub returns-in_ok-unary-in-Literal : goal.returns-in_ok-unary-in-Literal
returns-in_ok-unary-in-Literal c =
    let text = c.args.text.now in
    let token = c.in-Literal.token in
    let made = c.in_ok-unary-in-Literal.field-0 in
    let plain : is_least_magnitude (slice_of text token) ≡ false = ap is_least_magnitude (sym c.slice_of.ensures) ∙ sym c.is_least_magnitude.ensures ∙ c.if-not-is_least_magnitude.true in
    let bound = c.in_ok-unary-in-Literal.ensures ∙ ap (e.Unary unary.Negative) c.in_ok-positive-in-Literal.ensures in
    subst (λ v. IsValue text (x.Unary sign.Negative v) made) (sym c.in-Literal.is) (subst (λ (b : BoundExpr). IsValue text (x.Unary sign.Negative (x.Literal token)) b) (sym bound) (negative-value text token plain))
