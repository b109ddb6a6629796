use Rattle.std.proofs.Common.{◌≡◌, ◌&&◌, not, ap, sym, ◌∙◌}
use Rattle.bind_join.specs.declared.joins.Counts.TheVariants as which
use Rattle.sql_bound.specs.Declarations.{is_empty}
use Rattle.sql_bound.specs.Froms.{is_shown_left, on_left}
use Rattle.sql_bound.specs.Scopes.{is_shown}
use Rattle.bind_join.proofs.JoinLaws.{left-some}
use Rattle.bind_join.proofs.joins.is_shown_left.Goals as goal

pub returns-then-not-column : goal.returns-then-not-column
returns-then-not-column c =
    let left = c.args.left.now in
    let name = c.args.column.now.name in
    let shown : is_shown_left left c.args.column.now ≡ not (is_empty (on_left is_shown name left)) = ap (λ h. not h && not (is_empty (on_left is_shown name left))) c.if-not-column.true in
    c.has_left.ensures ∙ left-some which.ShownOnly c.as_str.result.now left ∙ ap (λ n. not (is_empty (on_left is_shown n left))) c.as_str.ensures ∙ sym shown
