use Rattle.std.proofs.Common.{◌++◌, filter, ap, ◌∙◌}
use Rattle.bind_join.specs.Joins.{is_joinable}
use Rattle.sql_bound.specs.declared.scopes.ScopeItem.{ScopeItem}
use Rattle.bind_join.proofs.JoinLaws.{left-step}
use Rattle.bind_join.proofs.by_names.on_left.Goals as goal

pub loop-item-preserved : goal.loop-item-preserved
loop-item-preserved c =
    let x = c.item-item.result in
    let found = c.loop-item.found in
    c.loop-item.invariant
    ∙ left-step c.args.which c.args.name.now found c.put_item.new.found c.args.left.now c.loop-item.item-index x c.loop-item-test.true
    (c.in_ok-put_item.ensures.ok ∙ ap (λ (y : ScopeItem). found ++ filter (is_joinable c.args.which c.args.name.now) y.columns) c.item-item.is)
