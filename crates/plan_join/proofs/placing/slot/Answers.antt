use Rattle.plan_join.proofs.placing.slot.Goals as goal

pub returns-then-is_inner : goal.returns-then-is_inner
returns-then-is_inner c = c.behind_others.ensures c.args.item.now (c.is_inner.ensures c.if-is_inner.true)
