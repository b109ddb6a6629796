use Rattle.std.proofs.Common.{◌≡◌, rules, tests}
use Rattle.std.proofs.lemmas.Iterator.{YieldsList-from_slice}
use Rattle.std.proofs.lemmas.Iterator.Search.{any_from_yields_List}
use Rattle.std.specs.List.{list_any}
use Rattle.eng_value.specs.Causes.{is_same_cause}
use Rattle.eng_value.proofs.CauseLaws.{first_is, others_are}
use Rattle.eng_value.proofs.causes.Causes.contains.Goals as goal

pub returns-then-is_same : goal.returns-then-is_same
returns-then-is_same c = first_is _ c.self.inside.first c.self.inside.others.items c.args.cause.now _ c.self.view_is c.is_same.ensures c.if-is_same.true

pub returns-else-is_same : goal.returns-else-is_same
returns-else-is_same c =
    let others = c.self.inside.others.items in
    let cause = c.args.cause.now in
    let found : c.any.result ≡ list_any (is_same_cause cause) others =
    any_from_yields_List (is_same_cause cause) _ _ c.any.result c.any.ensures.ran (YieldsList-from_slice others cc) (λ x b q k. search (rules, tests)) in
    others_are _ c.self.inside.first others cause _ _ c.self.view_is c.is_same.ensures c.if-is_same.false found
