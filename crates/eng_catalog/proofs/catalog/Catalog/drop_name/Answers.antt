use Rattle.std.proofs.Common.{◌≡◌, ◌∙◌}
use Rattle.eng_catalog.proofs.Lists.{IfNone-map}
use Rattle.eng_catalog.proofs.catalog.Catalog.drop_name.Goals as goal

pub returns-in-Names-clause-none : goal.returns-in-Names-clause-none
returns-in-Names-clause-none c =
    IfNone-map c.drop_name.result
    (λ (e : c.drop_name.new.self ≡ c.self.inside.names). (λ j. record { names = e j; triggers = c.self.inside.triggers }) ∙ c.self.view_is)
    c.drop_name.ensures.none

pub returns-in-Triggers-clause-none : goal.returns-in-Triggers-clause-none
returns-in-Triggers-clause-none c =
    let dropped = c.drop_name-in-Triggers in
    IfNone-map dropped.result
    (λ (e : dropped.new.self ≡ c.self.inside.triggers). (λ j. record { names = c.self.inside.names; triggers = e j }) ∙ c.self.view_is)
    dropped.ensures.none
