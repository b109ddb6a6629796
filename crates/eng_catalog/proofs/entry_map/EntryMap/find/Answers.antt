use Rattle.std.proofs.Common.{sym, ap, ◌∙◌}
use Rattle.eng_catalog.proofs.KeyLaws.{find_named}
use Rattle.eng_catalog.proofs.Lists.{at_place}
use Rattle.eng_catalog.proofs.entry_map.EntryMap.find.Goals as goal

pub returns-in-Some : goal.returns-in-Some
returns-in-Some c =
    let entries = c.args.self.now in
    c.at.ensures ∙ sym (find_named c.args.name.now entries ∙ ap (at_place entries) (sym c.place.ensures ∙ c.in-Some.is))

pub returns-in-None : goal.returns-in-None
returns-in-None c =
    let entries = c.args.self.now in
    sym (find_named c.args.name.now entries ∙ ap (at_place entries) (sym c.place.ensures ∙ c.in-None.is))
