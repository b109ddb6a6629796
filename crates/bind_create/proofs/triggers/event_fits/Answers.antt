use Rattle.bind_create.proofs.EventLaws.{fits-some}
use Rattle.bind_create.proofs.triggers.event_fits.Goals as goal

pub returns-in-len1-up : goal.returns-in-len1-up
returns-in-len1-up c =
    fits-some c.args.catalog.now c.args.facts.now c.args.text.now c.args.table.now c.args.names.now c.of_text-scope.result c.columns_there.result
    c.in-len1-up.len_at_least c.of_text-scope.ensures c.columns_there.ensures
