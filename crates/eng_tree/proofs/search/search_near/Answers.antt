use Rattle.std.proofs.Common.{refl, sym, ◌∙◌, ap}
use Rattle.std.proofs.lemmas.Option.{slice_get_read}
use Rattle.eng_tree.specs.Map.{order}
use Rattle.eng_tree.proofs.Places.{is_there}
use Rattle.eng_tree.proofs.search.search_near.Goals as goal

pub returns-in-Equal : goal.returns-in-Equal
returns-in-Equal c =
    let h = c.in-Some.ensures.lookup in
    is_there c.args.key.now c.args.entries.now c.args.near c.in-Some.entry.now c.requires (slice_get_read _ _ _ _ refl h.3.0 h.1) (ap (order c.in-Some.entry.now.0) (sym c.new-wanted.ensures) ∙ sym c.in-Equal.ensures)
