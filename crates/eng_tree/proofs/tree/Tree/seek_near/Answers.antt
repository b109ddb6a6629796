use Rattle.std.proofs.Common.{◌≡◌, ap, ◌∙◌}
use Rattle.eng_tree.specs.Map.{place}
use Rattle.eng_tree.proofs.Places.{get_at_place, sought}
use Rattle.eng_tree.proofs.tree.Tree.seek_near.Goals as goal
use Rattle.eng_tree.proofs.tree.Tree.seek_near.Goals.{After-pair_at}

at_place : (c : After-pair_at) → c.place_of.result ≡ place c.args.key.now c.args.self.now.pairs
at_place c =
    let k = c.args.key.now in
    sought k c.deref.result.now c.search_near.result _ c.search_near.ensures c.place_of.ensures ∙ ap (place k) (c.deref.ensures.value ∙ ap (λ m. m.pairs) c.self.view_is)

pub returns : goal.returns
returns c = c.pair_at.ensures ∙ get_at_place c.args.key.now c.args.self.now.pairs _ (at_place c)
