use Rattle.std.proofs.Common.{◌≡◌, ap, ◌∙◌}
use Rattle.eng_tree.specs.Map.{place}
use Rattle.eng_tree.proofs.Places.{get_at_place, sought}
use Rattle.eng_tree.proofs.tree.Tree.seek.Goals as goal

pub returns : goal.returns
returns c =
    let k = c.args.key.now in
    let at : c.place_of.result ≡ place k c.args.self.now.pairs =
    sought k c.deref.result.now c.search.result _ c.search.ensures c.place_of.ensures ∙ ap (place k) (c.deref.ensures.value ∙ ap (λ m. m.pairs) c.self.view_is) in
    c.pair_at.ensures ∙ get_at_place k c.args.self.now.pairs _ at
