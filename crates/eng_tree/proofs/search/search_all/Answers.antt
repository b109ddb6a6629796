use Rattle.std.proofs.Common.{rules}
use Rattle.std.proofs.lemmas.Fn.{always_returns_same}
use Rattle.eng_tree.specs.Map.{Pair, order}
use Rattle.eng_tree.proofs.Places.{found}
use Rattle.eng_tree.proofs.search.search_all.Goals as goal

pub returns : goal.returns
returns c =
    found c.args.key.now c.args.entries.now _ c.requires c.binary_search_by.ensures.bound (c.binary_search_by.ensures.position (λ (p : Pair). order p.0 c.args.key.now) (always_returns_same _ _ _ (λ a r q k. search rules)))
