use Rattle.std.proofs.Common.{◌∙◌, ap}
use Rattle.eng_index.specs.Doubles.{has_neighbours}
use Rattle.eng_index.specs.Stored.{Indexed}
use Rattle.eng_index.proofs.Doubled.{neighbours_are_doubles}
use Rattle.eng_index.proofs.index.Index.has_doubles.Goals as goal

pub returns : goal.returns
returns c = λ rows is. c.has_neighbours.ensures ∙ ap (λ (i : Indexed). has_neighbours i.pairs) c.self.view_is ∙ neighbours_are_doubles c.args.self.now rows is
