use Rattle.std.proofs.Common.{◌-◌, List, Some, length, ap, sym, ◌∙◌}
use Rattle.std.specs.Prelude.{slice_get}
use Rattle.eng_tree.specs.Map.{Pair}
use Rattle.eng_tree.proofs.Places.{greatest_at_end}
use Rattle.eng_tree.proofs.tree.Tree.last.Goals as goal

pub returns-in-Some : goal.returns-in-Some
returns-in-Some c =
    rw (← c.self.view_is) ((λ i. Some (c.key.ensures i, c.value.ensures i))
    ∙ c.in-Some.ensures.value
    ∙ ap (λ (ps : List Pair). slice_get ps (length ps - 1)) c.deref.ensures.value
    ∙ sym (greatest_at_end c.self.inside.entries.items))
