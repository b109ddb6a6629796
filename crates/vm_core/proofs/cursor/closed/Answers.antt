use Rattle.std.proofs.Common.{◌++◌, ◌∷◌, [], ap, ◌∙◌}
use Rattle.std.proofs.lemmas.List.{replicate_more}
use Rattle.vm_code.specs.Machine.{Closed}
use Rattle.vm_core.proofs.cursor.closed.Goals as goal

pub loop-preserved : goal.loop-preserved
loop-preserved c =
    c.in_ok-push.ensures.items
    ∙ ap (λ x. c.loop.cursors.items ++ x ∷ []) c.closed.ensures
    ∙ ap (λ l. l ++ Closed ∷ []) c.loop.invariant
    ∙ replicate_more c.loop.counter Closed
