use Rattle.std.proofs.Common.{ap, ◌∙◌, ◌++◌, ◌∷◌, []}
use Rattle.vm_tables.specs.declared.change.Change.TheVariants.{TableAdded}
use Rattle.vm_tables.specs.Marked.{Marked}
use Rattle.vm_tables.proofs.Puts.{journal_added, marks_added}
use Rattle.vm_tables.proofs.tables.Tables.add.Goals as goal

pub invariant_of-self-2 : goal.invariant_of-self-2
invariant_of-self-2 c =
    journal_added c.self.inside.tables.items c.push.new.self.items c.self.inside.log.items c.push_reserved.new.self.items c.self.inside.marks.items c.self.invariant
    (c.in_ok-push.ensures.items ∙ ap (λ t. c.self.inside.tables.items ++ t ∷ []) c.new.ensures)
    (c.push_reserved.ensures.items ∙ ap (λ l. l ++ TableAdded ∷ []) c.in_ok-reserve.ensures.items)

pub returns-clause-marks : goal.returns-clause-marks
returns-clause-marks c =
    marks_added c.self.inside.tables.items c.push.new.self.items c.self.inside.log.items c.push_reserved.new.self.items c.self.inside.marks.items c.self.invariant
    (c.in_ok-push.ensures.items ∙ ap (λ t. c.self.inside.tables.items ++ t ∷ []) c.new.ensures)
    (c.push_reserved.ensures.items ∙ ap (λ l. l ++ TableAdded ∷ []) c.in_ok-reserve.ensures.items)
    ∙ ap (λ (t : Marked). t.marks) c.self.view_is
