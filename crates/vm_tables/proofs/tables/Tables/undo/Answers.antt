use Rattle.std.proofs.Common.{◌∷◌, ap, sym, ◌∙◌, subst, drop, length, take}
use Rattle.std.specs.Prelude.{All, reverse}
use Rattle.std.proofs.lemmas.List.Elements.{All-drop, All-take}
use Rattle.vm_code.specs.Machine.{IsSound}
use Rattle.vm_tables.specs.Changes.{Descend, HoldsAscending, at_marks}
use Rattle.vm_tables.specs.Marked.{Marked}
use Rattle.vm_tables.proofs.Marks.{descend_undone, marks_undone}
use Rattle.vm_tables.proofs.TakingBack.{sound_before}
use Rattle.vm_tables.proofs.tables.Tables.undo.Goals as goal

pub invariant_of-self : goal.invariant_of-self
invariant_of-self c =
    let w = c.self.inside.tables.items in
    let log = c.self.inside.log.items in
    let rest = c.pop.new.self.items in
    let mark = c.in-Some.mark in
    let down = subst (λ l. Descend (length log) (reverse l)) c.in-Some.ensures.items c.self.invariant.marks in
    record {
      sound = subst IsSound (sym c.take_back.ensures.tables) (sound_before (drop mark log) w (All-drop HoldsAscending mark log c.self.invariant.held) c.self.invariant.sound);
      held = subst (All HoldsAscending) (sym c.take_back.ensures.log) (All-take HoldsAscending mark log c.self.invariant.held);
      marks = subst (λ l. Descend (length l) (reverse rest)) (sym c.take_back.ensures.log) (descend_undone rest log w mark down);
    }

pub returns : goal.returns
returns c =
    let w = c.self.inside.tables.items in
    let log = c.self.inside.log.items in
    let rest = c.pop.new.self.items in
    let mark = c.in-Some.mark in
    let down = subst (λ l. Descend (length log) (reverse l)) c.in-Some.ensures.items c.self.invariant.marks in
    sym (ap (λ (t : Marked). t.marks) c.self.view_is)
    ∙ ap (λ ms. at_marks ms log w) c.in-Some.ensures.items
    ∙ marks_undone rest log w mark down
    ∙ ap (λ v. v ∷ at_marks rest (take mark log) v) (sym c.take_back.ensures.tables)
    ∙ ap (λ l. c.take_back.new.tables.items ∷ at_marks rest l c.take_back.new.tables.items) (sym c.take_back.ensures.log)
