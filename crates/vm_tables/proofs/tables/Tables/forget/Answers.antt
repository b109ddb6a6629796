use Rattle.std.proofs.Common.{◌≡◌, ◌-◌, ap, ◌∙◌, length, take, rules, vec_len}
use Rattle.vm_tables.proofs.Marks.{descend_popped}
use Rattle.vm_tables.proofs.tables.Tables.forget.Goals as goal

pub invariant_of-self-else-is_empty : goal.invariant_of-self-else-is_empty
invariant_of-self-else-is_empty c =
    let marks = c.self.inside.marks.items in
    let long : vec_len c.self.inside.marks ≡ length marks = search rules in
    record {
      sound = c.self.invariant.sound;
      held = c.self.invariant.held;
      marks = descend_popped marks c.pop.new.self.items c.self.inside.log.items (c.pop.ensures.rest ∙ ap (λ n. take (n - 1) marks) long) c.self.invariant.marks;
    }
