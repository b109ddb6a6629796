use Rattle.std.proofs.Common.{◌≡◌, [], true, not, ap, sym, subst, ◌∙◌, rules}
use Rattle.eng_index.specs.Keys.{has_doubles}
use Rattle.eng_value.specs.Causes.{only}
use Rattle.eng_value.specs.declared.cause.Cause.TheVariants.{Constraint}
use Rattle.eng_value.specs.declared.cause.ConstraintKind.TheVariants.{Unique}
use Rattle.vm_code.specs.Machine.{cursor_at, cursor_rows, given_up, skip_if, world_of}
use Rattle.vm_tables.specs.Marked.{Marked}
use Rattle.vm_core.specs.Events.{ActsOver}
use Rattle.vm_core.specs.Paused.{state_at}
use Rattle.vm_core.proofs.Steps.{acts_as}
use Rattle.vm_core.proofs.running.Running.build_unique.Goals as goal

pub returns-clause-leads : goal.returns-clause-leads
returns-clause-leads c =
    let old = c.args.self.now in
    let w = c.args.tables.now.world in
    let s = state_at old w [] in
    let name : c.in_ok-clone.field-0 ≡ c.args.name.now = search rules in
    let double : c.in_ok-has_doubles.field-0 ≡ true = search rules in
    let world = ap (λ (t : Marked). t.world) c.in_ok-has_doubles.ensures.same in
    let leads =
    acts_as c.give_up.result c.give_up.new.event old w c.give_up.new.self w (λ x. given_up x.stack x.shared c.one.result) (λ x. skip_if (not (has_doubles c.args.terms.now (cursor_rows (world_of x.shared) (cursor_at x.scene.cursors c.args.cursor)))) x (only (Constraint Unique c.args.name.now)))
    (ap (given_up s.stack s.shared) (c.one.ensures ∙ ap (λ t. only (Constraint Unique t)) name) ∙ ap (λ b. skip_if (not b) s (only (Constraint Unique c.args.name.now))) (sym double ∙ c.in_ok-has_doubles.ensures.doubles))
    (c.give_up.ensures w) in
    subst (λ v. ActsOver c.give_up.result c.give_up.new.event old w c.give_up.new.self v (λ x. skip_if (not (has_doubles c.args.terms.now (cursor_rows (world_of x.shared) (cursor_at x.scene.cursors c.args.cursor)))) x (only (Constraint Unique c.args.name.now)))) (sym world) leads
