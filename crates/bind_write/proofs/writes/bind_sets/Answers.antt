use Rattle.std.proofs.Common.{◌≡◌, [], map, List, Err, refl, sym, ap, ◌∙◌, arith}
use Rattle.std.proofs.lemmas.Grind.{common_steps}
use Rattle.bind_query.specs.Scopes.{scope_of}
use Rattle.bind_target.specs.Meant.{target_meant}
use Rattle.bound_tree.specs.declared.writes.BoundSet.{BoundSet}
use Rattle.sql_bound.specs.Trees.{of_assignment}
use Rattle.sql_bound.specs.Writes.{set_bound, sets_bound}
use Rattle.sql_bound.specs.declared.scopes.Work.{Work}
use Rattle.sql_tree.specs.declared.statement.Assignment.{Assignment}
use Rattle.bind_write.proofs.Folds.{fold-end, fold-passed, fold-refused}
use Rattle.bind_write.proofs.writes.bind_sets.Goals as goal

pub loop-set-preserved : goal.loop-set-preserved
loop-set-preserved c =
    let s = scope_of c.args.scope.now c.args.levels.now [] in
    let t = target_meant c.args.target.now in
    let x = c.set-item.result in
    let so_far : List BoundSet × Work = (c.loop-set.sets, c.loop-set.work) in
    c.loop-set.invariant
    ∙ fold-passed (λ (xs : List Assignment) (b : List BoundSet × Work). sets_bound s t (map of_assignment xs) b) (λ (a : Assignment) (b : List BoundSet × Work). set_bound s t (of_assignment a) b) (λ y ys b. refl)
    c.args.assignments.now c.loop-set.set-index x so_far (c.put_set.new.sets, c.put_set.new.work) c.loop-set-test.true
    (ap (λ (a : Assignment). set_bound s t (of_assignment a) so_far) (sym c.set-item.is) ∙ c.in_ok-put_set.ensures)

pub returns-in_err-put_set : goal.returns-in_err-put_set
returns-in_err-put_set c =
    let s = scope_of c.args.scope.now c.args.levels.now [] in
    let t = target_meant c.args.target.now in
    let x = c.set-item.result in
    let so_far : List BoundSet × Work = (c.loop-set.sets, c.loop-set.work) in
    let why = c.in_err-put_set.field-0.0 in
    let refused : set_bound s t (of_assignment x) so_far ≡ Err why → sets_bound s t (map of_assignment c.args.assignments.now) ([], c.args.work.now) ≡ Err why = λ h.
    c.loop-set.invariant
    ∙ fold-refused (λ (xs : List Assignment) (b : List BoundSet × Work). sets_bound s t (map of_assignment xs) b) (λ (a : Assignment) (b : List BoundSet × Work). set_bound s t (of_assignment a) b) (λ y ys b. refl)
    c.args.assignments.now c.loop-set.set-index x so_far why c.loop-set-test.true
    (ap (λ (a : Assignment). set_bound s t (of_assignment a) so_far) (sym c.set-item.is) ∙ h) in
    grind (arith, common_steps, refused)

pub returns : goal.returns
returns c =
    let s = scope_of c.args.scope.now c.args.levels.now [] in
    let t = target_meant c.args.target.now in
    c.loop-set.invariant
    ∙ fold-end (λ (xs : List Assignment) (b : List BoundSet × Work). sets_bound s t (map of_assignment xs) b) (λ (a : Assignment) (b : List BoundSet × Work). set_bound s t (of_assignment a) b) (λ y ys b. refl)
    c.args.assignments.now c.loop-set.set-index (c.loop-set.sets, c.loop-set.work) c.loop-set-test.false
