use Rattle.std.proofs.Common.{◌≡◌, Some, ◌∷◌, [], Err, refl, sym, ap, ◌∙◌, arith}
use Rattle.std.proofs.lemmas.Grind.{common_steps}
use Rattle.bind_source.specs.Arounds.{around_of}
use Rattle.bind_write.specs.Turns.{check_bound, in_turn}
use Rattle.std.specs.Option.{option_copied, option_to_list}
use Rattle.sql_bound.specs.Declarations.{checks_of}
use Rattle.sql_tree.specs.declared.statement.ColumnConstraint.{ColumnConstraint}
use Rattle.sql_bound.specs.Froms.{scope_item}
use Rattle.bind_write.proofs.TurnLaws.{checks-cons, turn-end, turn-passed, turn-refused}
use Rattle.bind_write.proofs.constraints.put_checks_of_column.Goals as goal

pub loop-constraint-preserved : goal.loop-constraint-preserved
loop-constraint-preserved c =
    let f = check_bound (around_of c.args.catalog.now c.args.facts.now) c.args.text.now (scope_item 0 (Some c.args.name.now) c.args.s.now ∷ []) in
    let x = c.constraint-item.result in
    let checks = c.loop-constraint.checks in
    let work = c.loop-constraint.work in
    c.loop-constraint.invariant
    ∙ turn-passed f checks_of checks-cons c.args.constraints.now c.loop-constraint.constraint-index x checks c.put_check.new.checks work c.put_check.new.work c.loop-constraint-test.true
    (ap (λ (y : ColumnConstraint). in_turn f (checks_of (y ∷ [])) checks work) (sym c.constraint-item.is) ∙ ap (λ ys. in_turn f ys checks work) (sym c.check_in.ensures) ∙ c.in_ok-put_check.ensures)

pub returns-in_err-put_check : goal.returns-in_err-put_check
returns-in_err-put_check c =
    let f = check_bound (around_of c.args.catalog.now c.args.facts.now) c.args.text.now (scope_item 0 (Some c.args.name.now) c.args.s.now ∷ []) in
    let x = c.constraint-item.result in
    let checks = c.loop-constraint.checks in
    let work = c.loop-constraint.work in
    let why = c.in_err-put_check.field-0.0 in
    let refused : in_turn f (option_to_list (option_copied c.check_in.result)) checks work ≡ Err why → in_turn f (checks_of c.args.constraints.now) c.args.checks.now c.args.work.now ≡ Err why = λ h.
    c.loop-constraint.invariant
    ∙ turn-refused f checks_of checks-cons c.args.constraints.now c.loop-constraint.constraint-index x checks work why c.loop-constraint-test.true
    (ap (λ (y : ColumnConstraint). in_turn f (checks_of (y ∷ [])) checks work) (sym c.constraint-item.is) ∙ ap (λ ys. in_turn f ys checks work) (sym c.check_in.ensures) ∙ h) in
    grind (arith, common_steps, refused)

pub returns : goal.returns
returns c =
    let f = check_bound (around_of c.args.catalog.now c.args.facts.now) c.args.text.now (scope_item 0 (Some c.args.name.now) c.args.s.now ∷ []) in
    c.loop-constraint.invariant ∙ turn-end f checks_of checks-cons c.args.constraints.now c.loop-constraint.constraint-index c.loop-constraint.checks c.loop-constraint.work c.loop-constraint-test.false refl
