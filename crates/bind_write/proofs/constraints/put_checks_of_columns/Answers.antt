use Rattle.std.proofs.Common.{◌≡◌, List, Some, ◌∷◌, [], Err, refl, sym, ap, ◌∙◌, arith}
use Rattle.std.proofs.lemmas.Grind.{common_steps}
use Rattle.bind_source.specs.Arounds.{around_of}
use Rattle.bind_write.specs.Turns.{check_bound, in_turn}
use Rattle.std.specs.List.{flat_map}
use Rattle.sql_bound.specs.Declarations.{checks_of}
use Rattle.sql_tree.specs.declared.statement.ColumnConstraint.{ColumnConstraint}
use Rattle.sql_tree.specs.declared.statement.ColumnDefinition.{ColumnDefinition}
use Rattle.sql_bound.specs.Froms.{scope_item}
use Rattle.bind_write.proofs.TurnLaws.{append-none, flat-cons, turn-end, turn-passed, turn-refused}
use Rattle.bind_write.proofs.constraints.put_checks_of_columns.Goals as goal

pub loop-column-preserved : goal.loop-column-preserved
loop-column-preserved c =
    let f = check_bound (around_of c.args.catalog.now c.args.facts.now) c.args.text.now (scope_item 0 (Some c.args.name.now) c.args.s.now ∷ []) in
    let x = c.column-item.result in
    let checks = c.loop-column.checks in
    let work = c.loop-column.work in
    c.loop-column.invariant
    ∙ turn-passed f (flat_map (λ (d : ColumnDefinition). checks_of d.constraints)) (flat-cons (λ (d : ColumnDefinition). checks_of d.constraints)) c.args.columns.now c.loop-column.column-index x checks c.put_checks_of_column.new.checks work c.put_checks_of_column.new.work c.loop-column-test.true
    (ap (λ (y : ColumnDefinition). in_turn f ((flat_map (λ (d : ColumnDefinition). checks_of d.constraints)) (y ∷ [])) checks work) (sym c.column-item.is) ∙ ap (λ ys. in_turn f ys checks work) (append-none (checks_of x.constraints)) ∙ ap (λ (cs : List ColumnConstraint). in_turn f (checks_of cs) checks work) (sym c.as_slice.ensures) ∙ c.in_ok-put_checks_of_column.ensures)

pub returns-in_err-put_checks_of_column : goal.returns-in_err-put_checks_of_column
returns-in_err-put_checks_of_column c =
    let f = check_bound (around_of c.args.catalog.now c.args.facts.now) c.args.text.now (scope_item 0 (Some c.args.name.now) c.args.s.now ∷ []) in
    let x = c.column-item.result in
    let checks = c.loop-column.checks in
    let work = c.loop-column.work in
    let why = c.in_err-put_checks_of_column.field-0.0 in
    let refused : in_turn f (checks_of x.constraints) checks work ≡ Err why → in_turn f ((flat_map (λ (d : ColumnDefinition). checks_of d.constraints)) c.args.columns.now) c.args.checks.now c.args.work.now ≡ Err why = λ h.
    c.loop-column.invariant
    ∙ turn-refused f (flat_map (λ (d : ColumnDefinition). checks_of d.constraints)) (flat-cons (λ (d : ColumnDefinition). checks_of d.constraints)) c.args.columns.now c.loop-column.column-index x checks work why c.loop-column-test.true
    (ap (λ (y : ColumnDefinition). in_turn f ((flat_map (λ (d : ColumnDefinition). checks_of d.constraints)) (y ∷ [])) checks work) (sym c.column-item.is) ∙ ap (λ ys. in_turn f ys checks work) (append-none (checks_of x.constraints)) ∙ h) in
    grind (arith, common_steps, refused)

pub returns : goal.returns
returns c =
    let f = check_bound (around_of c.args.catalog.now c.args.facts.now) c.args.text.now (scope_item 0 (Some c.args.name.now) c.args.s.now ∷ []) in
    c.loop-column.invariant ∙ turn-end f (flat_map (λ (d : ColumnDefinition). checks_of d.constraints)) (flat-cons (λ (d : ColumnDefinition). checks_of d.constraints)) c.args.columns.now c.loop-column.column-index c.loop-column.checks c.loop-column.work c.loop-column-test.false refl
