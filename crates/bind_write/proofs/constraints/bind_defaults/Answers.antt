use Rattle.std.proofs.Common.{◌≡◌, ◌∷◌, [], map, List, Option, Ok, Err, refl, sym, ap, ◌∙◌, arith, subst}
use Rattle.std.proofs.lemmas.Grind.{common_steps}
use Rattle.bind_source.specs.Arounds.{around_of}
use Rattle.bind_write.specs.Turns.{in_turn}
use Rattle.bound_tree.specs.Exprs.{BoundExpr}
use Rattle.sql_bound.specs.Declarations.{DeclaredColumn, declared_column, default_of}
use Rattle.sql_bound.specs.HostFacts.{facts_of}
use Rattle.sql_bound.specs.Targets.{default_bound, defaults_bound}
use Rattle.sql_tree.specs.declared.statement.ColumnDefinition.{ColumnDefinition}
use Rattle.bind_write.proofs.TurnLaws.{defaults-turn, turn-end, turn-one, turn-one-refused, turn-passed, turn-refused}
use Rattle.bind_write.proofs.constraints.bind_defaults.Goals as goal

pub loop-column-init : goal.loop-column-init
loop-column-init c =
    let around = around_of c.args.catalog.now c.args.facts.now in
    let text = c.args.text.now in
    let cs = map (declared_column (facts_of c.args.facts.now) text) c.args.columns.now in
    subst (λ (so_far : List (Option BoundExpr)). defaults_bound around text cs c.args.work.now ≡ in_turn (λ (d : DeclaredColumn). default_bound around text d.default) cs so_far c.args.work.now) (sym c.new-defaults.ensures) (defaults-turn around text cs c.args.work.now)

pub loop-column-preserved : goal.loop-column-preserved
loop-column-preserved c =
    let around = around_of c.args.catalog.now c.args.facts.now in
    let text = c.args.text.now in
    let f = λ (d : DeclaredColumn). default_bound around text d.default in
    let h = declared_column (facts_of c.args.facts.now) text in
    let x = c.column-item.result in
    let so_far = c.loop-column.defaults in
    let work = c.loop-column.work in
    c.loop-column.invariant
    ∙ turn-passed f (map h) (λ y ys. refl) c.args.columns.now c.loop-column.column-index x so_far c.pushed.new.all work c.bind_default.new.work c.loop-column-test.true
    (ap (λ (y : ColumnDefinition). in_turn f (map h (y ∷ [])) so_far work) (sym c.column-item.is)
    ∙ turn-one f (h x) so_far work c.bind_default.new.work c.in_ok-default.default c.in_ok-default.ensures
    ∙ ap (λ (ys : List (Option BoundExpr)). Ok (ys, c.bind_default.new.work)) (sym c.in_ok-pushed.ensures.ok))

pub returns-in_err-default : goal.returns-in_err-default
returns-in_err-default c =
    let around = around_of c.args.catalog.now c.args.facts.now in
    let text = c.args.text.now in
    let f = λ (d : DeclaredColumn). default_bound around text d.default in
    let h = declared_column (facts_of c.args.facts.now) text in
    let x = c.column-item.result in
    let so_far = c.loop-column.defaults in
    let work = c.loop-column.work in
    let why = c.in_err-default.field-0.0 in
    let refused : default_bound around text (default_of x.constraints) work ≡ Err why → defaults_bound around text (map h c.args.columns.now) c.args.work.now ≡ Err why = λ is.
    c.loop-column.invariant
    ∙ turn-refused f (map h) (λ y ys. refl) c.args.columns.now c.loop-column.column-index x so_far work why c.loop-column-test.true
    (ap (λ (y : ColumnDefinition). in_turn f (map h (y ∷ [])) so_far work) (sym c.column-item.is) ∙ turn-one-refused f (h x) so_far work why is) in
    grind (arith, common_steps, refused)

pub returns : goal.returns
returns c =
    let f = λ (d : DeclaredColumn). default_bound (around_of c.args.catalog.now c.args.facts.now) c.args.text.now d.default in
    c.loop-column.invariant ∙ turn-end f (map (declared_column (facts_of c.args.facts.now) c.args.text.now)) (λ y ys. refl) c.args.columns.now c.loop-column.column-index c.loop-column.defaults c.loop-column.work c.loop-column-test.false refl
