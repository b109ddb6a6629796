use Rattle.std.proofs.Common.{arith, ◌≡◌, ◌<◌, ◌+◌, ◌∷◌, ◌∙◌, Err, length, drop, ap, sym}
use Rattle.std.proofs.lemmas.Grind.{common_steps}
use Rattle.std.proofs.lemmas.List.{drop_more}
use Rattle.bind_create.proofs.HoldLaws.{turn-refused}
use Rattle.bind_create.specs.Meant.{creating_of, declaring_of}
use Rattle.sql_bound.specs.Creates.{in_turn, with_constraint}
use Rattle.bind_create.proofs.columns.with_constraints.Goals as goal

pub returns-in_err-with_constraint : goal.returns-in_err-with_constraint
returns-in_err-with_constraint c =
    let f = with_constraint (creating_of c.args.creating.now) in
    let h : c.loop-constraint.constraint-index < length c.args.constraints.now = omega arith in
    let e : drop c.loop-constraint.constraint-index c.args.constraints.now ≡ c.constraint-item.result ∷ drop (c.loop-constraint.constraint-index + 1) c.args.constraints.now =
    drop_more c.args.constraints.now c.loop-constraint.constraint-index c.constraint-item.result h ∙ ap (λ x. x ∷ drop (c.loop-constraint.constraint-index + 1) c.args.constraints.now) (sym c.constraint-item.is) in
    let why = c.in_err-with_constraint.field-0.0 in
    let refused : f c.constraint-item.result (declaring_of c.loop-constraint.declaring) ≡ Err why → in_turn f c.args.constraints.now (declaring_of c.args.declaring.now) ≡ Err why =
    λ g. turn-refused f (drop c.loop-constraint.constraint-index c.args.constraints.now) (drop (c.loop-constraint.constraint-index + 1) c.args.constraints.now) c.constraint-item.result (declaring_of c.loop-constraint.declaring) (in_turn f c.args.constraints.now (declaring_of c.args.declaring.now)) c.loop-constraint.invariant e why g in
    grind (arith, common_steps, refused)
