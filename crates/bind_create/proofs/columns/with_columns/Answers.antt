use Rattle.std.proofs.Common.{arith, ◌≡◌, ◌<◌, ◌+◌, ◌∷◌, ◌∙◌, Err, length, drop, ap, sym}
use Rattle.std.proofs.lemmas.Grind.{common_steps}
use Rattle.std.proofs.lemmas.List.{drop_more}
use Rattle.bind_create.proofs.HoldLaws.{turn-refused}
use Rattle.bind_create.specs.Meant.{creating_of, declaring_of}
use Rattle.sql_bound.specs.Creates.{in_turn, with_column}
use Rattle.bind_create.proofs.columns.with_columns.Goals as goal

pub returns-in_err-with_column : goal.returns-in_err-with_column
returns-in_err-with_column c =
    let f = with_column (creating_of c.args.creating.now) in
    let h : c.loop-column.column-index < length c.args.columns.now = omega arith in
    let e : drop c.loop-column.column-index c.args.columns.now ≡ c.column-item.result ∷ drop (c.loop-column.column-index + 1) c.args.columns.now =
    drop_more c.args.columns.now c.loop-column.column-index c.column-item.result h ∙ ap (λ x. x ∷ drop (c.loop-column.column-index + 1) c.args.columns.now) (sym c.column-item.is) in
    let why = c.in_err-with_column.field-0.0 in
    let refused : f c.column-item.result (declaring_of c.loop-column.declaring) ≡ Err why → in_turn f c.args.columns.now (declaring_of c.args.declaring.now) ≡ Err why =
    λ g. turn-refused f (drop c.loop-column.column-index c.args.columns.now) (drop (c.loop-column.column-index + 1) c.args.columns.now) c.column-item.result (declaring_of c.loop-column.declaring) (in_turn f c.args.columns.now (declaring_of c.args.declaring.now)) c.loop-column.invariant e why g in
    grind (arith, common_steps, refused)
