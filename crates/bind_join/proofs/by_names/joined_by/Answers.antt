use Rattle.std.proofs.Common.{◌≡◌, ℕ, List, Ok, Err, sym, ap, ◌∙◌, arith}
use Rattle.std.proofs.lemmas.Grind.{common_steps}
use Rattle.bind_join.specs.Joins.{counted}
use Rattle.eng_value.specs.declared.cause.Cause.TheVariants.{Limit}
use Rattle.eng_value.specs.declared.cause.LimitKind.TheVariants as limit
use Rattle.sql_bound.specs.Froms.{using_all, using_one}
use Rattle.bind_join.proofs.JoinLaws.{walk-end, walk-full, walk-passed, walk-refused}
use Rattle.bind_join.proofs.by_names.joined_by.Goals as goal

pub loop-name-preserved : goal.loop-name-preserved
loop-name-preserved c =
    let f = using_one (counted c.args.which) c.args.left.now in
    c.loop-name.invariant
    ∙ walk-passed f c.loop-name.room c.in_ok-less.less c.args.names.now c.loop-name.name-index c.name-item.result c.loop-name.joining c.in_ok-more.more c.loop-name-test.true c.in_ok-less.ensures
    (ap (λ (n : List ℕ). f n c.loop-name.joining) (sym (c.as_str.ensures ∙ c.name-item.is)) ∙ c.in_ok-more.ensures)

pub returns-in_err-more : goal.returns-in_err-more
returns-in_err-more c =
    let f = using_one (counted c.args.which) c.args.left.now in
    let why = c.in_err-more.field-0.0 in
    let refused : f c.as_str.result.now c.loop-name.joining ≡ Err why → using_all (counted c.args.which) c.args.left.now c.args.names.now c.args.j ≡ Err why = λ h.
    c.loop-name.invariant
    ∙ walk-refused f c.loop-name.room c.in_ok-less.less c.args.names.now c.loop-name.name-index c.name-item.result c.loop-name.joining why c.loop-name-test.true c.in_ok-less.ensures
    (ap (λ (n : List ℕ). f n c.loop-name.joining) (sym (c.as_str.ensures ∙ c.name-item.is)) ∙ h) in
    grind (arith, common_steps, refused)

pub returns-in_err-less : goal.returns-in_err-less
returns-in_err-less c =
    let f = using_one (counted c.args.which) c.args.left.now in
    let full : c.loop-name.room ≡ 0 → using_all (counted c.args.which) c.args.left.now c.args.names.now c.args.j ≡ Err (Limit limit.Columns) = λ h.
    c.loop-name.invariant ∙ walk-full f c.loop-name.room c.args.names.now c.loop-name.name-index c.name-item.result c.loop-name.joining c.loop-name-test.true h in
    grind (arith, common_steps, full)

pub returns : goal.returns
returns c =
    c.loop-name.invariant ∙ walk-end (using_one (counted c.args.which) c.args.left.now) c.loop-name.room c.args.names.now c.loop-name.name-index c.loop-name.joining c.loop-name-test.false
