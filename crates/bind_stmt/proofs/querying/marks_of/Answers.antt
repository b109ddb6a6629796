use Rattle.std.proofs.Common.{◌≡◌, ◌∙◌, ap, arith}
use Rattle.std.proofs.lemmas.Result.{err_from_is_err_and}
use Rattle.bound_ignored.specs.Erased.{marks_of}
use Rattle.sql_meaning.specs.Searches.{marks_in}
use Rattle.sql_meaning.specs.declared.column.TableEntry.{TableEntry}
use Rattle.bind_stmt.proofs.Froms.{along-all, along-next, along-none, along-refuses, marked-next}
use Rattle.bind_stmt.proofs.querying.marks_of.Goals as goal

pub loop-item-init : goal.loop-item-init
loop-item-init c = along-none c.args.tables.now c.args.items.now (λ from. marks_of c.new-marks.result ≡ marks_in from) (ap marks_of c.new-marks.ensures)

pub loop-item-preserved : goal.loop-item-preserved
loop-item-preserved c =
    let i = c.item-item.result in
    let w = c.in_ok-table.ensures in
    let made = c.loop-item.marks in
    along-next c.args.tables.now c.args.items.now c.loop-item.item-index i w.0 (λ from. marks_of made ≡ marks_in from) (λ from. marks_of c.push.new.self ≡ marks_in from) c.loop-item-test.true c.item-item.is w.1
    (λ from held. ap marks_of c.in_ok-push.ensures.ok ∙ marked-next made from i c.in_ok-marked.field-0 w.0 c.in_ok-marked.ensures.0 (c.in_ok-marked.ensures.1 ∙ ap (λ (t : TableEntry). t.rowid) w.2) held) c.loop-item.invariant

pub returns-in_err-table : goal.returns-in_err-table
returns-in_err-table c =
    let why = err_from_is_err_and c.from_residual.result c.from_residual.ensures.1 in
    rw (why.1, why.2) (along-refuses c.args.tables.now c.args.items.now c.loop-item.item-index c.item-item.result c.in_err-table.field-0.0 (λ from. marks_of c.loop-item.marks ≡ marks_in from) c.loop-item-test.true c.item-item.is c.in_err-table.ensures c.loop-item.invariant)

pub returns : goal.returns
returns c =
    along-all c.args.tables.now c.args.items.now c.loop-item.item-index (λ from. marks_of c.loop-item.marks ≡ marks_in from) (omega (arith, c.loop-item-test.false)) c.loop-item.invariant
