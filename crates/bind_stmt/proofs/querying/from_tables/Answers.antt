use Rattle.std.proofs.Common.{arith, ◌++◌, ◌∷◌, [], subst, sym}
use Rattle.std.proofs.lemmas.Result.{err_from_is_err_and}
use Rattle.bound_ignored.specs.Erased.{marks_of}
use Rattle.bind_stmt.specs.Binds.{AreFrom, IsItem}
use Rattle.sql_meaning.specs.Running.{item_of_table}
use Rattle.sql_meaning.specs.declared.column.TableEntry.{TableEntry}
use Rattle.bind_stmt.proofs.Froms.{along-all, along-next, along-none, along-refuses, are_from-next}
use Rattle.bind_stmt.proofs.querying.from_tables.Goals as goal

pub loop-item-init : goal.loop-item-init
loop-item-init c =
    along-none c.args.tables.now c.args.items.now (λ from. AreFrom (marks_of c.args.marks.now) from c.new-from.result) (subst (λ made. AreFrom (marks_of c.args.marks.now) [] made) (sym c.new-from.ensures) tt)

pub loop-item-preserved : goal.loop-item-preserved
loop-item-preserved c =
    let m = marks_of c.args.marks.now in
    let i = c.item-item.result in
    let w = c.in_ok-table.ensures in
    let made = c.loop-item.from in
    let one = subst (λ (t : TableEntry). IsItem m (item_of_table i t) c.in_ok-from_table.field-0) w.2 c.in_ok-from_table.ensures in
    along-next c.args.tables.now c.args.items.now c.loop-item.item-index i w.0 (λ from. AreFrom m from made) (λ from. AreFrom m from c.push.new.self) c.loop-item-test.true c.item-item.is w.1
    (λ from held. subst (λ more. AreFrom m (from ++ item_of_table i w.0 ∷ []) more) (sym c.in_ok-push.ensures.ok) (are_from-next m from made (item_of_table i w.0) c.in_ok-from_table.field-0 held one)) c.loop-item.invariant

pub returns-in_err-table : goal.returns-in_err-table
returns-in_err-table c =
    let why = err_from_is_err_and c.from_residual.result c.from_residual.ensures.1 in
    rw (why.1, why.2) (along-refuses c.args.tables.now c.args.items.now c.loop-item.item-index c.item-item.result c.in_err-table.field-0.0 (λ from. AreFrom (marks_of c.args.marks.now) from c.loop-item.from) c.loop-item-test.true c.item-item.is c.in_err-table.ensures c.loop-item.invariant)

pub returns : goal.returns
returns c =
    along-all c.args.tables.now c.args.items.now c.loop-item.item-index (λ from. AreFrom (marks_of c.args.marks.now) from c.loop-item.from) (omega (arith, c.loop-item-test.false)) c.loop-item.invariant
