use Rattle.std.proofs.Common.{◌≡◌, ap, sym, ◌∙◌, arith}
use Rattle.gen_write.specs.Stretches.{with_null_tested, with_nulls_refused}
use Rattle.gen_write.proofs.Testing.{nulls_last, nulls_next}
use Rattle.gen_write.proofs.tests.refuse_nulls.Goals as goal
use Rattle.gen_write.proofs.tests.refuse_nulls.Goals.{then-column+in_ok-refuse_null, else-column}

pub loop-column-preserved : goal.loop-column-preserved
loop-column-preserved c =
    let one = c.column-item.result in
    let b = c.loop-column.b in
    let name = c.args.table.now in
    let register = c.loop-column.register in
    let causes = c.args.causes in
    let tested : c.if-column.b ≡ with_null_tested one.not_null b name register causes = elim c.if-column.branch [
      | then-column+in_ok-refuse_null w ↦ w.b-is ∙ w.in_ok-refuse_null.ensures ∙ sym (ap (λ t. with_null_tested t b name register causes) w.if-column.true)
      | else-column w ↦ w.b-is ∙ sym (ap (λ t. with_null_tested t b name register causes) w.if-column.false)
    ] in
    nulls_next b c.if-column.b c.args.columns.now c.loop-column.column-index one name register c.in_ok-register.register causes c.loop-column-test.true c.column-item.is c.in_ok-register.ensures tested ∙ c.loop-column.invariant

pub returns : goal.returns
returns c =
    nulls_last c.loop-column.b (with_nulls_refused c.args.b.now c.args.columns.now c.args.table.now c.args.first c.args.causes) c.args.columns.now c.loop-column.column-index c.args.table.now c.loop-column.register c.args.causes (omega arith) c.loop-column.invariant
