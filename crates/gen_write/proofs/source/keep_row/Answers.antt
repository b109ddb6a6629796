use Rattle.std.proofs.Common.{arith}
use Rattle.gen_write.proofs.Keeping.{keeps_row_calm, keeps_row_refused}
use Rattle.gen_write.proofs.source.keep_row.Goals as goal
use Rattle.gen_write.proofs.source.keep_row.Goals.{then-next_register-first+in_ok-refuse_bad, else-next_register-first}

pub returns-clause-keeps : goal.returns-clause-keeps
returns-clause-keeps c =
    let row = c.args.row.now in
    let kept = c.in_ok-kept.kept in
    elim c.if-next_register-first.branch [
      | then-next_register-first+in_ok-refuse_bad w ↦ rw (w.b-is, w.in_ok-refuse_bad.ensures) (keeps_row_refused c.args.causes row kept (omega (arith, w.if-next_register-first, c.next_register.ensures, c.next_register-first.ensures)) c.in_ok-kept.ensures.keeps)
      | else-next_register-first w ↦ rw w.b-is (keeps_row_calm c.args.causes row kept (omega (arith, w.if-next_register-first, c.next_register.ensures, c.next_register-first.ensures)) c.in_ok-kept.ensures.keeps)
    ]
