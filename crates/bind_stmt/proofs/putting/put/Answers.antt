use Rattle.std.proofs.Common.{◌≡◌, Ok, rules, subst}
use Rattle.std.proofs.lemmas.Result.{err_from_is_err_and}
use Rattle.sql_meaning.specs.Running.{put_into}
use Rattle.sql_meaning.specs.Runnables.{Puts}
use Rattle.bind_stmt.specs.Binds.{IsRefusal}
use Rattle.bind_stmt.proofs.Steps.{put-is, put-refused}
use Rattle.bind_stmt.proofs.putting.put.Goals as goal

pub returns-in_err-put_into : goal.returns-in_err-put_into
returns-in_err-put_into c =
    let write = c.args.write in
    let w = c.in_ok-table.ensures in
    let why = err_from_is_err_and c.from_residual-in_err-put_into.result c.from_residual-in_err-put_into.ensures.1 in
    rw (why.1, why.2) (put-refused c.args.tables.now c.args.units write w.0 c.in_err-put_into.field-0.0 (search rules) w.1 (subst (λ t. IsRefusal (put_into t write.target c.args.units write.change) c.in_err-put_into.field-0.0) w.2 c.in_err-put_into.ensures))

pub returns : goal.returns
returns c =
    let write = c.args.write in
    let w = c.in_ok-table.ensures in
    let p = c.in_ok-put_into.ensures in (
      Puts p.0,
      put-is c.args.tables.now c.args.units write w.0 p.0 (search rules) w.1 (subst (λ t. put_into t write.target c.args.units write.change ≡ Ok p.0) w.2 p.1),
      p.2,
    )
