use Rattle.std.proofs.Common.{◌≡◌, [], ap, ◌∙◌}
use Rattle.gen_query.proofs.Naming.{needs-nothing}
use Rattle.gen_query.proofs.Performing.{ended-accepted, values-performed}
use Rattle.gen_query.specs.Queries.{rows_read}
use Rattle.vm_code.specs.Draft.{Draft, begun}
use Rattle.vm_code.proofs.Tracks.{st_wider}
use Rattle.gen_query.proofs.compiling.compile_values.Goals as goal

pub returns-clause-performs : goal.returns-clause-performs
returns-clause-performs c =
    let b0 : c.new-b.result ≡ begun [] = c.new-b.ensures ∙ ap begun c.new.ensures in
    let does = rw b0 at c.in_ok-emit_values.ensures.does in
    let wide : c.emit_values.new.b.cursors ≡ 0 = rw b0 at c.in_ok-emit_values.ensures.cursors in
    let program = rw c.in_ok-op.ensures at c.finish_program.ensures in
    values-performed c.emit_values.new.b c.args.rows.now does wide c.finish_program.result program

pub returns-clause-accepted : goal.returns-clause-accepted
returns-clause-accepted c names =
    let units : Draft → _ = λ d. d.units in
    let b0 : c.new-b.result ≡ begun [] = c.new-b.ensures ∙ ap begun c.new.ensures in
    let does = rw b0 at c.in_ok-emit_values.ensures.does in
    let alone = c.in_ok-emit_values.ensures.units ∙ ap units b0 in
    let program = rw c.in_ok-op.ensures at c.finish_program.ensures in
    ended-accepted c.emit_values.new.b (st_wider (λ xs met. needs-nothing (rows_read c.args.rows.now) names xs) does.steady) alone c.finish_program.result program
