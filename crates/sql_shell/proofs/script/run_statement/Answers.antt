use Rattle.std.proofs.Common.{◌≡◌, ◌∙◌, ◌&&◌, ◌-◌, ap, subst, arith}
use Rattle.sql_meaning.specs.Parts as part
use Rattle.sql_meaning.specs.Script.{Came, PartComes, came_lines}
use Rattle.sql_shell.specs.Taken.{rows_of}
use Rattle.sql_shell.proofs.Running.{came-ends, ran_one, ran_one_partly, ran_unwritten}
use Rattle.sql_shell.proofs.script.run_statement.Goals as goal

pub returns-in_err-given-clause-part : goal.returns-in_err-given-clause-part
returns-in_err-given-clause-part g c =
    ran_unwritten g.M.Meanings.hosts c.args.options c.args.connection.now.state c.args.text.now _ _ _ c.run_text.ensures.ticks (omega (arith, c.run_text.ensures.within, c.requires.budget)) c.run_text.ensures.bound

pub returns-in_err-printed-clause-part : goal.returns-in_err-printed-clause-part
returns-in_err-printed-clause-part g c =
    ran_unwritten g.M.Meanings.hosts c.args.options c.args.connection.now.state c.args.text.now _ _ _ c.run_text.ensures.ticks (omega (arith, c.run_text.ensures.within, c.requires.budget)) c.run_text.ensures.bound

pub returns-in_err-write_all-clause-part : goal.returns-in_err-write_all-clause-part
returns-in_err-write_all-clause-part g c =
    let o : Came = record { failure = c.in_ok-given.given.failure; given = rows_of c.in_ok-given.given.rows; ran = c.run_text.new.steps - c.args.steps.now; next = c.run_text.new.connection.state } in
    let comes = subst (λ n. PartComes g.M.Meanings.hosts n c.args.connection.now.state (part.Statement c.args.text.now) o) c.requires.budget c.in_ok-given.ensures.came in
    let due : c.deref.result.now ≡ came_lines o = c.deref.ensures.value ∙ c.in_ok-printed.ensures.lines in
    ran_one_partly g.M.Meanings.hosts c.args.options c.args.connection.now.state (part.Statement c.args.text.now) o comes _ _ _ _ c.deref.result.now due c.in_err-write_all.ensures.part (omega (arith, c.run_text.ensures.ticks))

pub returns-clause-ran : goal.returns-clause-ran
returns-clause-ran g c =
    let o : Came = record { failure = c.in_ok-given.given.failure; given = rows_of c.in_ok-given.given.rows; ran = c.run_text.new.steps - c.args.steps.now; next = c.run_text.new.connection.state } in
    let comes = subst (λ n. PartComes g.M.Meanings.hosts n c.args.connection.now.state (part.Statement c.args.text.now) o) c.requires.budget c.in_ok-given.ensures.came in
    let due : c.deref.result.now ≡ came_lines o = c.deref.ensures.value ∙ c.in_ok-printed.ensures.lines in
    let ended = ap (λ f. c.args.options.bail && f) c.in_ok-printed.ensures.failed ∙ came-ends c.args.options o c.in_ok-given.ensures.characters in
    ran_one g.M.Meanings.hosts c.args.options c.args.connection.now.state (part.Statement c.args.text.now) o comes _ _ _ _ c.deref.result.now _ _ due c.in_ok-write_all.ensures.ok (omega (arith, c.run_text.ensures.ticks)) c.in_ok-printed.ensures.failed ended

pub returns-clause-part : goal.returns-clause-part
returns-clause-part g c =
    let o : Came = record { failure = c.in_ok-given.given.failure; given = rows_of c.in_ok-given.given.rows; ran = c.run_text.new.steps - c.args.steps.now; next = c.run_text.new.connection.state } in
    let comes = subst (λ n. PartComes g.M.Meanings.hosts n c.args.connection.now.state (part.Statement c.args.text.now) o) c.requires.budget c.in_ok-given.ensures.came in
    let due : c.deref.result.now ≡ came_lines o = c.deref.ensures.value ∙ c.in_ok-printed.ensures.lines in
    ran_one_partly g.M.Meanings.hosts c.args.options c.args.connection.now.state (part.Statement c.args.text.now) o comes _ _ _ _ c.deref.result.now due c.in_ok-write_all.ensures.part (omega (arith, c.run_text.ensures.ticks))
