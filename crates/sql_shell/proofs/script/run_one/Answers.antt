use Rattle.std.proofs.Common.{◌≡◌, ◌&&◌, Some, IfOk, sym, ap, subst}
use Rattle.sql_shell.specs.declared.cutting.Part.TheVariants.{DotLine}
use Rattle.sql_shell.specs.Cuts.{part_list}
use Rattle.sql_shell.specs.Running.{Ran, RanPartly}
use Rattle.sql_shell.proofs.Running.{ran_dot_line, ran_dot_line_partly}
use Rattle.sql_shell.proofs.script.run_one.Goals as goal

pub returns-in-DotLine-clause-ran : goal.returns-in-DotLine-clause-ran
returns-in-DotLine-clause-ran g c =
    let is : Some c.args.part ≡ Some (DotLine c.in-DotLine.line) = ap (λ p. Some p) c.in-DotLine.is in
    subst (λ p. IfOk c.run_dot_line.result (λ failed. Ran g.M.Meanings.hosts c.args.options c.args.connection.now.state c.args.connection.now.state (part_list p) (g.K.Sink.written c.args.out.now) (g.K.Sink.written c.run_dot_line.new.out) c.args.steps.now c.args.steps.now failed (c.args.options.bail && failed))) (sym is)
    (ran_dot_line g.M.Meanings.hosts c.args.options c.args.connection.now.state _ _ c.args.steps.now c.in-DotLine.line.now c.run_dot_line.result c.run_dot_line.ensures.failed c.run_dot_line.ensures.ok)

pub returns-in-DotLine-clause-part : goal.returns-in-DotLine-clause-part
returns-in-DotLine-clause-part g c =
    let is : Some c.args.part ≡ Some (DotLine c.in-DotLine.line) = ap (λ p. Some p) c.in-DotLine.is in
    subst (λ p. RanPartly g.M.Meanings.hosts c.args.options c.args.connection.now.state (part_list p) (g.K.Sink.written c.args.out.now) (g.K.Sink.written c.run_dot_line.new.out) c.args.steps.now c.args.steps.now) (sym is)
    (ran_dot_line_partly g.M.Meanings.hosts c.args.options c.args.connection.now.state _ _ c.args.steps.now c.in-DotLine.line.now c.run_dot_line.ensures.part)
