use Rattle.sql_shell.proofs.Running.{ran_none, ran_nothing, ran_partly}
use Rattle.sql_shell.proofs.script.run_part.Goals as goal

pub returns-in-None-clause-ran : goal.returns-in-None-clause-ran
returns-in-None-clause-ran g c = rw c.in-None.is (ran_nothing g.M.Meanings.hosts c.args.options c.args.connection.now.state _ c.args.steps.now)

pub returns-in-None-clause-part : goal.returns-in-None-clause-part
returns-in-None-clause-part g c =
    rw c.in-None.is (ran_partly g.M.Meanings.hosts c.args.options c.args.connection.now.state _ _ _ _ _ _ _ _ (ran_none g.M.Meanings.hosts c.args.options c.args.connection.now.state _ c.args.steps.now))
