use Rattle.std.proofs.Common.{inr}
use Rattle.sql_shell.proofs.Whole.{told_nothing, told_partly, told_whole}
use Rattle.sql_shell.proofs.top.run_source.Goals as goal

pub returns-in-Err-clause-part : goal.returns-in-Err-clause-part
returns-in-Err-clause-part g c bytes told = told_nothing g.M.Meanings.hosts c.args.options bytes _ _ _ (c.in-Err.ensures.most bytes told)

pub returns-in-Ok-run_script-clause-script : goal.returns-in-Ok-run_script-clause-script
returns-in-Ok-run_script-clause-script g c bytes told =
    inr (inr (told_whole g.M.Meanings.hosts c.args.options _ _ _ _ _ c.deref.result.now bytes c.in-Ok.ensures.bytes c.deref.ensures.value told c.in-Ok.script.ending c.in-Ok.ensures.ending _ _ _ _ c.exit_status.ensures c.in-Ok-run_script.ensures.ok))

pub returns-in-Ok-run_script-clause-part : goal.returns-in-Ok-run_script-clause-part
returns-in-Ok-run_script-clause-part g c bytes told = told_partly g.M.Meanings.hosts c.args.options _ _ _ _ _ c.deref.result.now bytes c.in-Ok.ensures.bytes c.deref.ensures.value told c.in-Ok.script.ending c.in-Ok.ensures.ending _ _ c.in-Ok-run_script.ensures.part

pub returns-in-Err-Memory-clause-part : goal.returns-in-Err-Memory-clause-part
returns-in-Err-Memory-clause-part g c bytes told = told_partly g.M.Meanings.hosts c.args.options _ _ _ _ _ c.deref.result.now bytes c.in-Ok.ensures.bytes c.deref.ensures.value told c.in-Ok.script.ending c.in-Ok.ensures.ending _ _ c.in-Err-Memory.ensures.part

pub returns-clause-part : goal.returns-clause-part
returns-clause-part g c bytes told = told_partly g.M.Meanings.hosts c.args.options _ _ _ _ _ c.deref.result.now bytes c.in-Ok.ensures.bytes c.deref.ensures.value told c.in-Ok.script.ending c.in-Ok.ensures.ending _ _ c.in-Err-SinkFault.ensures.part
