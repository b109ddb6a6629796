use Rattle.std.proofs.Common.{arith}
use Rattle.sql_meaning.specs.Script.{usage_line}
use Rattle.sql_shell.proofs.Due.{cut_at_start}
use Rattle.sql_shell.proofs.Whole.{for_some, nothing_told, told_nothing}
use Rattle.sql_shell.proofs.top.run.Goals as goal

pub returns-in-Err-Usage-clause-limit : goal.returns-in-Err-Usage-clause-limit
returns-in-Err-Usage-clause-limit g c bytes told = omega (arith, nothing_told _ bytes told)

pub returns-in-Err-Memory-clause-usage_part : goal.returns-in-Err-Memory-clause-usage_part
returns-in-Err-Memory-clause-usage_part g c none = cut_at_start _ usage_line

pub returns-in-Err-Memory-clause-part : goal.returns-in-Err-Memory-clause-part
returns-in-Err-Memory-clause-part g c bytes told = for_some _ _ (λ options. told_nothing _ options bytes _ _ _ (omega (arith, nothing_told _ bytes told)))

pub returns-in-Err-Memory-clause-limit : goal.returns-in-Err-Memory-clause-limit
returns-in-Err-Memory-clause-limit g c bytes told = omega (arith, nothing_told _ bytes told)
