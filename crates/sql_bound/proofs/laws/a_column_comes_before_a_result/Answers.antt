use Rattle.std.proofs.Common.{refl}
use Rattle.sql_bound.proofs.ColumnLaws.{else_unknown, own_ambiguous, own_first, result_next, result_refused, then_further_out}
use Rattle.sql_bound.proofs.laws.a_column_comes_before_a_result.Goals as goal

pub returns-clause-own : goal.returns-clause-own
returns-clause-own c s own outer name w column may levels = own_first s own outer name w may levels column

pub returns-clause-result : goal.returns-clause-result
returns-clause-result c s own outer name w a x v may levels = result_next s own outer name w may levels a x v

pub returns-clause-refused_result : goal.returns-clause-refused_result
returns-clause-refused_result c s own outer name w a why may levels = result_refused s own outer name w may levels a why

pub returns-clause-further_out : goal.returns-clause-further_out
returns-clause-further_out c s own outer name w up column may levels = then_further_out s own outer name w may levels up column

pub returns-clause-unknown : goal.returns-clause-unknown
returns-clause-unknown c s own outer name w may levels = else_unknown s own outer name w may levels

pub returns-clause-misused : goal.returns-clause-misused
returns-clause-misused c s name w may = rw may refl

pub returns-clause-ambiguous : goal.returns-clause-ambiguous
returns-clause-ambiguous c s own outer name w column other others may levels = own_ambiguous s own outer name w may levels column other others

pub returns-clause-behind_a_table : goal.returns-clause-behind_a_table
returns-clause-behind_a_table c s results table name w = refl
