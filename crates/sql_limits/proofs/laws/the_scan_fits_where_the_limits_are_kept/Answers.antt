use Rattle.sql_limits.proofs.Lawful as laws
use Rattle.sql_limits.proofs.laws.the_scan_fits_where_the_limits_are_kept.Goals as goal

pub returns-clause-expression : goal.returns-clause-expression
returns-clause-expression c = laws.expression_fits

pub returns-clause-statement : goal.returns-clause-statement
returns-clause-statement c = laws.statement_fits
