use Rattle.sql_grammar.proofs.FactoredExpressions as expressions
use Rattle.sql_grammar.proofs.FactoredQueries as queries
use Rattle.sql_grammar.proofs.FactoredResults as results
use Rattle.sql_grammar.proofs.FactoredStatements as statements
use Rattle.sql_grammar.proofs.laws.factored_rules_derive_the_same.Goals as goal

pub returns-clause-primary : goal.returns-clause-primary
returns-clause-primary c = expressions.primary_is

pub returns-clause-arguments : goal.returns-clause-arguments
returns-clause-arguments c = expressions.some_arguments_is

pub returns-clause-members : goal.returns-clause-members
returns-clause-members c = expressions.members_are

pub returns-clause-case : goal.returns-clause-case
returns-clause-case c = expressions.case_is

pub returns-clause-signs : goal.returns-clause-signs
returns-clause-signs c = expressions.signed_primary_is

pub returns-clause-nots : goal.returns-clause-nots
returns-clause-nots c = expressions.negation_is

pub returns-clause-tests : goal.returns-clause-tests
returns-clause-tests c = expressions.test_is

pub returns-clause-result : goal.returns-clause-result
returns-clause-result c = results.result_is_written

pub returns-clause-alias : goal.returns-clause-alias
returns-clause-alias c = results.alias_is

pub returns-clause-limit : goal.returns-clause-limit
returns-clause-limit c = queries.row_limit_is

pub returns-clause-query : goal.returns-clause-query
returns-clause-query c = queries.query_is

pub returns-clause-table_rules : goal.returns-clause-table_rules
returns-clause-table_rules c = statements.table_rule_is

pub returns-clause-columns : goal.returns-clause-columns
returns-clause-columns c = statements.all_columns_are

pub returns-clause-create : goal.returns-clause-create
returns-clause-create c = statements.create_is

pub returns-clause-explain : goal.returns-clause-explain
returns-clause-explain c = statements.explain_is

pub returns-clause-transaction : goal.returns-clause-transaction
returns-clause-transaction c = statements.transaction_is
