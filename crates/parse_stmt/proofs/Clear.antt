-- With which kinds the rules of statements begin.
use Rattle.std.proofs.Common.{◌≡◌, [], ◌∷◌, refl}
use Rattle.sql_tree.specs.declared.token.TokenKind.TheVariants as kind
use Rattle.sql_grammar.specs.Rules.{first}
use Rattle.sql_grammar.specs.Definitions.{create}
use Rattle.sql_grammar.specs.Statements.{remove, begin, commit, rollback, savepoint, transaction, pragma_value, all_statement_rules}

pub first_create : first create ≡ kind.Create ∷ []
unfolding all_statement_rules
first_create = refl

pub first_remove : first remove ≡ kind.Drop ∷ []
unfolding all_statement_rules
first_remove = refl

pub first_transaction : first transaction ≡ kind.Begin ∷ kind.Commit ∷ kind.End ∷ kind.Rollback ∷ kind.Savepoint ∷ kind.Release ∷ []
unfolding all_statement_rules
first_transaction = refl

pub ruleset command_firsts = (first_create, first_remove, first_transaction)

pub first_begin : first begin ≡ kind.Begin ∷ []
unfolding all_statement_rules
first_begin = refl

pub first_commit : first commit ≡ kind.Commit ∷ kind.End ∷ []
unfolding all_statement_rules
first_commit = refl

pub first_rollback : first rollback ≡ kind.Rollback ∷ []
unfolding all_statement_rules
first_rollback = refl

pub first_savepoint : first savepoint ≡ kind.Savepoint ∷ []
unfolding all_statement_rules
first_savepoint = refl

pub first_value : first pragma_value ≡ kind.Equal ∷ kind.LeftParen ∷ []
unfolding all_statement_rules
first_value = refl
