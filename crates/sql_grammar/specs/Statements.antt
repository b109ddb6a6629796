-- The grammar of statements, as rules with the trees that they make (SQL As Understood By SQLite).
use Rattle.std.specs.Prelude.{Bool, [], ◌∷◌, Option, Some, None}
use Rattle.sql_tree.specs.declared.statement.Command.{Command}
use Rattle.sql_tree.specs.declared.statement.Command.TheVariants as command_is
use Rattle.sql_tree.specs.declared.statement.Explain.{Explain}
use Rattle.sql_tree.specs.declared.statement.Explain.TheVariants as explain_by
use Rattle.sql_tree.specs.declared.statement.ObjectKind.{ObjectKind}
use Rattle.sql_tree.specs.declared.statement.ObjectKind.TheVariants as object_kind
use Rattle.sql_tree.specs.declared.statement.Pragma.{Pragma}
use Rattle.sql_tree.specs.declared.statement.Remove.{Remove}
use Rattle.sql_tree.specs.declared.statement.Statement.{Statement}
use Rattle.sql_tree.specs.declared.statement.Transaction.{Transaction}
use Rattle.sql_tree.specs.declared.statement.Transaction.TheVariants as transaction_is
use Rattle.sql_tree.specs.declared.token.Token.{Token}
use Rattle.sql_tree.specs.declared.token.TokenKind.TheVariants as kind
use Rattle.sql_grammar.specs.declared.counts.Role.TheVariants as role
use Rattle.sql_grammar.specs.Kinds.{all_words}
use Rattle.sql_grammar.specs.Rules.{tok, pure, seq, alt, to}
use Rattle.sql_grammar.specs.Grammar.{Of, maybe, after, in_brackets, name, word}
use Rattle.sql_grammar.specs.Queries.{given}
use Rattle.sql_grammar.specs.Writes.{row_command}
use Rattle.sql_grammar.specs.Definitions.{create, all_definition_rules}

-- ---- DROP

-- TABLE | INDEX | VIEW | TRIGGER
unfoldable pub object_word : Of ObjectKind
object_word =
    alt (to (λ t. object_kind.Table) (tok role.Outside (kind.Table ∷ [])))
    (alt (to (λ t. object_kind.Index) (tok role.Outside (kind.Index ∷ [])))
    (alt (to (λ t. object_kind.View) (tok role.Outside (kind.View ∷ []))) (to (λ t. object_kind.Trigger) (tok role.Outside (kind.Trigger ∷ [])))))

-- [IF EXISTS]
unfoldable pub if_exists : Of Bool
if_exists = given (after role.Outside kind.If (tok role.Outside (kind.Exists ∷ [])))

unfoldable pub remove_parts : Of Remove
remove_parts = to (λ p. record { kind = p.0; if_exists = p.1.0; name = p.1.1 }) (seq object_word (seq if_exists name))

-- DROP (TABLE | INDEX | VIEW | TRIGGER) [IF EXISTS] name
unfoldable pub remove : Of Remove
remove = after role.Outside kind.Drop remove_parts

-- ---- transactions

-- [TRANSACTION]
unfoldable pub transaction_word : Of Bool
transaction_word = given (tok role.Outside (kind.Transaction ∷ []))

-- [DEFERRED | IMMEDIATE | EXCLUSIVE]
unfoldable pub begin_word : Of Bool
begin_word = given (tok role.Outside (kind.Deferred ∷ kind.Immediate ∷ kind.Exclusive ∷ []))

-- BEGIN [DEFERRED | IMMEDIATE | EXCLUSIVE] [TRANSACTION]
unfoldable pub begin : Of Transaction
begin = to (λ p. transaction_is.Begin) (after role.Outside kind.Begin (seq begin_word transaction_word))

-- (COMMIT | END) [TRANSACTION]
unfoldable pub commit : Of Transaction
commit = to (λ p. transaction_is.Commit) (seq (tok role.Outside (kind.Commit ∷ kind.End ∷ [])) transaction_word)

-- [SAVEPOINT] name
unfoldable pub savepoint_name : Of Token
savepoint_name = to (λ p. p.1) (seq (given (tok role.Outside (kind.Savepoint ∷ []))) name)

abbrev pub rollback_of : Option Token → Transaction
rollback_of None = transaction_is.Rollback
rollback_of (Some t) = transaction_is.RollbackTo t

-- [TO [SAVEPOINT] name]
unfoldable pub to_savepoint : Of (Option Token)
to_savepoint = maybe (after role.Outside kind.To savepoint_name)

-- ROLLBACK [TRANSACTION] [TO [SAVEPOINT] name]
unfoldable pub rollback : Of Transaction
rollback = to (λ p. rollback_of p.1) (after role.Outside kind.Rollback (seq transaction_word to_savepoint))

-- SAVEPOINT name
unfoldable pub savepoint : Of Transaction
savepoint = to transaction_is.Savepoint (after role.Outside kind.Savepoint name)

-- RELEASE [SAVEPOINT] name
unfoldable pub release : Of Transaction
release = to transaction_is.Release (after role.Outside kind.Release savepoint_name)

unfoldable pub transaction : Of Transaction
transaction = alt begin (alt commit (alt rollback (alt savepoint release)))

-- ---- PRAGMA

-- "=" word | "(" word ")"
unfoldable pub pragma_value : Of Token
pragma_value = alt (after role.Outside kind.Equal (tok role.Outside all_words)) (in_brackets word)

unfoldable pub pragma_parts : Of Pragma
pragma_parts = to (λ p. record { name = p.0; value = p.1 }) (seq name (maybe pragma_value))

-- PRAGMA name ["=" word | "(" word ")"]
unfoldable pub pragma : Of Pragma
pragma = after role.Outside kind.Pragma pragma_parts

-- ---- statements

-- query | insert | update | delete | create | drop | txn | pragma
unfoldable pub command : Of Command
command = alt (to command_is.Rows row_command) (alt (to command_is.Create create) (alt (to command_is.Remove remove) (alt (to command_is.Transaction transaction) (to command_is.Pragma pragma))))

-- [QUERY PLAN]
unfoldable pub explained : Of Explain
explained = alt (to (λ t. explain_by.QueryPlan) (after role.Outside kind.Query (tok role.Outside (kind.Plan ∷ [])))) (pure explain_by.Instructions)

-- [EXPLAIN [QUERY PLAN]]
unfoldable pub explain : Of (Option Explain)
explain = maybe (after role.Outside kind.Explain explained)

-- [";"]
unfoldable pub semicolon : Of (Option Token)
semicolon = maybe (tok role.Outside (kind.Semicolon ∷ []))

-- [EXPLAIN [QUERY PLAN]] command [";"]
unfoldable pub statement : Of Statement
statement = to (λ p. record { explain = p.0; command = p.1.0 }) (seq explain (seq command semicolon))

-- opens every rule where a proof computes with them
unfoldable pub all_statement_rules : Unit {0}
unfolding all_definition_rules object_word if_exists remove_parts remove transaction_word begin_word begin commit savepoint_name to_savepoint rollback savepoint release transaction pragma_value pragma_parts pragma command explained explain semicolon statement
all_statement_rules = tt
