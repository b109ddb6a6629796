-- The grammar of what reads and changes rows (INSERT, UPDATE, DELETE), as rules with the trees that they make.
use Rattle.std.specs.Prelude.{List, [], ◌∷◌}
use Rattle.sql_tree.specs.declared.statement.Assignment.{Assignment}
use Rattle.sql_tree.specs.declared.statement.ConflictChoice.{ConflictChoice}
use Rattle.sql_tree.specs.declared.statement.ConflictChoice.TheVariants as choice_is
use Rattle.sql_tree.specs.declared.statement.Delete.{Delete}
use Rattle.sql_tree.specs.declared.statement.Insert.{Insert}
use Rattle.sql_tree.specs.declared.statement.InsertSource.{InsertSource}
use Rattle.sql_tree.specs.declared.statement.InsertSource.TheVariants as insert_source
use Rattle.sql_tree.specs.declared.statement.RowCommand.{RowCommand}
use Rattle.sql_tree.specs.declared.statement.RowCommand.TheVariants as rows_by
use Rattle.sql_tree.specs.declared.statement.Update.{Update}
use Rattle.sql_tree.specs.declared.token.TokenKind.TheVariants as kind
use Rattle.sql_grammar.specs.declared.counts.Role.TheVariants as role
use Rattle.sql_grammar.specs.Rules.{tok, pure, seq, alt, to}
use Rattle.sql_grammar.specs.Grammar.{Of, after, list_of, name, expr}
use Rattle.sql_grammar.specs.Queries.{column_names, filter_by, query, all_query_rules}

-- ABORT | IGNORE | REPLACE
unfoldable pub choice_word : Of ConflictChoice
choice_word = alt (to (λ t. choice_is.Abort) (tok role.Outside (kind.Abort ∷ []))) (alt (to (λ t. choice_is.Ignore) (tok role.Outside (kind.Ignore ∷ []))) (to (λ t. choice_is.Replace) (tok role.Outside (kind.Replace ∷ []))))

-- [OR choice]
unfoldable pub conflict_choice : Of ConflictChoice
conflict_choice = alt (after role.Outside kind.Or choice_word) (pure choice_is.Abort)

-- INSERT [OR choice] | REPLACE
unfoldable pub insert_words : Of ConflictChoice
insert_words = alt (after role.Outside kind.Insert conflict_choice) (to (λ t. choice_is.Replace) (tok role.Outside (kind.Replace ∷ [])))

-- query | DEFAULT VALUES
unfoldable pub insert_source_of : Of InsertSource
insert_source_of = alt (to insert_source.Query query) (to (λ t. insert_source.Defaults) (after role.Outside kind.Default (tok role.Outside (kind.Values ∷ []))))

-- (INSERT [OR choice] | REPLACE) INTO name ["(" name {"," name} ")"] (query | DEFAULT VALUES)
unfoldable pub insert : Of Insert
insert = to (λ p. record { choice = p.0; table = p.1.0; columns = p.1.1.0; source = p.1.1.1 }) (seq insert_words (after role.Outside kind.Into (seq name (seq column_names insert_source_of))))

-- name "=" expr
unfoldable pub assignment : Of Assignment
assignment = to (λ p. record { column = p.0; value = p.1 }) (seq name (after role.Outside kind.Equal expr))

-- assignment {"," assignment}
unfoldable pub assignments : Of (List Assignment)
assignments = list_of assignment

-- [OR choice] name SET assignment {"," assignment} [WHERE expr]
unfoldable pub update_parts : Of Update
update_parts = to (λ p. record { choice = p.0; table = p.1.0; assignments = p.1.1.0; filter = p.1.1.1 }) (seq conflict_choice (seq name (seq (after role.Outside kind.Set assignments) filter_by)))

-- UPDATE [OR choice] name SET assignment {"," assignment} [WHERE expr]
unfoldable pub update : Of Update
update = after role.Outside kind.Update update_parts

unfoldable pub delete_parts : Of Delete
delete_parts = to (λ p. record { table = p.0; filter = p.1 }) (seq name filter_by)

-- DELETE FROM name [WHERE expr]
unfoldable pub delete : Of Delete
delete = after role.Outside kind.Delete (after role.Outside kind.From delete_parts)

-- query | insert | update | delete
unfoldable pub row_command : Of RowCommand
row_command = alt (to rows_by.Query query) (alt (to rows_by.Insert insert) (alt (to rows_by.Update update) (to rows_by.Delete delete)))

-- opens every rule of rows where a proof computes with them
unfoldable pub all_row_rules : Unit {0}
unfolding all_query_rules choice_word conflict_choice insert_words insert_source_of insert assignment assignments update_parts update delete_parts delete row_command
all_row_rules = tt
