-- One token of look-ahead tells what to do in each rule of statements, and with which kinds each begins.
use Rattle.std.proofs.Common.{◌≡◌, true, false, [], ◌∷◌, ◌++◌, refl}
use Rattle.sql_tree.specs.declared.token.TokenKind.TheVariants as kind
use Rattle.sql_grammar.specs.Rules.{is_clear, first, can_be_empty, seq, many, until}
use Rattle.sql_grammar.specs.Grammar.{Name, names, type_name}
use Rattle.sql_grammar.specs.Bodies.{rules}
use Rattle.sql_grammar.specs.Queries.{query}
use Rattle.sql_grammar.specs.Writes.{insert, update, row_command}
use Rattle.sql_grammar.specs.Definitions.{in_expression, primary_key, in_key, column_key, not_null, check, collate, column, table_constraint, is_constraint, next_element, next_constraint, argument_piece, inner_piece, create_table, create_index, create_view, create_trigger}
use Rattle.sql_grammar.specs.Statements.{all_statement_rules}
use Rattle.parse_create.specs.Arguments.{argument_token}

-- all rules, for proofs that compute with them
unfoldable computed : Unit {0}
unfolding all_statement_rules argument_token
computed = tt

-- ---- clear

pub column_clear : is_clear Name rules column ≡ true
unfolding computed
column_clear = refl

pub table_constraint_clear : is_clear Name rules table_constraint ≡ true
unfolding computed
table_constraint_clear = refl

pub more_elements_clear : is_clear Name rules (until next_element is_constraint next_constraint) ≡ true
unfolding computed
more_elements_clear = refl

pub next_constraints_clear : is_clear Name rules (many next_constraint) ≡ true
unfolding computed
next_constraints_clear = refl

pub argument_piece_clear : is_clear Name rules argument_piece ≡ true
unfolding computed
argument_piece_clear = refl

pub argument_piece_solid : can_be_empty argument_piece ≡ false
unfolding computed
argument_piece_solid = refl

pub argument_pieces_clear : is_clear Name rules (many argument_piece) ≡ true
unfolding computed
argument_pieces_clear = refl

pub inner_pieces_clear : is_clear Name rules (many inner_piece) ≡ true
unfolding computed
inner_pieces_clear = refl

-- ---- the kinds that they begin with

pub first_query : first query ≡ kind.With ∷ kind.Select ∷ kind.Values ∷ []
unfolding computed
first_query = refl

pub first_insert : first insert ≡ kind.Insert ∷ kind.Replace ∷ []
unfolding computed
first_insert = refl

pub first_update : first update ≡ kind.Update ∷ []
unfolding computed
first_update = refl

pub ruleset write_firsts = (first_insert, first_update)

pub first_in_expression : first in_expression ≡ kind.LeftParen ∷ []
unfolding computed
first_in_expression = refl

pub first_keyed : first (seq primary_key in_key) ≡ kind.Primary ∷ []
unfolding computed
first_keyed = refl

pub first_column_key : first column_key ≡ kind.Primary ∷ []
unfolding computed
first_column_key = refl

pub first_not_null : first not_null ≡ kind.Not ∷ []
unfolding computed
first_not_null = refl

pub first_check : first check ≡ kind.Check ∷ []
unfolding computed
first_check = refl

pub ruleset constraint_firsts = (first_column_key, first_not_null, first_check)

pub first_collate : first collate ≡ kind.Collate ∷ []
unfolding computed
first_collate = refl

pub first_type_name : first type_name ≡ names
unfolding computed
first_type_name = refl

pub first_column : first column ≡ names
unfolding computed
first_column = refl

pub first_row_command : first row_command ≡ kind.With ∷ kind.Select ∷ kind.Values ∷ kind.Insert ∷ kind.Replace ∷ kind.Update ∷ kind.Delete ∷ []
unfolding computed
first_row_command = refl

pub first_argument_piece : first argument_piece ≡ first argument_token ++ kind.LeftParen ∷ []
unfolding computed
first_argument_piece = refl

pub first_inner_piece : first inner_piece ≡ first argument_piece ++ kind.Comma ∷ []
unfolding computed
first_inner_piece = refl

pub first_create_table : first create_table ≡ kind.Table ∷ []
unfolding computed
first_create_table = refl

pub first_create_index : first create_index ≡ kind.Unique ∷ kind.Index ∷ []
unfolding computed
first_create_index = refl

pub first_create_view : first create_view ≡ kind.View ∷ []
unfolding computed
first_create_view = refl

pub first_create_trigger : first create_trigger ≡ kind.Trigger ∷ []
unfolding computed
first_create_trigger = refl

pub ruleset creation_firsts = (first_create_table, first_create_index, first_create_view, first_create_trigger)
