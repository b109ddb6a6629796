-- What stands in parentheses, in the steps of the code.
use Rattle.std.proofs.Common.{◌≡◌, ℕ, ◌-◌, List, [], ◌∷◌}
use Rattle.sql_tree.specs.declared.token.Token.{Token}
use Rattle.sql_tree.specs.declared.token.TokenKind.TheVariants as kind
use Rattle.sql_grammar.specs.declared.counts.Counts.{Counts}
use Rattle.sql_grammar.specs.declared.counts.Role.TheVariants as role
use Rattle.sql_grammar.specs.Rules.{reads, opening, one, Done, ◌>>=◌}
use Rattle.sql_grammar.specs.Grammar.{Name, expression, columns, key_columns, index_columns, expr}
use Rattle.sql_grammar.specs.Bodies.{rules}
use Rattle.sql_grammar.specs.Queries.{direction}
use Rattle.sql_grammar.specs.Definitions.{in_expression, in_key, all_key_columns, all_index_columns, all_columns, collate, index_column, key_column}
use Rattle.sql_grammar.proofs.Whole.{nest_is}
use Rattle.parse_cursor.specs.Items.{items}
use Rattle.parse_create.specs.Parts.{in_index, in_columns}
use Rattle.parse_create.proofs.Lists.{key_columns_clear, index_columns_clear}

pub in_expression_is : (d : ℕ) (c : Counts) (ts : List Token) → reads Name rules d in_expression c ts ≡ (opening d role.Opening (kind.LeftParen ∷ []) c ts >>= λ t e rest. reads Name rules (d - 1) expr e rest >>= λ a f mid. one role.Closing (kind.RightParen ∷ []) f mid >>= λ z g end. Done a g end)
unfolding in_expression
in_expression_is d c ts = nest_is Name rules role.Opening (kind.LeftParen ∷ []) expression role.Closing (kind.RightParen ∷ []) d c ts

pub in_key_is : (d : ℕ) (c : Counts) (ts : List Token) → reads Name rules d in_key c ts ≡ (opening d role.Opening (kind.LeftParen ∷ []) c ts >>= λ t e rest. reads Name rules 0 (items key_column) e rest >>= λ a f mid. one role.Closing (kind.RightParen ∷ []) f mid >>= λ z g end. Done a g end)
unfolding in_key all_key_columns key_column collate items
in_key_is d c ts = nest_is Name rules role.Opening (kind.LeftParen ∷ []) key_columns role.Closing (kind.RightParen ∷ []) d c ts

pub ruleset in_key_steps = (in_key_is, key_columns_clear)

pub in_index_is : (d : ℕ) (c : Counts) (ts : List Token) → reads Name rules d in_index c ts ≡ (opening d role.Opening (kind.LeftParen ∷ []) c ts >>= λ t e rest. reads Name rules 0 (items index_column) e rest >>= λ a f mid. one role.Closing (kind.RightParen ∷ []) f mid >>= λ z g end. Done a g end)
unfolding in_index all_index_columns index_column collate direction items
in_index_is d c ts = nest_is Name rules role.Opening (kind.LeftParen ∷ []) index_columns role.Closing (kind.RightParen ∷ []) d c ts

pub ruleset in_index_steps = (in_index_is, index_columns_clear)

pub in_columns_is : (d : ℕ) (c : Counts) (ts : List Token) → reads Name rules d in_columns c ts ≡ (opening d role.Opening (kind.LeftParen ∷ []) c ts >>= λ t e rest. reads Name rules (d - 1) all_columns e rest >>= λ a f mid. one role.Closing (kind.RightParen ∷ []) f mid >>= λ z g end. Done a g end)
unfolding in_columns
in_columns_is d c ts = nest_is Name rules role.Opening (kind.LeftParen ∷ []) columns role.Closing (kind.RightParen ∷ []) d c ts
