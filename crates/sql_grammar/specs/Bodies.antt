-- What stands between an opening and a closing token, by its name.
use Rattle.sql_tree.specs.declared.expr.Expr.TheVariants as e
use Rattle.sql_tree.specs.declared.token.TokenKind.TheVariants as kind
use Rattle.sql_grammar.specs.declared.counts.Role.TheVariants as role
use Rattle.sql_grammar.specs.Kinds.{all_words}
use Rattle.sql_grammar.specs.Rules.{tok, seq, alt, to}
use Rattle.sql_grammar.specs.Grammar.{Name, Of, maybe, after, or_none, or_no_arguments, type_name, two_sizes, expr, exprs, case, some_arguments, raise_what}
use Rattle.sql_grammar.specs.Grammar as name
use Rattle.sql_grammar.specs.Queries.{query}
use Rattle.sql_grammar.specs.Definitions.{all_columns, all_key_columns, all_index_columns, all_names, all_module_arguments, inner_pieces}

abbrev pub rules : (A : Type 0) → Name A → Of A
rules A name.parenthesized = alt (to e.Subquery query) expr
rules A name.subquery = query
rules A name.expression = expr
rules A name.row = exprs
rules A name.arguments = to or_no_arguments (maybe some_arguments)
rules A name.table_arguments = to or_none (maybe exprs)
rules A name.condition = after role.Quiet kind.Where expr
rules A name.cast = seq expr (after role.Quiet kind.As type_name)
rules A name.choice = case
rules A name.members = alt (to (λ q x. e.InQuery x q) query) (to (λ es x. e.In x (or_none es)) (maybe exprs))
rules A name.sizes = two_sizes
rules A name.raise = raise_what
rules A name.name_list = all_names
rules A name.columns = all_columns
rules A name.key_columns = all_key_columns
rules A name.index_columns = all_index_columns
rules A name.module_arguments = all_module_arguments
rules A name.balanced = inner_pieces
rules A name.word = tok role.Outside all_words
