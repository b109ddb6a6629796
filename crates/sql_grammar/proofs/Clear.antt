-- One token of look-ahead tells what to do, everywhere in the grammar.
use Rattle.std.proofs.Common.{◌≡◌, true, [], refl}
use Rattle.sql_grammar.specs.Rules.{is_clear, ends, nested}
use Rattle.sql_grammar.specs.Exact.{Begins}
use Rattle.sql_grammar.specs.Grammar.{Name, expr}
use Rattle.sql_grammar.specs.Grammar as name
use Rattle.sql_grammar.specs.Bodies.{rules}
use Rattle.sql_grammar.specs.Statements.{statement, all_statement_rules}
use Rattle.sql_grammar.proofs.Derivations.{ends_law}

pub expr_clear : is_clear Name rules expr ≡ true
unfolding all_statement_rules
expr_clear = refl

pub statement_clear : is_clear Name rules statement ≡ true
unfolding all_statement_rules
statement_clear = refl

pub clear : (A : Type 0) (n : Name A) → is_clear Name rules (rules A n) ≡ true
unfolding all_statement_rules
clear A name.parenthesized = refl
clear A name.subquery = refl
clear A name.expression = refl
clear A name.row = refl
clear A name.arguments = refl
clear A name.table_arguments = refl
clear A name.condition = refl
clear A name.cast = refl
clear A name.choice = refl
clear A name.members = refl
clear A name.sizes = refl
clear A name.raise = refl
clear A name.name_list = refl
clear A name.columns = refl
clear A name.key_columns = refl
clear A name.index_columns = refl
clear A name.module_arguments = refl
clear A name.balanced = refl
clear A name.word = refl

pub end : (A : Type 0) (n : Name A) → ends Name rules 3 A n ≡ true
unfolding all_statement_rules
end A name.parenthesized = refl
end A name.subquery = refl
end A name.expression = refl
end A name.row = refl
end A name.arguments = refl
end A name.table_arguments = refl
end A name.condition = refl
end A name.cast = refl
end A name.choice = refl
end A name.members = refl
end A name.sizes = refl
end A name.raise = refl
end A name.name_list = refl
end A name.columns = refl
end A name.key_columns = refl
end A name.index_columns = refl
end A name.module_arguments = refl
end A name.balanced = refl
end A name.word = refl

-- something is derived between all brackets
pub rich : (A : Type 0) (n : Name A) → Begins (λ e. nested Name rules e A n) []
rich A n = ends_law Name rules clear 3 A n (end A n)
