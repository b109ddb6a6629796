-- One token of look-ahead tells what to do in each list of queries, and with which kinds parts of queries begin.
use Rattle.std.proofs.Common.{◌≡◌, true, false, refl}
use Rattle.sql_grammar.specs.Rules.{first, is_clear, can_be_empty}
use Rattle.sql_grammar.specs.Bodies.{rules}
use Rattle.sql_grammar.specs.Grammar.{Name}
use Rattle.sql_grammar.specs.Queries.{spanned_expr, one_row, compound_part, term, common_table, all_query_rules}
use Rattle.sql_grammar.specs.Definitions.{all_names}
use Rattle.parse_cursor.specs.Items.{items}
use Rattle.parse_query.specs.declared.compounds.TheConstants.{COMPOUNDS}
use Rattle.parse_query.specs.Parts.{compound_parts}

-- all rules, for proofs that compute with them
unfoldable computed : Unit {0}
unfolding all_query_rules all_names items compound_parts
computed = tt

pub groups_clear : is_clear Name rules (items spanned_expr) ≡ true
unfolding computed
groups_clear = refl

pub rows_clear : is_clear Name rules (items one_row) ≡ true
unfolding computed
rows_clear = refl

pub terms_clear : is_clear Name rules (items term) ≡ true
unfolding computed
terms_clear = refl

pub tables_clear : is_clear Name rules (items common_table) ≡ true
unfolding computed
tables_clear = refl

pub compound_parts_clear : is_clear Name rules compound_parts ≡ true
unfolding computed
compound_parts_clear = refl

pub compound_part_clear : is_clear Name rules compound_part ≡ true
unfolding computed
compound_part_clear = refl

pub compound_part_solid : can_be_empty compound_part ≡ false
unfolding computed
compound_part_solid = refl

pub first_compound_part : first compound_part ≡ COMPOUNDS
unfolding computed
first_compound_part = refl
