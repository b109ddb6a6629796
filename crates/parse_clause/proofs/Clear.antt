-- One token of look-ahead tells what to do in the lists of results and of items, and with which kinds an item behind the first begins.
use Rattle.std.proofs.Common.{◌≡◌, true, false, refl}
use Rattle.sql_grammar.specs.Rules.{first, is_clear, can_be_empty}
use Rattle.sql_grammar.specs.Bodies.{rules}
use Rattle.sql_grammar.specs.Grammar.{Name}
use Rattle.sql_grammar.specs.Queries.{result, joined_item, all_query_rules}
use Rattle.sql_grammar.specs.Definitions.{all_names}
use Rattle.parse_cursor.specs.Items.{items}
use Rattle.parse_clause.specs.declared.from.TheConstants.{JOINS}
use Rattle.parse_clause.specs.Parts.{joined_items}

-- all rules, for proofs that compute with them
unfoldable computed : Unit {0}
unfolding all_query_rules all_names items joined_items
computed = tt

pub results_clear : is_clear Name rules (items result) ≡ true
unfolding computed
results_clear = refl

pub joined_items_clear : is_clear Name rules joined_items ≡ true
unfolding computed
joined_items_clear = refl

pub joined_item_clear : is_clear Name rules joined_item ≡ true
unfolding computed
joined_item_clear = refl

pub joined_item_solid : can_be_empty joined_item ≡ false
unfolding computed
joined_item_solid = refl

pub first_joined_item : first joined_item ≡ JOINS
unfolding computed
first_joined_item = refl
