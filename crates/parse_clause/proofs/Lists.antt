-- What lists read, in the steps of the code.
use Rattle.std.proofs.Common.{◌≡◌, ℕ, ◌<◌, length, true, false, List, [], ◌∷◌, ◌++◌, refl, ap, ◌∙◌}
use Rattle.sql_tree.specs.declared.token.Token.{Token}
use Rattle.sql_grammar.specs.declared.counts.Counts.{Counts}
use Rattle.sql_grammar.specs.Rules.{starts, reads, Done, ◌>>=◌}
use Rattle.sql_grammar.specs.Bodies.{rules}
use Rattle.sql_tree.specs.declared.query.FromItem.{FromItem}
use Rattle.sql_grammar.specs.Grammar.{Name}
use Rattle.sql_grammar.specs.Queries.{result, results, first_item, joined_item, items}
use Rattle.sql_grammar.proofs.Clear.{clear, rich}
use Rattle.sql_grammar.proofs.Whole.{takes_some}
use Rattle.parse_cursor.specs.Gives.{collected}
use Rattle.parse_cursor.specs.Items as lists
use Rattle.parse_cursor.proofs.Steps.{both_to, many_step, many_end}
use Rattle.parse_clause.specs.declared.from.TheConstants.{JOINS}
use Rattle.parse_clause.specs.Parts.{joined_items}
use Rattle.parse_clause.proofs.Clear.{results_clear, joined_items_clear, joined_item_clear, joined_item_solid, first_joined_item}

pub results_are : (d : ℕ) (c : Counts) (ts : List Token) → reads Name rules d results c ts ≡ reads Name rules d (lists.items result) c ts
unfolding results lists.items
results_are d c ts = refl

pub ruleset results_steps = (results_are, results_clear)

pub items_is : (d : ℕ) (c : Counts) (ts : List Token) → reads Name rules d items c ts ≡ (reads Name rules d first_item c ts >>= λ a e rest. collected (a ∷ []) (reads Name rules d joined_items e rest))
unfolding items joined_items
items_is d c ts = both_to (reads Name rules d first_item) (reads Name rules d joined_items) (λ p. p.0 ∷ p.1) c ts

pub items_next : (found : List FromItem) (d : ℕ) (c : Counts) (ts : List Token) → starts JOINS ts ≡ true → collected found (reads Name rules d joined_items c ts) ≡ (reads Name rules d joined_item c ts >>= λ a e rest. collected (found ++ a ∷ []) (reads Name rules d joined_items e rest))
unfolding joined_items
items_next found d c ts here = many_step joined_item d found c ts joined_items_clear (ap (λ ks. starts ks ts) first_joined_item ∙ here)

pub items_end : (found : List FromItem) (d : ℕ) (c : Counts) (ts : List Token) → starts JOINS ts ≡ false → collected found (reads Name rules d joined_items c ts) ≡ Done found c ts
unfolding joined_items
items_end found d c ts none = many_end joined_item d found c ts joined_items_clear (ap (λ ks. starts ks ts) first_joined_item ∙ none)

pub item_shorter : (d : ℕ) (c e : Counts) (ts rest : List Token) (a : FromItem) → reads Name rules d joined_item c ts ≡ Done a e rest → length rest < length ts
item_shorter d c e ts rest a is = takes_some Name rules clear rich joined_item joined_item_clear joined_item_solid d c e ts rest a is

pub ruleset items_steps = (items_is, items_next, items_end)
