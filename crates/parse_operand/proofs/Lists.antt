-- What lists read, as the generic readers say it.
use Rattle.std.proofs.Common.{◌≡◌, ℕ, true, List, refl}
use Rattle.sql_tree.specs.declared.token.Token.{Token}
use Rattle.sql_grammar.specs.declared.counts.Counts.{Counts}
use Rattle.sql_grammar.specs.Rules.{is_clear, reads}
use Rattle.sql_grammar.specs.Grammar.{Name, expr, exprs, arm, arms}
use Rattle.sql_grammar.specs.Bodies.{rules}
use Rattle.sql_grammar.specs.Queries.{all_query_rules}
use Rattle.parse_cursor.specs.Items.{items, run}
use Rattle.parse_operand.proofs.Clear.{first_arm}

pub exprs_are : (d : ℕ) (c : Counts) (ts : List Token) → reads Name rules d exprs c ts ≡ reads Name rules d (items expr) c ts
unfolding exprs items
exprs_are d c ts = refl

pub exprs_clear : is_clear Name rules (items expr) ≡ true
unfolding all_query_rules items
exprs_clear = refl

pub ruleset exprs_steps = (exprs_are, exprs_clear)

pub arms_are : (d : ℕ) (c : Counts) (ts : List Token) → reads Name rules d arms c ts ≡ reads Name rules d (run arm) c ts
unfolding arms run
arms_are d c ts = refl

pub arms_clear : is_clear Name rules (run arm) ≡ true
unfolding all_query_rules run
arms_clear = refl

pub ruleset arms_steps = (arms_are, arms_clear, first_arm)
