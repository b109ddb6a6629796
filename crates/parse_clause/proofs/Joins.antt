-- What FROM reads, in the steps of the code.
use Rattle.std.proofs.Common.{◌≡◌, ℕ, Bool, if◌then◌else◌, true, false, List, [], ◌∷◌, Some, None, refl, ◌∙◌}
use Rattle.sql_tree.specs.declared.token.Token.{Token}
use Rattle.sql_tree.specs.declared.token.TokenKind.TheVariants as kind
use Rattle.sql_grammar.specs.declared.counts.Counts.{Counts}
use Rattle.sql_grammar.specs.declared.counts.Role.TheVariants as role
use Rattle.sql_grammar.specs.Rules.{starts, reads, one, tok, Outcome, Done, Stop, ◌>>=◌}
use Rattle.sql_grammar.specs.Bodies.{rules}
use Rattle.sql_grammar.proofs.ReadingLaws.{chosen, other}
use Rattle.sql_tree.specs.declared.query.FromItem.{roll-FromItem}
use Rattle.sql_tree.specs.declared.query.JoinConstraint.TheVariants as constraint
use Rattle.sql_tree.specs.declared.query.Source.TheVariants as source_is
use Rattle.sql_grammar.specs.Grammar.{Name, names, expr, name_list, maybe, after, in_brackets}
use Rattle.sql_grammar.specs.Queries.{alias, given, left_word, join_side, join_words, plain_join, join, table_source, derived_source, source, join_constraint, first_item, joined_item, items, from}
use Rattle.parse_cursor.specs.Parts.{in_names, given_word}
use Rattle.parse_cursor.proofs.Steps.{both_to, three_to, four_to, after_to, after_is, or_none_some, or_none_none}
use Rattle.parse_clause.specs.Parts.{in_query, maybe_table_arguments}

-- ---- joins

pub left_word_is : (d : ℕ) (c : Counts) (ts : List Token) → reads Name rules d left_word c ts ≡ (one role.Outside (kind.Left ∷ []) c ts >>= λ t e rest. reads Name rules d (given_word kind.Outer) e rest >>= λ b f end. Done true f end)
unfolding left_word given_word
left_word_is d c ts = both_to (one role.Outside (kind.Left ∷ [])) (reads Name rules d (maybe (tok role.Outside (kind.Outer ∷ [])))) (λ p. true) c ts ∙ word (one role.Outside (kind.Left ∷ []) c ts) where
  same : (x : Bool) (e : Counts) (rest : List Token) (o : Outcome Token) → ((if x then (o >>= λ a f end. Done (Some a) f end) else Done None e rest) >>= λ b f end. Done true f end) ≡ ((if x then (o >>= λ a f end. Done true f end) else Done false e rest) >>= λ b f end. Done true f end)
  same true e rest (Done a f end) = refl
  same true e rest (Stop w end) = refl
  same false e rest o = refl

  word : (o : Outcome Token) → (o >>= λ t e rest. reads Name rules d (maybe (tok role.Outside (kind.Outer ∷ []))) e rest >>= λ b f end. Done true f end) ≡ (o >>= λ t e rest. reads Name rules d (given (tok role.Outside (kind.Outer ∷ []))) e rest >>= λ b f end. Done true f end)
  word (Done t e rest) = same (starts (kind.Outer ∷ []) rest) e rest (one role.Outside (kind.Outer ∷ []) e rest)
  word (Stop w rest) = refl

pub side_inner : (d : ℕ) (c : Counts) (ts : List Token) → starts (kind.Inner ∷ kind.Cross ∷ []) ts ≡ true → reads Name rules d join_side c ts ≡ (one role.Outside (kind.Inner ∷ kind.Cross ∷ []) c ts >>= λ t e rest. Done false e rest)
unfolding join_side
side_inner d c ts here = chosen _ _ _ here

pub side_left : (d : ℕ) (c : Counts) (ts : List Token) → starts (kind.Inner ∷ kind.Cross ∷ []) ts ≡ false → starts (kind.Left ∷ []) ts ≡ true → reads Name rules d join_side c ts ≡ reads Name rules d left_word c ts
unfolding join_side left_word
side_left d c ts none here = other _ _ _ none ∙ chosen _ _ _ here

pub side_none : (d : ℕ) (c : Counts) (ts : List Token) → starts (kind.Inner ∷ kind.Cross ∷ []) ts ≡ false → starts (kind.Left ∷ []) ts ≡ false → reads Name rules d join_side c ts ≡ Done false c ts
unfolding join_side left_word
side_none d c ts none others = other _ _ _ none ∙ other _ _ _ others

pub ruleset join_sides = (side_inner, side_left, side_none)

pub join_words_is : (d : ℕ) (c : Counts) (ts : List Token) → reads Name rules d join_words c ts ≡ (reads Name rules d (given_word kind.Natural) c ts >>= λ n e rest. reads Name rules d join_side e rest >>= λ l f mid. one role.Outside (kind.Join ∷ []) f mid >>= λ t g end. Done (record { natural = n; left = l }) g end)
unfolding join_words given_word
join_words_is d c ts = three_to (reads Name rules d (given (tok role.Outside (kind.Natural ∷ [])))) (reads Name rules d join_side) (one role.Outside (kind.Join ∷ [])) (λ p. record { natural = p.0; left = p.1.0 }) c ts

pub join_comma : (d : ℕ) (c : Counts) (ts : List Token) → starts (kind.Comma ∷ []) ts ≡ true → reads Name rules d join c ts ≡ (one role.Outside (kind.Comma ∷ []) c ts >>= λ t e rest. Done plain_join e rest)
unfolding join
join_comma d c ts here = chosen _ _ _ here

pub join_by_words : (d : ℕ) (c : Counts) (ts : List Token) → starts (kind.Comma ∷ []) ts ≡ false → reads Name rules d join c ts ≡ reads Name rules d join_words c ts
unfolding join
join_by_words d c ts none = other _ _ _ none

pub ruleset joins = (join_comma, join_by_words)

-- ---- items

pub source_table : (d : ℕ) (c : Counts) (ts : List Token) → starts names ts ≡ true → reads Name rules d source c ts ≡ (one role.Quiet names c ts >>= λ t e rest. reads Name rules d maybe_table_arguments e rest >>= λ a f end. Done (source_is.Table t a) f end)
unfolding source table_source maybe_table_arguments
source_table d c ts here = chosen _ _ _ here ∙ both_to (one role.Quiet names) (reads Name rules d maybe_table_arguments) (λ p. source_is.Table p.0 p.1) c ts

pub source_derived : (d : ℕ) (c : Counts) (ts : List Token) → starts names ts ≡ false → reads Name rules d source c ts ≡ (reads Name rules d in_query c ts >>= λ q e rest. Done (source_is.Derived q) e rest)
unfolding source table_source derived_source in_query
source_derived d c ts none = other _ _ _ none

pub ruleset sources = (source_table, source_derived)

pub constraint_on : (d : ℕ) (c : Counts) (ts : List Token) → starts (kind.On ∷ []) ts ≡ true → reads Name rules d join_constraint c ts ≡ (one role.Outside (kind.On ∷ []) c ts >>= λ t e rest. reads Name rules d expr e rest >>= λ x f end. Done (constraint.On x) f end)
unfolding join_constraint
constraint_on d c ts here = chosen _ _ _ here ∙ after_to constraint.On role.Outside kind.On expr d c ts

pub constraint_using : (d : ℕ) (c : Counts) (ts : List Token) → starts (kind.On ∷ []) ts ≡ false → starts (kind.Using ∷ []) ts ≡ true → reads Name rules d join_constraint c ts ≡ (one role.Outside (kind.Using ∷ []) c ts >>= λ t e rest. reads Name rules d in_names e rest >>= λ x f end. Done (constraint.Using x) f end)
unfolding join_constraint in_names
constraint_using d c ts none here = other _ _ _ none ∙ chosen _ _ _ here ∙ after_to constraint.Using role.Outside kind.Using (in_brackets name_list) d c ts

pub constraint_none : (d : ℕ) (c : Counts) (ts : List Token) → starts (kind.On ∷ []) ts ≡ false → starts (kind.Using ∷ []) ts ≡ false → reads Name rules d join_constraint c ts ≡ Done constraint.Unconstrained c ts
unfolding join_constraint
constraint_none d c ts none others = other _ _ _ none ∙ other _ _ _ others

pub ruleset join_constraints = (constraint_on, constraint_using, constraint_none)

pub first_item_is : (d : ℕ) (c : Counts) (ts : List Token) → reads Name rules d first_item c ts ≡ (reads Name rules d source c ts >>= λ s e rest. reads Name rules d alias e rest >>= λ a f end. Done (roll-FromItem (record { join = plain_join; source = s; alias = a; constraint = constraint.Unconstrained })) f end)
unfolding first_item
first_item_is d c ts = both_to (reads Name rules d source) (reads Name rules d alias) (λ p. roll-FromItem (record { join = plain_join; source = p.0; alias = p.1; constraint = constraint.Unconstrained })) c ts

pub joined_item_is : (d : ℕ) (c : Counts) (ts : List Token) → reads Name rules d joined_item c ts
    ≡ (reads Name rules d join c ts >>= λ j e rest. reads Name rules d source e rest >>= λ s f mid. reads Name rules d alias f mid >>= λ a g near. reads Name rules d join_constraint g near >>= λ x h end. Done (roll-FromItem (record { join = j; source = s; alias = a; constraint = x })) h end)
unfolding joined_item
joined_item_is d c ts = four_to (reads Name rules d join) (reads Name rules d source) (reads Name rules d alias) (reads Name rules d join_constraint) (λ p. roll-FromItem (record { join = p.0; source = p.1.0; alias = p.1.1.0; constraint = p.1.1.1 })) c ts

pub from_some : (d : ℕ) (c : Counts) (ts : List Token) → starts (kind.From ∷ []) ts ≡ true → reads Name rules d from c ts ≡ (one role.Outside (kind.From ∷ []) c ts >>= λ t e rest. reads Name rules d items e rest)
unfolding from
from_some d c ts here = or_none_some (after role.Outside kind.From items) d c ts here ∙ after_is role.Outside kind.From items d c ts

pub from_none : (d : ℕ) (c : Counts) (ts : List Token) → starts (kind.From ∷ []) ts ≡ false → reads Name rules d from c ts ≡ Done [] c ts
unfolding from
from_none d c ts none = or_none_none (after role.Outside kind.From items) d c ts none

pub ruleset froms = (from_some, from_none)
