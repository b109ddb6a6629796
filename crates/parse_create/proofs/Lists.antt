-- What lists read, as the generic readers say it.
use Rattle.std.proofs.Common.{◌≡◌, ℕ, true, false, List, [], ◌∷◌, refl, sym, ◌∙◌}
use Rattle.sql_tree.specs.declared.token.Token.{Token}
use Rattle.sql_tree.specs.declared.token.TokenKind.TheVariants as kind
use Rattle.sql_grammar.specs.declared.counts.Counts.{Counts}
use Rattle.sql_grammar.specs.Rules.{first, is_clear, many, reads, starts, Done}
use Rattle.sql_grammar.specs.Grammar.{Name}
use Rattle.sql_grammar.specs.Bodies.{rules}
use Rattle.sql_grammar.specs.Writes.{assignment, assignments}
use Rattle.sql_grammar.specs.Definitions.{all_definition_rules, body_command, body_commands, column_constraint, index_column, key_column, module_argument}
use Rattle.sql_grammar.proofs.ReadingLaws.{chosen, other}
use Rattle.sql_grammar.proofs.Whole.{many_is}
use Rattle.sql_grammar.proofs.Clear.{clear, rich}
use Rattle.parse_cursor.specs.Items.{items, run}
use Rattle.parse_cursor.proofs.Steps.{both_to}
use Rattle.parse_create.specs.Parts.{column_constraints}

-- ---- assignments

pub assignments_are : (d : ℕ) (c : Counts) (ts : List Token) → reads Name rules d assignments c ts ≡ reads Name rules d (items assignment) c ts
unfolding assignments items
assignments_are d c ts = refl

pub assignments_clear : is_clear Name rules (items assignment) ≡ true
unfolding all_definition_rules items
assignments_clear = refl

pub ruleset assignments_steps = (assignments_are, assignments_clear)

-- ---- columns of keys and of indexes

pub key_columns_clear : is_clear Name rules (items key_column) ≡ true
unfolding all_definition_rules items
key_columns_clear = refl

pub index_columns_clear : is_clear Name rules (items index_column) ≡ true
unfolding all_definition_rules items
index_columns_clear = refl

-- ---- commands of a trigger

pub commands_are : (d : ℕ) (c : Counts) (ts : List Token) → reads Name rules d body_commands c ts ≡ reads Name rules d (run body_command) c ts
unfolding body_commands run
commands_are d c ts = refl

pub commands_clear : is_clear Name rules (run body_command) ≡ true
unfolding all_definition_rules run
commands_clear = refl

pub first_command : first body_command ≡ kind.With ∷ kind.Select ∷ kind.Values ∷ kind.Insert ∷ kind.Replace ∷ kind.Update ∷ kind.Delete ∷ []
unfolding all_definition_rules
first_command = refl

pub ruleset commands_steps = (commands_are, commands_clear, first_command)

-- ---- constraints of a column

pub constraints_clear : is_clear Name rules (run column_constraint) ≡ true
unfolding all_definition_rules run
constraints_clear = refl

more_constraints_clear : is_clear Name rules (many column_constraint) ≡ true
unfolding all_definition_rules
more_constraints_clear = refl

pub first_constraint : first column_constraint ≡ kind.Constraint ∷ kind.Primary ∷ kind.Not ∷ kind.Null ∷ kind.Unique ∷ kind.Check ∷ kind.Default ∷ kind.Collate ∷ []
unfolding all_definition_rules
first_constraint = refl

pub constraints_some : (d : ℕ) (c : Counts) (ts : List Token) → starts (kind.Constraint ∷ kind.Primary ∷ kind.Not ∷ kind.Null ∷ kind.Unique ∷ kind.Check ∷ kind.Default ∷ kind.Collate ∷ []) ts ≡ true
    → reads Name rules d column_constraints c ts ≡ reads Name rules d (run column_constraint) c ts
unfolding column_constraints run
constraints_some d c ts here =
    many_is Name rules clear rich column_constraint more_constraints_clear d c ts ∙ chosen (starts (first column_constraint) ts) _ _ (rw first_constraint here)
    ∙ sym (both_to (reads Name rules d column_constraint) (reads Name rules d (many column_constraint)) (λ x. x.0 ∷ x.1) c ts)

pub constraints_none : (d : ℕ) (c : Counts) (ts : List Token) → starts (kind.Constraint ∷ kind.Primary ∷ kind.Not ∷ kind.Null ∷ kind.Unique ∷ kind.Check ∷ kind.Default ∷ kind.Collate ∷ []) ts ≡ false
    → reads Name rules d column_constraints c ts ≡ Done [] c ts
unfolding column_constraints
constraints_none d c ts none = many_is Name rules clear rich column_constraint more_constraints_clear d c ts ∙ other (starts (first column_constraint) ts) _ _ (rw first_constraint none)

pub ruleset constraints_steps = (constraints_some, constraints_none, constraints_clear, first_constraint)

-- ---- arguments of a module

pub arguments_clear : is_clear Name rules (items module_argument) ≡ true
unfolding all_definition_rules items
arguments_clear = refl
