-- What constraints and their parts read, in the steps of the code.
use Rattle.std.proofs.Common.{◌≡◌, ℕ, true, false, List, [], ◌∷◌, Some, None, refl, ◌∙◌}
use Rattle.sql_tree.specs.declared.statement.ColumnConstraint.TheVariants as column_rule
use Rattle.sql_tree.specs.declared.statement.TableConstraint.TheVariants as table_rule
use Rattle.sql_tree.specs.declared.token.Token.{Token}
use Rattle.sql_tree.specs.declared.token.TokenKind.TheVariants as kind
use Rattle.sql_grammar.specs.declared.counts.Counts.{Counts}
use Rattle.sql_grammar.specs.declared.counts.Role.TheVariants as role
use Rattle.sql_grammar.specs.Rules.{tok, seq, first, starts, reads, one, Done, ◌>>=◌}
use Rattle.sql_grammar.specs.Grammar.{Name, after, name, names}
use Rattle.sql_grammar.specs.Bodies.{rules}
use Rattle.sql_grammar.specs.Queries.{given}
use Rattle.sql_grammar.specs.Definitions.{check, in_key, table_rule_of, primary_key, column_key, not_null, collate, constraint_name, key_column, if_not_exists, header}
use Rattle.sql_grammar.proofs.ReadingLaws.{chosen, other}
use Rattle.parse_cursor.proofs.Steps.{both_to, three_to, after_is, after_to, maybe_some, maybe_none}
use Rattle.parse_create.specs.Parts.{key_collation}
use Rattle.parse_create.proofs.Clear.{first_collate, first_keyed}
use Rattle.parse_create.proofs.Thens.{then}
use Rattle.parse_cursor.specs.Parts.{given_word}

pub primary_key_is : (d : ℕ) (c : Counts) (ts : List Token) → reads Name rules d primary_key c ts ≡ (one role.Outside (kind.Primary ∷ []) c ts >>= λ t e rest. one role.Outside (kind.Key ∷ []) e rest)
unfolding primary_key
primary_key_is d c ts = after_is role.Outside kind.Primary (tok role.Outside (kind.Key ∷ [])) d c ts

pub column_key_is : (d : ℕ) (c : Counts) (ts : List Token) → reads Name rules d column_key c ts ≡ (reads Name rules d primary_key c ts >>= λ t e rest. reads Name rules d (given_word kind.Asc) e rest >>= λ b f end. Done column_rule.PrimaryKey f end)
unfolding column_key given_word
column_key_is d c ts = both_to (reads Name rules d primary_key) (reads Name rules d (given (tok role.Outside (kind.Asc ∷ [])))) (λ p. column_rule.PrimaryKey) c ts

pub not_null_is : (d : ℕ) (c : Counts) (ts : List Token) → reads Name rules d not_null c ts ≡ (one role.Outside (kind.Not ∷ []) c ts >>= λ t e rest. one role.Outside (kind.Null ∷ []) e rest >>= λ u f end. Done column_rule.NotNull f end)
unfolding not_null
not_null_is d c ts = after_to (λ t. column_rule.NotNull) role.Outside kind.Not (tok role.Outside (kind.Null ∷ [])) d c ts

pub collate_is : (d : ℕ) (c : Counts) (ts : List Token) → reads Name rules d collate c ts ≡ (one role.Outside (kind.Collate ∷ []) c ts >>= λ t e rest. one role.Quiet names e rest)
unfolding collate
collate_is d c ts = after_is role.Outside kind.Collate name d c ts

-- ---- names of constraints

pub constraint_named : (d : ℕ) (c : Counts) (ts : List Token) → starts (kind.Constraint ∷ []) ts ≡ true → reads Name rules d constraint_name c ts ≡ (one role.Outside (kind.Constraint ∷ []) c ts >>= λ t e rest. one role.Quiet names e rest >>= λ n f end. Done (Some n) f end)
unfolding constraint_name
constraint_named d c ts here = maybe_some role.Outside kind.Constraint name d c ts here

pub constraint_unnamed : (d : ℕ) (c : Counts) (ts : List Token) → starts (kind.Constraint ∷ []) ts ≡ false → reads Name rules d constraint_name c ts ≡ Done None c ts
unfolding constraint_name
constraint_unnamed d c ts none = maybe_none role.Outside kind.Constraint name d c ts none

pub ruleset constraint_names = (constraint_named, constraint_unnamed)

-- ---- columns of keys

pub key_collated : (d : ℕ) (c : Counts) (ts : List Token) → starts (kind.Collate ∷ []) ts ≡ true → reads Name rules d key_collation c ts ≡ (reads Name rules d collate c ts >>= λ n e rest. Done (Some n) e rest)
unfolding key_collation
key_collated d c ts here = chosen (starts (first collate) ts) _ _ (rw first_collate here)

pub key_uncollated : (d : ℕ) (c : Counts) (ts : List Token) → starts (kind.Collate ∷ []) ts ≡ false → reads Name rules d key_collation c ts ≡ Done None c ts
unfolding key_collation
key_uncollated d c ts none = other (starts (first collate) ts) _ _ (rw first_collate none)

pub ruleset key_collations = (key_collated, key_uncollated)

pub key_column_is : (d : ℕ) (c : Counts) (ts : List Token) → reads Name rules d key_column c ts ≡ (one role.Quiet names c ts >>= λ n e rest. reads Name rules d key_collation e rest >>= λ k f mid. reads Name rules d (given_word kind.Asc) f mid >>= λ b g end. Done (record { name = n; collation = k; descending = false }) g end)
unfolding key_column key_collation given_word
key_column_is d c ts = three_to (one role.Quiet names) (reads Name rules d key_collation) (reads Name rules d (given_word kind.Asc)) (λ p. record { name = p.0; collation = p.1.0; descending = false }) c ts

-- ---- in front of what is made

pub existence_asked : (d : ℕ) (c : Counts) (ts : List Token) → starts (kind.If ∷ []) ts ≡ true
    → reads Name rules d if_not_exists c ts ≡ (one role.Outside (kind.If ∷ []) c ts >>= λ t e rest. one role.Outside (kind.Not ∷ []) e rest >>= λ u f mid. one role.Outside (kind.Exists ∷ []) f mid >>= λ v g end. Done true g end)
unfolding if_not_exists
existence_asked d c ts here = chosen _ _ _ here ∙ after_to (λ x. true) role.Outside kind.If (after role.Outside kind.Not (tok role.Outside (kind.Exists ∷ []))) d c ts ∙ then (one role.Outside (kind.If ∷ []) c ts) _ _ (λ t e rest. after_to (λ x. true) role.Outside kind.Not (tok role.Outside (kind.Exists ∷ [])) d e rest)

pub existence_unasked : (d : ℕ) (c : Counts) (ts : List Token) → starts (kind.If ∷ []) ts ≡ false → reads Name rules d if_not_exists c ts ≡ Done false c ts
unfolding if_not_exists
existence_unasked d c ts none = other _ _ _ none

pub ruleset existences = (existence_asked, existence_unasked)

pub header_is : (d : ℕ) (c : Counts) (ts : List Token) → reads Name rules d header c ts ≡ (reads Name rules d if_not_exists c ts >>= λ b e rest. one role.Quiet names e rest >>= λ n f end. Done (b, n) f end)
unfolding header
header_is d c ts = refl

-- ---- constraints of a table

pub rule_primary : (d : ℕ) (c : Counts) (ts : List Token) → starts (kind.Primary ∷ []) ts ≡ true
    → reads Name rules d table_rule_of c ts ≡ (reads Name rules d primary_key c ts >>= λ t e rest. reads Name rules d in_key e rest >>= λ xs f end. Done (table_rule.PrimaryKey xs) f end)
unfolding table_rule_of
rule_primary d c ts here = chosen (starts (first (seq primary_key in_key)) ts) _ _ (rw first_keyed here) ∙ both_to (reads Name rules d primary_key) (reads Name rules d in_key) (λ p. table_rule.PrimaryKey p.1) c ts

pub rule_unique : (d : ℕ) (c : Counts) (ts : List Token) → starts (kind.Primary ∷ []) ts ≡ false → starts (kind.Unique ∷ []) ts ≡ true
    → reads Name rules d table_rule_of c ts ≡ (one role.Outside (kind.Unique ∷ []) c ts >>= λ t e rest. reads Name rules d in_key e rest >>= λ xs f end. Done (table_rule.Unique xs) f end)
unfolding table_rule_of
rule_unique d c ts none here = other (starts (first (seq primary_key in_key)) ts) _ _ (rw first_keyed none) ∙ chosen _ _ _ here ∙ after_to table_rule.Unique role.Outside kind.Unique in_key d c ts

pub rule_check : (d : ℕ) (c : Counts) (ts : List Token) → starts (kind.Primary ∷ []) ts ≡ false → starts (kind.Unique ∷ []) ts ≡ false
    → reads Name rules d table_rule_of c ts ≡ (reads Name rules d check c ts >>= λ x e rest. Done (table_rule.Check x) e rest)
unfolding table_rule_of
rule_check d c ts none nor = other (starts (first (seq primary_key in_key)) ts) _ _ (rw first_keyed none) ∙ other _ _ _ nor

pub ruleset table_rules = (rule_primary, rule_unique, rule_check)
