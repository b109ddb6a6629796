-- What DROP and PRAGMA read, in the steps of the code.
use Rattle.std.proofs.Common.{◌≡◌, ℕ, ◌-◌, true, false, List, [], ◌∷◌, Some, None, ◌∙◌}
use Rattle.sql_tree.specs.declared.statement.ObjectKind.TheVariants as object_kind
use Rattle.sql_tree.specs.declared.token.Token.{Token}
use Rattle.sql_tree.specs.declared.token.TokenKind.TheVariants as kind
use Rattle.sql_grammar.specs.declared.counts.Counts.{Counts}
use Rattle.sql_grammar.specs.declared.counts.Role.TheVariants as role
use Rattle.sql_grammar.specs.Rules.{tok, starts, first, reads, opening, one, Done, ◌>>=◌}
use Rattle.sql_grammar.specs.Grammar.{Name, names, word}
use Rattle.sql_grammar.specs.Bodies.{rules}
use Rattle.sql_grammar.specs.Statements.{object_word, if_exists, remove_parts, remove, pragma_value, pragma_parts, pragma}
use Rattle.sql_grammar.proofs.ReadingLaws.{chosen, other}
use Rattle.sql_grammar.proofs.Whole.{nest_is}
use Rattle.parse_cursor.specs.Parts.{any_word}
use Rattle.parse_cursor.proofs.Steps.{both_to, three_to, after_is, after_to}
use Rattle.parse_create.proofs.Thens.{then}
use Rattle.parse_stmt.specs.Parts.{in_word, some_value}
use Rattle.parse_stmt.proofs.Clear.{first_value}

-- ---- DROP

pub of_table : (d : ℕ) (c : Counts) (ts : List Token) → starts (kind.Table ∷ []) ts ≡ true → reads Name rules d object_word c ts ≡ (one role.Outside (kind.Table ∷ []) c ts >>= λ t e rest. Done object_kind.Table e rest)
unfolding object_word
of_table d c ts here = chosen _ _ _ here

pub of_index : (d : ℕ) (c : Counts) (ts : List Token) → starts (kind.Table ∷ []) ts ≡ false → starts (kind.Index ∷ []) ts ≡ true → reads Name rules d object_word c ts ≡ (one role.Outside (kind.Index ∷ []) c ts >>= λ t e rest. Done object_kind.Index e rest)
unfolding object_word
of_index d c ts none here = other _ _ _ none ∙ chosen _ _ _ here

pub of_view : (d : ℕ) (c : Counts) (ts : List Token) → starts (kind.Table ∷ []) ts ≡ false → starts (kind.Index ∷ []) ts ≡ false → starts (kind.View ∷ []) ts ≡ true
    → reads Name rules d object_word c ts ≡ (one role.Outside (kind.View ∷ []) c ts >>= λ t e rest. Done object_kind.View e rest)
unfolding object_word
of_view d c ts none nor here = other _ _ _ none ∙ other _ _ _ nor ∙ chosen _ _ _ here

pub of_trigger : (d : ℕ) (c : Counts) (ts : List Token) → starts (kind.Table ∷ []) ts ≡ false → starts (kind.Index ∷ []) ts ≡ false → starts (kind.View ∷ []) ts ≡ false
    → reads Name rules d object_word c ts ≡ (one role.Outside (kind.Trigger ∷ []) c ts >>= λ t e rest. Done object_kind.Trigger e rest)
unfolding object_word
of_trigger d c ts none nor neither = other _ _ _ none ∙ other _ _ _ nor ∙ other _ _ _ neither

pub ruleset objects = (of_table, of_index, of_view, of_trigger)

pub existence_asked : (d : ℕ) (c : Counts) (ts : List Token) → starts (kind.If ∷ []) ts ≡ true → reads Name rules d if_exists c ts ≡ (one role.Outside (kind.If ∷ []) c ts >>= λ t e rest. one role.Outside (kind.Exists ∷ []) e rest >>= λ u f end. Done true f end)
unfolding if_exists
existence_asked d c ts here = chosen _ _ _ here ∙ after_to (λ x. true) role.Outside kind.If (tok role.Outside (kind.Exists ∷ [])) d c ts

pub existence_unasked : (d : ℕ) (c : Counts) (ts : List Token) → starts (kind.If ∷ []) ts ≡ false → reads Name rules d if_exists c ts ≡ Done false c ts
unfolding if_exists
existence_unasked d c ts none = other _ _ _ none

pub ruleset existences = (existence_asked, existence_unasked)

pub remove_is : (d : ℕ) (c : Counts) (ts : List Token) → reads Name rules d remove c ts
    ≡ (one role.Outside (kind.Drop ∷ []) c ts >>= λ t e rest. reads Name rules d object_word e rest >>= λ k f mid. reads Name rules d if_exists f mid >>= λ b g far. one role.Quiet names g far >>= λ n h end. Done (record { kind = k; if_exists = b; name = n }) h end)
unfolding remove remove_parts
remove_is d c ts =
    after_is role.Outside kind.Drop remove_parts d c ts
    ∙ then (one role.Outside (kind.Drop ∷ []) c ts) _ _ (λ t e rest. three_to (reads Name rules d object_word) (reads Name rules d if_exists) (one role.Quiet names) (λ p. record { kind = p.0; if_exists = p.1.0; name = p.1.1 }) e rest)

-- ---- PRAGMA

pub in_word_is : (d : ℕ) (c : Counts) (ts : List Token) → reads Name rules d in_word c ts ≡ (opening d role.Opening (kind.LeftParen ∷ []) c ts >>= λ t e rest. reads Name rules (d - 1) any_word e rest >>= λ a f mid. one role.Closing (kind.RightParen ∷ []) f mid >>= λ z g end. Done a g end)
unfolding in_word any_word
in_word_is d c ts = nest_is Name rules role.Opening (kind.LeftParen ∷ []) word role.Closing (kind.RightParen ∷ []) d c ts

pub value_behind : (d : ℕ) (c : Counts) (ts : List Token) → starts (kind.Equal ∷ []) ts ≡ true → reads Name rules d pragma_value c ts ≡ (one role.Outside (kind.Equal ∷ []) c ts >>= λ t e rest. reads Name rules d any_word e rest)
unfolding pragma_value any_word
value_behind d c ts here = chosen _ _ _ here ∙ after_is role.Outside kind.Equal any_word d c ts

pub value_within : (d : ℕ) (c : Counts) (ts : List Token) → starts (kind.Equal ∷ []) ts ≡ false → reads Name rules d pragma_value c ts ≡ reads Name rules d in_word c ts
unfolding pragma_value in_word
value_within d c ts none = other _ _ _ none

pub ruleset values = (value_behind, value_within)

pub value_given : (d : ℕ) (c : Counts) (ts : List Token) → starts (kind.Equal ∷ kind.LeftParen ∷ []) ts ≡ true → reads Name rules d some_value c ts ≡ (reads Name rules d pragma_value c ts >>= λ a e rest. Done (Some a) e rest)
unfolding some_value
value_given d c ts here = chosen (starts (first pragma_value) ts) _ _ (rw first_value here)

pub value_missing : (d : ℕ) (c : Counts) (ts : List Token) → starts (kind.Equal ∷ kind.LeftParen ∷ []) ts ≡ false → reads Name rules d some_value c ts ≡ Done None c ts
unfolding some_value
value_missing d c ts none = other (starts (first pragma_value) ts) _ _ (rw first_value none)

pub ruleset given_values = (value_given, value_missing)

pub pragma_is : (d : ℕ) (c : Counts) (ts : List Token) → reads Name rules d pragma c ts
    ≡ (one role.Outside (kind.Pragma ∷ []) c ts >>= λ t e rest. one role.Quiet names e rest >>= λ n f mid. reads Name rules d some_value f mid >>= λ v g end. Done (record { name = n; value = v }) g end)
unfolding pragma pragma_parts some_value
pragma_is d c ts =
    after_is role.Outside kind.Pragma pragma_parts d c ts
    ∙ then (one role.Outside (kind.Pragma ∷ []) c ts) _ _ (λ t e rest. both_to (one role.Quiet names) (reads Name rules d some_value) (λ p. record { name = p.0; value = p.1 }) e rest)
