-- What lists of names and words that may be missing read, in the steps of the code.
use Rattle.std.proofs.Common.{refl, ◌≡◌, ℕ, ◌-◌, true, false, List, [], ◌∷◌}
use Rattle.sql_tree.specs.declared.token.Token.{Token}
use Rattle.sql_tree.specs.declared.token.TokenKind.{TokenKind}
use Rattle.sql_tree.specs.declared.token.TokenKind.TheVariants as kind
use Rattle.sql_grammar.specs.declared.counts.Counts.{Counts}
use Rattle.sql_grammar.specs.declared.counts.Role.TheVariants as role
use Rattle.sql_grammar.specs.Kinds.{all_words}
use Rattle.sql_grammar.specs.Rules.{tok, first, starts, is_clear, reads, opening, one, Done, ◌>>=◌}
use Rattle.sql_grammar.specs.Grammar.{Name, name, name_list, in_brackets}
use Rattle.sql_grammar.specs.Bodies.{rules}
use Rattle.sql_grammar.specs.Queries.{column_names}
use Rattle.sql_grammar.specs.Definitions.{all_names}
use Rattle.sql_grammar.proofs.Whole.{nest_is}
use Rattle.parse_cursor.specs.Items.{items}
use Rattle.parse_cursor.specs.Parts.{in_names, any_word, given_word}
use Rattle.parse_cursor.proofs.Steps.{or_none_some, or_none_none, given_yes, given_no}

pub all_names_are : (d : ℕ) (c : Counts) (ts : List Token) → reads Name rules d all_names c ts ≡ reads Name rules 0 (items name) c ts
unfolding all_names items
all_names_are d c ts = refl

pub all_names_clear : is_clear Name rules (items name) ≡ true
unfolding items
all_names_clear = refl

pub ruleset all_names_steps = (all_names_are, all_names_clear)

pub in_names_is : (d : ℕ) (c : Counts) (ts : List Token) → reads Name rules d in_names c ts ≡ (opening d role.Opening (kind.LeftParen ∷ []) c ts >>= λ t e rest. reads Name rules (d - 1) all_names e rest >>= λ a f mid. one role.Closing (kind.RightParen ∷ []) f mid >>= λ z g end. Done a g end)
unfolding in_names
in_names_is d c ts = nest_is Name rules role.Opening (kind.LeftParen ∷ []) name_list role.Closing (kind.RightParen ∷ []) d c ts

pub column_names_some : (d : ℕ) (c : Counts) (ts : List Token) → starts (kind.LeftParen ∷ []) ts ≡ true → reads Name rules d column_names c ts ≡ reads Name rules d in_names c ts
unfolding column_names in_names
column_names_some d c ts here = or_none_some (in_brackets name_list) d c ts here

pub column_names_none : (d : ℕ) (c : Counts) (ts : List Token) → starts (kind.LeftParen ∷ []) ts ≡ false → reads Name rules d column_names c ts ≡ Done [] c ts
unfolding column_names in_names
column_names_none d c ts none = or_none_none (in_brackets name_list) d c ts none

pub ruleset column_names_steps = (column_names_some, column_names_none)

-- ---- words

pub first_word : first any_word ≡ all_words
unfolding any_word
first_word = refl

pub any_word_is : (d : ℕ) (c : Counts) (ts : List Token) → reads Name rules d any_word c ts ≡ one role.Outside all_words c ts
unfolding any_word
any_word_is d c ts = refl

pub word_given : (k : TokenKind) (d : ℕ) (c : Counts) (ts : List Token) → starts (k ∷ []) ts ≡ true → reads Name rules d (given_word k) c ts ≡ (one role.Outside (k ∷ []) c ts >>= λ t e rest. Done true e rest)
unfolding given_word
word_given k d c ts here = given_yes (tok role.Outside (k ∷ [])) d c ts here

pub word_missing : (k : TokenKind) (d : ℕ) (c : Counts) (ts : List Token) → starts (k ∷ []) ts ≡ false → reads Name rules d (given_word k) c ts ≡ Done false c ts
unfolding given_word
word_missing k d c ts none = given_no (tok role.Outside (k ∷ [])) d c ts none

pub ruleset given_words = (word_given, word_missing)
