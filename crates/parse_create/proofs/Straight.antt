-- What rules that open no bracket read, in the steps of the code.
use Rattle.std.proofs.Common.{◌≡◌, ℕ, true, false, List, [], ◌∷◌, ap, ◌∙◌}
use Rattle.sql_tree.specs.declared.statement.Assignment.{Assignment}
use Rattle.sql_tree.specs.declared.statement.ConflictChoice.TheVariants as choice_is
use Rattle.sql_tree.specs.declared.token.Token.{Token}
use Rattle.sql_tree.specs.declared.token.TokenKind.TheVariants as kind
use Rattle.sql_grammar.specs.declared.counts.Counts.{Counts}
use Rattle.sql_grammar.specs.declared.counts.Role.TheVariants as role
use Rattle.sql_grammar.specs.Rules.{starts, reads, one, Outcome, Done, ◌>>=◌}
use Rattle.sql_grammar.specs.Grammar.{Name, after, names}
use Rattle.sql_grammar.specs.Bodies.{rules}
use Rattle.sql_grammar.specs.Queries.{filter_by}
use Rattle.sql_grammar.specs.Writes.{assignments, choice_word, conflict_choice, insert_words, update, update_parts}
use Rattle.sql_grammar.proofs.ReadingLaws.{chosen, other}
use Rattle.parse_cursor.proofs.Steps.{after_is, four_to}
use Rattle.parse_create.proofs.Thens.{then, then_on}

-- ---- choices of writes

pub choice_abort : (d : ℕ) (c : Counts) (ts : List Token) → starts (kind.Abort ∷ []) ts ≡ true → reads Name rules d choice_word c ts ≡ (one role.Outside (kind.Abort ∷ []) c ts >>= λ t e rest. Done choice_is.Abort e rest)
unfolding choice_word
choice_abort d c ts here = chosen _ _ _ here

pub choice_ignore : (d : ℕ) (c : Counts) (ts : List Token) → starts (kind.Abort ∷ []) ts ≡ false → starts (kind.Ignore ∷ []) ts ≡ true → reads Name rules d choice_word c ts ≡ (one role.Outside (kind.Ignore ∷ []) c ts >>= λ t e rest. Done choice_is.Ignore e rest)
unfolding choice_word
choice_ignore d c ts none here = other _ _ _ none ∙ chosen _ _ _ here

pub choice_replace : (d : ℕ) (c : Counts) (ts : List Token) → starts (kind.Abort ∷ []) ts ≡ false → starts (kind.Ignore ∷ []) ts ≡ false → reads Name rules d choice_word c ts ≡ (one role.Outside (kind.Replace ∷ []) c ts >>= λ t e rest. Done choice_is.Replace e rest)
unfolding choice_word
choice_replace d c ts none nor = other _ _ _ none ∙ other _ _ _ nor

pub ruleset choice_words = (choice_abort, choice_ignore, choice_replace)

pub choice_given : (d : ℕ) (c : Counts) (ts : List Token) → starts (kind.Or ∷ []) ts ≡ true → reads Name rules d conflict_choice c ts ≡ (one role.Outside (kind.Or ∷ []) c ts >>= λ t e rest. reads Name rules d choice_word e rest)
unfolding conflict_choice
choice_given d c ts here = chosen _ _ _ here ∙ after_is role.Outside kind.Or choice_word d c ts

pub choice_missing : (d : ℕ) (c : Counts) (ts : List Token) → starts (kind.Or ∷ []) ts ≡ false → reads Name rules d conflict_choice c ts ≡ Done choice_is.Abort c ts
unfolding conflict_choice
choice_missing d c ts none = other _ _ _ none

pub ruleset conflict_choices = (choice_given, choice_missing)

pub words_insert : (d : ℕ) (c : Counts) (ts : List Token) → starts (kind.Insert ∷ []) ts ≡ true → reads Name rules d insert_words c ts ≡ (one role.Outside (kind.Insert ∷ []) c ts >>= λ t e rest. reads Name rules d conflict_choice e rest)
unfolding insert_words
words_insert d c ts here = chosen _ _ _ here ∙ after_is role.Outside kind.Insert conflict_choice d c ts

pub words_replace : (d : ℕ) (c : Counts) (ts : List Token) → starts (kind.Insert ∷ []) ts ≡ false → reads Name rules d insert_words c ts ≡ (one role.Outside (kind.Replace ∷ []) c ts >>= λ t e rest. Done choice_is.Replace e rest)
unfolding insert_words
words_replace d c ts none = other _ _ _ none

pub ruleset inserting_words = (words_insert, words_replace)

-- ---- UPDATE

pub update_is : (d : ℕ) (c : Counts) (ts : List Token) → reads Name rules d update c ts
    ≡ (one role.Outside (kind.Update ∷ []) c ts >>= λ t e rest. reads Name rules d conflict_choice e rest >>= λ w f mid. one role.Quiet names f mid >>= λ n g far. one role.Outside (kind.Set ∷ []) g far >>= λ u h near.
    reads Name rules d assignments h near >>= λ xs i last. reads Name rules d filter_by i last >>= λ x j end. Done (record { choice = w; table = n; assignments = xs; filter = x }) j end)
unfolding update update_parts
update_is d c ts =
    after_is role.Outside kind.Update update_parts d c ts
    ∙ then (one role.Outside (kind.Update ∷ []) c ts) _ _ (λ t e rest.
    four_to (reads Name rules d conflict_choice) (one role.Quiet names) (reads Name rules d (after role.Outside kind.Set assignments)) (reads Name rules d filter_by) (λ p. record { choice = p.0; table = p.1.0; assignments = p.1.1.0; filter = p.1.1.1 }) e rest
    ∙ then (reads Name rules d conflict_choice e rest) _ _ (λ w f mid. then (one role.Quiet names f mid) _ _ (λ n g far.
    ap (λ (o : Outcome (List Assignment)). o >>= λ xs i last. reads Name rules d filter_by i last >>= λ x j end. Done (record { choice = w; table = n; assignments = xs; filter = x }) j end) (after_is role.Outside kind.Set assignments d g far)
    ∙ then_on (one role.Outside (kind.Set ∷ []) g far) (λ u h near. reads Name rules d assignments h near) (λ xs i last. reads Name rules d filter_by i last >>= λ x j end. Done (record { choice = w; table = n; assignments = xs; filter = x }) j end))))
