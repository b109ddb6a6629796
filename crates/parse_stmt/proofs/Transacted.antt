-- What BEGIN, COMMIT, ROLLBACK, SAVEPOINT and RELEASE read, in the steps of the code.
use Rattle.std.proofs.Common.{◌≡◌, ℕ, true, false, List, [], ◌∷◌, Some, None, ◌∙◌}
use Rattle.sql_tree.specs.declared.statement.Transaction.TheVariants as transaction_is
use Rattle.sql_tree.specs.declared.token.Token.{Token}
use Rattle.sql_tree.specs.declared.token.TokenKind.TheVariants as kind
use Rattle.sql_grammar.specs.declared.counts.Counts.{Counts}
use Rattle.sql_grammar.specs.declared.counts.Role.TheVariants as role
use Rattle.sql_grammar.specs.Rules.{tok, seq, starts, first, reads, one, Done, ◌>>=◌}
use Rattle.sql_grammar.specs.Grammar.{Name, name, names}
use Rattle.sql_grammar.specs.Bodies.{rules}
use Rattle.sql_grammar.specs.Statements.{transaction_word, begin_word, begin, commit, savepoint_name, rollback_of, to_savepoint, rollback, savepoint, release, transaction}
use Rattle.sql_grammar.proofs.ReadingLaws.{chosen, other}
use Rattle.parse_cursor.proofs.Steps.{both_to, after_to, maybe_some, maybe_none, given_yes, given_no}
use Rattle.parse_create.proofs.Thens.{then}
use Rattle.parse_stmt.proofs.Clear.{first_begin, first_commit, first_rollback, first_savepoint}
use Rattle.parse_cursor.specs.Parts.{given_word}

pub begin_word_given : (d : ℕ) (c : Counts) (ts : List Token) → starts (kind.Deferred ∷ kind.Immediate ∷ kind.Exclusive ∷ []) ts ≡ true
    → reads Name rules d begin_word c ts ≡ (one role.Outside (kind.Deferred ∷ kind.Immediate ∷ kind.Exclusive ∷ []) c ts >>= λ t e rest. Done true e rest)
unfolding begin_word
begin_word_given d c ts here = given_yes (tok role.Outside (kind.Deferred ∷ kind.Immediate ∷ kind.Exclusive ∷ [])) d c ts here

pub begin_word_missing : (d : ℕ) (c : Counts) (ts : List Token) → starts (kind.Deferred ∷ kind.Immediate ∷ kind.Exclusive ∷ []) ts ≡ false → reads Name rules d begin_word c ts ≡ Done false c ts
unfolding begin_word
begin_word_missing d c ts none = given_no (tok role.Outside (kind.Deferred ∷ kind.Immediate ∷ kind.Exclusive ∷ [])) d c ts none

pub ruleset begin_words = (begin_word_given, begin_word_missing)

pub begin_is : (d : ℕ) (c : Counts) (ts : List Token) → reads Name rules d begin c ts
    ≡ (one role.Outside (kind.Begin ∷ []) c ts >>= λ t e rest. reads Name rules d begin_word e rest >>= λ a f mid. reads Name rules d (given_word kind.Transaction) f mid >>= λ b g end. Done transaction_is.Begin g end)
unfolding begin transaction_word given_word
begin_is d c ts =
    after_to (λ p. transaction_is.Begin) role.Outside kind.Begin (seq begin_word (given_word kind.Transaction)) d c ts
    ∙ then (one role.Outside (kind.Begin ∷ []) c ts) _ _ (λ t e rest. both_to (reads Name rules d begin_word) (reads Name rules d (given_word kind.Transaction)) (λ p. transaction_is.Begin) e rest)

pub commit_is : (d : ℕ) (c : Counts) (ts : List Token) → reads Name rules d commit c ts ≡ (one role.Outside (kind.Commit ∷ kind.End ∷ []) c ts >>= λ t e rest. reads Name rules d (given_word kind.Transaction) e rest >>= λ b f end. Done transaction_is.Commit f end)
unfolding commit transaction_word given_word
commit_is d c ts = both_to (one role.Outside (kind.Commit ∷ kind.End ∷ [])) (reads Name rules d (given_word kind.Transaction)) (λ p. transaction_is.Commit) c ts

pub savepoint_name_is : (d : ℕ) (c : Counts) (ts : List Token) → reads Name rules d savepoint_name c ts ≡ (reads Name rules d (given_word kind.Savepoint) c ts >>= λ b e rest. one role.Quiet names e rest >>= λ n f end. Done n f end)
unfolding savepoint_name given_word
savepoint_name_is d c ts = both_to (reads Name rules d (given_word kind.Savepoint)) (one role.Quiet names) (λ p. p.1) c ts

pub to_some : (d : ℕ) (c : Counts) (ts : List Token) → starts (kind.To ∷ []) ts ≡ true → reads Name rules d to_savepoint c ts ≡ (one role.Outside (kind.To ∷ []) c ts >>= λ t e rest. reads Name rules d savepoint_name e rest >>= λ n f end. Done (Some n) f end)
unfolding to_savepoint
to_some d c ts here = maybe_some role.Outside kind.To savepoint_name d c ts here

pub to_none : (d : ℕ) (c : Counts) (ts : List Token) → starts (kind.To ∷ []) ts ≡ false → reads Name rules d to_savepoint c ts ≡ Done None c ts
unfolding to_savepoint
to_none d c ts none = maybe_none role.Outside kind.To savepoint_name d c ts none

pub ruleset savepoints = (to_some, to_none)

pub rollback_is : (d : ℕ) (c : Counts) (ts : List Token) → reads Name rules d rollback c ts
    ≡ (one role.Outside (kind.Rollback ∷ []) c ts >>= λ t e rest. reads Name rules d (given_word kind.Transaction) e rest >>= λ b f mid. reads Name rules d to_savepoint f mid >>= λ n g end. Done (rollback_of n) g end)
unfolding rollback transaction_word given_word
rollback_is d c ts =
    after_to (λ p. rollback_of p.1) role.Outside kind.Rollback (seq (given_word kind.Transaction) to_savepoint) d c ts
    ∙ then (one role.Outside (kind.Rollback ∷ []) c ts) _ _ (λ t e rest. both_to (reads Name rules d (given_word kind.Transaction)) (reads Name rules d to_savepoint) (λ p. rollback_of p.1) e rest)

pub savepoint_is : (d : ℕ) (c : Counts) (ts : List Token) → reads Name rules d savepoint c ts ≡ (one role.Outside (kind.Savepoint ∷ []) c ts >>= λ t e rest. one role.Quiet names e rest >>= λ n f end. Done (transaction_is.Savepoint n) f end)
unfolding savepoint
savepoint_is d c ts = after_to transaction_is.Savepoint role.Outside kind.Savepoint name d c ts

pub release_is : (d : ℕ) (c : Counts) (ts : List Token) → reads Name rules d release c ts ≡ (one role.Outside (kind.Release ∷ []) c ts >>= λ t e rest. reads Name rules d savepoint_name e rest >>= λ n f end. Done (transaction_is.Release n) f end)
unfolding release
release_is d c ts = after_to transaction_is.Release role.Outside kind.Release savepoint_name d c ts

-- ---- each by its first word

pub to_begin : (d : ℕ) (c : Counts) (ts : List Token) → starts (kind.Begin ∷ []) ts ≡ true → reads Name rules d transaction c ts ≡ reads Name rules d begin c ts
unfolding transaction
to_begin d c ts here = chosen (starts (first begin) ts) _ _ (rw first_begin here)

pub to_commit : (d : ℕ) (c : Counts) (ts : List Token) → starts (kind.Begin ∷ []) ts ≡ false → starts (kind.Commit ∷ kind.End ∷ []) ts ≡ true → reads Name rules d transaction c ts ≡ reads Name rules d commit c ts
unfolding transaction
to_commit d c ts none here = other (starts (first begin) ts) _ _ (rw first_begin none) ∙ chosen (starts (first commit) ts) _ _ (rw first_commit here)

pub to_rollback : (d : ℕ) (c : Counts) (ts : List Token) → starts (kind.Begin ∷ []) ts ≡ false → starts (kind.Commit ∷ kind.End ∷ []) ts ≡ false → starts (kind.Rollback ∷ []) ts ≡ true → reads Name rules d transaction c ts ≡ reads Name rules d rollback c ts
unfolding transaction
to_rollback d c ts none nor here = other (starts (first begin) ts) _ _ (rw first_begin none) ∙ other (starts (first commit) ts) _ _ (rw first_commit nor) ∙ chosen (starts (first rollback) ts) _ _ (rw first_rollback here)

pub to_set : (d : ℕ) (c : Counts) (ts : List Token) → starts (kind.Begin ∷ []) ts ≡ false → starts (kind.Commit ∷ kind.End ∷ []) ts ≡ false → starts (kind.Rollback ∷ []) ts ≡ false → starts (kind.Savepoint ∷ []) ts ≡ true
    → reads Name rules d transaction c ts ≡ reads Name rules d savepoint c ts
unfolding transaction
to_set d c ts none nor neither here =
    other (starts (first begin) ts) _ _ (rw first_begin none) ∙ other (starts (first commit) ts) _ _ (rw first_commit nor) ∙ other (starts (first rollback) ts) _ _ (rw first_rollback neither)
    ∙ chosen (starts (first savepoint) ts) _ _ (rw first_savepoint here)

pub to_release : (d : ℕ) (c : Counts) (ts : List Token) → starts (kind.Begin ∷ []) ts ≡ false → starts (kind.Commit ∷ kind.End ∷ []) ts ≡ false → starts (kind.Rollback ∷ []) ts ≡ false → starts (kind.Savepoint ∷ []) ts ≡ false
    → reads Name rules d transaction c ts ≡ reads Name rules d release c ts
unfolding transaction
to_release d c ts none nor neither last =
    other (starts (first begin) ts) _ _ (rw first_begin none) ∙ other (starts (first commit) ts) _ _ (rw first_commit nor) ∙ other (starts (first rollback) ts) _ _ (rw first_rollback neither)
    ∙ other (starts (first savepoint) ts) _ _ (rw first_savepoint last)

pub ruleset transactions = (to_begin, to_commit, to_rollback, to_set, to_release)
