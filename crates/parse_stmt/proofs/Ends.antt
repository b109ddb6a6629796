-- What a statement and the end of its text read, in the steps of the code.
use Rattle.std.proofs.Common.{◌≡◌, ℕ, true, false, List, [], ◌∷◌, Some, None, ◌∙◌}
use Rattle.sql_tree.specs.declared.statement.Explain.TheVariants as explain_by
use Rattle.sql_tree.specs.declared.token.Token.{Token}
use Rattle.sql_tree.specs.declared.token.TokenKind.TheVariants as kind
use Rattle.sql_grammar.specs.declared.counts.Counts.{Counts}
use Rattle.sql_grammar.specs.declared.counts.Role.TheVariants as role
use Rattle.sql_grammar.specs.Rules.{tok, starts, reads, one, Done, ◌>>=◌}
use Rattle.sql_grammar.specs.Grammar.{Name}
use Rattle.sql_grammar.specs.Bodies.{rules}
use Rattle.sql_grammar.specs.Statements.{command, explained, explain, semicolon, statement}
use Rattle.sql_grammar.proofs.ReadingLaws.{chosen, other}
use Rattle.parse_cursor.proofs.Steps.{three_to, after_to, maybe_some, maybe_none}
use Rattle.parse_stmt.specs.Parts.{ended}

pub plan_asked : (d : ℕ) (c : Counts) (ts : List Token) → starts (kind.Query ∷ []) ts ≡ true → reads Name rules d explained c ts ≡ (one role.Outside (kind.Query ∷ []) c ts >>= λ t e rest. one role.Outside (kind.Plan ∷ []) e rest >>= λ u f end. Done explain_by.QueryPlan f end)
unfolding explained
plan_asked d c ts here = chosen _ _ _ here ∙ after_to (λ t. explain_by.QueryPlan) role.Outside kind.Query (tok role.Outside (kind.Plan ∷ [])) d c ts

pub instructions_asked : (d : ℕ) (c : Counts) (ts : List Token) → starts (kind.Query ∷ []) ts ≡ false → reads Name rules d explained c ts ≡ Done explain_by.Instructions c ts
unfolding explained
instructions_asked d c ts none = other _ _ _ none

pub ruleset explanations = (plan_asked, instructions_asked)

pub explain_some : (d : ℕ) (c : Counts) (ts : List Token) → starts (kind.Explain ∷ []) ts ≡ true → reads Name rules d explain c ts ≡ (one role.Outside (kind.Explain ∷ []) c ts >>= λ t e rest. reads Name rules d explained e rest >>= λ x f end. Done (Some x) f end)
unfolding explain
explain_some d c ts here = maybe_some role.Outside kind.Explain explained d c ts here

pub explain_none : (d : ℕ) (c : Counts) (ts : List Token) → starts (kind.Explain ∷ []) ts ≡ false → reads Name rules d explain c ts ≡ Done None c ts
unfolding explain
explain_none d c ts none = maybe_none role.Outside kind.Explain explained d c ts none

pub ruleset explains = (explain_some, explain_none)

pub semicolon_some : (d : ℕ) (c : Counts) (ts : List Token) → starts (kind.Semicolon ∷ []) ts ≡ true → reads Name rules d semicolon c ts ≡ (one role.Outside (kind.Semicolon ∷ []) c ts >>= λ t e rest. Done (Some t) e rest)
unfolding semicolon
semicolon_some d c ts here = chosen _ _ _ here

pub semicolon_none : (d : ℕ) (c : Counts) (ts : List Token) → starts (kind.Semicolon ∷ []) ts ≡ false → reads Name rules d semicolon c ts ≡ Done None c ts
unfolding semicolon
semicolon_none d c ts none = other _ _ _ none

pub ruleset semicolons = (semicolon_some, semicolon_none)

pub statement_is : (d : ℕ) (c : Counts) (ts : List Token) → reads Name rules d statement c ts ≡ (reads Name rules d explain c ts >>= λ x e rest. reads Name rules d command e rest >>= λ a f mid. ended (record { explain = x; command = a }) (reads Name rules d semicolon f mid))
unfolding statement
statement_is d c ts = three_to (reads Name rules d explain) (reads Name rules d command) (reads Name rules d semicolon) (λ p. record { explain = p.0; command = p.1.0 }) c ts
