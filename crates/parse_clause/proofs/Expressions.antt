-- What clauses of a word and an expression read, in the steps of the code.
use Rattle.std.proofs.Common.{◌≡◌, ℕ, true, false, List, [], ◌∷◌, Some, None, refl}
use Rattle.sql_tree.specs.declared.token.Token.{Token}
use Rattle.sql_tree.specs.declared.token.TokenKind.{TokenKind}
use Rattle.sql_tree.specs.declared.token.TokenKind.TheVariants as kind
use Rattle.sql_grammar.specs.declared.counts.Counts.{Counts}
use Rattle.sql_grammar.specs.declared.counts.Role.TheVariants as role
use Rattle.sql_grammar.specs.Rules.{starts, reads, one, Done, ◌>>=◌}
use Rattle.sql_grammar.specs.Bodies.{rules}
use Rattle.sql_grammar.specs.Grammar.{Name, expr}
use Rattle.sql_grammar.specs.Queries.{filter_by}
use Rattle.parse_cursor.proofs.Steps.{maybe_some, maybe_none}
use Rattle.parse_clause.specs.Parts.{expr_after}

pub expr_after_some : (k : TokenKind) (d : ℕ) (c : Counts) (ts : List Token) → starts (k ∷ []) ts ≡ true → reads Name rules d (expr_after k) c ts ≡ (one role.Outside (k ∷ []) c ts >>= λ t e rest. reads Name rules d expr e rest >>= λ x f end. Done (Some x) f end)
unfolding expr_after
expr_after_some k d c ts here = maybe_some role.Outside k expr d c ts here

pub expr_after_none : (k : TokenKind) (d : ℕ) (c : Counts) (ts : List Token) → starts (k ∷ []) ts ≡ false → reads Name rules d (expr_after k) c ts ≡ Done None c ts
unfolding expr_after
expr_after_none k d c ts none = maybe_none role.Outside k expr d c ts none

pub ruleset expr_after_steps = (expr_after_some, expr_after_none)

pub filter_by_is : (d : ℕ) (c : Counts) (ts : List Token) → reads Name rules d filter_by c ts ≡ reads Name rules d (expr_after kind.Where) c ts
unfolding filter_by expr_after
filter_by_is d c ts = refl
