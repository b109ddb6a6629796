-- What the columns of an index read, in the steps of the code.
use Rattle.std.proofs.Common.{◌≡◌, ℕ, true, false, List, [], ◌∷◌, ◌∙◌}
use Rattle.sql_tree.specs.declared.token.Token.{Token}
use Rattle.sql_tree.specs.declared.token.TokenKind.TheVariants as kind
use Rattle.sql_grammar.specs.declared.counts.Counts.{Counts}
use Rattle.sql_grammar.specs.declared.counts.Role.TheVariants as role
use Rattle.sql_grammar.specs.Rules.{seq, starts, reads, one, Done, ◌>>=◌}
use Rattle.sql_grammar.specs.Grammar.{Name, name, names}
use Rattle.sql_grammar.specs.Bodies.{rules}
use Rattle.sql_grammar.specs.Queries.{direction}
use Rattle.sql_grammar.specs.Definitions.{index_column, indexed}
use Rattle.sql_grammar.proofs.ReadingLaws.{chosen, other}
use Rattle.parse_cursor.proofs.Steps.{three_to, after_is}
use Rattle.parse_create.specs.Parts.{key_collation, in_index}

pub descending : (d : ℕ) (c : Counts) (ts : List Token) → starts (kind.Desc ∷ []) ts ≡ true → reads Name rules d direction c ts ≡ (one role.Outside (kind.Desc ∷ []) c ts >>= λ t e rest. Done true e rest)
unfolding direction
descending d c ts here = chosen _ _ _ here

pub ascending : (d : ℕ) (c : Counts) (ts : List Token) → starts (kind.Desc ∷ []) ts ≡ false → starts (kind.Asc ∷ []) ts ≡ true → reads Name rules d direction c ts ≡ (one role.Outside (kind.Asc ∷ []) c ts >>= λ t e rest. Done false e rest)
unfolding direction
ascending d c ts none here = other _ _ _ none ∙ chosen _ _ _ here

pub undirected : (d : ℕ) (c : Counts) (ts : List Token) → starts (kind.Desc ∷ []) ts ≡ false → starts (kind.Asc ∷ []) ts ≡ false → reads Name rules d direction c ts ≡ Done false c ts
unfolding direction
undirected d c ts none nor = other _ _ _ none ∙ other _ _ _ nor

pub ruleset directions = (descending, ascending, undirected)

pub index_column_is : (d : ℕ) (c : Counts) (ts : List Token) → reads Name rules d index_column c ts ≡ (one role.Quiet names c ts >>= λ n e rest. reads Name rules d key_collation e rest >>= λ k f mid. reads Name rules d direction f mid >>= λ b g end. Done (record { name = n; collation = k; descending = b }) g end)
unfolding index_column key_collation
index_column_is d c ts = three_to (one role.Quiet names) (reads Name rules d key_collation) (reads Name rules d direction) (λ p. record { name = p.0; collation = p.1.0; descending = p.1.1 }) c ts

pub indexed_is : (d : ℕ) (c : Counts) (ts : List Token) → reads Name rules d indexed c ts ≡ (one role.Outside (kind.On ∷ []) c ts >>= λ t e rest. one role.Quiet names e rest >>= λ n f mid. reads Name rules d in_index f mid >>= λ cs g end. Done (n, cs) g end)
unfolding indexed in_index
indexed_is d c ts = after_is role.Outside kind.On (seq name in_index) d c ts
