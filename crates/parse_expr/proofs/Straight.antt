-- What rules with no loop read, in the steps of the code.
use Rattle.std.proofs.Common.{◌≡◌, ℕ, true, false, List, [], ◌∷◌, Option, Some, None, refl, ap, sym, ◌∙◌}
use Rattle.sql_tree.specs.declared.token.Token.{Token}
use Rattle.sql_tree.specs.declared.token.TokenKind.{TokenKind}
use Rattle.sql_tree.specs.declared.token.TokenKind.TheVariants as kind
use Rattle.sql_tree.specs.declared.expr.Expr.{Expr}
use Rattle.sql_tree.specs.declared.expr.Expr.TheVariants as tree
use Rattle.sql_tree.specs.declared.expr.BinaryOp.TheVariants as binary
use Rattle.sql_tree.specs.declared.expr.UnaryOp.TheVariants as unary
use Rattle.sql_grammar.specs.declared.counts.Counts.{Counts}
use Rattle.sql_grammar.specs.declared.counts.Role.{Role}
use Rattle.sql_grammar.specs.declared.counts.Role.TheVariants as role
use Rattle.sql_grammar.specs.Rules.{starts, tok, seq, alt, both, reads, one, Parser, Outcome, Done, Stop, ◌>>=◌, Why}
use Rattle.sql_grammar.specs.Grammar.{Name, Of, after, name, names, null_op, is_op, with_signs, with_nots, primary, signs, signed_primary, collation, relation, distinct_from, is_test, between, like, glob, member_of, positive_test, null_test, negated, equality, nots, negation, equal_to, test}
use Rattle.sql_grammar.specs.Bodies.{rules}
use Rattle.sql_grammar.proofs.ReadingLaws.{chosen, other}
use Rattle.parse_cursor.specs.Gives.{apply_one}
use Rattle.parse_operand.specs.Parts.{in_members}
use Rattle.parse_expr.specs.Parts.{opposite, opposed, escape, prefixes, relation_behind}
use Rattle.parse_expr.proofs.Clear.{first_positive_test}
use Rattle.parse_cursor.proofs.Steps.{both_to, after_is, maybe_some, maybe_none, apply_done, apply_after}

-- ---- signs and NOT

pub signed_primary_is : (d : ℕ) (c : Counts) (ts : List Token) → reads Name rules d signed_primary c ts ≡ (reads Name rules d signs c ts >>= λ s e rest. reads Name rules d primary e rest >>= λ a f end. Done (with_signs s a) f end)
unfolding signed_primary
signed_primary_is d c ts = both_to (reads Name rules d signs) (reads Name rules d primary) (λ p. with_signs p.0 p.1) c ts

pub negation_is : (d : ℕ) (c : Counts) (ts : List Token) → reads Name rules d negation c ts ≡ (reads Name rules d nots c ts >>= λ s e rest. reads Name rules d equality e rest >>= λ a f end. Done (with_nots s a) f end)
unfolding negation
negation_is d c ts = both_to (reads Name rules d nots) (reads Name rules d equality) (λ p. with_nots p.0 p.1) c ts

pub signs_first : (d : ℕ) (c : Counts) (ts : List Token) → reads Name rules d signed_primary c ts ≡ (reads Name rules d (prefixes (kind.Minus ∷ kind.Plus ∷ kind.Tilde ∷ [])) c ts >>= λ s e rest. reads Name rules d primary e rest >>= λ a f end. Done (with_signs s a) f end)
unfolding signs prefixes
signs_first d c ts = signed_primary_is d c ts

pub nots_first : (d : ℕ) (c : Counts) (ts : List Token) → reads Name rules d negation c ts ≡ (reads Name rules d (prefixes (kind.Not ∷ [])) c ts >>= λ s e rest. reads Name rules d equality e rest >>= λ a f end. Done (with_nots s a) f end)
unfolding nots prefixes
nots_first d c ts = negation_is d c ts

-- ---- behind an operand

-- a token, and a test behind it
apply_behind : (m : Role) (k : TokenKind) (r : Of (Expr → Expr)) (left : Expr) (d : ℕ) (c : Counts) (ts : List Token) → apply_one left (reads Name rules d (after m k r) c ts) ≡ (one m (k ∷ []) c ts >>= λ t e rest. apply_one left (reads Name rules d r e rest))
apply_behind m k r left d c ts = ap (apply_one left) (after_is m k r d c ts) ∙ word (one m (k ∷ []) c ts) where
  word : (o : Outcome Token) → apply_one left (o >>= λ t e rest. reads Name rules d r e rest) ≡ (o >>= λ t e rest. apply_one left (reads Name rules d r e rest))
  word (Done t e rest) = refl
  word (Stop w rest) = refl

pub collation_is : (x : Expr) (d : ℕ) (c : Counts) (ts : List Token) → apply_one x (reads Name rules d collation c ts) ≡ (one role.Operator (kind.Collate ∷ []) c ts >>= λ t e rest. one role.Quiet names e rest >>= λ n f end. Done (tree.Collate x n) f end)
unfolding collation
collation_is x d c ts = apply_after (λ n x. tree.Collate x n) role.Operator kind.Collate name x d c ts

pub opposite_some : (d : ℕ) (c : Counts) (ts : List Token) → starts (kind.Not ∷ []) ts ≡ true → reads Name rules d opposite c ts ≡ (one role.Quiet (kind.Not ∷ []) c ts >>= λ t e rest. Done (Some t) e rest)
unfolding opposite
opposite_some d c ts here = chosen _ _ _ here

pub opposite_none : (d : ℕ) (c : Counts) (ts : List Token) → starts (kind.Not ∷ []) ts ≡ false → reads Name rules d opposite c ts ≡ Done None c ts
unfolding opposite
opposite_none d c ts none = other _ _ _ none

pub ruleset opposites = (opposite_some, opposite_none)

pub distinct_from_some : (d : ℕ) (c : Counts) (ts : List Token) → starts (kind.Distinct ∷ []) ts ≡ true → reads Name rules d distinct_from c ts ≡ (one role.Quiet (kind.Distinct ∷ []) c ts >>= λ t e rest. one role.Quiet (kind.From ∷ []) e rest >>= λ a f end. Done (Some a) f end)
unfolding distinct_from
distinct_from_some d c ts here = maybe_some role.Quiet kind.Distinct (tok role.Quiet (kind.From ∷ [])) d c ts here

pub distinct_from_none : (d : ℕ) (c : Counts) (ts : List Token) → starts (kind.Distinct ∷ []) ts ≡ false → reads Name rules d distinct_from c ts ≡ Done None c ts
unfolding distinct_from
distinct_from_none d c ts none = maybe_none role.Quiet kind.Distinct (tok role.Quiet (kind.From ∷ [])) d c ts none

pub ruleset distinct_froms = (distinct_from_some, distinct_from_none)

pub is_test_is : (left : Expr) (d : ℕ) (c : Counts) (ts : List Token) → apply_one left (reads Name rules d is_test c ts) ≡ (one role.Operator (kind.Is ∷ []) c ts >>= λ t e rest. reads Name rules d opposite e rest >>= λ n f mid. reads Name rules d distinct_from f mid >>= λ u g far. reads Name rules d relation g far >>= λ r h end. Done (tree.Binary (is_op n u) left r) h end)
unfolding is_test opposite
is_test_is left d c ts = apply_after (λ p l. tree.Binary (is_op p.0 p.1.0) l p.1.1) role.Operator kind.Is (seq opposite (seq distinct_from relation)) left d c ts ∙ word (one role.Operator (kind.Is ∷ []) c ts) where
  last : (n : Option Token) (e : Counts) (rest : List Token) → (◌>>=◌ {A = Option Token × Expr} (both (reads Name rules d distinct_from) (reads Name rules d relation) e rest) (λ p g end. Done (tree.Binary (is_op n p.0) left p.1) g end)) ≡ (reads Name rules d distinct_from e rest >>= λ u g far. reads Name rules d relation g far >>= λ r h end. Done (tree.Binary (is_op n u) left r) h end)
  last n e rest = both_to (reads Name rules d distinct_from) (reads Name rules d relation) (λ p. tree.Binary (is_op n p.0) left p.1) e rest

  middle : (o : Outcome (Option Token)) → (o >>= λ n e rest. both (reads Name rules d distinct_from) (reads Name rules d relation) e rest >>= λ p g end. Done (tree.Binary (is_op n p.0) left p.1) g end) ≡ (o >>= λ n f mid. reads Name rules d distinct_from f mid >>= λ u g far. reads Name rules d relation g far >>= λ r h end. Done (tree.Binary (is_op n u) left r) h end)
  middle (Done n e rest) = last n e rest
  middle (Stop w rest) = refl

  word : (o : Outcome Token) → (o >>= λ t e rest. reads Name rules d (seq opposite (seq distinct_from relation)) e rest >>= λ p g end. Done (tree.Binary (is_op p.0 p.1.0) left p.1.1) g end) ≡ (o >>= λ t e rest. reads Name rules d opposite e rest >>= λ n f mid. reads Name rules d distinct_from f mid >>= λ u g far. reads Name rules d relation g far >>= λ r h end. Done (tree.Binary (is_op n u) left r) h end)
  word (Done t e rest) = both_to (reads Name rules d opposite) (both (reads Name rules d distinct_from) (reads Name rules d relation)) (λ p. tree.Binary (is_op p.0 p.1.0) left p.1.1) e rest ∙ middle (reads Name rules d opposite e rest)
  word (Stop w rest) = refl

pub relation_behind_is : (m : Role) (k : TokenKind) (d : ℕ) (c : Counts) (ts : List Token) → reads Name rules d (relation_behind m k) c ts ≡ (one m (k ∷ []) c ts >>= λ t e rest. reads Name rules d relation e rest)
unfolding relation_behind
relation_behind_is m k d c ts = after_is m k relation d c ts

-- a word, an operand, and what comes behind them
and_then : (m : Role) (k : TokenKind) (next : Expr → Parser Expr) (d : ℕ) (c : Counts) (ts : List Token) → (one m (k ∷ []) c ts >>= λ t e rest. reads Name rules d relation e rest >>= next) ≡ (reads Name rules d (relation_behind m k) c ts >>= next)
and_then m k next d c ts = word (one m (k ∷ []) c ts) ∙ ap (λ o. o >>= next) (sym (relation_behind_is m k d c ts)) where
  word : (o : Outcome Token) → (o >>= λ t e rest. reads Name rules d relation e rest >>= next) ≡ ((o >>= λ t e rest. reads Name rules d relation e rest) >>= next)
  word (Done t e rest) = refl
  word (Stop w rest) = refl

pub between_is : (m : Role) (left : Expr) (d : ℕ) (c : Counts) (ts : List Token) → apply_one left (reads Name rules d (between m) c ts) ≡ (reads Name rules d (relation_behind m kind.Between) c ts >>= λ a e rest. reads Name rules d (relation_behind role.Quiet kind.And) e rest >>= λ b f end. Done (tree.Between left a b) f end)
unfolding between relation_behind
between_is m left d c ts = apply_after (λ p l. tree.Between l p.0 p.1) m kind.Between (seq relation (after role.Quiet kind.And relation)) left d c ts ∙ word (one m (kind.Between ∷ []) c ts) ∙ and_then m kind.Between (λ a e rest. reads Name rules d (after role.Quiet kind.And relation) e rest >>= λ b f end. Done (tree.Between left a b) f end) d c ts where
  word : (o : Outcome Token) → (o >>= λ t e rest. reads Name rules d (seq relation (after role.Quiet kind.And relation)) e rest >>= λ p g end. Done (tree.Between left p.0 p.1) g end) ≡ (o >>= λ t e rest. reads Name rules d relation e rest >>= λ a f mid. reads Name rules d (after role.Quiet kind.And relation) f mid >>= λ b g end. Done (tree.Between left a b) g end)
  word (Done t e rest) = both_to (reads Name rules d relation) (reads Name rules d (after role.Quiet kind.And relation)) (λ p. tree.Between left p.0 p.1) e rest
  word (Stop w rest) = refl

pub escape_some : (d : ℕ) (c : Counts) (ts : List Token) → starts (kind.Escape ∷ []) ts ≡ true → reads Name rules d escape c ts ≡ (reads Name rules d (relation_behind role.Quiet kind.Escape) c ts >>= λ a e rest. Done (Some a) e rest)
unfolding escape relation_behind
escape_some d c ts here = chosen _ _ _ here

pub escape_none : (d : ℕ) (c : Counts) (ts : List Token) → starts (kind.Escape ∷ []) ts ≡ false → reads Name rules d escape c ts ≡ Done None c ts
unfolding escape
escape_none d c ts none = other _ _ _ none

pub ruleset escapes = (escape_some, escape_none)

like_words : (m : Role) (left : Expr) (d : ℕ) (c : Counts) (ts : List Token) → apply_one left (reads Name rules d (like m) c ts) ≡ (one m (kind.Like ∷ []) c ts >>= λ t e rest. reads Name rules d relation e rest >>= λ r f mid. reads Name rules d escape f mid >>= λ x g end. Done (tree.Like left r x) g end)
unfolding like escape
like_words m left d c ts = apply_after (λ p l. tree.Like l p.0 p.1) m kind.Like (seq relation escape) left d c ts ∙ word (one m (kind.Like ∷ []) c ts) where
  word : (o : Outcome Token) → (o >>= λ t e rest. reads Name rules d (seq relation escape) e rest >>= λ p g end. Done (tree.Like left p.0 p.1) g end) ≡ (o >>= λ t e rest. reads Name rules d relation e rest >>= λ r f mid. reads Name rules d escape f mid >>= λ x g end. Done (tree.Like left r x) g end)
  word (Done t e rest) = both_to (reads Name rules d relation) (reads Name rules d escape) (λ p. tree.Like left p.0 p.1) e rest
  word (Stop w rest) = refl

pub like_is : (m : Role) (left : Expr) (d : ℕ) (c : Counts) (ts : List Token) → apply_one left (reads Name rules d (like m) c ts) ≡ (reads Name rules d (relation_behind m kind.Like) c ts >>= λ r f mid. reads Name rules d escape f mid >>= λ x g end. Done (tree.Like left r x) g end)
like_is m left d c ts = like_words m left d c ts ∙ and_then m kind.Like (λ r f mid. reads Name rules d escape f mid >>= λ x g end. Done (tree.Like left r x) g end) d c ts

pub like_stops : (m : Role) (left : Expr) (d : ℕ) (c e : Counts) (ts rest new : List Token) (r : Expr) (w : Why) → reads Name rules d (relation_behind m kind.Like) c ts ≡ Done r e rest → reads Name rules d escape e rest ≡ Stop w new → apply_one left (reads Name rules d (like m) c ts) ≡ Stop w new
like_stops m left d c e ts rest new r w a s = rw (like_is m left d c ts, a, s) refl

pub glob_is : (m : Role) (left : Expr) (d : ℕ) (c : Counts) (ts : List Token) → apply_one left (reads Name rules d (glob m) c ts) ≡ (reads Name rules d (relation_behind m kind.Glob) c ts >>= λ r e rest. Done (tree.Binary binary.Glob left r) e rest)
unfolding glob
glob_is m left d c ts = apply_after (λ r l. tree.Binary binary.Glob l r) m kind.Glob relation left d c ts ∙ and_then m kind.Glob (λ r e rest. Done (tree.Binary binary.Glob left r) e rest) d c ts

pub member_of_is : (m : Role) (left : Expr) (d : ℕ) (c : Counts) (ts : List Token) → apply_one left (reads Name rules d (member_of m) c ts) ≡ (one m (kind.In ∷ []) c ts >>= λ t e rest. apply_one left (reads Name rules d in_members e rest))
unfolding member_of in_members
member_of_is m left d c ts = apply_behind m kind.In in_members left d c ts

pub null_test_is : (left : Expr) (d : ℕ) (c : Counts) (ts : List Token) → apply_one left (reads Name rules d null_test c ts) ≡ (one role.Operator (kind.IsNull ∷ kind.NotNull ∷ []) c ts >>= λ t e rest. Done (tree.Unary (null_op t.kind) left) e rest)
unfolding null_test
null_test_is left d c ts = apply_done (λ t l. tree.Unary (null_op t.kind) l) left (one role.Operator (kind.IsNull ∷ kind.NotNull ∷ []) c ts)

pub negated_test : (left : Expr) (d : ℕ) (c : Counts) (ts : List Token) → starts (kind.Between ∷ kind.Like ∷ kind.Glob ∷ kind.In ∷ []) ts ≡ true → apply_one left (reads Name rules d negated c ts) ≡ (apply_one left (reads Name rules d (positive_test role.Quiet) c ts) >>= λ x e rest. Done (tree.Unary unary.Not x) e rest)
unfolding negated
negated_test left d c ts here = ap (apply_one left) (chosen _ _ _ (ap (λ ks. starts ks ts) (first_positive_test role.Quiet) ∙ here)) ∙ inner (reads Name rules d (positive_test role.Quiet) c ts) where
  inner : (o : Outcome (Expr → Expr)) → apply_one left (o >>= λ f e rest. Done (λ l. tree.Unary unary.Not (f l)) e rest) ≡ (apply_one left o >>= λ x e rest. Done (tree.Unary unary.Not x) e rest)
  inner (Done f e rest) = refl
  inner (Stop w rest) = refl

pub negated_null : (left : Expr) (d : ℕ) (c : Counts) (ts : List Token) → starts (kind.Between ∷ kind.Like ∷ kind.Glob ∷ kind.In ∷ []) ts ≡ false → apply_one left (reads Name rules d negated c ts) ≡ (one role.Quiet (kind.Null ∷ []) c ts >>= λ t e rest. Done (tree.Unary unary.NotNull left) e rest)
unfolding negated
negated_null left d c ts none = ap (apply_one left) (other _ _ _ (ap (λ ks. starts ks ts) (first_positive_test role.Quiet) ∙ none)) ∙ apply_done (λ t l. tree.Unary unary.NotNull l) left (one role.Quiet (kind.Null ∷ []) c ts)

pub ruleset negateds = (negated_test, negated_null)

pub tests_are : (d : ℕ) (c : Counts) (ts : List Token) → reads Name rules d test c ts ≡ reads Name rules d (alt equal_to (alt is_test (alt (positive_test role.Operator) (alt null_test opposed)))) c ts
unfolding test opposed
tests_are d c ts = refl

pub opposed_is : (left : Expr) (d : ℕ) (c : Counts) (ts : List Token) → apply_one left (reads Name rules d opposed c ts) ≡ (one role.Operator (kind.Not ∷ []) c ts >>= λ t e rest. apply_one left (reads Name rules d negated e rest))
unfolding opposed
opposed_is left d c ts = apply_behind role.Operator kind.Not negated left d c ts
