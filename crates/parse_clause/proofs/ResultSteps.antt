-- What the columns of a result read, in the steps of the code.
use Rattle.std.proofs.Common.{◌≡◌, ℕ, true, false, List, [], ◌∷◌, Option, refl, ap, ◌∙◌}
use Rattle.sql_tree.specs.declared.token.Token.{Token}
use Rattle.sql_tree.specs.declared.token.TokenKind.TheVariants as kind
use Rattle.sql_tree.specs.declared.expr.Expr.{Expr}
use Rattle.sql_grammar.specs.declared.counts.Counts.{Counts}
use Rattle.sql_grammar.specs.declared.counts.Role.TheVariants as role
use Rattle.sql_grammar.specs.Rules.{starts, reads, one, before, Outcome, Done, Stop, ◌>>=◌}
use Rattle.sql_grammar.specs.Bodies.{rules}
use Rattle.sql_grammar.proofs.ReadingLaws.{chosen, other}
use Rattle.sql_tree.specs.declared.expr.Expr.TheVariants as tree
use Rattle.sql_tree.specs.declared.query.ResultColumn.TheVariants as result_is
use Rattle.sql_tree.specs.declared.query.SpannedExpr.{roll-SpannedExpr}
use Rattle.sql_tree.specs.declared.token.Span.{Span}
use Rattle.sql_grammar.specs.Grammar.{Name, names, span_of, call, tails, other_expr}
use Rattle.sql_grammar.specs.Queries.{alias, spanned, shown, spanned_tails, column_of_table, behind_dot, spanned_call, behind_first_name, named_result, other_result, result}
use Rattle.parse_cursor.specs.Gives.{apply_one}
use Rattle.parse_cursor.proofs.Steps.{both_to, three_to, after_is}
use Rattle.parse_clause.specs.Parts.{longer, from_to, goes_on, called, of_name}
use Rattle.parse_clause.proofs.Spans.{span_of_first, span_of_two}

-- ---- operands and what goes on behind them

pub spanned_tails_is : (x : Expr) (front : Span) (d : ℕ) (c : Counts) (ts : List Token) → goes_on x front (reads Name rules d spanned_tails c ts) ≡ (apply_one x (reads Name rules d tails c ts) >>= λ y e rest. Done (roll-SpannedExpr (record { expr = y; text = longer front (before ts rest) })) e rest)
unfolding spanned_tails
spanned_tails_is x front d c ts = word (reads Name rules d tails c ts) where
  word : (o : Outcome (Expr → Expr)) → goes_on x front (o >>= λ f e rest. Done (f, before ts rest) e rest) ≡ (apply_one x o >>= λ y e rest. Done (roll-SpannedExpr (record { expr = y; text = longer front (before ts rest) })) e rest)
  word (Done f e rest) = refl
  word (Stop w rest) = refl

pub spanned_call_is : (t : Token) (d : ℕ) (c : Counts) (ts : List Token) → called t (reads Name rules d spanned_call c ts) ≡ (apply_one t (reads Name rules d call c ts) >>= λ x e rest. apply_one x (reads Name rules d tails e rest) >>= λ y f end. Done (roll-SpannedExpr (record { expr = y; text = longer t.span (before ts end) })) f end)
unfolding spanned_call
spanned_call_is t d c ts = ap (λ o. called t (o >>= λ f e rest. Done (f, before ts rest) e rest)) (both_to (reads Name rules d call) (reads Name rules d tails) (λ p t. p.1 (p.0 t)) c ts) ∙ word (reads Name rules d call c ts) where
  next : (g : Token → Expr) (o : Outcome (Expr → Expr)) → called t ((o >>= λ h f end. Done (λ t. h (g t)) f end) >>= λ f e rest. Done (f, before ts rest) e rest) ≡ (apply_one (g t) o >>= λ y f end. Done (roll-SpannedExpr (record { expr = y; text = longer t.span (before ts end) })) f end)
  next g (Done h f end) = refl
  next g (Stop w end) = refl

  word : (o : Outcome (Token → Expr)) → called t ((o >>= λ g e rest. reads Name rules d tails e rest >>= λ h f end. Done (λ t. h (g t)) f end) >>= λ f e rest. Done (f, before ts rest) e rest) ≡ (apply_one t o >>= λ x e rest. apply_one x (reads Name rules d tails e rest) >>= λ y f end. Done (roll-SpannedExpr (record { expr = y; text = longer t.span (before ts end) })) f end)
  word (Done g e rest) = next g (reads Name rules d tails e rest)
  word (Stop w rest) = refl

-- ---- behind a name

pub column_of_table_is : (t : Token) (d : ℕ) (c : Counts) (ts : List Token) → of_name t (reads Name rules d column_of_table c ts)
    ≡ (one role.Quiet names c ts >>= λ u e rest. goes_on (tree.TableColumn t u) (from_to t u) (reads Name rules d spanned_tails e rest) >>= λ x f mid. reads Name rules d alias f mid >>= λ a g end. Done (result_is.Expression x a) g end)
unfolding column_of_table
column_of_table_is t d c ts = ap (of_name t) (three_to (one role.Quiet names) (reads Name rules d spanned_tails) (reads Name rules d alias) (λ p t. shown (p.1.0.0 (tree.TableColumn t p.0)) (t ∷ p.0 ∷ p.1.0.1) p.1.1) c ts) ∙ word (one role.Quiet names c ts) where
  last : (u : Token) (q : (Expr → Expr) × List Token) (o : Outcome (Option Token)) → of_name t (o >>= λ a g end. Done (λ t. shown (q.0 (tree.TableColumn t u)) (t ∷ u ∷ q.1) a) g end) ≡ (o >>= λ a g end. Done (result_is.Expression (roll-SpannedExpr (record { expr = q.0 (tree.TableColumn t u); text = longer (from_to t u) q.1 })) a) g end)
  last u q (Done a g end) = ap (λ s. Done (result_is.Expression (roll-SpannedExpr (record { expr = q.0 (tree.TableColumn t u); text = s })) a) g end) (span_of_two t u q.1)
  last u q (Stop w end) = refl

  next : (u : Token) (o : Outcome ((Expr → Expr) × List Token)) → of_name t (o >>= λ q f mid. reads Name rules d alias f mid >>= λ a g end. Done (λ t. shown (q.0 (tree.TableColumn t u)) (t ∷ u ∷ q.1) a) g end) ≡ (goes_on (tree.TableColumn t u) (from_to t u) o >>= λ x f mid. reads Name rules d alias f mid >>= λ a g end. Done (result_is.Expression x a) g end)
  next u (Done q f mid) = last u q (reads Name rules d alias f mid)
  next u (Stop w mid) = refl

  word : (o : Outcome Token) → of_name t (o >>= λ u e rest. reads Name rules d spanned_tails e rest >>= λ q f mid. reads Name rules d alias f mid >>= λ a g end. Done (λ t. shown (q.0 (tree.TableColumn t u)) (t ∷ u ∷ q.1) a) g end)
      ≡ (o >>= λ u e rest. goes_on (tree.TableColumn t u) (from_to t u) (reads Name rules d spanned_tails e rest) >>= λ x f mid. reads Name rules d alias f mid >>= λ a g end. Done (result_is.Expression x a) g end)
  word (Done u e rest) = next u (reads Name rules d spanned_tails e rest)
  word (Stop w rest) = refl

pub behind_dot_star : (t : Token) (d : ℕ) (c : Counts) (ts : List Token) → starts (kind.Star ∷ []) ts ≡ true → of_name t (reads Name rules d behind_dot c ts) ≡ (one role.Outside (kind.Star ∷ []) c ts >>= λ s e rest. Done (result_is.AllOf t) e rest)
unfolding behind_dot
behind_dot_star t d c ts here = ap (of_name t) (chosen _ _ _ here) ∙ word (one role.Outside (kind.Star ∷ []) c ts) where
  word : (o : Outcome Token) → of_name t (o >>= λ s e rest. Done (λ t. result_is.AllOf t) e rest) ≡ (o >>= λ s e rest. Done (result_is.AllOf t) e rest)
  word (Done s e rest) = refl
  word (Stop w rest) = refl

pub behind_dot_column : (t : Token) (d : ℕ) (c : Counts) (ts : List Token) → starts (kind.Star ∷ []) ts ≡ false → of_name t (reads Name rules d behind_dot c ts) ≡ of_name t (reads Name rules d column_of_table c ts)
unfolding behind_dot
behind_dot_column t d c ts none = ap (of_name t) (other _ _ _ none)

pub ruleset behind_dots = (behind_dot_star, behind_dot_column)

-- a call or an operand, and its name
shown_by : (t : Token) (x : Token → Expr) (ws : List Token) (d : ℕ) (o : Outcome (Option Token)) → of_name t (o >>= λ a g end. Done (λ t. shown (x t) (t ∷ ws) a) g end) ≡ (o >>= λ a g end. Done (result_is.Expression (roll-SpannedExpr (record { expr = x t; text = longer t.span ws })) a) g end)
shown_by t x ws d (Done a g end) = ap (λ s. Done (result_is.Expression (roll-SpannedExpr (record { expr = x t; text = s })) a) g end) (span_of_first t ws)
shown_by t x ws d (Stop w end) = refl

pub behind_name_dot : (t : Token) (d : ℕ) (c : Counts) (ts : List Token) → starts (kind.Dot ∷ []) ts ≡ true → of_name t (reads Name rules d behind_first_name c ts) ≡ (one role.Quiet (kind.Dot ∷ []) c ts >>= λ u e rest. of_name t (reads Name rules d behind_dot e rest))
unfolding behind_first_name
behind_name_dot t d c ts here = ap (of_name t) (chosen _ _ _ here ∙ after_is role.Quiet kind.Dot behind_dot d c ts) ∙ word (one role.Quiet (kind.Dot ∷ []) c ts) where
  word : (o : Outcome Token) → of_name t (o >>= λ u e rest. reads Name rules d behind_dot e rest) ≡ (o >>= λ u e rest. of_name t (reads Name rules d behind_dot e rest))
  word (Done u e rest) = refl
  word (Stop w rest) = refl

pub behind_name_call : (t : Token) (d : ℕ) (c : Counts) (ts : List Token) → starts (kind.Dot ∷ []) ts ≡ false → starts (kind.LeftParen ∷ []) ts ≡ true → of_name t (reads Name rules d behind_first_name c ts)
    ≡ (called t (reads Name rules d spanned_call c ts) >>= λ x e rest. reads Name rules d alias e rest >>= λ a f end. Done (result_is.Expression x a) f end)
unfolding behind_first_name spanned_call call
behind_name_call t d c ts none here = ap (of_name t) (other _ _ _ none ∙ chosen _ _ _ here ∙ both_to (reads Name rules d spanned_call) (reads Name rules d alias) (λ p t. shown (p.0.0 t) (t ∷ p.0.1) p.1) c ts) ∙ word (reads Name rules d spanned_call c ts) where
  word : (o : Outcome ((Token → Expr) × List Token)) → of_name t (o >>= λ q e rest. reads Name rules d alias e rest >>= λ a f end. Done (λ t. shown (q.0 t) (t ∷ q.1) a) f end) ≡ (called t o >>= λ x e rest. reads Name rules d alias e rest >>= λ a f end. Done (result_is.Expression x a) f end)
  word (Done q e rest) = shown_by t q.0 q.1 d (reads Name rules d alias e rest)
  word (Stop w rest) = refl

pub behind_name_column : (t : Token) (d : ℕ) (c : Counts) (ts : List Token) → starts (kind.Dot ∷ []) ts ≡ false → starts (kind.LeftParen ∷ []) ts ≡ false → of_name t (reads Name rules d behind_first_name c ts)
    ≡ (goes_on (tree.Column t) t.span (reads Name rules d spanned_tails c ts) >>= λ x e rest. reads Name rules d alias e rest >>= λ a f end. Done (result_is.Expression x a) f end)
unfolding behind_first_name spanned_call call
behind_name_column t d c ts none others = ap (of_name t) (other _ _ _ none ∙ other _ _ _ others ∙ both_to (reads Name rules d spanned_tails) (reads Name rules d alias) (λ p t. shown (p.0.0 (tree.Column t)) (t ∷ p.0.1) p.1) c ts) ∙ word (reads Name rules d spanned_tails c ts) where
  word : (o : Outcome ((Expr → Expr) × List Token)) → of_name t (o >>= λ q e rest. reads Name rules d alias e rest >>= λ a f end. Done (λ t. shown (q.0 (tree.Column t)) (t ∷ q.1) a) f end) ≡ (goes_on (tree.Column t) t.span o >>= λ x e rest. reads Name rules d alias e rest >>= λ a f end. Done (result_is.Expression x a) f end)
  word (Done q e rest) = shown_by t (λ t. q.0 (tree.Column t)) q.1 d (reads Name rules d alias e rest)
  word (Stop w rest) = refl

pub ruleset behind_first_names = (behind_name_dot, behind_name_call, behind_name_column)

-- ---- whole results

pub named_result_is : (d : ℕ) (c : Counts) (ts : List Token) → reads Name rules d named_result c ts ≡ (one role.Quiet names c ts >>= λ t e rest. of_name t (reads Name rules d behind_first_name e rest))
unfolding named_result
named_result_is d c ts = both_to (one role.Quiet names) (reads Name rules d behind_first_name) (λ p. p.1 p.0) c ts

pub other_result_is : (d : ℕ) (c : Counts) (ts : List Token) → reads Name rules d other_result c ts ≡ (reads Name rules d other_expr c ts >>= λ x e rest. reads Name rules d alias e rest >>= λ a f end. Done (result_is.Expression (roll-SpannedExpr (record { expr = x; text = span_of (before ts rest) })) a) f end)
unfolding other_result
other_result_is d c ts = both_to (λ e us. reads Name rules d other_expr e us >>= λ x e rest. Done (spanned x (before us rest)) e rest) (reads Name rules d alias) (λ p. result_is.Expression p.0 p.1) c ts ∙ word (reads Name rules d other_expr c ts) where
  word : (o : Outcome Expr) → ((o >>= λ x e rest. Done (spanned x (before ts rest)) e rest) >>= λ s e rest. reads Name rules d alias e rest >>= λ a f end. Done (result_is.Expression s a) f end) ≡ (o >>= λ x e rest. reads Name rules d alias e rest >>= λ a f end. Done (result_is.Expression (roll-SpannedExpr (record { expr = x; text = span_of (before ts rest) })) a) f end)
  word (Done x e rest) = refl
  word (Stop w rest) = refl

pub result_all : (d : ℕ) (c : Counts) (ts : List Token) → starts (kind.Star ∷ []) ts ≡ true → reads Name rules d result c ts ≡ (one role.Outside (kind.Star ∷ []) c ts >>= λ t e rest. Done result_is.All e rest)
unfolding result
result_all d c ts here = chosen _ _ _ here

pub result_named : (d : ℕ) (c : Counts) (ts : List Token) → starts (kind.Star ∷ []) ts ≡ false → starts names ts ≡ true → reads Name rules d result c ts ≡ reads Name rules d named_result c ts
unfolding result named_result
result_named d c ts none here = other _ _ _ none ∙ chosen _ _ _ here

pub result_other : (d : ℕ) (c : Counts) (ts : List Token) → starts (kind.Star ∷ []) ts ≡ false → starts names ts ≡ false → reads Name rules d result c ts ≡ reads Name rules d other_result c ts
unfolding result named_result
result_other d c ts none others = other _ _ _ none ∙ other _ _ _ others

pub ruleset result_steps = (result_all, result_named, result_other)
