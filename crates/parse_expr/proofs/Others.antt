-- An expression that begins with no name is read as any other, and a name begins none.
use Rattle.std.proofs.Common.{◌≡◌, ℕ, true, false, List, [], ◌∷◌, if◌then◌else◌, refl, sym, ap, ◌∙◌, inl, inr}
use Rattle.sql_tree.specs.declared.token.Token.{Token}
use Rattle.sql_tree.specs.declared.token.TokenKind.TheVariants as kind
use Rattle.sql_tree.specs.declared.expr.Expr.{Expr}
use Rattle.sql_tree.specs.declared.expr.Expr.TheVariants as tree
use Rattle.sql_tree.specs.declared.expr.UnaryOp.TheVariants as unary
use Rattle.sql_grammar.specs.declared.counts.Counts.{Counts}
use Rattle.sql_grammar.specs.declared.counts.Role.TheVariants as role
use Rattle.sql_grammar.specs.Rules.{Kinds, starts, first, apart, seq, to, both, reads, one, Outcome, Done, Stop, Wrong, ◌>>=◌}
use Rattle.sql_grammar.specs.Grammar.{Name, Of, names, with_signs, with_nots, literal, parameter, enclosed, existing, casting, choosing, raising, in_parentheses, raise, primary, signs, signed_primary, collations, collated, more_concatenation, concatenation, more_product, product, more_sum, sum, more_bits, bits, more_relation, relation, tests, equality, nots, negation, more_conjunction, conjunction, more_expr, expr, tails, other_primary, signed_other, negated_first, other_expr, all_rules}
use Rattle.sql_grammar.specs.Bodies.{rules}
use Rattle.sql_grammar.proofs.KindSets.{apart_has}
use Rattle.sql_grammar.proofs.ReadingLaws.{chosen, other, bool_cases}
use Rattle.parse_cursor.specs.Gives.{apply_to, apply_one}
use Rattle.parse_cursor.proofs.Steps.{both_to, after_is, apply_done}
use Rattle.parse_operand.proofs.Clear.{first_named}
use Rattle.parse_expr.proofs.Straight.{signed_primary_is, negation_is}
use Rattle.parse_expr.proofs.Lists.{signs_start, signs_step, signs_end, nots_start, nots_step, nots_end}
use Rattle.parse_expr.proofs.Suffixed.{expr_is, conjunction_is, equality_is, relation_is, bits_is, sum_is, product_is, concatenation_is, collated_is}
use Rattle.parse_expr.proofs.Tails.{Suffixes, followed, last, behind_conjunction, behind_conjunction_is, behind_negation, behind_relation, behind_bits, behind_sum, behind_product, behind_concatenation, behind_collated, behind_collated_is, behind_concatenation_is, behind_product_is, behind_sum_is, behind_bits_is, behind_relation_is, behind_negation_is, tails_is}

done : {A : Type 0} (o : Outcome A) → (o >>= λ a e rest. Done a e rest) ≡ o
done (Done a e rest) = refl
done (Stop w rest) = refl

-- ---- an expression is its first operand, and what stands behind it

-- a level with what stands behind it is the level below with what stands behind that
lower : (level operand : Of Expr) (s : Of Suffixes) (behind below : Of (Expr → Expr)) (d : ℕ) (c : Counts) (ts : List Token) → reads Name rules d level c ts ≡ (reads Name rules d operand c ts >>= λ a e rest. apply_to a (reads Name rules d s e rest))
    → ((left : Expr) (e : Counts) (rest : List Token) → apply_one left (reads Name rules d below e rest) ≡ (apply_to left (reads Name rules d s e rest) >>= λ x f end. apply_one x (reads Name rules d behind f end)))
    → (reads Name rules d level c ts >>= λ a e rest. apply_one a (reads Name rules d behind e rest)) ≡ (reads Name rules d operand c ts >>= λ a e rest. apply_one a (reads Name rules d below e rest))
lower level operand s behind below d c ts is next = ap (λ o. o >>= λ a e rest. apply_one a (reads Name rules d behind e rest)) is ∙ word (reads Name rules d operand c ts) where
  word : (o : Outcome Expr) → ((o >>= λ a e rest. apply_to a (reads Name rules d s e rest)) >>= λ a e rest. apply_one a (reads Name rules d behind e rest)) ≡ (o >>= λ a e rest. apply_one a (reads Name rules d below e rest))
  word (Done a e rest) = sym (next a e rest)
  word (Stop w rest) = refl

expr_from_conjunction : (d : ℕ) (c : Counts) (ts : List Token) → reads Name rules d expr c ts ≡ (reads Name rules d conjunction c ts >>= λ a e rest. apply_one a (reads Name rules d behind_conjunction e rest))
expr_from_conjunction d c ts = expr_is d c ts ∙ word (reads Name rules d conjunction c ts) where
  word : (o : Outcome Expr) → (o >>= λ a e rest. apply_to a (reads Name rules d more_expr e rest)) ≡ (o >>= λ a e rest. apply_one a (reads Name rules d behind_conjunction e rest))
  word (Done a e rest) = sym (behind_conjunction_is a d e rest)
  word (Stop w rest) = refl

expr_from_negation : (d : ℕ) (c : Counts) (ts : List Token) → reads Name rules d expr c ts ≡ (reads Name rules d negation c ts >>= λ a e rest. apply_one a (reads Name rules d behind_negation e rest))
expr_from_negation d c ts = expr_from_conjunction d c ts ∙ lower conjunction negation more_conjunction behind_conjunction behind_negation d c ts (conjunction_is d c ts) (λ left e rest. behind_negation_is left d e rest)

equality_from_operand : (d : ℕ) (c : Counts) (ts : List Token) → (reads Name rules d equality c ts >>= λ a e rest. apply_one a (reads Name rules d behind_negation e rest)) ≡ (reads Name rules d signed_primary c ts >>= λ a e rest. apply_one a (reads Name rules d tails e rest))
equality_from_operand d c ts =
    lower equality relation tests behind_negation behind_relation d c ts (equality_is d c ts) (λ left e rest. behind_relation_is left d e rest)
    ∙ lower relation bits more_relation behind_relation behind_bits d c ts (relation_is d c ts) (λ left e rest. behind_bits_is left d e rest)
    ∙ lower bits sum more_bits behind_bits behind_sum d c ts (bits_is d c ts) (λ left e rest. behind_sum_is left d e rest)
    ∙ lower sum product more_sum behind_sum behind_product d c ts (sum_is d c ts) (λ left e rest. behind_product_is left d e rest)
    ∙ lower product concatenation more_product behind_product behind_concatenation d c ts (product_is d c ts) (λ left e rest. behind_concatenation_is left d e rest)
    ∙ lower concatenation collated more_concatenation behind_concatenation behind_collated d c ts (concatenation_is d c ts) (λ left e rest. behind_collated_is left d e rest)
    ∙ lower collated signed_primary collations behind_collated tails d c ts (collated_is d c ts) (λ left e rest. tails_is left d e rest)

-- ---- NOT in front, or none

nots_none : (d : ℕ) (c : Counts) (ts : List Token) → starts (kind.Not ∷ []) ts ≡ false → reads Name rules d negation c ts ≡ reads Name rules d equality c ts
nots_none d c ts none = negation_is d c ts ∙ ap (λ o. o >>= λ s e rest. reads Name rules d equality e rest >>= λ a f end. Done (with_nots s a) f end) (sym (nots_start d c ts) ∙ nots_end [] d c ts none) ∙ done (reads Name rules d equality c ts)

not_first : (d : ℕ) (c : Counts) (ts : List Token) → starts (kind.Not ∷ []) ts ≡ true → reads Name rules d negation c ts ≡ (one role.Operator (kind.Not ∷ []) c ts >>= λ t e rest. reads Name rules d negation e rest >>= λ x f end. Done (tree.Unary unary.Not x) f end)
not_first d c ts here = negation_is d c ts ∙ ap (λ o. o >>= λ s e rest. reads Name rules d equality e rest >>= λ a f end. Done (with_nots s a) f end) (sym (nots_start d c ts) ∙ nots_step [] d c ts here) ∙ word (one role.Operator (kind.Not ∷ []) c ts) where
  last_word : (t : Token) (s : List Token) (o : Outcome Expr) → (o >>= λ a f end. Done (with_nots (t ∷ s) a) f end) ≡ ((o >>= λ a f end. Done (with_nots s a) f end) >>= λ x f end. Done (tree.Unary unary.Not x) f end)
  last_word t s (Done a f end) = refl
  last_word t s (Stop w end) = refl

  middle : (t : Token) (o : Outcome (List Token)) → ((o >>= λ s e rest. Done (t ∷ s) e rest) >>= λ s e rest. reads Name rules d equality e rest >>= λ a f end. Done (with_nots s a) f end) ≡ ((o >>= λ s e rest. reads Name rules d equality e rest >>= λ a f end. Done (with_nots s a) f end) >>= λ x f end. Done (tree.Unary unary.Not x) f end)
  middle t (Done s e rest) = last_word t s (reads Name rules d equality e rest)
  middle t (Stop w rest) = refl

  word : (o : Outcome Token) → ((o >>= λ t e rest. reads Name rules d nots e rest >>= λ s f end. Done (t ∷ s) f end) >>= λ s e rest. reads Name rules d equality e rest >>= λ a f end. Done (with_nots s a) f end) ≡ (o >>= λ t e rest. reads Name rules d negation e rest >>= λ x f end. Done (tree.Unary unary.Not x) f end)
  word (Done t e rest) = middle t (reads Name rules d nots e rest) ∙ ap (λ o. o >>= λ x f end. Done (tree.Unary unary.Not x) f end) (sym (negation_is d e rest))
  word (Stop w rest) = refl

-- ---- signs in front, or none

signs_none : (d : ℕ) (c : Counts) (ts : List Token) → starts (kind.Minus ∷ kind.Plus ∷ kind.Tilde ∷ []) ts ≡ false → reads Name rules d signed_primary c ts ≡ reads Name rules d primary c ts
signs_none d c ts none = signed_primary_is d c ts ∙ ap (λ o. o >>= λ s e rest. reads Name rules d primary e rest >>= λ a f end. Done (with_signs s a) f end) (sym (signs_start d c ts) ∙ signs_end [] d c ts none) ∙ done (reads Name rules d primary c ts)

sign_first : (d : ℕ) (c : Counts) (ts : List Token) → starts (kind.Minus ∷ kind.Plus ∷ kind.Tilde ∷ []) ts ≡ true → reads Name rules d signed_primary c ts ≡ (one role.Operator (kind.Minus ∷ kind.Plus ∷ kind.Tilde ∷ []) c ts >>= λ t e rest. reads Name rules d signed_primary e rest >>= λ x f end. Done (with_signs (t ∷ []) x) f end)
sign_first d c ts here = signed_primary_is d c ts ∙ ap (λ o. o >>= λ s e rest. reads Name rules d primary e rest >>= λ a f end. Done (with_signs s a) f end) (sym (signs_start d c ts) ∙ signs_step [] d c ts here) ∙ word (one role.Operator (kind.Minus ∷ kind.Plus ∷ kind.Tilde ∷ []) c ts) where
  last_word : (t : Token) (s : List Token) (o : Outcome Expr) → (o >>= λ a f end. Done (with_signs (t ∷ s) a) f end) ≡ ((o >>= λ a f end. Done (with_signs s a) f end) >>= λ x f end. Done (with_signs (t ∷ []) x) f end)
  last_word t s (Done a f end) = refl
  last_word t s (Stop w end) = refl

  middle : (t : Token) (o : Outcome (List Token)) → ((o >>= λ s e rest. Done (t ∷ s) e rest) >>= λ s e rest. reads Name rules d primary e rest >>= λ a f end. Done (with_signs s a) f end) ≡ ((o >>= λ s e rest. reads Name rules d primary e rest >>= λ a f end. Done (with_signs s a) f end) >>= λ x f end. Done (with_signs (t ∷ []) x) f end)
  middle t (Done s e rest) = last_word t s (reads Name rules d primary e rest)
  middle t (Stop w rest) = refl

  word : (o : Outcome Token) → ((o >>= λ t e rest. reads Name rules d signs e rest >>= λ s f end. Done (t ∷ s) f end) >>= λ s e rest. reads Name rules d primary e rest >>= λ a f end. Done (with_signs s a) f end) ≡ (o >>= λ t e rest. reads Name rules d signed_primary e rest >>= λ x f end. Done (with_signs (t ∷ []) x) f end)
  word (Done t e rest) = middle t (reads Name rules d signs e rest) ∙ ap (λ o. o >>= λ x f end. Done (with_signs (t ∷ []) x) f end) (sym (signed_primary_is d e rest))
  word (Stop w rest) = refl

-- ---- where no name comes

primary_is_other : (d : ℕ) (c : Counts) (ts : List Token) → starts names ts ≡ false → reads Name rules d other_primary c ts ≡ reads Name rules d primary c ts
unfolding primary other_primary
primary_is_other d c ts none = ap (λ o. if starts (first literal) ts then reads Name rules d literal c ts else (if starts (first parameter) ts then reads Name rules d parameter c ts else o)) (sym (other _ _ _ (ap (λ ks. starts ks ts) first_named ∙ none)))

signed_is_other : (d : ℕ) (c : Counts) (ts : List Token) → starts names ts ≡ false → reads Name rules d signed_other c ts ≡ reads Name rules d signed_primary c ts
unfolding signed_other
signed_is_other d c ts none =
    elim (bool_cases (starts (kind.Minus ∷ kind.Plus ∷ kind.Tilde ∷ []) ts)) [
      | inl here ↦ chosen _ _ _ here ∙ both_to (one role.Operator (kind.Minus ∷ kind.Plus ∷ kind.Tilde ∷ [])) (reads Name rules d signed_primary) (λ p. with_signs (p.0 ∷ []) p.1) c ts ∙ sym (sign_first d c ts here)
      | inr gone ↦ other _ _ _ gone ∙ primary_is_other d c ts none ∙ sym (signs_none d c ts gone)
    ]

not_behind : (d : ℕ) (t : Token) (c : Counts) (ts : List Token) → (◌>>=◌ {A = Expr × (Suffixes × Suffixes)} (both (reads Name rules d negation) (both (reads Name rules d more_conjunction) (reads Name rules d more_expr)) c ts) (λ y e rest. Done (negated_first (t, y)) e rest)) ≡ ((reads Name rules d negation c ts >>= λ x e rest. Done (tree.Unary unary.Not x) e rest) >>= λ a e rest. apply_one a (reads Name rules d behind_negation e rest))
unfolding behind_negation
not_behind d t c ts = both_to (reads Name rules d negation) (both (reads Name rules d more_conjunction) (reads Name rules d more_expr)) (λ y. negated_first (t, y)) c ts ∙ word (reads Name rules d negation c ts) where
  word : (o : Outcome Expr) → (o >>= λ x e rest. both (reads Name rules d more_conjunction) (reads Name rules d more_expr) e rest >>= λ y f end. Done (negated_first (t, (x, y))) f end) ≡ ((o >>= λ x e rest. Done (tree.Unary unary.Not x) e rest) >>= λ a e rest. apply_one a (reads Name rules d (to (followed last) (seq more_conjunction more_expr)) e rest))
  word (Done x e rest) = sym (apply_done (followed last) (tree.Unary unary.Not x) (both (reads Name rules d more_conjunction) (reads Name rules d more_expr) e rest))
  word (Stop w rest) = refl

other_not : (d : ℕ) (c : Counts) (ts : List Token) → starts (kind.Not ∷ []) ts ≡ true → reads Name rules d other_expr c ts ≡ reads Name rules d expr c ts
unfolding other_expr
other_not d c ts here = chosen _ _ _ here ∙ both_to (one role.Operator (kind.Not ∷ [])) (both (reads Name rules d negation) (both (reads Name rules d more_conjunction) (reads Name rules d more_expr))) negated_first c ts ∙ word (one role.Operator (kind.Not ∷ []) c ts) ∙ sym (expr_from_negation d c ts ∙ ap (λ o. o >>= λ a e rest. apply_one a (reads Name rules d behind_negation e rest)) (not_first d c ts here)) where
  word : (o : Outcome Token) → (o >>= λ t e rest. both (reads Name rules d negation) (both (reads Name rules d more_conjunction) (reads Name rules d more_expr)) e rest >>= λ y f end. Done (negated_first (t, y)) f end) ≡ ((o >>= λ t e rest. reads Name rules d negation e rest >>= λ x f end. Done (tree.Unary unary.Not x) f end) >>= λ a e rest. apply_one a (reads Name rules d behind_negation e rest))
  word (Done t e rest) = not_behind d t e rest
  word (Stop w rest) = refl

other_operand : (d : ℕ) (c : Counts) (ts : List Token) → starts (kind.Not ∷ []) ts ≡ false → starts names ts ≡ false → reads Name rules d other_expr c ts ≡ reads Name rules d expr c ts
unfolding other_expr
other_operand d c ts gone none =
    other _ _ _ gone
    ∙ both_to (reads Name rules d signed_other) (reads Name rules d tails) (λ p. p.1 p.0) c ts
    ∙ ap (λ o. o >>= λ a e rest. apply_one a (reads Name rules d tails e rest)) (signed_is_other d c ts none)
    ∙ sym (expr_from_negation d c ts ∙ ap (λ o. o >>= λ a e rest. apply_one a (reads Name rules d behind_negation e rest)) (nots_none d c ts gone) ∙ equality_from_operand d c ts)

pub other_is_expr : (d : ℕ) (c : Counts) (ts : List Token) → starts names ts ≡ false → reads Name rules d other_expr c ts ≡ reads Name rules d expr c ts
other_is_expr d c ts none = elim (bool_cases (starts (kind.Not ∷ []) ts)) [ inl here ↦ other_not d c ts here | inr gone ↦ other_operand d c ts gone none ]

-- ---- where a name comes

no_name : (ks : Kinds) (ts : List Token) → apart ks names ≡ true → starts names ts ≡ true → starts ks ts ≡ false
no_name ks [] h here = refl
no_name ks (t ∷ ts) h here = apart_has ks names t.kind h here

no_token : (ks : Kinds) (c : Counts) (ts : List Token) → starts ks ts ≡ false → one role.Quiet ks c ts ≡ Stop Wrong ts
no_token ks c [] none = refl
no_token ks c (t ∷ ts) none = other _ _ _ none

no_raising : (d : ℕ) (c : Counts) (ts : List Token) → starts names ts ≡ true → reads Name rules d raising c ts ≡ Stop Wrong ts
unfolding raising
no_raising d c ts here = after_is role.Quiet kind.Raise (in_parentheses raise) d c ts ∙ ap (λ o. o >>= λ t e rest. reads Name rules d (in_parentheses raise) e rest) (no_token (kind.Raise ∷ []) c ts (no_name (kind.Raise ∷ []) ts refl here))

apart_literal : apart (first literal) names ≡ true
unfolding all_rules
apart_literal = refl

apart_parameter : apart (first parameter) names ≡ true
unfolding all_rules
apart_parameter = refl

apart_enclosed : apart (first enclosed) names ≡ true
unfolding all_rules
apart_enclosed = refl

apart_existing : apart (first existing) names ≡ true
unfolding all_rules
apart_existing = refl

apart_casting : apart (first casting) names ≡ true
unfolding all_rules
apart_casting = refl

apart_choosing : apart (first choosing) names ≡ true
unfolding all_rules
apart_choosing = refl

no_primary : (d : ℕ) (c : Counts) (ts : List Token) → starts names ts ≡ true → reads Name rules d other_primary c ts ≡ Stop Wrong ts
unfolding other_primary
no_primary d c ts here =
    other _ _ _ (no_name _ ts apart_literal here) ∙ other _ _ _ (no_name _ ts apart_parameter here) ∙ other _ _ _ (no_name _ ts apart_enclosed here) ∙ other _ _ _ (no_name _ ts apart_existing here)
    ∙ other _ _ _ (no_name _ ts apart_casting here) ∙ other _ _ _ (no_name _ ts apart_choosing here) ∙ no_raising d c ts here

no_signed : (d : ℕ) (c : Counts) (ts : List Token) → starts names ts ≡ true → reads Name rules d signed_other c ts ≡ Stop Wrong ts
unfolding signed_other
no_signed d c ts here = other _ _ _ (no_name (kind.Minus ∷ kind.Plus ∷ kind.Tilde ∷ []) ts refl here) ∙ no_primary d c ts here

pub no_other : (d : ℕ) (c : Counts) (ts : List Token) → starts names ts ≡ true → reads Name rules d other_expr c ts ≡ Stop Wrong ts
unfolding other_expr
no_other d c ts here = other _ _ _ (no_name (kind.Not ∷ []) ts refl here) ∙ both_to (reads Name rules d signed_other) (reads Name rules d tails) (λ p. p.1 p.0) c ts ∙ ap (λ o. o >>= λ a e rest. apply_one a (reads Name rules d tails e rest)) (no_signed d c ts here)

pub ruleset other_expr_cases = (other_is_expr, no_other)
