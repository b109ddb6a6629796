-- What the levels of operators read, in the steps of the code.
use Rattle.std.proofs.Common.{◌≡◌, ℕ, ◌<◌, ◌≤◌, length, true, false, List, [], ◌∷◌, ap, ◌∙◌}
use Rattle.sql_tree.specs.declared.token.Token.{Token}
use Rattle.sql_tree.specs.declared.token.TokenKind.TheVariants as kind
use Rattle.sql_tree.specs.declared.expr.Expr.{Expr}
use Rattle.sql_tree.specs.declared.expr.Expr.TheVariants as tree
use Rattle.sql_grammar.specs.declared.counts.Counts.{Counts}
use Rattle.sql_grammar.specs.declared.counts.Role.TheVariants as role
use Rattle.sql_grammar.specs.Rules.{starts, reads, one, Done, ◌>>=◌}
use Rattle.sql_grammar.specs.Grammar.{Name, infix_by, signed_primary, collation, collations, collated, concatenation, more_concatenation, product, more_product, sum, more_sum, bits, more_bits, relation, more_relation, test, tests, equality, negation, and_op, conjunction, more_conjunction, or_op, expr, more_expr}
use Rattle.sql_grammar.specs.Bodies.{rules}
use Rattle.sql_grammar.proofs.Clear.{clear, rich}
use Rattle.sql_grammar.proofs.Whole.{no_longer}
use Rattle.parse_cursor.specs.Gives.{apply_to, apply_one}
use Rattle.parse_expr.proofs.Clear.{collation_clear, collations_clear, collation_solid, first_collation, test_clear, tests_clear, test_solid, first_test, negation_clear, conjunction_clear, more_conjunction_clear, more_expr_clear}
use Rattle.parse_cursor.proofs.Steps.{suffixed_is, suffix_step, suffix_end, suffix_shorter, infix_step, one_shorter}

-- ---- concatenation

pub concatenation_is : (d : ℕ) (c : Counts) (ts : List Token) → reads Name rules d concatenation c ts ≡ (reads Name rules d collated c ts >>= λ a e rest. apply_to a (reads Name rules d more_concatenation e rest))
unfolding concatenation
concatenation_is d c ts = suffixed_is collated more_concatenation d c ts

-- ---- product

pub product_is : (d : ℕ) (c : Counts) (ts : List Token) → reads Name rules d product c ts ≡ (reads Name rules d concatenation c ts >>= λ a e rest. apply_to a (reads Name rules d more_product e rest))
unfolding product
product_is d c ts = suffixed_is concatenation more_product d c ts

-- ---- sum

pub sum_is : (d : ℕ) (c : Counts) (ts : List Token) → reads Name rules d sum c ts ≡ (reads Name rules d product c ts >>= λ a e rest. apply_to a (reads Name rules d more_sum e rest))
unfolding sum
sum_is d c ts = suffixed_is product more_sum d c ts

-- ---- bits

pub bits_is : (d : ℕ) (c : Counts) (ts : List Token) → reads Name rules d bits c ts ≡ (reads Name rules d sum c ts >>= λ a e rest. apply_to a (reads Name rules d more_bits e rest))
unfolding bits
bits_is d c ts = suffixed_is sum more_bits d c ts

-- ---- relation

pub relation_is : (d : ℕ) (c : Counts) (ts : List Token) → reads Name rules d relation c ts ≡ (reads Name rules d bits c ts >>= λ a e rest. apply_to a (reads Name rules d more_relation e rest))
unfolding relation
relation_is d c ts = suffixed_is bits more_relation d c ts

-- ---- conjunction

pub conjunction_is : (d : ℕ) (c : Counts) (ts : List Token) → reads Name rules d conjunction c ts ≡ (reads Name rules d negation c ts >>= λ a e rest. apply_to a (reads Name rules d more_conjunction e rest))
unfolding conjunction
conjunction_is d c ts = suffixed_is negation more_conjunction d c ts

pub negation_shorter : (d : ℕ) (c e : Counts) (ts rest : List Token) (a : Expr) → reads Name rules d negation c ts ≡ Done a e rest → length rest ≤ length ts
negation_shorter d c e ts rest a is = no_longer Name rules clear rich negation negation_clear d c e ts rest a is

pub conjunction_step : (d : ℕ) (left : Expr) (c : Counts) (ts : List Token) → starts (kind.And ∷ []) ts ≡ true
    → apply_to left (reads Name rules d more_conjunction c ts) ≡ (one role.Operator (kind.And ∷ []) c ts >>= λ t e rest. reads Name rules d negation e rest >>= λ x g end. apply_to (tree.Binary (and_op t.kind) left x) (reads Name rules d more_conjunction g end))
unfolding more_conjunction
conjunction_step d left c ts here = infix_step (kind.And ∷ []) and_op negation d left c ts more_conjunction_clear here

pub conjunction_end : (d : ℕ) (left : Expr) (c : Counts) (ts : List Token) → starts (kind.And ∷ []) ts ≡ false → apply_to left (reads Name rules d more_conjunction c ts) ≡ Done left c ts
unfolding more_conjunction
conjunction_end d left c ts none = suffix_end (infix_by (kind.And ∷ []) and_op negation) d left c ts more_conjunction_clear none

pub ruleset conjunction_steps = (conjunction_step, conjunction_end, negation_shorter, one_shorter)

-- ---- expr

pub expr_is : (d : ℕ) (c : Counts) (ts : List Token) → reads Name rules d expr c ts ≡ (reads Name rules d conjunction c ts >>= λ a e rest. apply_to a (reads Name rules d more_expr e rest))
unfolding expr
expr_is d c ts = suffixed_is conjunction more_expr d c ts

pub conjunction_shorter : (d : ℕ) (c e : Counts) (ts rest : List Token) (a : Expr) → reads Name rules d conjunction c ts ≡ Done a e rest → length rest ≤ length ts
conjunction_shorter d c e ts rest a is = no_longer Name rules clear rich conjunction conjunction_clear d c e ts rest a is

pub expr_step : (d : ℕ) (left : Expr) (c : Counts) (ts : List Token) → starts (kind.Or ∷ []) ts ≡ true
    → apply_to left (reads Name rules d more_expr c ts) ≡ (one role.Operator (kind.Or ∷ []) c ts >>= λ t e rest. reads Name rules d conjunction e rest >>= λ x g end. apply_to (tree.Binary (or_op t.kind) left x) (reads Name rules d more_expr g end))
unfolding more_expr
expr_step d left c ts here = infix_step (kind.Or ∷ []) or_op conjunction d left c ts more_expr_clear here

pub expr_end : (d : ℕ) (left : Expr) (c : Counts) (ts : List Token) → starts (kind.Or ∷ []) ts ≡ false → apply_to left (reads Name rules d more_expr c ts) ≡ Done left c ts
unfolding more_expr
expr_end d left c ts none = suffix_end (infix_by (kind.Or ∷ []) or_op conjunction) d left c ts more_expr_clear none

pub ruleset expr_steps = (expr_step, expr_end, conjunction_shorter, one_shorter)

-- ---- collated

pub collated_is : (d : ℕ) (c : Counts) (ts : List Token) → reads Name rules d collated c ts ≡ (reads Name rules d signed_primary c ts >>= λ a e rest. apply_to a (reads Name rules d collations e rest))
unfolding collated
collated_is d c ts = suffixed_is signed_primary collations d c ts

pub collated_step : (d : ℕ) (left : Expr) (c : Counts) (ts : List Token) → starts (kind.Collate ∷ []) ts ≡ true
    → apply_to left (reads Name rules d collations c ts) ≡ (apply_one left (reads Name rules d collation c ts) >>= λ x e rest. apply_to x (reads Name rules d collations e rest))
unfolding collations
collated_step d left c ts here = suffix_step collation d left c ts collations_clear (ap (λ ks. starts ks ts) first_collation ∙ here)

pub collated_end : (d : ℕ) (left : Expr) (c : Counts) (ts : List Token) → starts (kind.Collate ∷ []) ts ≡ false → apply_to left (reads Name rules d collations c ts) ≡ Done left c ts
unfolding collations
collated_end d left c ts none = suffix_end collation d left c ts collations_clear (ap (λ ks. starts ks ts) first_collation ∙ none)

pub collation_shorter : (d : ℕ) (left : Expr) (c e : Counts) (ts rest : List Token) (a : Expr) → apply_one left (reads Name rules d collation c ts) ≡ Done a e rest → length rest < length ts
collation_shorter d left c e ts rest a is = suffix_shorter collation collation_clear collation_solid d left c e ts rest a is

pub ruleset collated_steps = (collated_step, collated_end, collation_shorter)

-- ---- equality

pub equality_is : (d : ℕ) (c : Counts) (ts : List Token) → reads Name rules d equality c ts ≡ (reads Name rules d relation c ts >>= λ a e rest. apply_to a (reads Name rules d tests e rest))
unfolding equality
equality_is d c ts = suffixed_is relation tests d c ts

pub equality_step : (d : ℕ) (left : Expr) (c : Counts) (ts : List Token) → starts (kind.Equal ∷ kind.DoubleEqual ∷ kind.LessGreater ∷ kind.BangEqual ∷ kind.Is ∷ kind.Between ∷ kind.Like ∷ kind.Glob ∷ kind.In ∷ kind.IsNull ∷ kind.NotNull ∷ kind.Not ∷ []) ts ≡ true
    → apply_to left (reads Name rules d tests c ts) ≡ (apply_one left (reads Name rules d test c ts) >>= λ x e rest. apply_to x (reads Name rules d tests e rest))
unfolding tests
equality_step d left c ts here = suffix_step test d left c ts tests_clear (ap (λ ks. starts ks ts) first_test ∙ here)

pub equality_end : (d : ℕ) (left : Expr) (c : Counts) (ts : List Token) → starts (kind.Equal ∷ kind.DoubleEqual ∷ kind.LessGreater ∷ kind.BangEqual ∷ kind.Is ∷ kind.Between ∷ kind.Like ∷ kind.Glob ∷ kind.In ∷ kind.IsNull ∷ kind.NotNull ∷ kind.Not ∷ []) ts ≡ false → apply_to left (reads Name rules d tests c ts) ≡ Done left c ts
unfolding tests
equality_end d left c ts none = suffix_end test d left c ts tests_clear (ap (λ ks. starts ks ts) first_test ∙ none)

pub test_shorter : (d : ℕ) (left : Expr) (c e : Counts) (ts rest : List Token) (a : Expr) → apply_one left (reads Name rules d test c ts) ≡ Done a e rest → length rest < length ts
test_shorter d left c e ts rest a is = suffix_shorter test test_clear test_solid d left c e ts rest a is

pub ruleset equality_steps = (equality_step, equality_end, test_shorter)
