-- Operators level by level: what an operand is, and what stands behind it.
use Rattle.std.proofs.Common.{◌≡◌, ℕ, zero, suc, ◌-◌, ◌<◌, length, true, false, List, [], ◌∷◌, refl, sym, ap, ◌∙◌, arith}
use Rattle.sql_tree.specs.declared.token.Token.{Token}
use Rattle.sql_tree.specs.declared.token.TokenKind.TheVariants as kind
use Rattle.sql_tree.specs.declared.expr.Expr.{Expr}
use Rattle.sql_tree.specs.declared.expr.Expr.TheVariants as tree
use Rattle.sql_grammar.specs.declared.counts.Counts.{Counts}
use Rattle.sql_grammar.specs.declared.counts.Role.TheVariants as role
use Rattle.sql_grammar.specs.Rules.{Kinds, starts, is_clear, many, reads, one, Outcome, Done, Stop, ◌>>=◌}
use Rattle.sql_grammar.specs.Grammar.{Name, Of, suffixed, infix_by, signed_primary, collations, collated, concatenation, more_concatenation, product_op, product, more_product, sum_op, sum, more_sum, bits_op, bits, more_bits, relation_op, relation, more_relation}
use Rattle.sql_grammar.specs.Bodies.{rules}
use Rattle.sql_grammar.proofs.Clear.{clear, rich}
use Rattle.sql_grammar.proofs.Whole.{no_longer}
use Rattle.parse_cursor.specs.Gives.{apply_to}
use Rattle.parse_cursor.proofs.Steps.{suffixed_is, suffix_end, infix_step, one_shorter}
use Rattle.parse_expr.specs.Parts.{operators, operator, operand, joined, behind}
use Rattle.parse_expr.proofs.Clear.{collated_clear, concatenation_clear, more_concatenation_clear, product_clear, more_product_clear, sum_clear, more_sum_clear, bits_clear, more_bits_clear, more_relation_clear}
use Rattle.parse_expr.proofs.Suffixed.{collated_is}

-- ---- the rules of the grammar are those of the levels

operand_0 : operand 0 ≡ collated
unfolding operand
operand_0 = refl

operand_1 : operand 1 ≡ concatenation
unfolding operand concatenation more_concatenation
operand_1 = refl

operand_2 : operand 2 ≡ product
unfolding operand product more_product
operand_2 = ap (λ r. suffixed r (many (infix_by (kind.Star ∷ kind.Slash ∷ kind.Percent ∷ []) product_op r))) operand_1

operand_3 : operand 3 ≡ sum
unfolding operand sum more_sum
operand_3 = ap (λ r. suffixed r (many (infix_by (kind.Plus ∷ kind.Minus ∷ []) sum_op r))) operand_2

operand_4 : operand 4 ≡ bits
unfolding operand bits more_bits
operand_4 = ap (λ r. suffixed r (many (infix_by (kind.Ampersand ∷ kind.Bar ∷ kind.ShiftLeft ∷ kind.ShiftRight ∷ []) bits_op r))) operand_3

operand_5 : operand 5 ≡ relation
unfolding operand relation more_relation
operand_5 = ap (λ r. suffixed r (many (infix_by (kind.Less ∷ kind.LessEqual ∷ kind.Greater ∷ kind.GreaterEqual ∷ []) relation_op r))) operand_4

pub joined_0 : joined 0 ≡ more_concatenation
unfolding joined operand more_concatenation
joined_0 = refl

pub joined_1 : joined 1 ≡ more_product
unfolding joined more_product
joined_1 = ap (λ r. many (infix_by (kind.Star ∷ kind.Slash ∷ kind.Percent ∷ []) product_op r)) operand_1

pub joined_2 : joined 2 ≡ more_sum
unfolding joined more_sum
joined_2 = ap (λ r. many (infix_by (kind.Plus ∷ kind.Minus ∷ []) sum_op r)) operand_2

pub joined_3 : joined 3 ≡ more_bits
unfolding joined more_bits
joined_3 = ap (λ r. many (infix_by (kind.Ampersand ∷ kind.Bar ∷ kind.ShiftLeft ∷ kind.ShiftRight ∷ []) bits_op r)) operand_3

pub joined_4 : joined 4 ≡ more_relation
unfolding joined more_relation
joined_4 = ap (λ r. many (infix_by (kind.Less ∷ kind.LessEqual ∷ kind.Greater ∷ kind.GreaterEqual ∷ []) relation_op r)) operand_4

-- ---- one token of look-ahead tells what to do

clear_as : {A : Type 0} (r s : Of A) → r ≡ s → is_clear Name rules s ≡ true → is_clear Name rules r ≡ true
clear_as r s same h = ap (λ x. is_clear Name rules x) same ∙ h

operand_clear : (n : ℕ) → n < 5 → is_clear Name rules (operand n) ≡ true
operand_clear zero h = clear_as (operand 0) collated operand_0 collated_clear
operand_clear (suc zero) h = clear_as (operand 1) concatenation operand_1 concatenation_clear
operand_clear (suc (suc zero)) h = clear_as (operand 2) product operand_2 product_clear
operand_clear (suc (suc (suc zero))) h = clear_as (operand 3) sum operand_3 sum_clear
operand_clear (suc (suc (suc (suc zero)))) h = clear_as (operand 4) bits operand_4 bits_clear
operand_clear (suc (suc (suc (suc (suc n))))) h = absurd (omega arith)

joined_clear : (n : ℕ) → n < 5 → is_clear Name rules (joined n) ≡ true
joined_clear zero h = clear_as (joined 0) more_concatenation joined_0 more_concatenation_clear
joined_clear (suc zero) h = clear_as (joined 1) more_product joined_1 more_product_clear
joined_clear (suc (suc zero)) h = clear_as (joined 2) more_sum joined_2 more_sum_clear
joined_clear (suc (suc (suc zero))) h = clear_as (joined 3) more_bits joined_3 more_bits_clear
joined_clear (suc (suc (suc (suc zero)))) h = clear_as (joined 4) more_relation joined_4 more_relation_clear
joined_clear (suc (suc (suc (suc (suc n))))) h = absurd (omega arith)

-- ---- an operand is a signed primary and what stands behind it

pub operand_is : (n d : ℕ) (c : Counts) (ts : List Token) → reads Name rules d (operand n) c ts ≡ (reads Name rules d signed_primary c ts >>= λ a e rest. behind d n a e rest)
unfolding operand joined behind
operand_is zero d c ts = collated_is d c ts
operand_is (suc n) d c ts = suffixed_is (operand n) (joined n) d c ts ∙ ap (λ o. o >>= λ a e rest. apply_to a (reads Name rules d (joined n) e rest)) (operand_is n d c ts) ∙ word (reads Name rules d signed_primary c ts) where
  word : (o : Outcome Expr) → ((o >>= λ a e rest. behind d n a e rest) >>= λ a e rest. apply_to a (reads Name rules d (joined n) e rest)) ≡ (o >>= λ a e rest. behind d (suc n) a e rest)
  word (Done a e rest) = refl
  word (Stop w rest) = refl

pub relation_is : (d : ℕ) (c : Counts) (ts : List Token) → reads Name rules d relation c ts ≡ reads Name rules d (operand 5) c ts
relation_is d c ts = ap (λ r. reads Name rules d r c ts) (sym operand_5)

-- ---- what stands behind it

pub behind_none : (n d : ℕ) (left : Expr) (c : Counts) (ts : List Token) → n ≡ 0 → behind d n left c ts ≡ apply_to left (reads Name rules d collations c ts)
unfolding behind
behind_none zero d left c ts none = refl
behind_none (suc n) d left c ts none = absurd (omega arith)

pub behind_some : (n d : ℕ) (left : Expr) (c : Counts) (ts : List Token) → 0 < n → behind d n left c ts ≡ (behind d (n - 1) left c ts >>= λ a e rest. apply_to a (reads Name rules d (joined (n - 1)) e rest))
unfolding behind
behind_some zero d left c ts some = absurd (omega arith)
behind_some (suc n) d left c ts some = let same : suc n - 1 ≡ n = omega arith in rw same refl

pub joined_step : (n d : ℕ) (left : Expr) (c : Counts) (ts : List Token) → n < 5 → starts (operators n) ts ≡ true
    → apply_to left (reads Name rules d (joined n) c ts) ≡ (one role.Operator (operators n) c ts >>= λ t e rest. reads Name rules d (operand n) e rest >>= λ x g end. apply_to (tree.Binary (operator n t.kind) left x) (reads Name rules d (joined n) g end))
unfolding joined
joined_step n d left c ts h here = infix_step (operators n) (operator n) (operand n) d left c ts (joined_clear n h) here

pub joined_end : (n d : ℕ) (left : Expr) (c : Counts) (ts : List Token) → n < 5 → starts (operators n) ts ≡ false → apply_to left (reads Name rules d (joined n) c ts) ≡ Done left c ts
unfolding joined
joined_end n d left c ts h none = suffix_end (infix_by (operators n) (operator n) (operand n)) d left c ts (joined_clear n h) none

pub joined_shorter : (n d : ℕ) (ks : Kinds) (c e f : Counts) (ts mid rest : List Token) (t : Token) (a : Expr) → n < 5 → one role.Operator ks c ts ≡ Done t e mid → reads Name rules d (operand n) e mid ≡ Done a f rest → length rest < length ts
joined_shorter n d ks c e f ts mid rest t a h g is = omega (arith, one_shorter role.Operator ks c e ts mid t g, no_longer Name rules clear rich (operand n) (operand_clear n h) d e f mid rest a is)

pub ruleset behind_steps = (behind_none, behind_some, joined_step, joined_end)
