-- What may stand behind an operand, level by level.
use Rattle.std.proofs.Common.{◌≡◌, ℕ, suc, List, refl, sym, ap, ◌∙◌}
use Rattle.sql_tree.specs.declared.token.Token.{Token}
use Rattle.sql_tree.specs.declared.expr.Expr.{Expr}
use Rattle.sql_grammar.specs.declared.counts.Counts.{Counts}
use Rattle.sql_grammar.specs.Rules.{seq, to, reads, Outcome, Done, Stop, ◌>>=◌}
use Rattle.sql_grammar.specs.Grammar.{Name, Of, applied, collations, more_concatenation, more_product, more_sum, more_bits, more_relation, tests, more_conjunction, more_expr, tails}
use Rattle.sql_grammar.specs.Bodies.{rules}
use Rattle.parse_cursor.specs.Gives.{apply_to, apply_one}
use Rattle.parse_cursor.proofs.Steps.{apply_done}
use Rattle.parse_expr.specs.Parts.{joined, behind}
use Rattle.parse_expr.proofs.Joined.{joined_0, joined_1, joined_2, joined_3, joined_4}

abbrev pub Suffixes : Type 0
Suffixes = List (Expr → Expr)

-- those of a level, and then those behind it
abbrev pub followed : {B : Type 0} → (B → Expr → Expr) → Suffixes × B → Expr → Expr
followed f y x = f y.1 (applied x y.0)

abbrev pub last : Suffixes → Expr → Expr
last p x = applied x p

pub followed_is : {B : Type 0} (s : Of Suffixes) (r : Of B) (f : B → Expr → Expr) (left : Expr) (d : ℕ) (c : Counts) (ts : List Token)
    → apply_one left (reads Name rules d (to (followed f) (seq s r)) c ts) ≡ (apply_to left (reads Name rules d s c ts) >>= λ x e rest. apply_one x (reads Name rules d (to f r) e rest))
followed_is {B} s r f left d c ts = word (reads Name rules d s c ts) where
  inner : (fs : Suffixes) (o : Outcome B) → apply_one left (◌>>=◌ {A = Suffixes × B} (o >>= λ b g end. Done (fs, b) g end) (λ y e rest. Done (followed f y) e rest)) ≡ apply_one (applied left fs) (o >>= λ b g end. Done (f b) g end)
  inner fs (Done b g end) = refl
  inner fs (Stop w end) = refl

  word : (o : Outcome Suffixes) → apply_one left (◌>>=◌ {A = Suffixes × B} (o >>= λ fs e rest. reads Name rules d r e rest >>= λ b g end. Done (fs, b) g end) (λ y e rest. Done (followed f y) e rest)) ≡ (apply_to left o >>= λ x e rest. apply_one x (reads Name rules d (to f r) e rest))
  word (Done fs e rest) = inner fs (reads Name rules d r e rest)
  word (Stop w rest) = refl

-- ---- behind the operands of each level

abbrev from_and : Of (Suffixes × Suffixes)
from_and = seq more_conjunction more_expr

abbrev from_tests : Of (Suffixes × (Suffixes × Suffixes))
from_tests = seq tests from_and

abbrev from_relation : Of (Suffixes × (Suffixes × (Suffixes × Suffixes)))
from_relation = seq more_relation from_tests

abbrev from_bits : Of (Suffixes × (Suffixes × (Suffixes × (Suffixes × Suffixes))))
from_bits = seq more_bits from_relation

abbrev from_sum : Of (Suffixes × (Suffixes × (Suffixes × (Suffixes × (Suffixes × Suffixes)))))
from_sum = seq more_sum from_bits

abbrev from_product : Of (Suffixes × (Suffixes × (Suffixes × (Suffixes × (Suffixes × (Suffixes × Suffixes))))))
from_product = seq more_product from_sum

abbrev from_concatenation : Of (Suffixes × (Suffixes × (Suffixes × (Suffixes × (Suffixes × (Suffixes × (Suffixes × Suffixes)))))))
from_concatenation = seq more_concatenation from_product

unfoldable pub behind_conjunction : Of (Expr → Expr)
behind_conjunction = to last more_expr

unfoldable pub behind_negation : Of (Expr → Expr)
behind_negation = to (followed last) from_and

unfoldable pub behind_relation : Of (Expr → Expr)
behind_relation = to (followed (followed last)) from_tests

unfoldable pub behind_bits : Of (Expr → Expr)
behind_bits = to (followed (followed (followed last))) from_relation

unfoldable pub behind_sum : Of (Expr → Expr)
behind_sum = to (followed (followed (followed (followed last)))) from_bits

unfoldable pub behind_product : Of (Expr → Expr)
behind_product = to (followed (followed (followed (followed (followed last))))) from_sum

unfoldable pub behind_concatenation : Of (Expr → Expr)
behind_concatenation = to (followed (followed (followed (followed (followed (followed last)))))) from_product

unfoldable pub behind_collated : Of (Expr → Expr)
behind_collated = to (followed (followed (followed (followed (followed (followed (followed last))))))) from_concatenation

-- ---- one loop after another

pub tails_is : (left : Expr) (d : ℕ) (c : Counts) (ts : List Token) → apply_one left (reads Name rules d tails c ts) ≡ (apply_to left (reads Name rules d collations c ts) >>= λ x e rest. apply_one x (reads Name rules d behind_collated e rest))
unfolding tails behind_collated
tails_is left d c ts = followed_is collations from_concatenation (followed (followed (followed (followed (followed (followed (followed last))))))) left d c ts

pub behind_collated_is : (left : Expr) (d : ℕ) (c : Counts) (ts : List Token) → apply_one left (reads Name rules d behind_collated c ts) ≡ (apply_to left (reads Name rules d more_concatenation c ts) >>= λ x e rest. apply_one x (reads Name rules d behind_concatenation e rest))
unfolding behind_collated behind_concatenation
behind_collated_is left d c ts = followed_is more_concatenation from_product (followed (followed (followed (followed (followed (followed last)))))) left d c ts

pub behind_concatenation_is : (left : Expr) (d : ℕ) (c : Counts) (ts : List Token) → apply_one left (reads Name rules d behind_concatenation c ts) ≡ (apply_to left (reads Name rules d more_product c ts) >>= λ x e rest. apply_one x (reads Name rules d behind_product e rest))
unfolding behind_concatenation behind_product
behind_concatenation_is left d c ts = followed_is more_product from_sum (followed (followed (followed (followed (followed last))))) left d c ts

pub behind_product_is : (left : Expr) (d : ℕ) (c : Counts) (ts : List Token) → apply_one left (reads Name rules d behind_product c ts) ≡ (apply_to left (reads Name rules d more_sum c ts) >>= λ x e rest. apply_one x (reads Name rules d behind_sum e rest))
unfolding behind_product behind_sum
behind_product_is left d c ts = followed_is more_sum from_bits (followed (followed (followed (followed last)))) left d c ts

pub behind_sum_is : (left : Expr) (d : ℕ) (c : Counts) (ts : List Token) → apply_one left (reads Name rules d behind_sum c ts) ≡ (apply_to left (reads Name rules d more_bits c ts) >>= λ x e rest. apply_one x (reads Name rules d behind_bits e rest))
unfolding behind_sum behind_bits
behind_sum_is left d c ts = followed_is more_bits from_relation (followed (followed (followed last))) left d c ts

pub behind_bits_is : (left : Expr) (d : ℕ) (c : Counts) (ts : List Token) → apply_one left (reads Name rules d behind_bits c ts) ≡ (apply_to left (reads Name rules d more_relation c ts) >>= λ x e rest. apply_one x (reads Name rules d behind_relation e rest))
unfolding behind_bits behind_relation
behind_bits_is left d c ts = followed_is more_relation from_tests (followed (followed last)) left d c ts

pub behind_relation_is : (left : Expr) (d : ℕ) (c : Counts) (ts : List Token) → apply_one left (reads Name rules d behind_relation c ts) ≡ (apply_to left (reads Name rules d tests c ts) >>= λ x e rest. apply_one x (reads Name rules d behind_negation e rest))
unfolding behind_relation behind_negation
behind_relation_is left d c ts = followed_is tests from_and (followed last) left d c ts

pub behind_negation_is : (left : Expr) (d : ℕ) (c : Counts) (ts : List Token) → apply_one left (reads Name rules d behind_negation c ts) ≡ (apply_to left (reads Name rules d more_conjunction c ts) >>= λ x e rest. apply_one x (reads Name rules d behind_conjunction e rest))
unfolding behind_negation behind_conjunction
behind_negation_is left d c ts = followed_is more_conjunction more_expr last left d c ts

pub behind_conjunction_is : (left : Expr) (d : ℕ) (c : Counts) (ts : List Token) → apply_one left (reads Name rules d behind_conjunction c ts) ≡ apply_to left (reads Name rules d more_expr c ts)
unfolding behind_conjunction
behind_conjunction_is left d c ts = apply_done last left (reads Name rules d more_expr c ts)

-- ---- level by level

-- a level more, where what stands behind the level below is its operators and what stands behind them
one_more : (n d : ℕ) (x : Expr) (c : Counts) (ts : List Token) (below above : Of (Expr → Expr))
    → ((left : Expr) (e : Counts) (rest : List Token) → apply_one left (reads Name rules d below e rest) ≡ (apply_to left (reads Name rules d (joined n) e rest) >>= λ y f end. apply_one y (reads Name rules d above f end)))
    → (behind d n x c ts >>= λ a e rest. apply_one a (reads Name rules d below e rest)) ≡ (behind d (suc n) x c ts >>= λ a e rest. apply_one a (reads Name rules d above e rest))
unfolding behind
one_more n d x c ts below above next = word (behind d n x c ts) where
  word : (o : Outcome Expr) → (o >>= λ a e rest. apply_one a (reads Name rules d below e rest)) ≡ ((o >>= λ a e rest. apply_to a (reads Name rules d (joined n) e rest)) >>= λ a e rest. apply_one a (reads Name rules d above e rest))
  word (Done a e rest) = next a e rest
  word (Stop w rest) = refl

-- the operators of a level, as the grammar names them
named : (r s : Of Suffixes) (d : ℕ) (left : Expr) (c : Counts) (ts : List Token) (above : Of (Expr → Expr)) → r ≡ s → (apply_to left (reads Name rules d s c ts) >>= λ y f end. apply_one y (reads Name rules d above f end)) ≡ (apply_to left (reads Name rules d r c ts) >>= λ y f end. apply_one y (reads Name rules d above f end))
named r s d left c ts above same = ap (λ q. apply_to left (reads Name rules d q c ts) >>= λ y f end. apply_one y (reads Name rules d above f end)) (sym same)

tails_from_operand : (left : Expr) (d : ℕ) (c : Counts) (ts : List Token) → apply_one left (reads Name rules d tails c ts) ≡ (behind d 0 left c ts >>= λ a e rest. apply_one a (reads Name rules d behind_collated e rest))
unfolding behind
tails_from_operand left d c ts = tails_is left d c ts

pub tails_from_relation : (left : Expr) (d : ℕ) (c : Counts) (ts : List Token) → apply_one left (reads Name rules d tails c ts) ≡ (behind d 5 left c ts >>= λ a e rest. apply_one a (reads Name rules d behind_relation e rest))
tails_from_relation left d c ts =
    tails_from_operand left d c ts
    ∙ one_more 0 d left c ts behind_collated behind_concatenation (λ x e rest. behind_collated_is x d e rest ∙ named (joined 0) more_concatenation d x e rest behind_concatenation joined_0)
    ∙ one_more 1 d left c ts behind_concatenation behind_product (λ x e rest. behind_concatenation_is x d e rest ∙ named (joined 1) more_product d x e rest behind_product joined_1)
    ∙ one_more 2 d left c ts behind_product behind_sum (λ x e rest. behind_product_is x d e rest ∙ named (joined 2) more_sum d x e rest behind_sum joined_2)
    ∙ one_more 3 d left c ts behind_sum behind_bits (λ x e rest. behind_sum_is x d e rest ∙ named (joined 3) more_bits d x e rest behind_bits joined_3)
    ∙ one_more 4 d left c ts behind_bits behind_relation (λ x e rest. behind_bits_is x d e rest ∙ named (joined 4) more_relation d x e rest behind_relation joined_4)

pub ruleset tails_steps = (tails_from_relation, behind_relation_is, behind_negation_is, behind_conjunction_is)
