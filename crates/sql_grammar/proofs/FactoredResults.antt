-- The factored rule of result columns derives what the written one does: an expression begins with a name, or it is one of the others.
use Rattle.std.proofs.Common.{List, [], ◌∷◌, Option}
use Rattle.sql_tree.specs.declared.expr.Expr.{Expr}
use Rattle.sql_tree.specs.declared.expr.Expr.TheVariants as e
use Rattle.sql_tree.specs.declared.expr.UnaryOp.TheVariants as unary
use Rattle.sql_tree.specs.declared.query.ResultColumn.{ResultColumn}
use Rattle.sql_tree.specs.declared.query.ResultColumn.TheVariants as result_is
use Rattle.sql_tree.specs.declared.query.SpannedExpr.{SpannedExpr}
use Rattle.sql_tree.specs.declared.token.Token.{Token}
use Rattle.sql_tree.specs.declared.token.TokenKind.TheVariants as kind
use Rattle.sql_grammar.specs.declared.counts.Role.{Role}
use Rattle.sql_grammar.specs.declared.counts.Role.TheVariants as role
use Rattle.sql_grammar.specs.Rules.{Kinds, tok, pure, seq, alt, to, over}
use Rattle.sql_grammar.specs.Grammar.{Of, after, name, applied, suffixed, primary, of_table, call, behind_name, named, signed_primary, collations, collated, more_concatenation, concatenation, more_product, product, more_sum, sum, more_bits, bits, more_relation, relation, tests, equality, negation, more_conjunction, conjunction, more_expr, expr, tails, other_primary, signed_other, negated_first, other_expr}
use Rattle.sql_grammar.specs.Queries.{alias, spanned, spanned_expr, with_tokens, spanned_tails, column_of_table, behind_dot, spanned_call, behind_first_name, named_result, other_result, result}
use Rattle.sql_grammar.specs.Written as written
use Rattle.sql_grammar.proofs.Alike.{same, turned, ◌⊳◌, in_seq, in_to, in_over, in_alt, to_same, to_to, to_left, to_right, to_alt, to_over, over_to, over_alt, over_first, seq_assoc, pure_left, alt_left, alt_right, alt_assoc, alt_swap}
use Rattle.sql_grammar.proofs.FactoredExpressions.{◌≈◌, after_alt, after_to, given_left, signed_primary_is, negation_is}

-- ---- an expression by its first token

abbrev on_operand : Expr × (Expr → Expr) → Expr
on_operand p = p.1 p.0

-- these operators, and then what goes on behind them
abbrev behind : Of (List (Expr → Expr)) → Of (Expr → Expr) → Of (Expr → Expr)
behind s k = to (λ p x. p.1 (applied x p.0)) (seq s k)

one_level : {r : Of Expr} {s : Of (List (Expr → Expr))} {k : Of (Expr → Expr)} → to on_operand (seq (suffixed r s) k) ≈ to on_operand (seq r (behind s k))
one_level = in_to _ (to_left ⊳ in_to _ seq_assoc ⊳ to_to) ⊳ to_to ⊳ turned (in_to _ to_right ⊳ to_to)

behind_as : {B : Type 0} {g : B → Expr → Expr} {s : Of (List (Expr → Expr))} {k : Of (Expr → Expr)} {t : Of B} → k ≈ to g t → behind s k ≈ to (λ p x. g p.1 (applied x p.0)) (seq s t)
behind_as p = in_to _ (in_seq same p ⊳ to_right) ⊳ to_to

abbrev last_tails : Of (Expr → Expr)
last_tails = to (λ fs x. applied x fs) more_expr

abbrev tails_of_negation : Of (Expr → Expr)
tails_of_negation = behind more_conjunction last_tails

abbrev all_tails : Of (Expr → Expr)
all_tails = behind collations (behind more_concatenation (behind more_product (behind more_sum (behind more_bits (behind more_relation (behind tests tails_of_negation))))))

tails_are : all_tails ≈ tails
unfolding tails
tails_are = behind_as (behind_as (behind_as (behind_as (behind_as (behind_as (behind_as (behind_as same)))))))

by_negation : expr ≈ to on_operand (seq negation tails_of_negation)
unfolding expr conjunction
by_negation = turned (in_to _ to_right ⊳ to_to) ⊳ one_level

by_sign : to on_operand (seq equality tails_of_negation) ≈ to on_operand (seq signed_primary all_tails)
unfolding equality relation bits sum product concatenation collated
by_sign = one_level ⊳ one_level ⊳ one_level ⊳ one_level ⊳ one_level ⊳ one_level ⊳ one_level

primary_by_name : primary ≈ alt named other_primary
unfolding primary other_primary
primary_by_name = in_alt same alt_swap ⊳ alt_swap

signed_by_name : signed_primary ≈ alt named signed_other
unfolding signed_other written.signed_primary
signed_by_name = signed_primary_is ⊳ in_alt same primary_by_name ⊳ alt_swap

behind_the_not : to on_operand (seq (to (λ p. e.Unary unary.Not p.1) (seq (tok role.Operator (kind.Not ∷ [])) negation)) tails_of_negation) ≈ to negated_first (seq (tok role.Operator (kind.Not ∷ [])) (seq negation (seq more_conjunction more_expr)))
behind_the_not = in_to _ (in_seq same (behind_as same) ⊳ to_right ⊳ in_to _ (to_left ⊳ in_to _ seq_assoc ⊳ to_to) ⊳ to_to) ⊳ to_to

abbrev named_expr : Of Expr
named_expr = to on_operand (seq named tails)

pub expr_by_name : expr ≈ alt named_expr other_expr
unfolding other_expr written.negation
expr_by_name =
    by_negation ⊳ in_to _ (in_seq negation_is same ⊳ alt_left) ⊳ to_alt
    ⊳ in_alt behind_the_not (by_sign ⊳ in_to _ (in_seq signed_by_name tails_are ⊳ alt_left) ⊳ to_alt)
    ⊳ alt_swap

-- ---- trees with their tokens

tokens_to : {A B : Type 0} {f : A → B} {r : Of A} → with_tokens (to f r) ≈ to (λ q. (f q.0, q.1)) (with_tokens r)
tokens_to = over_to ⊳ turned to_over

tokens_first : {A : Type 0} {m : Role} {ks : Kinds} {r : Of A} → with_tokens (seq (tok m ks) r) ≈ to (λ (p : Token × (A × List Token)). ((p.0, p.1.0), p.0 ∷ p.1.1)) (seq (tok m ks) (with_tokens r))
tokens_first = over_first

-- what goes on behind a name, and the operators behind that
abbrev Behind : Type 0
Behind = (Token → Expr) × (Expr → Expr)

abbrev dotted : Token × (Token × (Expr → Expr)) → Behind
dotted p = ((λ t. e.TableColumn t p.1.0), p.1.1)

tokens_of_dotted : with_tokens (seq of_table tails) ≈ to (λ p. (dotted (p.0, (p.1.0, p.1.1.0)), p.0 ∷ p.1.0 ∷ p.1.1.1)) (seq (tok role.Quiet (kind.Dot ∷ [])) (seq name spanned_tails))
unfolding of_table spanned_tails
tokens_of_dotted =
    in_over _ (to_left ⊳ in_to _ (to_left ⊳ in_to _ seq_assoc ⊳ to_to) ⊳ to_to) ⊳ tokens_to
    ⊳ in_to _ (tokens_first ⊳ in_to _ (in_seq same tokens_first ⊳ to_right) ⊳ to_to) ⊳ to_to

tokens_of_column : with_tokens (seq (pure e.Column) tails) ≈ to (λ q. ((e.Column, q.0), q.1)) spanned_tails
unfolding spanned_tails
tokens_of_column = in_over _ pure_left ⊳ tokens_to

tokens_of_call : spanned_call ≈ to (λ q. ((λ t. q.0.1 (q.0.0 t)), q.1)) (with_tokens (seq call tails))
unfolding spanned_call
tokens_of_call = tokens_to

abbrev tokens_behind : Of (Behind × List Token)
tokens_behind = alt (with_tokens (seq of_table tails)) (alt (with_tokens (seq call tails)) (with_tokens (seq (pure e.Column) tails)))

tokens_are : with_tokens (seq behind_name tails) ≈ tokens_behind
unfolding behind_name
tokens_are = in_over _ (alt_left ⊳ in_alt same alt_left) ⊳ over_alt ⊳ in_alt same over_alt

-- ---- result columns

abbrev with_alias : SpannedExpr × Option Token → ResultColumn
with_alias p = result_is.Expression p.0 p.1

-- the expression that a name begins
abbrev from_name : Token × (Behind × List Token) → SpannedExpr
from_name p = spanned (p.1.0.1 (p.1.0.0 p.0)) (p.0 ∷ p.1.1)

abbrev from_name_with_alias : Token × ((Behind × List Token) × Option Token) → ResultColumn
from_name_with_alias p = with_alias (from_name (p.0, p.1.0), p.1.1)

spanned_by_name : over spanned named_expr ≈ to from_name (seq name (with_tokens (seq behind_name tails)))
unfolding named
spanned_by_name = in_over _ (in_to _ (to_left ⊳ in_to _ seq_assoc ⊳ to_to) ⊳ to_to) ⊳ over_to ⊳ over_first

named_with_alias : to with_alias (seq (over spanned named_expr) alias) ≈ to from_name_with_alias (seq name (seq tokens_behind alias))
named_with_alias = in_to _ (in_seq (spanned_by_name ⊳ in_to _ (in_seq same tokens_are)) same ⊳ to_left ⊳ in_to _ seq_assoc ⊳ to_to) ⊳ to_to

abbrev to_column : Token × (Token → ResultColumn) → ResultColumn
to_column p = p.1 p.0

all_of : to to_column (seq name (after role.Quiet kind.Dot (to (λ s t. result_is.AllOf t) (tok role.Outside (kind.Star ∷ []))))) ≈ to (λ p. result_is.AllOf p.0) (seq name (after role.Quiet kind.Dot (tok role.Outside (kind.Star ∷ []))))
all_of = in_to _ (in_seq same after_to ⊳ to_right) ⊳ to_to

column_with_alias : to to_column (seq name (after role.Quiet kind.Dot column_of_table)) ≈ to from_name_with_alias (seq name (seq (with_tokens (seq of_table tails)) alias))
unfolding column_of_table
column_with_alias =
    in_to _ (in_seq same (after_to ⊳ to_to) ⊳ to_right) ⊳ to_to
    ⊳ turned (in_to _ (in_seq same (in_seq tokens_of_dotted same ⊳ to_left ⊳ in_to _ (seq_assoc ⊳ in_to _ (in_seq same seq_assoc ⊳ to_right) ⊳ to_to) ⊳ to_to) ⊳ to_right) ⊳ to_to)

abbrev called_with_alias : ((Token → Expr) × List Token) × Option Token → Token → ResultColumn
called_with_alias p t = with_alias (spanned (p.0.0 t) (t ∷ p.0.1), p.1)

call_with_alias : to to_column (seq name (to called_with_alias (seq spanned_call alias))) ≈ to from_name_with_alias (seq name (seq (with_tokens (seq call tails)) alias))
call_with_alias = in_to _ (in_seq same (in_to _ (in_seq tokens_of_call same ⊳ to_left) ⊳ to_to) ⊳ to_right) ⊳ to_to

abbrev going_on_with_alias : ((Expr → Expr) × List Token) × Option Token → Token → ResultColumn
going_on_with_alias p t = with_alias (spanned (p.0.0 (e.Column t)) (t ∷ p.0.1), p.1)

name_with_alias : to to_column (seq name (to going_on_with_alias (seq spanned_tails alias))) ≈ to from_name_with_alias (seq name (seq (with_tokens (seq (pure e.Column) tails)) alias))
name_with_alias = in_to _ to_right ⊳ to_to ⊳ turned (in_to _ (in_seq same (in_seq tokens_of_column same ⊳ to_left) ⊳ to_right) ⊳ to_to)

named_result_is : named_result ≈ alt (to (λ p. result_is.AllOf p.0) (seq name (after role.Quiet kind.Dot (tok role.Outside (kind.Star ∷ []))))) (to with_alias (seq (over spanned named_expr) alias))
unfolding named_result behind_first_name behind_dot
named_result_is =
    in_to _ (in_seq same (in_alt after_alt same ⊳ alt_assoc) ⊳ alt_right ⊳ in_alt same (alt_right ⊳ in_alt same alt_right)) ⊳ to_alt
    ⊳ in_alt all_of
    (to_alt ⊳ in_alt column_with_alias (to_alt ⊳ in_alt call_with_alias name_with_alias)
    ⊳ turned (named_with_alias ⊳ in_to _ (in_seq same (alt_left ⊳ in_alt same alt_left) ⊳ alt_right ⊳ in_alt same alt_right) ⊳ to_alt ⊳ in_alt same to_alt))

pub result_is_written : result ≈ written.result
unfolding result other_result spanned_expr written.result
result_is_written =
    in_alt same (
    in_alt named_result_is same ⊳ alt_assoc
    ⊳ in_alt same (turned (in_to _ (in_seq (in_over _ expr_by_name ⊳ over_alt) same ⊳ alt_left) ⊳ to_alt))
    )

pub alias_is : alias ≈ written.alias
unfolding alias written.alias
alias_is = in_alt (in_to _ (in_alt same (turned to_same) ⊳ turned (in_to _ given_left ⊳ to_alt ⊳ in_alt to_to to_to))) same
