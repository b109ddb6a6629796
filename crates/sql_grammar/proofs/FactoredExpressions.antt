-- The factored rules of expressions derive what the written ones do.
use Rattle.std.proofs.Common.{◌≡◌, true, false, [], ◌∷◌, Option, Some, None, refl}
use Rattle.sql_tree.specs.declared.expr.BinaryOp.{BinaryOp}
use Rattle.sql_tree.specs.declared.expr.BinaryOp.TheVariants as binary
use Rattle.sql_tree.specs.declared.expr.Expr.{Expr}
use Rattle.sql_tree.specs.declared.expr.Expr.TheVariants as e
use Rattle.sql_tree.specs.declared.expr.UnaryOp.TheVariants as unary
use Rattle.sql_tree.specs.declared.token.Token.{Token}
use Rattle.sql_tree.specs.declared.token.TokenKind.{TokenKind}
use Rattle.sql_tree.specs.declared.token.TokenKind.TheVariants as kind
use Rattle.sql_grammar.specs.declared.counts.Role.{Role}
use Rattle.sql_grammar.specs.declared.counts.Role.TheVariants as role
use Rattle.sql_grammar.specs.Alike.{Alike}
use Rattle.sql_grammar.specs.Bodies.{rules}
use Rattle.sql_grammar.specs.Rules.{tok, seq, alt, to}
use Rattle.sql_grammar.specs.Grammar.{Name, Of, maybe, after, in_parentheses, expression, members, subquery, with_signs, with_nots, sign_op, is_op, primary, signs, signed_primary, of_table, call, behind_name, named, enclosed, relation, equal_to, distinct_from, is_test, between, like, glob, member_of, positive_test, null_test, negated, test, nots, negation, case, some_arguments}
use Rattle.sql_grammar.specs.Queries.{given}
use Rattle.sql_grammar.specs.Written as written
use Rattle.sql_grammar.proofs.Alike.{same, turned, ◌⊳◌, in_seq, in_to, in_alt, to_as, to_to, to_left, to_right, to_alt, to_pure, seq_assoc, pure_left, pure_right, alt_left, alt_right, alt_assoc, alt_swap, alt_turned, alt_beside, run_turn, tok_or, to_kind, nest_or}

infixl 4 ◌≈◌
abbrev pub ◌≈◌ : {A : Type 0} → Of A → Of A → Type 0
r ≈ s = Alike Name rules r s

-- ---- words of grammars

pub after_alt : {A : Type 0} {m : Role} {k : TokenKind} {r s : Of A} → after m k (alt r s) ≈ alt (after m k r) (after m k s)
after_alt = in_to _ alt_right ⊳ to_alt

pub after_to : {A B : Type 0} {m : Role} {k : TokenKind} {f : A → B} {r : Of A} → after m k (to f r) ≈ to f (after m k r)
after_to = in_to _ to_right ⊳ to_to ⊳ turned to_to

pub maybe_left : {A B : Type 0} {r : Of A} {s : Of B} → seq (maybe r) s ≈ alt (to (λ p. (Some p.0, p.1)) (seq r s)) (to (λ b. (None, b)) s)
maybe_left = alt_left ⊳ in_alt to_left pure_left

pub maybe_right : {A B : Type 0} {r : Of A} {s : Of B} → seq r (maybe s) ≈ alt (to (λ p. (p.0, Some p.1)) (seq r s)) (to (λ a. (a, None)) r)
maybe_right = alt_right ⊳ in_alt to_right pure_right

pub given_left : {A B : Type 0} {r : Of A} {s : Of B} → seq (given r) s ≈ alt (to (λ p. (true, p.1)) (seq r s)) (to (λ b. (false, b)) s)
given_left = alt_left ⊳ in_alt to_left pure_left

-- ---- operands

pub named_is : named ≈ alt written.column_operand written.call_operand
unfolding named behind_name of_table call written.column_operand written.call_operand
named_is =
    in_to _ (alt_right ⊳ in_alt same alt_right) ⊳ to_alt
    ⊳ in_alt (in_to _ to_right ⊳ to_to) (to_alt ⊳ in_alt (in_to _ to_right ⊳ to_to) (in_to _ pure_right ⊳ to_to))
    ⊳ in_alt same alt_turned ⊳ turned alt_assoc
    ⊳ in_alt (turned (in_to _ maybe_right ⊳ to_alt ⊳ in_alt to_to to_to)) same

pub enclosed_is : enclosed ≈ alt (in_parentheses expression) (to e.Subquery (in_parentheses subquery))
unfolding enclosed
enclosed_is = nest_or alt_turned

pub primary_is : primary ≈ written.primary
unfolding primary written.primary
primary_is = in_alt same (in_alt same (in_alt named_is (in_alt enclosed_is same ⊳ alt_assoc) ⊳ alt_assoc))

pub some_arguments_is : some_arguments ≈ written.some_arguments
unfolding some_arguments written.some_arguments
some_arguments_is = in_alt same (in_alt to_to same ⊳ turned (in_to _ given_left ⊳ to_alt ⊳ in_alt to_to to_to))

pub members_are : rules _ members ≈ written.members
unfolding written.members
members_are = in_alt same (to_alt ⊳ in_alt to_to to_pure) ⊳ alt_swap ⊳ turned alt_assoc

pub case_is : case ≈ written.case
unfolding case written.case
case_is = alt_turned ⊳ turned (in_to _ maybe_left ⊳ to_alt ⊳ in_alt to_to to_to)

-- ---- operators

pub signed_primary_is : signed_primary ≈ written.signed_primary
unfolding signed_primary signs written.signed_primary
signed_primary_is = run_turn with_signs (λ t x. e.Unary (sign_op t.kind) x) (λ x. refl) (λ t more x. refl)

pub negation_is : negation ≈ written.negation
unfolding negation nots written.negation
negation_is = run_turn with_nots (λ t x. e.Unary unary.Not x) (λ x. refl) (λ t more x. refl)

-- ---- tests

pub null_test_is : null_test ≈ alt (to (λ t l. e.Unary unary.IsNull l) (tok role.Operator (kind.IsNull ∷ []))) (to (λ t l. e.Unary unary.NotNull l) (tok role.Operator (kind.NotNull ∷ [])))
unfolding null_test
null_test_is = in_to _ tok_or ⊳ to_alt ⊳ in_alt (to_kind (λ t h. rw h refl)) (to_kind (λ t h. rw h refl))

-- what is written in front of the right operand, and `IS [NOT]`
abbrev is_not : Of (Option Token)
is_not = maybe (tok role.Quiet (kind.Not ∷ []))

abbrev right_of_is : Of (Token × (Option Token × Expr))
right_of_is = seq (tok role.Operator (kind.Is ∷ [])) (seq is_not relation)

abbrev right_of_distinct : Of (Token × (Option Token × (Token × Expr)))
right_of_distinct = seq (tok role.Operator (kind.Is ∷ [])) (seq is_not (seq written.distinct_words relation))

is_alone : (n : Option Token) → is_op n None ≡ written.by_not n binary.Is binary.IsNot
is_alone None = refl
is_alone (Some t) = refl

is_with_distinct : (n : Option Token) (t : Token) → is_op n (Some t) ≡ written.by_not n binary.IsNot binary.Is
is_with_distinct None t = refl
is_with_distinct (Some s) t = refl

pub is_test_is : is_test ≈ alt (to (λ p l. e.Binary (written.by_not p.1.0 binary.Is binary.IsNot) l p.1.1) right_of_is) (to (λ p l. e.Binary (written.by_not p.1.0 binary.IsNot binary.Is) l p.1.1.1) right_of_distinct)
unfolding is_test distinct_from written.distinct_words
is_test_is =
    to_to
    ⊳ in_to _ (in_seq same (in_seq same maybe_left ⊳ alt_right ⊳ in_alt to_right to_right) ⊳ alt_right ⊳ in_alt to_right to_right) ⊳ to_alt
    ⊳ in_alt (to_to ⊳ to_as (λ p. rw (is_with_distinct p.1.0 p.1.1.0) refl)) (to_to ⊳ to_as (λ p. rw (is_alone p.1.0) refl))
    ⊳ alt_turned

abbrev compared : BinaryOp × Expr → Expr → Expr
compared p l = e.Binary p.0 l p.1

abbrev compared_is : Token × (Option Token × Expr) → Expr → Expr
compared_is p l = e.Binary (written.by_not p.1.0 binary.Is binary.IsNot) l p.1.1

abbrev compared_distinct : Token × (Option Token × (Token × Expr)) → Expr → Expr
compared_distinct p l = e.Binary (written.by_not p.1.0 binary.IsNot binary.Is) l p.1.1.1

behind_is : to compared (seq (to (λ n. written.by_not n binary.Is binary.IsNot) written.is_words) relation) ≈ to compared_is right_of_is
unfolding written.is_words
behind_is = in_to _ (to_left ⊳ in_to _ (to_left ⊳ in_to _ seq_assoc ⊳ to_to) ⊳ to_to) ⊳ to_to

behind_distinct : to compared (seq (to (λ p. written.by_not p.0 binary.IsNot binary.Is) (seq written.is_words written.distinct_words)) relation) ≈ to compared_distinct right_of_distinct
unfolding written.is_words
behind_distinct = in_to _ (to_left ⊳ in_to _ (seq_assoc ⊳ in_to _ (to_left ⊳ in_to _ seq_assoc ⊳ to_to) ⊳ to_to) ⊳ to_to) ⊳ to_to

pub equality_test_is : alt equal_to is_test ≈ to (λ p l. e.Binary p.0 l p.1) (seq written.equality_word relation)
unfolding equal_to written.equality_word
equality_test_is = in_alt same is_test_is ⊳ turned (in_to _ (alt_left ⊳ in_alt same alt_left) ⊳ to_alt ⊳ in_alt (in_to _ to_left ⊳ to_to) (to_alt ⊳ in_alt behind_is behind_distinct))

-- the tests behind NOT
abbrev behind_not : (Role → Of (Expr → Expr)) → Of (Expr → Expr)
behind_not r = to (λ f l. e.Unary unary.Not (f l)) (after role.Operator kind.Not (r role.Quiet))

negated_is : after role.Operator kind.Not negated
    ≈ alt (alt (behind_not between) (alt (behind_not like) (alt (behind_not glob) (behind_not member_of)))) (to (λ t l. e.Unary unary.NotNull l) (after role.Operator kind.Not (tok role.Quiet (kind.Null ∷ []))))
unfolding negated positive_test
negated_is = after_alt ⊳ in_alt (after_to ⊳ in_to _ (after_alt ⊳ in_alt same (after_alt ⊳ in_alt same after_alt)) ⊳ to_alt ⊳ in_alt same (to_alt ⊳ in_alt same to_alt)) after_to

-- each test beside itself behind NOT
tests_beside : alt (positive_test role.Operator) (alt null_test (after role.Operator kind.Not negated))
    ≈ alt (written.perhaps_not between) (alt (written.perhaps_not like) (alt (written.perhaps_not glob) (alt (written.perhaps_not member_of) written.null_words)))
unfolding positive_test written.null_words
tests_beside =
    in_alt same (in_alt null_test_is negated_is ⊳ alt_swap) ⊳ turned alt_assoc
    ⊳ in_alt (alt_beside ⊳ in_alt same (alt_beside ⊳ in_alt same alt_beside)) alt_assoc
    ⊳ alt_assoc ⊳ in_alt same (alt_assoc ⊳ in_alt same alt_assoc)

pub test_is : test ≈ written.test
unfolding test written.test
test_is = in_alt same (in_alt same tests_beside) ⊳ turned alt_assoc ⊳ in_alt equality_test_is same
