-- One token of look-ahead tells what to do in each rule, and with which kinds each begins.
use Rattle.std.proofs.Common.{◌≡◌, true, false, not, ◌&&◌, [], ◌∷◌, refl}
use Rattle.sql_tree.specs.declared.token.TokenKind.TheVariants as kind
use Rattle.sql_grammar.specs.declared.counts.Role.{Role}
use Rattle.sql_grammar.specs.Rules.{is_clear, can_be_empty, first, more, apart, seq, many}
use Rattle.sql_grammar.specs.Grammar.{Name, Of, primary, signs, signed_primary, collation, collations, collated, more_concatenation, concatenation, more_product, product, more_sum, sum, more_bits, bits, more_relation, relation, equal_to, is_test, between, like, glob, positive_test, null_test, test, tests, equality, nots, negation, more_conjunction, conjunction, more_expr, expr, all_rules}
use Rattle.sql_grammar.specs.Bodies.{rules}
use Rattle.sql_grammar.proofs.Clear.{expr_clear}
use Rattle.sql_grammar.proofs.KindSets.{and_true, not_true}

-- ---- clear, as parts of what is

two_clear : {A B : Type 0} (r : Of A) (s : Of B) → is_clear Name rules (seq r s) ≡ true → (is_clear Name rules r ≡ true) × (is_clear Name rules s ≡ true)
two_clear r s h =
    let p = and_true (is_clear Name rules r) (is_clear Name rules s && apart (more r) (first s)) h in
    let q = and_true (is_clear Name rules s) (apart (more r) (first s)) p.1 in
    (p.0, q.0)

each_clear : {A : Type 0} (r : Of A) → is_clear Name rules (many r) ≡ true → (is_clear Name rules r ≡ true) × (can_be_empty r ≡ false)
each_clear r h =
    let p = and_true (is_clear Name rules r) (not (can_be_empty r) && apart (more r) (first r)) h in
    let q = and_true (not (can_be_empty r)) (apart (more r) (first r)) p.1 in
    (p.0, not_true (can_be_empty r) q.0)

expr_parts : (is_clear Name rules conjunction ≡ true) × (is_clear Name rules more_expr ≡ true)
unfolding expr
expr_parts = two_clear conjunction more_expr expr_clear

pub conjunction_clear : is_clear Name rules conjunction ≡ true
conjunction_clear = expr_parts.0

pub more_expr_clear : is_clear Name rules more_expr ≡ true
more_expr_clear = expr_parts.1

conjunction_parts : (is_clear Name rules negation ≡ true) × (is_clear Name rules more_conjunction ≡ true)
unfolding conjunction
conjunction_parts = two_clear negation more_conjunction conjunction_clear

pub negation_clear : is_clear Name rules negation ≡ true
negation_clear = conjunction_parts.0

pub more_conjunction_clear : is_clear Name rules more_conjunction ≡ true
more_conjunction_clear = conjunction_parts.1

negation_parts : (is_clear Name rules nots ≡ true) × (is_clear Name rules equality ≡ true)
unfolding negation
negation_parts = two_clear nots equality negation_clear

pub nots_clear : is_clear Name rules nots ≡ true
nots_clear = negation_parts.0

pub equality_clear : is_clear Name rules equality ≡ true
equality_clear = negation_parts.1

equality_parts : (is_clear Name rules relation ≡ true) × (is_clear Name rules tests ≡ true)
unfolding equality
equality_parts = two_clear relation tests equality_clear

pub relation_clear : is_clear Name rules relation ≡ true
relation_clear = equality_parts.0

pub tests_clear : is_clear Name rules tests ≡ true
tests_clear = equality_parts.1

relation_parts : (is_clear Name rules bits ≡ true) × (is_clear Name rules more_relation ≡ true)
unfolding relation
relation_parts = two_clear bits more_relation relation_clear

pub bits_clear : is_clear Name rules bits ≡ true
bits_clear = relation_parts.0

pub more_relation_clear : is_clear Name rules more_relation ≡ true
more_relation_clear = relation_parts.1

bits_parts : (is_clear Name rules sum ≡ true) × (is_clear Name rules more_bits ≡ true)
unfolding bits
bits_parts = two_clear sum more_bits bits_clear

pub sum_clear : is_clear Name rules sum ≡ true
sum_clear = bits_parts.0

pub more_bits_clear : is_clear Name rules more_bits ≡ true
more_bits_clear = bits_parts.1

sum_parts : (is_clear Name rules product ≡ true) × (is_clear Name rules more_sum ≡ true)
unfolding sum
sum_parts = two_clear product more_sum sum_clear

pub product_clear : is_clear Name rules product ≡ true
product_clear = sum_parts.0

pub more_sum_clear : is_clear Name rules more_sum ≡ true
more_sum_clear = sum_parts.1

product_parts : (is_clear Name rules concatenation ≡ true) × (is_clear Name rules more_product ≡ true)
unfolding product
product_parts = two_clear concatenation more_product product_clear

pub concatenation_clear : is_clear Name rules concatenation ≡ true
concatenation_clear = product_parts.0

pub more_product_clear : is_clear Name rules more_product ≡ true
more_product_clear = product_parts.1

concatenation_parts : (is_clear Name rules collated ≡ true) × (is_clear Name rules more_concatenation ≡ true)
unfolding concatenation
concatenation_parts = two_clear collated more_concatenation concatenation_clear

pub collated_clear : is_clear Name rules collated ≡ true
collated_clear = concatenation_parts.0

pub more_concatenation_clear : is_clear Name rules more_concatenation ≡ true
more_concatenation_clear = concatenation_parts.1

collated_parts : (is_clear Name rules signed_primary ≡ true) × (is_clear Name rules collations ≡ true)
unfolding collated
collated_parts = two_clear signed_primary collations collated_clear

pub signed_primary_clear : is_clear Name rules signed_primary ≡ true
signed_primary_clear = collated_parts.0

pub collations_clear : is_clear Name rules collations ≡ true
collations_clear = collated_parts.1

signed_primary_parts : (is_clear Name rules signs ≡ true) × (is_clear Name rules primary ≡ true)
unfolding signed_primary
signed_primary_parts = two_clear signs primary signed_primary_clear

pub signs_clear : is_clear Name rules signs ≡ true
signs_clear = signed_primary_parts.0

pub primary_clear : is_clear Name rules primary ≡ true
primary_clear = signed_primary_parts.1

tests_parts : (is_clear Name rules test ≡ true) × (can_be_empty test ≡ false)
unfolding tests
tests_parts = each_clear test tests_clear

pub test_clear : is_clear Name rules test ≡ true
test_clear = tests_parts.0

pub test_solid : can_be_empty test ≡ false
test_solid = tests_parts.1

collations_parts : (is_clear Name rules collation ≡ true) × (can_be_empty collation ≡ false)
unfolding collations
collations_parts = each_clear collation collations_clear

pub collation_clear : is_clear Name rules collation ≡ true
collation_clear = collations_parts.0

pub collation_solid : can_be_empty collation ≡ false
collation_solid = collations_parts.1

-- ---- the kinds that they begin with

pub first_equal_to : first equal_to ≡ kind.Equal ∷ kind.DoubleEqual ∷ kind.LessGreater ∷ kind.BangEqual ∷ []
unfolding all_rules
first_equal_to = refl

pub first_is_test : first is_test ≡ kind.Is ∷ []
unfolding all_rules
first_is_test = refl

pub first_null_test : first null_test ≡ kind.IsNull ∷ kind.NotNull ∷ []
unfolding all_rules
first_null_test = refl

pub first_collation : first collation ≡ kind.Collate ∷ []
unfolding all_rules
first_collation = refl

pub first_test : first test ≡ kind.Equal ∷ kind.DoubleEqual ∷ kind.LessGreater ∷ kind.BangEqual ∷ kind.Is ∷ kind.Between ∷ kind.Like ∷ kind.Glob ∷ kind.In ∷ kind.IsNull ∷ kind.NotNull ∷ kind.Not ∷ []
unfolding all_rules
first_test = refl

pub first_between : (m : Role) → first (between m) ≡ kind.Between ∷ []
unfolding all_rules
first_between m = refl

pub first_like : (m : Role) → first (like m) ≡ kind.Like ∷ []
unfolding all_rules
first_like m = refl

pub first_glob : (m : Role) → first (glob m) ≡ kind.Glob ∷ []
unfolding all_rules
first_glob m = refl

pub first_positive_test : (m : Role) → first (positive_test m) ≡ kind.Between ∷ kind.Like ∷ kind.Glob ∷ kind.In ∷ []
unfolding all_rules
first_positive_test m = refl

pub ruleset test_firsts = (first_equal_to, first_is_test, first_positive_test, first_null_test)

pub ruleset positive_test_firsts = (first_between, first_like, first_glob)
