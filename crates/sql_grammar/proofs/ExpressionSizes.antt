-- A tree of an expression is no larger than the number of its tokens: each rule keeps to it.
use Rattle.std.proofs.Common.{◌≡◌, ℕ, ◌+◌, ◌≤◌, List, [], ◌∷◌, length, map, Option, Some, None, refl, arith}
use Rattle.sql_tree.specs.Sizes.{total, size_of, size_of_arm, size_of_filter, size_of_table}
use Rattle.sql_tree.specs.declared.expr.Arm.{Arm}
use Rattle.sql_tree.specs.declared.expr.BinaryOp.{BinaryOp}
use Rattle.sql_tree.specs.declared.expr.BinaryOp.TheVariants as binary
use Rattle.sql_tree.specs.declared.expr.Expr.{Expr}
use Rattle.sql_tree.specs.declared.expr.UnaryOp.TheVariants as unary
use Rattle.sql_tree.specs.declared.token.Token.{Token}
use Rattle.sql_tree.specs.declared.token.TokenKind.{TokenKind}
use Rattle.sql_grammar.specs.declared.counts.Role.{Role}
use Rattle.sql_grammar.specs.declared.counts.Role.TheVariants as role
use Rattle.sql_grammar.specs.Marks.{Marked}
use Rattle.sql_grammar.specs.Rules.{Kinds, Lang, tok, seq, many, nest}
use Rattle.sql_grammar.specs.Grammar.{Name, Of, maybe, after, list_of, applied, suffixed, infix_by, or_none, or_no_arguments, equality_op, and_op, or_op, with_signs, with_nots, sign_op, null_op, literal, parameter, filter, call, of_table, behind_name, named, enclosed, existing, casting, choosing, raising, primary, signs, signed_primary, collation, collations, collated, concatenation_op, more_concatenation, concatenation, product_op, more_product, product, sum_op, more_sum, sum, bits_op, more_bits, bits, relation_op, more_relation, relation, equal_to, distinct_from, is_op, is_test, between, like, glob, member_of, positive_test, null_test, negated, test, tests, equality, nots, negation, more_conjunction, conjunction, more_expr, expr, exprs, tails, other_primary, signed_other, negated_first, other_expr, arm, arms, otherwise, case, some_arguments, raise_what}
use Rattle.sql_grammar.specs.Grammar as name
use Rattle.sql_grammar.specs.Bodies.{rules}
use Rattle.sql_grammar.proofs.SizeClauses.{size_of-Literal, size_of-Parameter, size_of-Column, size_of-TableColumn, size_of-Unary, size_of-Binary, size_of-Between, size_of-Like, size_of-Exists, size_of-Collate, size_of-Cast, size_of-Call, size_of-Case, size_of-RaiseIgnore, size_of-RaiseAbort, size_of_arm-is}
use Rattle.sql_grammar.proofs.Weights.{Fact, Weighs, weighs_tok, weighs_pure, weighs_alt, weighs_to, weighs_seq, weighs_both, weighs_many, weighs_nest}

-- ---- what is true of the trees of the rules

-- nothing is asked
abbrev pub Anything : {A : Type 0} → Fact A
Anything n a = Unit {0}

-- a token at least
abbrev pub SomeToken : {A : Type 0} → Fact A
SomeToken n a = 1 ≤ n

abbrev pub Within : Fact Expr
Within n e = size_of e ≤ n

abbrev pub Optional : Fact (Option Expr)
Optional n o = size_of_filter o ≤ n

abbrev pub Together : Fact (List Expr)
Together n es = total (map size_of es) ≤ n

abbrev pub WithinArm : Fact Arm
WithinArm n a = size_of_arm a ≤ n

abbrev pub TogetherArms : Fact (List Arm)
TogetherArms n xs = total (map size_of_arm xs) ≤ n

abbrev pub AsMany : {A : Type 0} → Fact (List A)
AsMany n xs = length xs ≤ n

-- what stands behind an operand, and makes a tree of it
abbrev pub Adds : Fact (Expr → Expr)
Adds n f = (m : ℕ) (l : Expr) → size_of l ≤ m → size_of (f l) ≤ m + n

abbrev pub AllAdd : Fact (List (Expr → Expr))
AllAdd n fs = (m : ℕ) (l : Expr) → size_of l ≤ m → size_of (applied l fs) ≤ m + n

-- what stands behind a name, and makes a tree of it
abbrev pub BehindName : Fact (Token → Expr)
BehindName n f = (t : Token) → size_of (f t) ≤ 1 + n

-- what stands between brackets; a query counts with its brackets, a CASE with its two words, and a list behind IN with that word
abbrev pub Enclosed : (A : Type 0) → Name A → Fact A
Enclosed A name.parenthesized n e = size_of e ≤ n + 2
Enclosed A name.row n es = total (map size_of es) ≤ n
Enclosed A name.arguments n p = total (map size_of p.1) ≤ n
Enclosed A name.condition n e = size_of e ≤ n
Enclosed A name.cast n p = size_of p.0 ≤ n
Enclosed A name.choice n e = size_of e ≤ n + 2
Enclosed A name.members n f = Adds (1 + n) f
Enclosed A name.raise n e = size_of e ≤ n
Enclosed A name.expression n e = size_of e ≤ n
Enclosed A name.columns n t = size_of_table t ≤ n
Enclosed A _ n a = Unit {0}

-- ---- runs of signs and of NOT

with_signs-size : (ts : List Token) (x : Expr) → size_of (with_signs ts x) ≡ length ts + size_of x
with_signs-size [] x = omega arith
with_signs-size (t ∷ ts) x = let e = with_signs-size ts x in let f = size_of-Unary (sign_op t.kind) (with_signs ts x) in omega arith

with_nots-size : (ts : List Token) (x : Expr) → size_of (with_nots ts x) ≡ length ts + size_of x
with_nots-size [] x = omega arith
with_nots-size (t ∷ ts) x = let e = with_nots-size ts x in let f = size_of-Unary unary.Not (with_nots ts x) in omega arith

module _ (inner : (A : Type 0) → Name A → Lang A) (known : (A : Type 0) (n : Name A) (w : List Marked) (a : A) → inner A n w a → Enclosed A n (length w) a) where
  abbrev Keeps : {A : Type 0} → Fact A → Of A → Type 0
  Keeps P r = Weighs Name rules inner P r

  -- ---- words of grammars

  pub anything : {A : Type 0} {r : Of A} → Keeps Anything r
  anything = record { by = λ w a d. tt }

  pub one_token : {m : Role} {ks : Kinds} → Keeps (λ n t. n ≡ 1) (tok m ks)
  one_token = weighs_tok (λ t. refl)

  pub after_one : {A : Type 0} {m : Role} {k : TokenKind} {r : Of A} {P Q : Fact A} → Keeps P r → ((n : ℕ) (a : A) → P n a → Q (1 + n) a) → Keeps Q (after m k r)
  after_one f g = weighs_both one_token f (λ m n t a h p. rw h (g n a p))

  pub between_brackets : {A : Type 0} {m k : Role} {o c : Kinds} {n : Name A} {Q : Fact A} → ((count : ℕ) (a : A) → Enclosed A n count a → Q (count + 2) a) → Keeps Q (nest m o n k c)
  between_brackets {A} {n} f = weighs_nest {P = Enclosed A n} (known A n) f

  pub maybe_keeps : {A : Type 0} {r : Of A} {P : Fact A} {Q : Fact (Option A)} → Keeps P r → Q 0 None → ((n : ℕ) (a : A) → P n a → Q n (Some a)) → Keeps Q (maybe r)
  maybe_keeps f none g = weighs_alt (weighs_to f g) (weighs_pure none)

  pub list_keeps : {A : Type 0} {r : Of A} {P : Fact A} {Q : Fact (List A)} → Keeps P r → ((n : ℕ) (a : A) → P n a → P (1 + n) a)
      → Q 0 [] → ((m n : ℕ) (a : A) (more : List A) → P m a → Q n more → Q (m + n) (a ∷ more)) → Keeps Q (list_of r)
  list_keeps f grow none g = weighs_both f (weighs_many (after_one f grow) none g) g

  infix_adds : {ks : Kinds} {r : Of Expr} (g : TokenKind → BinaryOp) → Keeps Within r → Keeps Adds (infix_by ks g r)
  infix_adds g f = weighs_both one_token f (λ m n t a h q k l p. let e = size_of-Binary (g t.kind) l a in omega arith)

  all_add : {r : Of (Expr → Expr)} → Keeps Adds r → Keeps AllAdd (many r)
  all_add f = weighs_many f (λ m l h. omega arith) (λ m n f fs p q k l h. let e = q (k + m) (f l) (p k l h) in omega arith)

  suffixed_keeps : {r : Of Expr} {s : Of (List (Expr → Expr))} → Keeps Within r → Keeps AllAdd s → Keeps Within (suffixed r s)
  suffixed_keeps f g = weighs_both f g (λ m n a fs p q. q m a p)

  -- ---- primaries

  literal_keeps : Keeps Within literal
  unfolding literal
  literal_keeps = weighs_to one_token (λ n t h. let e = size_of-Literal t in omega arith)

  parameter_keeps : Keeps Within parameter
  unfolding parameter
  parameter_keeps = weighs_to one_token (λ n t h. let e = size_of-Parameter t in omega arith)

  filter_keeps : Keeps Optional filter
  unfolding filter
  filter_keeps = maybe_keeps {P = Within} (after_one {P = Within} (between_brackets (λ n a h. omega arith)) (λ n a h. omega arith)) (omega arith) (λ n a h. h)

  pub call_keeps : Keeps BehindName call
  unfolding call
  call_keeps = weighs_both {P = λ n p. Together n p.1} (between_brackets (λ n a h. omega arith)) filter_keeps (λ m n a b p q t. let e = size_of-Call t a.0 a.1 b in omega arith)

  of_table_keeps : Keeps BehindName of_table
  unfolding of_table
  of_table_keeps = weighs_to anything (λ n c h t. let e = size_of-TableColumn t c in omega arith)

  behind_name_keeps : Keeps BehindName behind_name
  unfolding behind_name
  behind_name_keeps = weighs_alt of_table_keeps (weighs_alt call_keeps (weighs_pure (λ t. let e = size_of-Column t in omega arith)))

  named_keeps : Keeps Within named
  unfolding named
  named_keeps = weighs_both one_token behind_name_keeps (λ m n t f h q. let e = q t in omega arith)

  enclosed_keeps : Keeps Within enclosed
  unfolding enclosed
  enclosed_keeps = between_brackets (λ n a h. h)

  existing_keeps : Keeps Within existing
  unfolding existing
  existing_keeps = weighs_to (after_one {Q = SomeToken} anything (λ n q h. omega arith)) (λ n q h. let e = size_of-Exists q in omega arith)

  casting_keeps : Keeps Within casting
  unfolding casting
  casting_keeps = weighs_to (after_one {P = λ n p. Within n p.0} {Q = λ n p. 1 + size_of p.0 ≤ n} (between_brackets (λ n a h. omega arith)) (λ n a h. omega arith)) (λ n a h. let e = size_of-Cast a.0 a.1 in omega arith)

  choosing_keeps : Keeps Within choosing
  unfolding choosing
  choosing_keeps = between_brackets (λ n a h. h)

  raising_keeps : Keeps Within raising
  unfolding raising
  raising_keeps = after_one {P = Within} (between_brackets (λ n a h. omega arith)) (λ n a h. omega arith)

  primary_keeps : Keeps Within primary
  unfolding primary
  primary_keeps = weighs_alt literal_keeps (weighs_alt parameter_keeps (weighs_alt named_keeps (weighs_alt enclosed_keeps (weighs_alt existing_keeps (weighs_alt casting_keeps (weighs_alt choosing_keeps raising_keeps))))))

  -- ---- operators

  signs_keep : Keeps AsMany signs
  unfolding signs
  signs_keep = weighs_many one_token (omega arith) (λ m n t ts h q. omega arith)

  signed_primary_keeps : Keeps Within signed_primary
  unfolding signed_primary
  signed_primary_keeps = weighs_both signs_keep primary_keeps (λ m n ts x p q. let e = with_signs-size ts x in omega arith)

  collation_adds : Keeps Adds collation
  unfolding collation
  collation_adds = weighs_to (after_one {Q = SomeToken} one_token (λ n t h. omega arith)) (λ n t h m l p. let e = size_of-Collate l t in omega arith)

  collations_add : Keeps AllAdd collations
  unfolding collations
  collations_add = all_add collation_adds

  collated_keeps : Keeps Within collated
  unfolding collated
  collated_keeps = suffixed_keeps signed_primary_keeps collations_add

  more_concatenation_adds : Keeps AllAdd more_concatenation
  unfolding more_concatenation
  more_concatenation_adds = all_add (infix_adds concatenation_op collated_keeps)

  concatenation_keeps : Keeps Within concatenation
  unfolding concatenation
  concatenation_keeps = suffixed_keeps collated_keeps more_concatenation_adds

  more_product_adds : Keeps AllAdd more_product
  unfolding more_product
  more_product_adds = all_add (infix_adds product_op concatenation_keeps)

  product_keeps : Keeps Within product
  unfolding product
  product_keeps = suffixed_keeps concatenation_keeps more_product_adds

  more_sum_adds : Keeps AllAdd more_sum
  unfolding more_sum
  more_sum_adds = all_add (infix_adds sum_op product_keeps)

  sum_keeps : Keeps Within sum
  unfolding sum
  sum_keeps = suffixed_keeps product_keeps more_sum_adds

  more_bits_adds : Keeps AllAdd more_bits
  unfolding more_bits
  more_bits_adds = all_add (infix_adds bits_op sum_keeps)

  bits_keeps : Keeps Within bits
  unfolding bits
  bits_keeps = suffixed_keeps sum_keeps more_bits_adds

  more_relation_adds : Keeps AllAdd more_relation
  unfolding more_relation
  more_relation_adds = all_add (infix_adds relation_op bits_keeps)

  relation_keeps : Keeps Within relation
  unfolding relation
  relation_keeps = suffixed_keeps bits_keeps more_relation_adds

  -- ---- tests

  equal_to_adds : Keeps Adds equal_to
  unfolding equal_to
  equal_to_adds = infix_adds equality_op relation_keeps

  is_test_adds : Keeps Adds is_test
  unfolding is_test
  is_test_adds =
      let operand : Keeps (λ n p. Within n p.1) (seq distinct_from relation) = weighs_seq anything relation_keeps (λ m n a b p q. omega arith) in
      weighs_to (after_one {P = λ n p. Within n p.1.1} {Q = λ n p. 1 + size_of p.1.1 ≤ n} (weighs_seq anything operand (λ m n a b p q. omega arith)) (λ n a h. omega arith))
      (λ n a h m l p. let e = size_of-Binary (is_op a.0 a.1.0) l a.1.1 in omega arith)

  between_adds : (m : Role) → Keeps Adds (between m)
  unfolding between
  between_adds m = weighs_to
      (after_one {P = λ n p. size_of p.0 + size_of p.1 ≤ n} {Q = λ n p. 1 + size_of p.0 + size_of p.1 ≤ n} (weighs_seq relation_keeps (after_one {Q = Within} relation_keeps (λ n a h. omega arith)) (λ m n a b p q. omega arith)) (λ n a h. omega arith))
      (λ n a h m l p. let e = size_of-Between l a.0 a.1 in omega arith)

  like_adds : (m : Role) → Keeps Adds (like m)
  unfolding like
  like_adds m = weighs_to
      (after_one {P = λ n p. size_of p.0 + size_of_filter p.1 ≤ n} {Q = λ n p. 1 + size_of p.0 + size_of_filter p.1 ≤ n}
      (weighs_seq relation_keeps (maybe_keeps {Q = Optional} (after_one {Q = Within} relation_keeps (λ n a h. omega arith)) (omega arith) (λ n a h. h)) (λ m n a b p q. omega arith)) (λ n a h. omega arith))
      (λ n a h m l p. let e = size_of-Like l a.0 a.1 in omega arith)

  glob_adds : (m : Role) → Keeps Adds (glob m)
  unfolding glob
  glob_adds m = weighs_to (after_one {Q = λ n a. 1 + size_of a ≤ n} relation_keeps (λ n a h. omega arith)) (λ n a h m l p. let e = size_of-Binary binary.Glob l a in omega arith)

  member_of_adds : (m : Role) → Keeps Adds (member_of m)
  unfolding member_of
  member_of_adds m = after_one (between_brackets {Q = λ n f. Adds (1 + n) f} (λ n f h m l p. let e = h m l p in omega arith)) (λ n f h. h)

  positive_test_adds : (m : Role) → Keeps Adds (positive_test m)
  unfolding positive_test
  positive_test_adds m = weighs_alt (between_adds m) (weighs_alt (like_adds m) (weighs_alt (glob_adds m) (member_of_adds m)))

  null_test_adds : Keeps Adds null_test
  unfolding null_test
  null_test_adds = weighs_to one_token (λ n t h m l p. let e = size_of-Unary (null_op t.kind) l in omega arith)

  negated_adds : Keeps (λ n f. Adds (1 + n) f) negated
  unfolding negated
  negated_adds = weighs_alt
      (weighs_to (positive_test_adds role.Quiet) (λ n f h m l p. let e = size_of-Unary unary.Not (f l) in let q = h m l p in omega arith))
      (weighs_to one_token (λ n t h m l p. let e = size_of-Unary unary.NotNull l in omega arith))

  test_adds : Keeps Adds test
  unfolding test
  test_adds = weighs_alt equal_to_adds (weighs_alt is_test_adds (weighs_alt (positive_test_adds role.Operator) (weighs_alt null_test_adds (after_one negated_adds (λ n f h. h)))))

  tests_add : Keeps AllAdd tests
  unfolding tests
  tests_add = all_add test_adds

  equality_keeps : Keeps Within equality
  unfolding equality
  equality_keeps = suffixed_keeps relation_keeps tests_add

  -- ---- NOT, AND, OR

  nots_keep : Keeps AsMany nots
  unfolding nots
  nots_keep = weighs_many one_token (omega arith) (λ m n t ts h q. omega arith)

  negation_keeps : Keeps Within negation
  unfolding negation
  negation_keeps = weighs_both nots_keep equality_keeps (λ m n ts x p q. let e = with_nots-size ts x in omega arith)

  more_conjunction_adds : Keeps AllAdd more_conjunction
  unfolding more_conjunction
  more_conjunction_adds = all_add (infix_adds and_op negation_keeps)

  conjunction_keeps : Keeps Within conjunction
  unfolding conjunction
  conjunction_keeps = suffixed_keeps negation_keeps more_conjunction_adds

  more_expr_adds : Keeps AllAdd more_expr
  unfolding more_expr
  more_expr_adds = all_add (infix_adds or_op conjunction_keeps)

  pub expr_keeps : Keeps Within expr
  unfolding expr
  expr_keeps = suffixed_keeps conjunction_keeps more_expr_adds

  pub exprs_keep : Keeps Together exprs
  unfolding exprs
  exprs_keep = list_keeps expr_keeps (λ n a h. omega arith) (omega arith) (λ m n a more p q. omega arith)

  -- ---- an expression in two steps

  -- one level's operators, and what goes on behind them
  then_adds : {B : Type 0} {r : Of (List (Expr → Expr))} {s : Of B} (g : B → Expr → Expr) → Keeps AllAdd r → Keeps (λ n b. Adds n (g b)) s → Keeps (λ n p. Adds n (λ x. g p.1 (applied x p.0))) (seq r s)
  then_adds g f h = weighs_seq f h (λ m n fs b p q k l e. let d = q (k + m) (applied l fs) (p k l e) in omega arith)

  pub tails_add : Keeps Adds tails
  unfolding tails
  tails_add = weighs_to
      (then_adds _ collations_add (then_adds _ more_concatenation_adds (then_adds _ more_product_adds (then_adds _ more_sum_adds (then_adds _ more_bits_adds (then_adds _ more_relation_adds (then_adds _ tests_add (then_adds (λ fs x. applied x fs) more_conjunction_adds more_expr_adds))))))))
      (λ n p h. h)

  other_primary_keeps : Keeps Within other_primary
  unfolding other_primary
  other_primary_keeps = weighs_alt literal_keeps (weighs_alt parameter_keeps (weighs_alt enclosed_keeps (weighs_alt existing_keeps (weighs_alt casting_keeps (weighs_alt choosing_keeps raising_keeps)))))

  signed_other_keeps : Keeps Within signed_other
  unfolding signed_other
  signed_other_keeps = weighs_alt (weighs_both one_token signed_primary_keeps (λ m n t x h q. let e = with_signs-size (t ∷ []) x in omega arith)) other_primary_keeps

  pub other_expr_keeps : Keeps Within other_expr
  unfolding other_expr
  other_expr_keeps = weighs_alt
      (weighs_both {P = λ n t. n ≡ 1} {Q = λ n p. (t : Token) → size_of (negated_first (t, p)) ≤ 1 + n} one_token
      (weighs_seq negation_keeps (then_adds (λ fs x. applied x fs) more_conjunction_adds more_expr_adds)
      (λ m n x p h q t. let e = with_nots-size (t ∷ []) x in let f = q (1 + m) (with_nots (t ∷ []) x) (omega arith) in omega arith))
      (λ m n t p h q. let e = q t in omega arith))
      (weighs_both signed_other_keeps tails_add (λ m n x f p q. q m x p))

  -- ---- between brackets

  arm_keeps : Keeps WithinArm arm
  unfolding arm
  arm_keeps = weighs_both (after_one {Q = λ n a. 1 + size_of a ≤ n} expr_keeps (λ n a h. omega arith)) (after_one {Q = Within} expr_keeps (λ n a h. omega arith)) (λ m n a b p q. let e = size_of_arm-is a b in omega arith)

  arms_keep : Keeps TogetherArms arms
  unfolding arms
  arms_keep =
      weighs_both arm_keeps (weighs_many {Q = TogetherArms} arm_keeps (omega arith) (λ m n a more p q. omega arith)) (λ m n a more p q. omega arith)

  otherwise_keeps : Keeps Optional otherwise
  unfolding otherwise
  otherwise_keeps = maybe_keeps (after_one {Q = Within} expr_keeps (λ n a h. omega arith)) (omega arith) (λ n a h. h)

  pub case_keeps : Keeps (λ n e. Within (n + 2) e) case
  unfolding case
  case_keeps = weighs_alt
      (weighs_both arms_keep otherwise_keeps (λ m n a b p q. let e = size_of-Case None a b in omega arith))
      (weighs_both expr_keeps (weighs_seq {R = λ n p. total (map size_of_arm p.0) + size_of_filter p.1 ≤ n} arms_keep otherwise_keeps (λ m n a b p q. omega arith)) (λ m n a b p q. let e = size_of-Case (Some a) b.0 b.1 in omega arith))

  pub some_arguments_keep : Keeps (λ n p. Together n p.1) some_arguments
  unfolding some_arguments
  some_arguments_keep = weighs_alt (weighs_to one_token (λ n t h. omega arith)) (weighs_alt (weighs_to (after_one {Q = Together} exprs_keep (λ n a h. omega arith)) (λ n es h. h)) (weighs_to exprs_keep (λ n es h. h)))

  pub raise_what_keeps : Keeps Within raise_what
  unfolding raise_what
  raise_what_keeps = weighs_alt
      (weighs_to one_token (λ n t h. let e = size_of-RaiseIgnore in omega arith))
      (weighs_to (after_one {P = SomeToken} {Q = SomeToken} (after_one {Q = SomeToken} one_token (λ n a h. omega arith)) (λ n a h. omega arith)) (λ n t h. let e = size_of-RaiseAbort t in omega arith))
