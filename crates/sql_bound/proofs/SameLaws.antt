-- Each expression is the same as itself.
use Rattle.std.proofs.Common.{◌≡◌, ◌∙◌, ℕ, nat_eq, Bool, true, false, ◌&&◌, List, refl, ap}
use Rattle.std.specs.Ordering.{is_eq}
use Rattle.std.specs.Str.{bytes_eq}
use Rattle.std.proofs.lemmas.Bool.Decides.{Decides-eqb}
use Rattle.std.proofs.lemmas.Cmp.{int_cmp_total, tied_itself}
use Rattle.std.proofs.lemmas.Map.Text.{is_eq-slice_cmp}
use Rattle.std.proofs.lemmas.Slice.Eq.{bytes_eq-Decides}
use denote.Enum.Bare.{true_same}
use Rattle.eng_text.specs.Texts.{folded}
use Rattle.eng_value.specs.Causes.{cause_key}
use Rattle.eng_value.specs.Compare.{value_cmp}
use Rattle.eng_value.specs.contracts.affinity.Affinity as affinity
use Rattle.eng_value.specs.contracts.built.Built as built
use Rattle.eng_value.specs.contracts.builtin.Builtin as builtin
use Rattle.eng_value.specs.contracts.compare_op.CompareOp as compare_op
use Rattle.eng_value.specs.contracts.operators.ArithmeticOp as arithmetic
use Rattle.eng_value.specs.contracts.operators.IntegerOp as integer
use Rattle.eng_value.specs.declared.affinity.Affinity.{Affinity}
use Rattle.eng_value.specs.declared.builtin.Builtin.{Builtin}
use Rattle.eng_value.specs.declared.collation.Collation.TheVariants as collation
use Rattle.eng_value.specs.declared.collation.Collation.{Collation}
use Rattle.eng_value.specs.declared.operators.BinaryOperator.TheVariants as binary
use Rattle.eng_value.specs.declared.operators.BinaryOperator.{BinaryOperator}
use Rattle.eng_value.specs.declared.operators.Sides.{Sides}
use Rattle.eng_value.specs.declared.operators.UnaryOperator.TheVariants as unary
use Rattle.eng_value.specs.declared.operators.UnaryOperator.{UnaryOperator}
use Rattle.eng_value.specs.declared.value.Value.TheVariants.{Null, Integer, Text, Blob}
use Rattle.eng_value.specs.declared.value.Value.{Value}
use Rattle.sql_words.specs.declared.literal.Literal.TheVariants as literal
use Rattle.sql_words.specs.declared.literal.Literal.{Literal}
use Rattle.bound_tree.specs.Exprs as e
use Rattle.bound_tree.specs.Exprs.{AMatch, AnArm, AnExpr, BoundArms, BoundExpr, BoundExprs, BoundMatches, NoArms, NoExprs, NoMatches}
use Rattle.bound_tree.specs.Same.{same_affinity, same_arms, same_binary, same_builtin, same_collation, same_expr, same_list, same_literal, same_matches, same_sides, same_truth, same_unary}

-- ---- tests that pass together

pub both : {a b : Bool} → a ≡ true → b ≡ true → (a && b) ≡ true
both h k = rw (h, k) refl

nat_itself : (n : ℕ) → nat_eq n n ≡ true
nat_itself n = (Decides-eqb n n).1 refl

bytes_itself : (bs : List ℕ) → bytes_eq bs bs ≡ true
bytes_itself bs = (bytes_eq-Decides bs bs).1 refl

-- ---- what stands in expressions

affinity_itself : (a : Affinity) → same_affinity a a ≡ true
affinity_itself a = true_same affinity.the_type a a refl

builtin_itself : (f : Builtin) → same_builtin f f ≡ true
builtin_itself f = true_same builtin.the_type f f refl

collation_itself : (c : Collation) → same_collation c c ≡ true
collation_itself (collation.Built b) = true_same built.the_type b b refl
collation_itself (collation.Host n) = nat_itself n

sides_itself : (s : Sides) → same_sides s s ≡ true
sides_itself s = both (both (affinity_itself s.left) (affinity_itself s.right)) (collation_itself s.collation)

value_itself : (v : Value) → is_eq (value_cmp v v) ≡ true
value_itself Null = refl
value_itself (Integer n) = ap is_eq (tied_itself int_cmp_total n)
value_itself (Text t) = is_eq-slice_cmp t t ∙ bytes_itself t
value_itself (Blob b) = is_eq-slice_cmp b b ∙ bytes_itself b

literal_itself : (l : Literal) → same_literal l l ≡ true
literal_itself (literal.Value v) = value_itself v
literal_itself (literal.Bad why) = bytes_itself (cause_key why)

truth_itself : (b : Bool) → same_truth b b ≡ true
truth_itself true = refl
truth_itself false = refl

unary_itself : (o : UnaryOperator) → same_unary o o ≡ true
unary_itself unary.Truth = refl
unary_itself unary.Negative = refl
unary_itself unary.BitNot = refl
unary_itself unary.Not = refl
unary_itself unary.IsNull = refl
unary_itself unary.NotNull = refl
unary_itself (unary.IsTruth b) = truth_itself b
unary_itself (unary.Cast a) = affinity_itself a

binary_itself : (o : BinaryOperator) → same_binary o o ≡ true
binary_itself (binary.Arithmetic a) = true_same arithmetic.the_type a a refl
binary_itself (binary.Integers a) = true_same integer.the_type a a refl
binary_itself binary.Concatenate = refl
binary_itself binary.And = refl
binary_itself binary.Or = refl
binary_itself (binary.Compare a s) = both (true_same compare_op.the_type a a refl) (sides_itself s)
binary_itself (binary.Is s) = sides_itself s
binary_itself binary.Like = refl
binary_itself binary.Glob = refl

-- ---- expressions

mutual
  pub expr_itself : (x : BoundExpr) → same_expr x x ≡ true
  expr_itself (e.Literal l) = literal_itself l
  expr_itself (e.Parameter m) = nat_itself m
  expr_itself (e.Column i c) = both (nat_itself i) (nat_itself c)
  expr_itself (e.Rowid i) = nat_itself i
  expr_itself (e.Argument m) = nat_itself m
  expr_itself (e.Aggregate m) = nat_itself m
  expr_itself (e.Unary o a) = both (unary_itself o) (expr_itself a)
  expr_itself (e.Binary o a b) = both (both (binary_itself o) (expr_itself a)) (expr_itself b)
  expr_itself (e.LikeEscaped a b c) = both (both (expr_itself a) (expr_itself b)) (expr_itself c)
  expr_itself (e.Between s t a b c) = both (both (both (both (sides_itself s) (sides_itself t)) (expr_itself a)) (expr_itself b)) (expr_itself c)
  expr_itself (e.InList s a more) = both (both (sides_itself s) (expr_itself a)) (list_itself more)
  expr_itself (e.ChooseArm arms a) = both (arms_itself arms) (expr_itself a)
  expr_itself (e.MatchArm a arms b) = both (both (expr_itself a) (matches_itself arms)) (expr_itself b)
  expr_itself (e.Iif a b c) = both (both (expr_itself a) (expr_itself b)) (expr_itself c)
  expr_itself (e.CoalesceList f more) = both (builtin_itself f) (list_itself more)
  expr_itself (e.CallBuiltin f c more) = both (both (builtin_itself f) (collation_itself c)) (list_itself more)
  expr_itself (e.CallHost f more) = both (bytes_itself (folded f)) (list_itself more)
  expr_itself (e.ScalarOf m more) = both (nat_itself m) (list_itself more)
  expr_itself (e.ExistsIn m more) = both (nat_itself m) (list_itself more)
  expr_itself (e.InUnit s a m more) = both (both (both (sides_itself s) (expr_itself a)) (nat_itself m)) (list_itself more)
  expr_itself e.RaiseIgnore = refl
  expr_itself (e.RaiseAbort text) = bytes_itself text

  list_itself : (xs : BoundExprs) → same_list xs xs ≡ true
  list_itself NoExprs = refl
  list_itself (AnExpr a more) = both (expr_itself a) (list_itself more)

  arms_itself : (xs : BoundArms) → same_arms xs xs ≡ true
  arms_itself NoArms = refl
  arms_itself (AnArm a b more) = both (both (expr_itself a) (expr_itself b)) (arms_itself more)

  matches_itself : (xs : BoundMatches) → same_matches xs xs ≡ true
  matches_itself NoMatches = refl
  matches_itself (AMatch s a b more) = both (both (both (sides_itself s) (expr_itself a)) (expr_itself b)) (matches_itself more)
