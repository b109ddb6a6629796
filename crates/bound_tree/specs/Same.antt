-- Whether two bound expressions, or two units, are the same.
use Rattle.std.specs.Prelude.{nat_eq, Bool, true, false, ◌&&◌, List, [], ◌∷◌, Option, Some, None}
use Rattle.std.specs.Ordering.{is_eq}
use Rattle.std.specs.Str.{bytes_eq}
use denote.Enum.Bare.{sameb}
use Rattle.eng_entry.specs.Names.{is_same_name}
use Rattle.eng_value.specs.Causes.{is_same_cause}
use Rattle.eng_value.specs.Compare.{value_cmp}
use Rattle.eng_value.specs.contracts.affinity.Affinity as affinity
use Rattle.eng_value.specs.contracts.built.Built as built
use Rattle.eng_value.specs.contracts.builtin.Builtin as builtin
use Rattle.eng_value.specs.contracts.compare_op.CompareOp as compare_op
use Rattle.eng_value.specs.contracts.operators.ArithmeticOp as arithmetic
use Rattle.eng_value.specs.contracts.operators.IntegerOp as integer
use Rattle.eng_value.specs.declared.affinity.Affinity.{Affinity}
use Rattle.eng_value.specs.declared.builtin.Builtin.{Builtin}
use Rattle.eng_value.specs.declared.collation.Collation.TheVariants as collation
use Rattle.eng_value.specs.declared.collation.Collation.{Collation}
use Rattle.eng_value.specs.declared.operators.BinaryOperator.TheVariants as binary
use Rattle.eng_value.specs.declared.operators.BinaryOperator.{BinaryOperator}
use Rattle.eng_value.specs.declared.operators.Sides.{Sides}
use Rattle.eng_value.specs.declared.operators.UnaryOperator.TheVariants as unary
use Rattle.eng_value.specs.declared.operators.UnaryOperator.{UnaryOperator}
use Rattle.sql_words.specs.declared.literal.Literal.TheVariants as literal
use Rattle.sql_words.specs.declared.literal.Literal.{Literal}
use Rattle.bound_tree.specs.Exprs as e
use Rattle.bound_tree.specs.Exprs.{AMatch, AnArm, AnExpr, BoundArms, BoundExpr, BoundExprs, BoundMatches, NoArms, NoExprs, NoMatches}

-- ---- lists and options

-- as many, and each the same as the one in its place
abbrev pub all_same : {A B : Type 0} → (A → B → Bool) → List A → List B → Bool
all_same same [] [] = true
all_same same (a ∷ more) (b ∷ others) = same a b && all_same same more others
all_same same _ _ = false

abbrev pub both_same : {A B : Type 0} → (A → B → Bool) → Option A → Option B → Bool
both_same same None None = true
both_same same (Some a) (Some b) = same a b
both_same same _ _ = false

-- ---- what stands in expressions

abbrev pub same_truth : Bool → Bool → Bool
same_truth true b = b
same_truth false true = false
same_truth false false = true

abbrev pub same_affinity : Affinity → Affinity → Bool
same_affinity = sameb affinity.the_type

abbrev pub same_collation : Collation → Collation → Bool
same_collation (collation.Built a) (collation.Built b) = sameb built.the_type a b
same_collation (collation.Host a) (collation.Host b) = nat_eq a b
same_collation _ _ = false

abbrev pub same_sides : Sides → Sides → Bool
same_sides a b = same_affinity a.left b.left && same_affinity a.right b.right && same_collation a.collation b.collation

abbrev pub same_literal : Literal → Literal → Bool
same_literal (literal.Value a) (literal.Value b) = is_eq (value_cmp a b)
same_literal (literal.Bad a) (literal.Bad b) = is_same_cause a b
same_literal _ _ = false

abbrev pub same_unary : UnaryOperator → UnaryOperator → Bool
same_unary unary.Truth unary.Truth = true
same_unary unary.Negative unary.Negative = true
same_unary unary.BitNot unary.BitNot = true
same_unary unary.Not unary.Not = true
same_unary unary.IsNull unary.IsNull = true
same_unary unary.NotNull unary.NotNull = true
same_unary (unary.IsTruth a) (unary.IsTruth b) = same_truth a b
same_unary (unary.Cast a) (unary.Cast b) = same_affinity a b
same_unary _ _ = false

abbrev pub same_binary : BinaryOperator → BinaryOperator → Bool
same_binary (binary.Arithmetic a) (binary.Arithmetic b) = sameb arithmetic.the_type a b
same_binary (binary.Integers a) (binary.Integers b) = sameb integer.the_type a b
same_binary binary.Concatenate binary.Concatenate = true
same_binary binary.And binary.And = true
same_binary binary.Or binary.Or = true
same_binary (binary.Compare a s) (binary.Compare b t) = sameb compare_op.the_type a b && same_sides s t
same_binary (binary.Is s) (binary.Is t) = same_sides s t
same_binary binary.Like binary.Like = true
same_binary binary.Glob binary.Glob = true
same_binary _ _ = false

abbrev pub same_builtin : Builtin → Builtin → Bool
same_builtin = sameb builtin.the_type

-- ---- expressions; names of hosts are kept as they are written, so that they are compared as names

abbrev mutual
  pub same_expr : BoundExpr → BoundExpr → Bool
  same_expr (e.Literal a) (e.Literal b) = same_literal a b
  same_expr (e.Parameter m) (e.Parameter n) = nat_eq m n
  same_expr (e.Column i c) (e.Column j d) = nat_eq i j && nat_eq c d
  same_expr (e.Rowid i) (e.Rowid j) = nat_eq i j
  same_expr (e.Argument m) (e.Argument n) = nat_eq m n
  same_expr (e.Aggregate m) (e.Aggregate n) = nat_eq m n
  same_expr (e.Unary o a) (e.Unary p x) = same_unary o p && same_expr a x
  same_expr (e.Binary o a b) (e.Binary p x y) = same_binary o p && same_expr a x && same_expr b y
  same_expr (e.LikeEscaped a b c) (e.LikeEscaped x y z) = same_expr a x && same_expr b y && same_expr c z
  same_expr (e.Between s t a b c) (e.Between u v x y z) = same_sides s u && same_sides t v && same_expr a x && same_expr b y && same_expr c z
  same_expr (e.InList s a more) (e.InList t x others) = same_sides s t && same_expr a x && same_list more others
  same_expr (e.ChooseArm arms a) (e.ChooseArm others x) = same_arms arms others && same_expr a x
  same_expr (e.MatchArm a arms b) (e.MatchArm x others y) = same_expr a x && same_matches arms others && same_expr b y
  same_expr (e.Iif a b c) (e.Iif x y z) = same_expr a x && same_expr b y && same_expr c z
  same_expr (e.CoalesceList f more) (e.CoalesceList g others) = same_builtin f g && same_list more others
  same_expr (e.CallBuiltin f s more) (e.CallBuiltin g t others) = same_builtin f g && same_collation s t && same_list more others
  same_expr (e.CallHost f more) (e.CallHost g others) = is_same_name f g && same_list more others
  same_expr (e.ScalarOf m more) (e.ScalarOf n others) = nat_eq m n && same_list more others
  same_expr (e.ExistsIn m more) (e.ExistsIn n others) = nat_eq m n && same_list more others
  same_expr (e.InUnit s a m more) (e.InUnit t x n others) = same_sides s t && same_expr a x && nat_eq m n && same_list more others
  same_expr e.RaiseIgnore e.RaiseIgnore = true
  same_expr (e.RaiseAbort a) (e.RaiseAbort b) = bytes_eq a b
  same_expr _ _ = false

  pub same_list : BoundExprs → BoundExprs → Bool
  same_list NoExprs NoExprs = true
  same_list (AnExpr a more) (AnExpr x others) = same_expr a x && same_list more others
  same_list _ _ = false

  pub same_arms : BoundArms → BoundArms → Bool
  same_arms NoArms NoArms = true
  same_arms (AnArm a b more) (AnArm x y others) = same_expr a x && same_expr b y && same_arms more others
  same_arms _ _ = false

  pub same_matches : BoundMatches → BoundMatches → Bool
  same_matches NoMatches NoMatches = true
  same_matches (AMatch s a b more) (AMatch t x y others) = same_sides s t && same_expr a x && same_expr b y && same_matches more others
  same_matches _ _ = false

abbrev pub same_exprs : List BoundExpr → List BoundExpr → Bool
same_exprs = all_same same_expr
