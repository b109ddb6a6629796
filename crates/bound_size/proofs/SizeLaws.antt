-- A bound expression is at most twice as large as the tree that it is bound from, where it asks no query, no result has a name, and each
-- column of the own FROM is one node.
use Rattle.std.proofs.Common.{◌≡◌, ◌≤◌, ℕ, ◌+◌, ◌*◌, Bool, true, false, ◌&&◌, List, [], ◌∷◌, ◌++◌, map, length, Option, Some, None, unwrap_or, codes, Ok, subst, arith}
use Rattle.std.specs.Option.{option_map}
use Rattle.sql_tree.specs.Layers.{ExprLayer}
use Rattle.sql_tree.specs.Sizes.{size_step, or_0, size_of, size_of_arm, total}
use Rattle.sql_tree.specs.declared.expr.Arguments.{Arguments}
use Rattle.sql_tree.specs.declared.expr.Arm.{Arm, fold-roll-Arm, map-Arm, roll-Arm}
use Rattle.sql_tree.specs.declared.expr.BinaryOp.{BinaryOp}
use Rattle.sql_tree.specs.declared.expr.Expr.TheOpen.{Arm-F, Expr-F}
use Rattle.sql_tree.specs.declared.expr.Expr.{Expr, ind-Expr, map-Expr, roll-Expr}
use Rattle.sql_tree.specs.declared.expr.TypeName.{TypeName}
use Rattle.sql_tree.specs.declared.expr.UnaryOp.{UnaryOp}
use Rattle.sql_tree.specs.declared.query.CommonTable.{CommonTable}
use Rattle.sql_tree.specs.declared.query.CompoundPart.{CompoundPart}
use Rattle.sql_tree.specs.declared.query.FromItem.{FromItem}
use Rattle.sql_tree.specs.declared.query.JoinConstraint.{JoinConstraint}
use Rattle.sql_tree.specs.declared.query.OrderingTerm.{OrderingTerm}
use Rattle.sql_tree.specs.declared.query.Query.{Query}
use Rattle.sql_tree.specs.declared.query.QueryPart.{QueryPart}
use Rattle.sql_tree.specs.declared.query.ResultColumn.{ResultColumn}
use Rattle.sql_tree.specs.declared.query.RowLimit.{RowLimit}
use Rattle.sql_tree.specs.declared.query.SelectCore.{SelectCore}
use Rattle.sql_tree.specs.declared.query.Source.{Source}
use Rattle.sql_tree.specs.declared.query.SpannedExpr.{SpannedExpr}
use Rattle.sql_tree.specs.declared.token.Token.{Token}
use Rattle.sql_words.specs.Refusals.{◌>>=◌}
use Rattle.sql_words.specs.Spelled.{name_at}
use Rattle.sql_words.specs.Types.{affinity_of_type}
use Rattle.bound_tree.specs.Exprs as e
use Rattle.bound_tree.specs.Exprs.{BoundExpr}
use Rattle.sql_bound.specs.Callees.{Aggregate, Aggregator, Callee, HostScalar, Nobody, Scalar, callee_of, may_aggregate, may_call, without_filter}
use Rattle.sql_bound.specs.Carriers.{ArmParts, Expression}
use Rattle.sql_bound.specs.Expressions.{aggregate_bound, aggregate_of, all_bound, arms_bound, call_bound, collation_called, expr_step, function_bound, if_allowed, option_bound, raise_bound, text_at, with_aggregate, within_aggregate}
use Rattle.sql_bound.specs.Operands.{between_of, binary_of, call_of, case_of, cast_of, collated, host_call_of, in_of, like_of, literal_operand, option_list, over, trees_of, unary_of}
use Rattle.sql_bound.specs.Refusals.{Checked}
use Rattle.sql_bound.specs.Scopes.{Scope}
use Rattle.sql_bound.specs.Trees.{of_arm, of_expr}
use Rattle.sql_bound.specs.declared.scopes.ArmOperands.{ArmOperands}
use Rattle.sql_bound.specs.declared.scopes.Operand.{Operand}
use Rattle.sql_bound.specs.declared.scopes.Work.{Work}
use Rattle.bound_size.specs.Brought.{AllBringNodes, own_of}
use Rattle.bound_size.specs.Plain.{all_plain, is_plain, is_plain_arm, option_plain, plain_step}
use Rattle.bound_size.specs.Sizes.{all_nodes, nodes_of}
use Rattle.bound_size.proofs.BoundLaws.{answer, both_hold, bound_by, same_answer, three_hold}
use Rattle.bound_size.proofs.ColumnLaws.{called_column_node, column_node}
use Rattle.bound_size.proofs.OperandLaws.{arms_nodes, between_nodes, binary_nodes, call_nodes, case_nodes, cast_nodes, host_call_nodes, in_nodes, like_nodes, option_nodes, unary_nodes}
use Rattle.bound_size.proofs.RollLaws.{bound_layer, is_plain-roll, of_expr-roll, plain_layer, size_layer, size_of-roll}

-- ---- what is bound of a tree of so many nodes

abbrev pub IsWithin : ℕ → Operand × Work → Type 0
IsWithin n r = nodes_of r.0.tree ≤ 2 * n

made : (n : ℕ) (a b : Operand × Work) → IsWithin n a → answer a ≡ answer b → IsWithin n b
made n a b small h = subst (IsWithin n) (same_answer a b h) small

allowed : {A : Type 0} (may : Bool) (name : List ℕ) (a : Checked A) (r : A) → if_allowed may name a ≡ Ok r → a ≡ Ok r
allowed true name a r h = h
allowed false name a r h = cc

module _ (s : Scope) (bare : s.aliases ≡ []) (own : AllBringNodes (own_of s.outer.levels)) where
  abbrev pub Sized : Expression → ℕ → Bool → Type 0
  Sized x n plain = plain ≡ true → (w : Work) (r : Operand × Work) → x.bound s w ≡ Ok r → IsWithin n r

  abbrev pub IsSized : Expr → Type 0
  IsSized x = Sized (of_expr x) (size_of x) (is_plain x)

  abbrev pub ArmSized : ArmParts → ℕ → Bool → Type 0
  ArmSized arm n plain =
      plain ≡ true → (w : Work) (c v : Operand × Work) → arm.condition.bound s w ≡ Ok c → arm.value.bound s c.1 ≡ Ok v → 1 + nodes_of c.0.tree + nodes_of v.0.tree ≤ 2 * n

  abbrev pub IsArmSized : Arm → Type 0
  IsArmSized arm = ArmSized (of_arm arm) (size_of_arm arm) (is_plain_arm arm)

  -- ---- one layer at a time

  rolled : (l : ExprLayer) → Sized (expr_step (bound_layer l)) (size_step (size_layer l)) (plain_step (plain_layer l)) → IsSized (roll-Expr l)
  rolled l h = rw (of_expr-roll l, size_of-roll l, is_plain-roll l) h

  literal_case : (t : Token) → Sized (expr_step (Expr-F.Literal t)) 1 true
  literal_case t plain w r h = made 1 (literal_operand s.outer.text t, w) r (omega arith) h

  parameter_case : (t : Token) → Sized (expr_step (Expr-F.Parameter t)) 1 true
  parameter_case t plain w r h =
      made 1 (over [] (e.Parameter (unwrap_or t.parameter 0)), w) r (omega arith)
      (allowed s.outer.allowed.parameters (codes "?") (answer (over [] (e.Parameter (unwrap_or t.parameter 0)), w)) r h)

  column_case : (t : Token) → Sized (expr_step (Expr-F.Column t)) 1 true
  column_case t plain w r h = omega (arith, column_node s bare own (name_at s.outer.text t) w r h)

  table_column_case : (t c : Token) → Sized (expr_step (Expr-F.TableColumn t c)) 1 true
  table_column_case t c plain w r h = omega (arith, called_column_node s bare own (name_at s.outer.text t) (name_at s.outer.text c) w r h)

  raise_case : (tree : BoundExpr) (w : Work) (r : Operand × Work) → nodes_of tree ≤ 1 → raise_bound s tree w ≡ Ok r → IsWithin 1 r
  raise_case tree w r one h = made 1 (over [] tree, w) r (omega (arith, one)) (allowed s.outer.allowed.raises (codes "RAISE") (answer (over [] tree, w)) r h)

  unary_case : (o : UnaryOp) (a : Expression) (n : ℕ) (p : Bool) → Sized a n p → Sized (expr_step (Expr-F.Unary o a)) (1 + n) p
  unary_case o a n p ha plain w r h =
      let x = bound_by (a.bound s w) (λ x. Ok (unary_of o x.0, x.1)) r h in
      made (1 + n) (unary_of o x.0.0, x.0.1) r (omega (arith, unary_nodes o x.0.0, ha plain w x.0 x.1)) x.2

  binary_case : (o : BinaryOp) (a b : Expression) (n m : ℕ) (p q : Bool) → Sized a n p → Sized b m q → Sized (expr_step (Expr-F.Binary o a b)) (1 + n + m) (p && q)
  binary_case o a b n m p q ha hb plain w r h =
      let both = both_hold p q plain in
      let x = bound_by (a.bound s w) (λ x. b.bound s x.1 >>= λ y. Ok (binary_of o x.0 y.0, y.1)) r h in
      let y = bound_by (b.bound s x.0.1) (λ y. Ok (binary_of o x.0.0 y.0, y.1)) r x.2 in
      made (1 + n + m) (binary_of o x.0.0 y.0.0, y.0.1) r (omega (arith, binary_nodes o x.0.0 y.0.0, ha both.0 w x.0 x.1, hb both.1 x.0.1 y.0 y.1)) y.2

  between_case : (a b c : Expression) (n m l : ℕ) (p q t : Bool) → Sized a n p → Sized b m q → Sized c l t → Sized (expr_step (Expr-F.Between a b c)) (1 + n + m + l) (p && q && t)
  between_case a b c n m l p q t ha hb hc plain w r h =
      let all = three_hold p q t plain in
      let x = bound_by (a.bound s w) (λ x. b.bound s x.1 >>= λ y. c.bound s y.1 >>= λ z. Ok (between_of x.0 y.0 z.0, z.1)) r h in
      let y = bound_by (b.bound s x.0.1) (λ y. c.bound s y.1 >>= λ z. Ok (between_of x.0.0 y.0 z.0, z.1)) r x.2 in
      let z = bound_by (c.bound s y.0.1) (λ z. Ok (between_of x.0.0 y.0.0 z.0, z.1)) r y.2 in
      made (1 + n + m + l) (between_of x.0.0 y.0.0 z.0.0, z.0.1) r
      (omega (arith, between_nodes x.0.0 y.0.0 z.0.0, ha all.0 w x.0 x.1, hb all.1 x.0.1 y.0 y.1, hc all.2 y.0.1 z.0 z.1)) z.2

  collate_case : (a : Expression) (t : Token) (n : ℕ) (p : Bool) → Sized a n p → Sized (expr_step (Expr-F.Collate a t)) (1 + n) p
  collate_case a t n p ha plain w r h =
      let named = collation_called s.outer.around.facts (name_at s.outer.text t) in
      let x = bound_by (a.bound s w) (λ x. named >>= λ c. Ok (collated c x.0, x.1)) r h in
      let c = bound_by named (λ c. Ok (collated c x.0.0, x.0.1)) r x.2 in
      made (1 + n) (collated c.0 x.0.0, x.0.1) r (omega (arith, ha plain w x.0 x.1)) c.2

  cast_case : (a : Expression) (t : TypeName) (n : ℕ) (p : Bool) → Sized a n p → Sized (expr_step (Expr-F.Cast a t)) (1 + n) p
  cast_case a t n p ha plain w r h =
      let to = affinity_of_type s.outer.text t in
      let x = bound_by (a.bound s w) (λ x. Ok (cast_of to x.0, x.1)) r h in
      made (1 + n) (cast_of to x.0.0, x.0.1) r (omega (arith, cast_nodes to x.0.0, ha plain w x.0 x.1)) x.2

  arm_case : (c v : Expression) (n m : ℕ) (p q : Bool) → Sized c n p → Sized v m q → ArmSized (record { condition = c; value = v }) (1 + n + m) (p && q)
  arm_case c v n m p q hc hv plain w x y h k = let both = both_hold p q plain in omega (arith, hc both.0 w x h, hv both.1 x.1 y k)

  -- ---- calls

  abbrev AllWithin : List Expression → ℕ → Type 0
  AllWithin xs n = (w : Work) (r : List Operand × Work) → all_bound s xs w ≡ Ok r → all_nodes (trees_of r.0) ≤ 2 * n

  function_sized : (name : List ℕ) (takes : ℕ → Bool) (make : List Operand → Operand) (how : Arguments) (xs : List Expression) (filter : Option Expression) (n : ℕ)
      → ((args : List Operand) → nodes_of (make args).tree ≤ 1 + all_nodes (trees_of args)) → AllWithin xs n
      → (w : Work) (r : Operand × Work) → function_bound s name takes make how xs filter w ≡ Ok r → IsWithin (1 + n) r
  function_sized name takes make how xs filter n grows all w r h =
      let u = bound_by (may_call name takes how (length xs)) (λ u. all_bound s xs w >>= λ args. without_filter name filter >>= λ v. Ok (make args.0, args.1)) r h in
      let args = bound_by (all_bound s xs w) (λ args. without_filter name filter >>= λ v. Ok (make args.0, args.1)) r u.2 in
      let v = bound_by (without_filter name filter) (λ v. Ok (make args.0.0, args.0.1)) r args.2 in
      made (1 + n) (make args.0.0, args.0.1) r (omega (arith, grows args.0.0, all w args.0 args.1)) v.2

  aggregate_sized : (a : Aggregator) (how : Arguments) (xs : List Expression) (filter : Option Expression) (w : Work) (r : Operand × Work) → aggregate_bound s a how xs filter w ≡ Ok r → IsWithin 1 r
  aggregate_sized a how xs filter w r h =
      let inner = within_aggregate s in
      let slot : List Operand × Work → Option Operand × Work → Operand × Work =
      λ args f. (over (args.0 ++ option_list f.0) (e.Aggregate (length f.1.aggregates)), with_aggregate (aggregate_of a how args.0 f.0) f.1) in
      let u = bound_by (may_aggregate a s.aggregates how (length xs)) (λ u. all_bound inner xs w >>= λ args. option_bound inner filter args.1 >>= λ f. Ok (slot args f)) r h in
      let args = bound_by (all_bound inner xs w) (λ args. option_bound inner filter args.1 >>= λ f. Ok (slot args f)) r u.2 in
      let f = bound_by (option_bound inner filter args.0.1) (λ f. Ok (slot args.0 f)) r args.2 in
      made 1 (slot args.0 f.0) r (omega arith) f.2

  call_sized : (name : List ℕ) (callee : Callee) (how : Arguments) (xs : List Expression) (filter : Option Expression) (n : ℕ) → AllWithin xs n
      → (w : Work) (r : Operand × Work) → call_bound s name callee how xs filter w ≡ Ok r → IsWithin (1 + n) r
  call_sized name (Scalar shown f takes) how xs filter n all w r h = function_sized shown takes (call_of f) how xs filter n (call_nodes f) all w r h
  call_sized name (HostScalar shown takes) how xs filter n all w r h =
      function_sized shown takes (host_call_of shown) how xs filter n (host_call_nodes shown) all w r
      (allowed s.outer.allowed.hosts shown (function_bound s shown takes (host_call_of shown) how xs filter w) r h)
  call_sized name (Aggregate a) how xs filter n all w r h = omega (arith, aggregate_sized a how xs filter w r h)
  call_sized name Nobody how xs filter n all w r h = cc

  -- ---- lists and options of such, told by elements of any type

  module _ {Y Z : Type 0} (of : Y → Expr) (sized : (y : Y) → IsSized (of y)) (arm_of : Z → Arm) (arm_sized : (z : Z) → IsArmSized (arm_of z)) where
    abbrev bound_all : List Y → List Expression
    bound_all ys = map of_expr (map of ys)

    all_sized : (ys : List Y) → all_plain (map is_plain (map of ys)) ≡ true → AllWithin (bound_all ys) (total (map size_of (map of ys)))
    all_sized [] plain w r h = subst (λ (x : List Operand × Work). all_nodes (trees_of x.0) ≤ 2 * 0) (same_answer ([], w) r h) (omega arith)
    all_sized (y ∷ ys) plain w r h =
        let both = both_hold (is_plain (of y)) (all_plain (map is_plain (map of ys))) plain in
        let a = bound_by ((of_expr (of y)).bound s w) (λ a. all_bound s (bound_all ys) a.1 >>= λ more. Ok (a.0 ∷ more.0, more.1)) r h in
        let more = bound_by (all_bound s (bound_all ys) a.0.1) (λ more. Ok (a.0.0 ∷ more.0, more.1)) r a.2 in
        subst (λ (x : List Operand × Work). all_nodes (trees_of x.0) ≤ 2 * (size_of (of y) + total (map size_of (map of ys)))) (same_answer (a.0.0 ∷ more.0.0, more.0.1) r more.2)
        (omega (arith, sized y both.0 w a.0 a.1, all_sized ys both.1 a.0.1 more.0 more.1))

    option_sized : (o : Option Y) → option_plain (option_map is_plain (option_map of o)) ≡ true → (w : Work) (r : Option Operand × Work)
        → option_bound s (option_map of_expr (option_map of o)) w ≡ Ok r → option_nodes r.0 ≤ 2 * or_0 (option_map size_of (option_map of o))
    option_sized None plain w r h = subst (λ (x : Option Operand × Work). option_nodes x.0 ≤ 2 * 0) (same_answer (None, w) r h) (omega arith)
    option_sized (Some y) plain w r h =
        let a = bound_by ((of_expr (of y)).bound s w) (λ a. Ok (Some a.0, a.1)) r h in
        subst (λ (x : Option Operand × Work). option_nodes x.0 ≤ 2 * size_of (of y)) (same_answer (Some a.0.0, a.0.1) r a.2) (sized y plain w a.0 a.1)

    abbrev bound_arms : List Z → List ArmParts
    bound_arms zs = map of_arm (map arm_of zs)

    arms_sized : (zs : List Z) → all_plain (map is_plain_arm (map arm_of zs)) ≡ true → (w : Work) (r : List ArmOperands × Work)
        → arms_bound s (bound_arms zs) w ≡ Ok r → arms_nodes r.0 ≤ 2 * total (map size_of_arm (map arm_of zs))
    arms_sized [] plain w r h = subst (λ (x : List ArmOperands × Work). arms_nodes x.0 ≤ 2 * 0) (same_answer ([], w) r h) (omega arith)
    arms_sized (z ∷ zs) plain w r h =
        let both = both_hold (is_plain_arm (arm_of z)) (all_plain (map is_plain_arm (map arm_of zs))) plain in
        let arm = of_arm (arm_of z) in
        let with_rest = λ (c v : Operand × Work). arms_bound s (bound_arms zs) v.1 >>= λ more. Ok (record { condition = c.0; value = v.0 } ∷ more.0, more.1) in
        let c = bound_by (arm.condition.bound s w) (λ c. arm.value.bound s c.1 >>= λ v. with_rest c v) r h in
        let v = bound_by (arm.value.bound s c.0.1) (λ v. with_rest c.0 v) r c.2 in
        let more = bound_by (arms_bound s (bound_arms zs) v.0.1) (λ more. Ok (record { condition = c.0.0; value = v.0.0 } ∷ more.0, more.1)) r v.2 in
        subst (λ (x : List ArmOperands × Work). arms_nodes x.0 ≤ 2 * (size_of_arm (arm_of z) + total (map size_of_arm (map arm_of zs)))) (same_answer (record { condition = c.0.0; value = v.0.0 } ∷ more.0.0, more.0.1) r more.2)
        (omega (arith, arm_sized z both.0 w c.0 v.0 c.1 v.1, arms_sized zs both.1 v.0.1 more.0 more.1))

    like_case : (a b : Y) (c : Option Y)
        → Sized (expr_step (Expr-F.Like (of_expr (of a)) (of_expr (of b)) (option_map of_expr (option_map of c)))) (1 + size_of (of a) + size_of (of b) + or_0 (option_map size_of (option_map of c)))
        (is_plain (of a) && is_plain (of b) && option_plain (option_map is_plain (option_map of c)))
    like_case a b c plain w r h =
        let all = three_hold (is_plain (of a)) (is_plain (of b)) (option_plain (option_map is_plain (option_map of c))) plain in
        let last = option_map of_expr (option_map of c) in
        let x = bound_by ((of_expr (of a)).bound s w) (λ x. (of_expr (of b)).bound s x.1 >>= λ y. option_bound s last y.1 >>= λ z. Ok (like_of x.0 y.0 z.0, z.1)) r h in
        let y = bound_by ((of_expr (of b)).bound s x.0.1) (λ y. option_bound s last y.1 >>= λ z. Ok (like_of x.0.0 y.0 z.0, z.1)) r x.2 in
        let z = bound_by (option_bound s last y.0.1) (λ z. Ok (like_of x.0.0 y.0.0 z.0, z.1)) r y.2 in
        made (1 + size_of (of a) + size_of (of b) + or_0 (option_map size_of (option_map of c))) (like_of x.0.0 y.0.0 z.0.0, z.0.1) r
        (omega (arith, like_nodes x.0.0 y.0.0 z.0.0, sized a all.0 w x.0 x.1, sized b all.1 x.0.1 y.0 y.1, option_sized c all.2 y.0.1 z.0 z.1)) z.2

    in_case : (a : Y) (others : List Y)
        → Sized (expr_step (Expr-F.In (of_expr (of a)) (bound_all others))) (1 + size_of (of a) + total (map size_of (map of others))) (is_plain (of a) && all_plain (map is_plain (map of others)))
    in_case a others plain w r h =
        let both = both_hold (is_plain (of a)) (all_plain (map is_plain (map of others))) plain in
        let x = bound_by ((of_expr (of a)).bound s w) (λ x. all_bound s (bound_all others) x.1 >>= λ ys. Ok (in_of x.0 ys.0, ys.1)) r h in
        let ys = bound_by (all_bound s (bound_all others) x.0.1) (λ ys. Ok (in_of x.0.0 ys.0, ys.1)) r x.2 in
        made (1 + size_of (of a) + total (map size_of (map of others))) (in_of x.0.0 ys.0.0, ys.0.1) r
        (omega (arith, in_nodes x.0.0 ys.0.0, sized a both.0 w x.0 x.1, all_sized others both.1 x.0.1 ys.0 ys.1)) ys.2

    call_case : (t : Token) (how : Arguments) (args : List Y) (filter : Option Y)
        → Sized (expr_step (Expr-F.Call t how (bound_all args) (option_map of_expr (option_map of filter)))) (1 + total (map size_of (map of args)) + or_0 (option_map size_of (option_map of filter)))
        (all_plain (map is_plain (map of args)) && option_plain (option_map is_plain (option_map of filter)))
    call_case t how args filter plain w r h =
        let both = both_hold (all_plain (map is_plain (map of args))) (option_plain (option_map is_plain (option_map of filter))) plain in
        let name = name_at s.outer.text t in
        let called = call_sized name (callee_of s.outer.around.facts name how (length (bound_all args))) how (bound_all args) (option_map of_expr (option_map of filter)) (total (map size_of (map of args))) (all_sized args both.0) w r h in
        omega (arith, called)

    case_case : (a : Option Y) (arms : List Z) (otherwise : Option Y)
        → Sized (expr_step (Expr-F.Case (option_map of_expr (option_map of a)) (bound_arms arms) (option_map of_expr (option_map of otherwise))))
        (2 + or_0 (option_map size_of (option_map of a)) + total (map size_of_arm (map arm_of arms)) + or_0 (option_map size_of (option_map of otherwise)))
        (option_plain (option_map is_plain (option_map of a)) && all_plain (map is_plain_arm (map arm_of arms)) && option_plain (option_map is_plain (option_map of otherwise)))
    case_case a arms otherwise plain w r h =
        let all = three_hold (option_plain (option_map is_plain (option_map of a))) (all_plain (map is_plain_arm (map arm_of arms))) (option_plain (option_map is_plain (option_map of otherwise))) plain in
        let last = option_map of_expr (option_map of otherwise) in
        let x = bound_by (option_bound s (option_map of_expr (option_map of a)) w) (λ x. arms_bound s (bound_arms arms) x.1 >>= λ ys. option_bound s last ys.1 >>= λ z. Ok (case_of x.0 ys.0 z.0, z.1)) r h in
        let ys = bound_by (arms_bound s (bound_arms arms) x.0.1) (λ ys. option_bound s last ys.1 >>= λ z. Ok (case_of x.0.0 ys.0 z.0, z.1)) r x.2 in
        let z = bound_by (option_bound s last ys.0.1) (λ z. Ok (case_of x.0.0 ys.0.0 z.0, z.1)) r ys.2 in
        made (2 + or_0 (option_map size_of (option_map of a)) + total (map size_of_arm (map arm_of arms)) + or_0 (option_map size_of (option_map of otherwise))) (case_of x.0.0 ys.0.0 z.0.0, z.0.1) r
        (omega (arith, case_nodes x.0.0 ys.0.0 z.0.0, option_sized a all.0 w x.0 x.1, arms_sized arms all.1 x.0.1 ys.0 ys.1, option_sized otherwise all.2 ys.0.1 z.0 z.1)) z.2

    -- ---- every expression; nothing is said of queries

    abbrev With : Type 0 → Type 0
    With T = T × Unit {0}

    abbrev tree : {T : Type 0} → With T → T
    tree q = q.0

    step : (y : Expr-F Y (With JoinConstraint) (With QueryPart) (With ResultColumn) (With Source) Z (With CommonTable) (With CompoundPart) (With FromItem) (With OrderingTerm) (With Query) (With RowLimit) (With SelectCore) (With SpannedExpr)) → IsSized (roll-Expr (map-Expr Y (With JoinConstraint) (With QueryPart) (With ResultColumn) (With Source) Z (With CommonTable) (With CompoundPart) (With FromItem) (With OrderingTerm) (With Query) (With RowLimit) (With SelectCore) (With SpannedExpr) Expr JoinConstraint QueryPart ResultColumn Source Arm CommonTable CompoundPart FromItem OrderingTerm Query RowLimit SelectCore SpannedExpr of tree tree tree tree arm_of tree tree tree tree tree tree tree tree y))
    step (Expr-F.Literal t) = rolled (Expr-F.Literal t) (literal_case t)
    step (Expr-F.Parameter t) = rolled (Expr-F.Parameter t) (parameter_case t)
    step (Expr-F.Column t) = rolled (Expr-F.Column t) (column_case t)
    step (Expr-F.TableColumn t c) = rolled (Expr-F.TableColumn t c) (table_column_case t c)
    step (Expr-F.Unary o a) = rolled (Expr-F.Unary o (of a)) (unary_case o (of_expr (of a)) (size_of (of a)) (is_plain (of a)) (sized a))
    step (Expr-F.Binary o a b) =
        rolled (Expr-F.Binary o (of a) (of b)) (binary_case o (of_expr (of a)) (of_expr (of b)) (size_of (of a)) (size_of (of b)) (is_plain (of a)) (is_plain (of b)) (sized a) (sized b))
    step (Expr-F.Between a b c) =
        rolled (Expr-F.Between (of a) (of b) (of c))
        (between_case (of_expr (of a)) (of_expr (of b)) (of_expr (of c)) (size_of (of a)) (size_of (of b)) (size_of (of c)) (is_plain (of a)) (is_plain (of b)) (is_plain (of c)) (sized a) (sized b) (sized c))
    step (Expr-F.Like a b None) = rolled (Expr-F.Like (of a) (of b) None) (like_case a b None)
    step (Expr-F.Like a b (Some c)) = rolled (Expr-F.Like (of a) (of b) (Some (of c))) (like_case a b (Some c))
    step (Expr-F.In a others) = rolled (Expr-F.In (of a) (map of others)) (in_case a others)
    step (Expr-F.InQuery a q) = rolled (Expr-F.InQuery (of a) (tree q)) (λ plain w r h. cc)
    step (Expr-F.Subquery q) = rolled (Expr-F.Subquery (tree q)) (λ plain w r h. cc)
    step (Expr-F.Exists q) = rolled (Expr-F.Exists (tree q)) (λ plain w r h. cc)
    step (Expr-F.Collate a t) = rolled (Expr-F.Collate (of a) t) (collate_case (of_expr (of a)) t (size_of (of a)) (is_plain (of a)) (sized a))
    step (Expr-F.Cast a t) = rolled (Expr-F.Cast (of a) t) (cast_case (of_expr (of a)) t (size_of (of a)) (is_plain (of a)) (sized a))
    step (Expr-F.Call t how args None) = rolled (Expr-F.Call t how (map of args) None) (call_case t how args None)
    step (Expr-F.Call t how args (Some filter)) = rolled (Expr-F.Call t how (map of args) (Some (of filter))) (call_case t how args (Some filter))
    step (Expr-F.Case None arms None) = rolled (Expr-F.Case None (map arm_of arms) None) (case_case None arms None)
    step (Expr-F.Case None arms (Some last)) = rolled (Expr-F.Case None (map arm_of arms) (Some (of last))) (case_case None arms (Some last))
    step (Expr-F.Case (Some a) arms None) = rolled (Expr-F.Case (Some (of a)) (map arm_of arms) None) (case_case (Some a) arms None)
    step (Expr-F.Case (Some a) arms (Some last)) = rolled (Expr-F.Case (Some (of a)) (map arm_of arms) (Some (of last))) (case_case (Some a) arms (Some last))
    step Expr-F.RaiseIgnore = rolled Expr-F.RaiseIgnore (λ plain w r h. raise_case e.RaiseIgnore w r (omega arith) h)
    step (Expr-F.RaiseAbort t) = rolled (Expr-F.RaiseAbort t) (λ plain w r h. raise_case (e.RaiseAbort (text_at s.outer.text t)) w r (omega arith) h)

    arm_step : (y : Arm-F Y (With JoinConstraint) (With QueryPart) (With ResultColumn) (With Source) Z (With CommonTable) (With CompoundPart) (With FromItem) (With OrderingTerm) (With Query) (With RowLimit) (With SelectCore) (With SpannedExpr)) → IsArmSized (roll-Arm (map-Arm Y (With JoinConstraint) (With QueryPart) (With ResultColumn) (With Source) Z (With CommonTable) (With CompoundPart) (With FromItem) (With OrderingTerm) (With Query) (With RowLimit) (With SelectCore) (With SpannedExpr) Expr JoinConstraint QueryPart ResultColumn Source Arm CommonTable CompoundPart FromItem OrderingTerm Query RowLimit SelectCore SpannedExpr of tree tree tree tree arm_of tree tree tree tree tree tree tree tree y))
    arm_step y =
        rw (fold-roll-Arm, fold-roll-Arm, fold-roll-Arm)
        (arm_case (of_expr (of y.condition)) (of_expr (of y.value)) (size_of (of y.condition)) (size_of (of y.value)) (is_plain (of y.condition)) (is_plain (of y.value)) (sized y.condition) (sized y.value))

  pub sizes : (x : Expr) → IsSized x
  sizes = ind-Expr IsSized (λ q. Unit {0}) (λ q. Unit {0}) (λ q. Unit {0}) (λ q. Unit {0}) IsArmSized (λ q. Unit {0}) (λ q. Unit {0}) (λ q. Unit {0}) (λ q. Unit {0}) (λ q. Unit {0}) (λ q. Unit {0}) (λ q. Unit {0}) (λ q. Unit {0})
      (λ l y is. subst (λ z. IsSized (roll-Expr z)) is (step (λ e. e.0) (λ e. e.1) (λ e. e.0) (λ e. e.1) y)) (λ l y is. tt) (λ l y is. tt) (λ l y is. tt) (λ l y is. tt)
      (λ l y is. subst (λ z. IsArmSized (roll-Arm z)) is (arm_step (λ e. e.0) (λ e. e.1) (λ e. e.0) (λ e. e.1) y))
      (λ l y is. tt) (λ l y is. tt) (λ l y is. tt) (λ l y is. tt) (λ l y is. tt) (λ l y is. tt) (λ l y is. tt) (λ l y is. tt)

-- ---- expressions, and options of them

pub tree_nodes : (x : Expr) (s : Scope) (w : Work) (r : Operand × Work) → is_plain x ≡ true → s.aliases ≡ [] → AllBringNodes (own_of s.outer.levels) → (of_expr x).bound s w ≡ Ok r → nodes_of r.0.tree ≤ 2 * size_of x
tree_nodes x s w r plain bare own h = sizes s bare own x plain w r h
