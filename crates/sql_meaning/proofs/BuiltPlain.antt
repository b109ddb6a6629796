-- What is built is plain.
use Rattle.std.proofs.Common.{◌≡◌, ℕ, Bool, true, ◌&&◌, not, List, [], ◌∷◌, length, map, Option, Some, None, is_some, refl, subst}
use Rattle.std.specs.List.{list_all}
use Rattle.std.specs.Option.{option_map}
use Rattle.sql_tree.specs.Folds.{ExprStep, Q}
use Rattle.sql_tree.specs.Layers.{ExprLayer, PartLayer, ResultLayer, of_part, of_query, of_result, of_select}
use Rattle.sql_tree.specs.declared.expr.Arm.{Arm, fold-roll-Arm, map-Arm, roll-Arm}
use Rattle.sql_tree.specs.declared.expr.Expr.TheOpen.{Arm-F, Expr-F, QueryPart-F, ResultColumn-F}
use Rattle.sql_tree.specs.declared.expr.Expr.{Expr, fold-roll-Expr, ind-Expr, map-Expr, roll-Expr}
use Rattle.sql_tree.specs.declared.query.CommonTable.{CommonTable}
use Rattle.sql_tree.specs.declared.query.CompoundPart.{CompoundPart}
use Rattle.sql_tree.specs.declared.query.FromItem.{FromItem}
use Rattle.sql_tree.specs.declared.query.JoinConstraint.{JoinConstraint}
use Rattle.sql_tree.specs.declared.query.OrderingTerm.{OrderingTerm}
use Rattle.sql_tree.specs.declared.query.Query.{Query}
use Rattle.sql_tree.specs.declared.query.QueryPart.{QueryPart}
use Rattle.sql_tree.specs.declared.query.ResultColumn.{ResultColumn}
use Rattle.sql_tree.specs.declared.query.RowLimit.{RowLimit}
use Rattle.sql_tree.specs.declared.query.SelectCore.{SelectCore}
use Rattle.sql_tree.specs.declared.query.Source.{Source}
use Rattle.sql_tree.specs.declared.query.SpannedExpr.{SpannedExpr}
use Rattle.sql_tree.specs.declared.statement.ColumnConstraint.{ColumnConstraint}
use Rattle.sql_tree.specs.declared.statement.ColumnConstraint.TheVariants as constraint
use Rattle.sql_tree.specs.declared.statement.TableConstraint.{TableConstraint}
use Rattle.sql_tree.specs.declared.statement.TableConstraint.TheVariants as behind
use Rattle.sql_tree.specs.declared.statement.TableDefinition.{TableDefinition}
use Rattle.sql_words.specs.Spelled.{name_bytes}
use Rattle.sql_meaning.specs.Built.{Test, all_pass, are_built_rows, built_step, is_aggregate, is_built_arm, is_built_behind, is_built_column, is_built_constraint, is_built_expr, is_built_filter, is_built_item, is_built_part, is_built_query, is_built_result, is_built_row, is_built_table, is_built_values, is_empty, is_plain_select, option_passes, result_is_built, stands_alone}
use Rattle.bound_size.specs.Plain.{all_plain, is_alone, is_plain, is_plain_arm, is_plain_behind, is_plain_column, is_plain_constraint, is_plain_filter, is_plain_part, is_plain_query, is_plain_result, is_plain_row, is_plain_table, option_plain, plain_step, result_is_plain}
use Rattle.bound_size.proofs.BoundLaws.{both_hold, three_hold}
use Rattle.bound_size.proofs.RollLaws.{is_plain-roll, plain_layer}

-- ---- tests

abbrev Implies : Test → Bool → Type 0
Implies built plain = (text : List ℕ) → built text ≡ true → plain ≡ true

and_true : (p q : Bool) → p ≡ true → q ≡ true → (p && q) ≡ true
and_true p q h k = rw (h, k) refl

abbrev IsSo : Expr → Type 0
IsSo x = Implies (is_built_expr x) (is_plain x)

abbrev IsArmSo : Arm → Type 0
IsArmSo arm = Implies (is_built_arm arm) (is_plain_arm arm)

abbrev built_layer : ExprLayer → ExprStep Test Test
built_layer l =
    map-Expr Expr JoinConstraint QueryPart ResultColumn Source Arm CommonTable CompoundPart FromItem OrderingTerm Query RowLimit SelectCore SpannedExpr
    Test Q Q Q Q Test Q Q Q Q Q Q Q Q
    is_built_expr (λ q. tt) (λ q. tt) (λ q. tt) (λ q. tt) is_built_arm (λ q. tt) (λ q. tt) (λ q. tt) (λ q. tt) (λ q. tt) (λ q. tt) (λ q. tt) (λ q. tt) l

built-roll : (l : ExprLayer) → is_built_expr (roll-Expr l) ≡ built_step (built_layer l)
built-roll l = rw fold-roll-Expr refl

rolled : (l : ExprLayer) → Implies (built_step (built_layer l)) (plain_step (plain_layer l)) → IsSo (roll-Expr l)
rolled l h = rw (built-roll l, is_plain-roll l) h

both_so : (a b : Test) (p q : Bool) → Implies a p → Implies b q → Implies (λ text. a text && b text) (p && q)
both_so a b p q ha hb text h = let k = both_hold (a text) (b text) h in and_true p q (ha text k.0) (hb text k.1)

three_so : (a b c : Test) (p q r : Bool) → Implies a p → Implies b q → Implies c r → Implies (λ text. a text && b text && c text) (p && q && r)
three_so a b c p q r ha hb hc text h = let k = three_hold (a text) (b text) (c text) h in and_true (p && q) r (and_true p q (ha text k.0) (hb text k.1)) (hc text k.2)

-- ---- every expression; nothing is said of queries

module _ {Y Z : Type 0} (of : Y → Expr) (so : (y : Y) → IsSo (of y)) (arm_of : Z → Arm) (arm_so : (z : Z) → IsArmSo (arm_of z)) where
  all_so : (ys : List Y) → Implies (all_pass (map is_built_expr (map of ys))) (all_plain (map is_plain (map of ys)))
  all_so [] text h = refl
  all_so (y ∷ ys) text h =
      let k = both_hold (is_built_expr (of y) text) (all_pass (map is_built_expr (map of ys)) text) h in
      and_true (is_plain (of y)) (all_plain (map is_plain (map of ys))) (so y text k.0) (all_so ys text k.1)

  arms_so : (zs : List Z) → Implies (all_pass (map is_built_arm (map arm_of zs))) (all_plain (map is_plain_arm (map arm_of zs)))
  arms_so [] text h = refl
  arms_so (z ∷ zs) text h =
      let k = both_hold (is_built_arm (arm_of z) text) (all_pass (map is_built_arm (map arm_of zs)) text) h in
      and_true (is_plain_arm (arm_of z)) (all_plain (map is_plain_arm (map arm_of zs))) (arm_so z text k.0) (arms_so zs text k.1)

  option_so : (o : Option Y) → Implies (option_passes (option_map is_built_expr (option_map of o))) (option_plain (option_map is_plain (option_map of o)))
  option_so None text h = refl
  option_so (Some y) text h = so y text h

  like_so : (a b : Y) (c : Option Y) → Implies (λ text. is_built_expr (of a) text && is_built_expr (of b) text && option_passes (option_map is_built_expr (option_map of c)) text)
      (is_plain (of a) && is_plain (of b) && option_plain (option_map is_plain (option_map of c)))
  like_so a b c = three_so (is_built_expr (of a)) (is_built_expr (of b)) (option_passes (option_map is_built_expr (option_map of c))) (is_plain (of a)) (is_plain (of b)) (option_plain (option_map is_plain (option_map of c))) (so a) (so b) (option_so c)

  call_so : (called : List ℕ → Bool) (args : List Y) → Implies (λ text. called text && all_pass (map is_built_expr (map of args)) text) (all_plain (map is_plain (map of args)) && true)
  call_so called args text h =
      let k = both_hold (called text) (all_pass (map is_built_expr (map of args)) text) h in and_true (all_plain (map is_plain (map of args))) true (all_so args text k.1) refl

  case_so : (a : Option Y) (arms : List Z) (otherwise : Option Y)
      → Implies (λ text. option_passes (option_map is_built_expr (option_map of a)) text && all_pass (map is_built_arm (map arm_of arms)) text && option_passes (option_map is_built_expr (option_map of otherwise)) text)
      (option_plain (option_map is_plain (option_map of a)) && all_plain (map is_plain_arm (map arm_of arms)) && option_plain (option_map is_plain (option_map of otherwise)))
  case_so a arms otherwise =
      three_so (option_passes (option_map is_built_expr (option_map of a))) (all_pass (map is_built_arm (map arm_of arms))) (option_passes (option_map is_built_expr (option_map of otherwise)))
      (option_plain (option_map is_plain (option_map of a))) (all_plain (map is_plain_arm (map arm_of arms))) (option_plain (option_map is_plain (option_map of otherwise))) (option_so a) (arms_so arms) (option_so otherwise)

  abbrev With : Type 0 → Type 0
  With T = T × Unit {0}

  abbrev tree : {T : Type 0} → With T → T
  tree q = q.0

  step : (y : Expr-F Y (With JoinConstraint) (With QueryPart) (With ResultColumn) (With Source) Z (With CommonTable) (With CompoundPart) (With FromItem) (With OrderingTerm) (With Query) (With RowLimit) (With SelectCore) (With SpannedExpr)) → IsSo (roll-Expr (map-Expr Y (With JoinConstraint) (With QueryPart) (With ResultColumn) (With Source) Z (With CommonTable) (With CompoundPart) (With FromItem) (With OrderingTerm) (With Query) (With RowLimit) (With SelectCore) (With SpannedExpr) Expr JoinConstraint QueryPart ResultColumn Source Arm CommonTable CompoundPart FromItem OrderingTerm Query RowLimit SelectCore SpannedExpr of tree tree tree tree arm_of tree tree tree tree tree tree tree tree y))
  step (Expr-F.Literal t) = rolled (Expr-F.Literal t) (λ text h. refl)
  step (Expr-F.Parameter t) = rolled (Expr-F.Parameter t) (λ text h. refl)
  step (Expr-F.Column t) = rolled (Expr-F.Column t) (λ text h. refl)
  step (Expr-F.TableColumn t c) = rolled (Expr-F.TableColumn t c) (λ text h. refl)
  step (Expr-F.Unary o a) = rolled (Expr-F.Unary o (of a)) (so a)
  step (Expr-F.Binary o a b) = rolled (Expr-F.Binary o (of a) (of b)) (both_so (is_built_expr (of a)) (is_built_expr (of b)) (is_plain (of a)) (is_plain (of b)) (so a) (so b))
  step (Expr-F.Between a b c) =
      rolled (Expr-F.Between (of a) (of b) (of c)) (three_so (is_built_expr (of a)) (is_built_expr (of b)) (is_built_expr (of c)) (is_plain (of a)) (is_plain (of b)) (is_plain (of c)) (so a) (so b) (so c))
  step (Expr-F.Like a b None) = rolled (Expr-F.Like (of a) (of b) None) (like_so a b None)
  step (Expr-F.Like a b (Some c)) = rolled (Expr-F.Like (of a) (of b) (Some (of c))) (like_so a b (Some c))
  step (Expr-F.In a others) =
      rolled (Expr-F.In (of a) (map of others)) (both_so (is_built_expr (of a)) (all_pass (map is_built_expr (map of others))) (is_plain (of a)) (all_plain (map is_plain (map of others))) (so a) (all_so others))
  step (Expr-F.InQuery a q) = rolled (Expr-F.InQuery (of a) (tree q)) (λ text h. cc)
  step (Expr-F.Subquery q) = rolled (Expr-F.Subquery (tree q)) (λ text h. cc)
  step (Expr-F.Exists q) = rolled (Expr-F.Exists (tree q)) (λ text h. cc)
  step (Expr-F.Collate a t) = rolled (Expr-F.Collate (of a) t) (so a)
  step (Expr-F.Cast a t) = rolled (Expr-F.Cast (of a) t) (so a)
  step (Expr-F.Call t how args None) = rolled (Expr-F.Call t how (map of args) None) (call_so (λ text. not (is_aggregate (name_bytes text t) how (length (map is_built_expr (map of args))))) args)
  step (Expr-F.Call t how args (Some filter)) = rolled (Expr-F.Call t how (map of args) (Some (of filter))) (λ text h. cc)
  step (Expr-F.Case None arms None) = rolled (Expr-F.Case None (map arm_of arms) None) (case_so None arms None)
  step (Expr-F.Case None arms (Some last)) = rolled (Expr-F.Case None (map arm_of arms) (Some (of last))) (case_so None arms (Some last))
  step (Expr-F.Case (Some a) arms None) = rolled (Expr-F.Case (Some (of a)) (map arm_of arms) None) (case_so (Some a) arms None)
  step (Expr-F.Case (Some a) arms (Some last)) = rolled (Expr-F.Case (Some (of a)) (map arm_of arms) (Some (of last))) (case_so (Some a) arms (Some last))
  step Expr-F.RaiseIgnore = rolled Expr-F.RaiseIgnore (λ text h. refl)
  step (Expr-F.RaiseAbort t) = rolled (Expr-F.RaiseAbort t) (λ text h. refl)

  arm_step : (y : Arm-F Y (With JoinConstraint) (With QueryPart) (With ResultColumn) (With Source) Z (With CommonTable) (With CompoundPart) (With FromItem) (With OrderingTerm) (With Query) (With RowLimit) (With SelectCore) (With SpannedExpr)) → IsArmSo (roll-Arm (map-Arm Y (With JoinConstraint) (With QueryPart) (With ResultColumn) (With Source) Z (With CommonTable) (With CompoundPart) (With FromItem) (With OrderingTerm) (With Query) (With RowLimit) (With SelectCore) (With SpannedExpr) Expr JoinConstraint QueryPart ResultColumn Source Arm CommonTable CompoundPart FromItem OrderingTerm Query RowLimit SelectCore SpannedExpr of tree tree tree tree arm_of tree tree tree tree tree tree tree tree y))
  arm_step y =
      rw (fold-roll-Arm, fold-roll-Arm) (both_so (is_built_expr (of y.condition)) (is_built_expr (of y.value)) (is_plain (of y.condition)) (is_plain (of y.value)) (so y.condition) (so y.value))

pub built_expr_plain : (x : Expr) → IsSo x
built_expr_plain = ind-Expr IsSo (λ q. Unit {0}) (λ q. Unit {0}) (λ q. Unit {0}) (λ q. Unit {0}) IsArmSo (λ q. Unit {0}) (λ q. Unit {0}) (λ q. Unit {0}) (λ q. Unit {0}) (λ q. Unit {0}) (λ q. Unit {0}) (λ q. Unit {0}) (λ q. Unit {0})
    (λ l y is. subst (λ z. IsSo (roll-Expr z)) is (step (λ e. e.0) (λ e. e.1) (λ e. e.0) (λ e. e.1) y)) (λ l y is. tt) (λ l y is. tt) (λ l y is. tt) (λ l y is. tt)
    (λ l y is. subst (λ z. IsArmSo (roll-Arm z)) is (arm_step (λ e. e.0) (λ e. e.1) (λ e. e.0) (λ e. e.1) y))
    (λ l y is. tt) (λ l y is. tt) (λ l y is. tt) (λ l y is. tt) (λ l y is. tt) (λ l y is. tt) (λ l y is. tt) (λ l y is. tt)

-- ---- queries

result_plain : (text : List ℕ) (l : ResultLayer) → result_is_built text l ≡ true → result_is_plain l ≡ true
result_plain text ResultColumn-F.All h = refl
result_plain text (ResultColumn-F.AllOf t) h = refl
result_plain text (ResultColumn-F.Expression x name) h = built_expr_plain x.expr text h

all_imply : {X : Type 0} (a b : X → Bool) → ((x : X) → a x ≡ true → b x ≡ true) → (xs : List X) → list_all a xs ≡ true → list_all b xs ≡ true
all_imply a b each [] h = refl
all_imply a b each (x ∷ xs) h = let k = both_hold (a x) (list_all a xs) h in and_true (b x) (list_all b xs) (each x k.0) (all_imply a b each xs k.1)

filter_plain : (text : List ℕ) (filter : Option Expr) → is_built_filter text filter ≡ true → is_plain_filter filter ≡ true
filter_plain text None h = refl
filter_plain text (Some x) h = built_expr_plain x text h

row_plain : (text : List ℕ) (row : List Expr) → is_built_row text row ≡ true → is_plain_row row ≡ true
row_plain text row h = all_imply (λ x. is_built_expr x text) is_plain (λ x k. built_expr_plain x text k) row h

part_plain : (text : List ℕ) (p : PartLayer) → is_built_part text p ≡ true → is_plain_part p ≡ true
part_plain text (QueryPart-F.Select core) h =
    let s = of_select core in
    let k = three_hold (is_plain_select s && list_all (is_built_item text) s.from) (list_all (is_built_result text) s.results) (is_built_filter text s.filter) h in
    and_true (list_all is_plain_result s.results) (is_plain_filter s.filter) (all_imply (is_built_result text) is_plain_result (λ r b. result_plain text (of_result r) b) s.results k.1) (filter_plain text s.filter k.2)
part_plain text (QueryPart-F.Values rows) h = all_imply (is_built_row text) is_plain_row (row_plain text) rows h

alone : {X : Type 0} (xs : List X) → is_empty xs ≡ true → is_alone xs ≡ true
alone [] h = refl
alone (x ∷ xs) h = cc

pub built_query_plain : (text : List ℕ) (q : Query) → is_built_query text (of_query q) ≡ true → is_plain_query q ≡ true
built_query_plain text q h =
    let l = of_query q in
    let k = both_hold (stands_alone l) (is_built_part text (of_part l.first)) h in
    let m = three_hold (is_empty l.with && is_empty l.others) (is_empty l.order_by) (not (is_some l.limit)) k.0 in
    let o = both_hold (is_empty l.with) (is_empty l.others) m.0 in
    and_true (is_alone l.others) (is_plain_part (of_part l.first)) (alone l.others o.1) (part_plain text (of_part l.first) k.1)

values_plain : (text : List ℕ) (p : PartLayer) → are_built_rows text p ≡ true → is_plain_part p ≡ true
values_plain text (QueryPart-F.Select core) h = cc
values_plain text (QueryPart-F.Values rows) h = all_imply (is_built_row text) is_plain_row (row_plain text) rows h

pub built_values_plain : (text : List ℕ) (q : Query) → is_built_values text (of_query q) ≡ true → is_plain_query q ≡ true
built_values_plain text q h =
    let l = of_query q in
    let k = both_hold (stands_alone l) (are_built_rows text (of_part l.first)) h in
    let m = three_hold (is_empty l.with && is_empty l.others) (is_empty l.order_by) (not (is_some l.limit)) k.0 in
    let o = both_hold (is_empty l.with) (is_empty l.others) m.0 in
    and_true (is_alone l.others) (is_plain_part (of_part l.first)) (alone l.others o.1) (values_plain text (of_part l.first) k.1)

-- ---- tables

constraint_plain : (text : List ℕ) (c : ColumnConstraint) → is_built_constraint text c ≡ true → is_plain_constraint c ≡ true
constraint_plain text constraint.PrimaryKey h = refl
constraint_plain text constraint.NotNull h = refl
constraint_plain text constraint.Null h = refl
constraint_plain text constraint.Unique h = refl
constraint_plain text (constraint.Check x) h = built_expr_plain x text h
constraint_plain text (constraint.Default x) h = built_expr_plain x text h
constraint_plain text (constraint.Collate t) h = refl

behind_plain : (text : List ℕ) (c : TableConstraint) → is_built_behind text c ≡ true → is_plain_behind c ≡ true
behind_plain text (behind.PrimaryKey key) h = refl
behind_plain text (behind.Unique key) h = refl
behind_plain text (behind.Check x) h = built_expr_plain x text h

pub built_table_plain : (text : List ℕ) (t : TableDefinition) → is_built_table text t ≡ true → is_plain_table t ≡ true
built_table_plain text t h =
    let k = both_hold (list_all (is_built_column text) t.columns) (list_all (is_built_behind text) t.constraints) h in
    and_true (list_all is_plain_column t.columns) (list_all is_plain_behind t.constraints)
    (all_imply (is_built_column text) is_plain_column (λ c b. all_imply (is_built_constraint text) is_plain_constraint (constraint_plain text) c.constraints b) t.columns k.0)
    (all_imply (is_built_behind text) is_plain_behind (behind_plain text) t.constraints k.1)
