-- Definitions by recursion over expressions that do not look into queries.
use Rattle.sql_tree.specs.declared.expr.Arm.{Arm, fold-Arm}
use Rattle.sql_tree.specs.declared.expr.Expr.{Expr, fold-Expr}
use Rattle.sql_tree.specs.declared.expr.Expr.TheOpen.{Expr-F, Arm-F}

-- what each part of a query comes to
abbrev pub Q : Type 0
Q = Unit {0}

-- of a node, from what its operands and its arms come to
abbrev pub ExprStep : Type 0 → Type 0 → Type 0
ExprStep A B = Expr-F A Q Q Q Q B Q Q Q Q Q Q Q Q

-- of an arm
abbrev pub ArmStep : Type 0 → Type 0 → Type 0
ArmStep A B = Arm-F A Q Q Q Q B Q Q Q Q Q Q Q Q

abbrev pub fold_expr : {A B : Type 0} → (ExprStep A B → A) → (ArmStep A B → B) → Expr → A
fold_expr {A} {B} f g = fold-Expr A Q Q Q Q B Q Q Q Q Q Q Q Q f (λ q. tt) (λ q. tt) (λ q. tt) (λ q. tt) g
    (λ q. tt) (λ q. tt) (λ q. tt) (λ q. tt) (λ q. tt) (λ q. tt) (λ q. tt) (λ q. tt)

abbrev pub fold_arm : {A B : Type 0} → (ExprStep A B → A) → (ArmStep A B → B) → Arm → B
fold_arm {A} {B} f g = fold-Arm A Q Q Q Q B Q Q Q Q Q Q Q Q f (λ q. tt) (λ q. tt) (λ q. tt) (λ q. tt) g
    (λ q. tt) (λ q. tt) (λ q. tt) (λ q. tt) (λ q. tt) (λ q. tt) (λ q. tt) (λ q. tt)
