-- What is built of each kind of expression, said of the trees that they are.
use Rattle.std.specs.Prelude.{◌≡◌, ◌&&◌, true, false, List, ℕ, map, Option, Some, None, refl}
use Rattle.std.specs.Option.{option_map}
use Rattle.sql_tree.specs.declared.expr.Arm.{Arm}
use Rattle.sql_tree.specs.declared.expr.BinaryOp.{BinaryOp}
use Rattle.sql_tree.specs.declared.expr.Expr.{Expr, fold-roll-Expr}
use Rattle.sql_tree.specs.declared.expr.Expr.TheVariants as x
use Rattle.sql_tree.specs.declared.expr.TypeName.{TypeName}
use Rattle.sql_tree.specs.declared.expr.UnaryOp.{UnaryOp}
use Rattle.sql_tree.specs.declared.query.Query.{Query}
use Rattle.sql_tree.specs.declared.token.Token.{Token}
use Rattle.sql_meaning.specs.Built.{all_pass, is_built_arm, is_built_expr, option_passes}

pub built-Literal : (t : Token) (text : List ℕ) → is_built_expr (x.Literal t) text ≡ true
built-Literal t text = rw (← x.rolls-Literal t, fold-roll-Expr) refl

pub built-Parameter : (t : Token) (text : List ℕ) → is_built_expr (x.Parameter t) text ≡ true
built-Parameter t text = rw (← x.rolls-Parameter t, fold-roll-Expr) refl

pub built-Column : (t : Token) (text : List ℕ) → is_built_expr (x.Column t) text ≡ true
built-Column t text = rw (← x.rolls-Column t, fold-roll-Expr) refl

pub built-TableColumn : (t c : Token) (text : List ℕ) → is_built_expr (x.TableColumn t c) text ≡ true
built-TableColumn t c text = rw (← x.rolls-TableColumn t c, fold-roll-Expr) refl

pub built-Unary : (o : UnaryOp) (a : Expr) (text : List ℕ) → is_built_expr (x.Unary o a) text ≡ is_built_expr a text
built-Unary o a text = rw (← x.rolls-Unary o a, fold-roll-Expr) refl

pub built-Binary : (o : BinaryOp) (a b : Expr) (text : List ℕ) → is_built_expr (x.Binary o a b) text ≡ (is_built_expr a text && is_built_expr b text)
built-Binary o a b text = rw (← x.rolls-Binary o a b, fold-roll-Expr) refl

pub built-Between : (a b c : Expr) (text : List ℕ) → is_built_expr (x.Between a b c) text ≡ (is_built_expr a text && is_built_expr b text && is_built_expr c text)
built-Between a b c text = rw (← x.rolls-Between a b c, fold-roll-Expr) refl

pub built-Like : (a b : Expr) (c : Option Expr) (text : List ℕ)
    → is_built_expr (x.Like a b c) text ≡ (is_built_expr a text && is_built_expr b text && option_passes (option_map is_built_expr c) text)
built-Like a b None text = rw (← x.rolls-Like a b None, fold-roll-Expr) refl
built-Like a b (Some c) text = rw (← x.rolls-Like a b (Some c), fold-roll-Expr) refl

pub built-In : (a : Expr) (others : List Expr) (text : List ℕ) → is_built_expr (x.In a others) text ≡ (is_built_expr a text && all_pass (map is_built_expr others) text)
built-In a others text = rw (← x.rolls-In a others, fold-roll-Expr) refl

pub built-Collate : (a : Expr) (t : Token) (text : List ℕ) → is_built_expr (x.Collate a t) text ≡ is_built_expr a text
built-Collate a t text = rw (← x.rolls-Collate a t, fold-roll-Expr) refl

pub built-Cast : (a : Expr) (t : TypeName) (text : List ℕ) → is_built_expr (x.Cast a t) text ≡ is_built_expr a text
built-Cast a t text = rw (← x.rolls-Cast a t, fold-roll-Expr) refl

pub built-Case : (a : Option Expr) (arms : List Arm) (otherwise : Option Expr) (text : List ℕ)
    → is_built_expr (x.Case a arms otherwise) text ≡ (option_passes (option_map is_built_expr a) text && all_pass (map is_built_arm arms) text && option_passes (option_map is_built_expr otherwise) text)
built-Case None arms None text = rw (← x.rolls-Case None arms None, fold-roll-Expr) refl
built-Case None arms (Some c) text = rw (← x.rolls-Case None arms (Some c), fold-roll-Expr) refl
built-Case (Some a) arms None text = rw (← x.rolls-Case (Some a) arms None, fold-roll-Expr) refl
built-Case (Some a) arms (Some c) text = rw (← x.rolls-Case (Some a) arms (Some c), fold-roll-Expr) refl

pub built-InQuery : (a : Expr) (q : Query) (text : List ℕ) → is_built_expr (x.InQuery a q) text ≡ false
built-InQuery a q text = rw (← x.rolls-InQuery a q, fold-roll-Expr) refl

pub built-Subquery : (q : Query) (text : List ℕ) → is_built_expr (x.Subquery q) text ≡ false
built-Subquery q text = rw (← x.rolls-Subquery q, fold-roll-Expr) refl

pub built-Exists : (q : Query) (text : List ℕ) → is_built_expr (x.Exists q) text ≡ false
built-Exists q text = rw (← x.rolls-Exists q, fold-roll-Expr) refl

pub built-RaiseIgnore : (text : List ℕ) → is_built_expr x.RaiseIgnore text ≡ false
built-RaiseIgnore text = rw (← x.rolls-RaiseIgnore, fold-roll-Expr) refl

pub built-RaiseAbort : (t : Token) (text : List ℕ) → is_built_expr (x.RaiseAbort t) text ≡ false
built-RaiseAbort t text = rw (← x.rolls-RaiseAbort t, fold-roll-Expr) refl
