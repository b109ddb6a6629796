-- Whether a SELECT is grouped, by the text and what hosts tell alone.
use Rattle.std.proofs.Common.{◌≡◌, ℕ, Bool, true, false, not, ◌||◌, is_some, List, [], ◌∷◌, map, Result, Ok, Err, IfOk, refl, sym, ap, ◌∙◌, rules}
use Rattle.std.specs.List.{list_any}
use Rattle.eng_value.specs.declared.cause.Cause.{Cause}
use Rattle.sql_tree.specs.declared.expr.Expr.{Expr, the_lemmas}
use Rattle.sql_tree.specs.declared.expr.Expr.TheOpen.{ResultColumn-F}
use Rattle.sql_tree.specs.declared.query.OrderingTerm.{OrderingTerm, out-OrderingTerm}
use Rattle.sql_tree.specs.declared.query.ResultColumn.{ResultColumn, fold-roll-ResultColumn, out-ResultColumn, roll-ResultColumn, roll-out-ResultColumn}
use Rattle.sql_tree.specs.declared.query.SelectCore.{SelectCore, out-SelectCore}
use Rattle.sql_tree.specs.declared.query.SpannedExpr.{out-SpannedExpr}
use Rattle.sql_tree.specs.Layers.{ResultLayer}
use Rattle.sql_bound.specs.Carriers.{CoreParts, ResultParts, TermParts}
use Rattle.sql_bound.specs.Cores.{is_grouped, result_aggregates}
use Rattle.sql_bound.specs.Declarations.{is_empty}
use Rattle.sql_bound.specs.Orders.{orders_by_aggregate}
use Rattle.sql_bound.specs.Scopes.{Facts, Outer}
use Rattle.sql_bound.specs.Trees.{of_core, of_expr, of_result, of_spanned, of_term}
use Rattle.bind_callee.proofs.HoldLaws.{holds-told}
use Rattle.bind_callee.specs.Told.{told}
use Rattle.bind_result.proofs.NumberLaws.{spanned_expr}

-- ---- GROUP BY and HAVING, then ORDER BY, then the results

by-groups : (a b l o : Bool) → (a || b) ≡ true → (a || b || l || o) ≡ true
by-groups true b l o is = refl
by-groups false true l o is = refl
by-groups false false l o is = cc

by-order : (a b l o : Bool) → o ≡ true → (a || b || l || o) ≡ true
by-order true b l o is = refl
by-order false true l o is = refl
by-order false false true o is = refl
by-order false false false o is = is

by-results : (a b l o : Bool) → (a || b) ≡ false → o ≡ false → (a || b || l || o) ≡ l
by-results true b l o is none = cc
by-results false true l o is none = cc
by-results false false true o is none = refl
by-results false false false o is none = none

module _ (o : Outer) (core : CoreParts) (ordered : Bool) where
  pub grouped-groups : (not (is_empty core.group_by) || is_some core.having) ≡ true → is_grouped o core ordered ≡ true
  grouped-groups is = by-groups (not (is_empty core.group_by)) (is_some core.having) (list_any (result_aggregates o) core.results) ordered is

  pub grouped-order : ordered ≡ true → is_grouped o core ordered ≡ true
  grouped-order is = by-order (not (is_empty core.group_by)) (is_some core.having) (list_any (result_aggregates o) core.results) ordered is

  pub grouped-results : (not (is_empty core.group_by) || is_some core.having) ≡ false → ordered ≡ false → is_grouped o core ordered ≡ list_any (result_aggregates o) core.results
  grouped-results is none = by-results (not (is_empty core.group_by)) (is_some core.having) (list_any (result_aggregates o) core.results) ordered is none

pub ruleset group_laws = (grouped-groups, grouped-order, grouped-results)

-- ---- by the text and the facts alone

pub at-told : (e : Expr) (text : List ℕ) (facts : Facts) (r : Result Bool Cause)
    → IfOk r (λ b. (o : Outer) → o.text ≡ text → o.around.facts ≡ facts → (of_expr e).aggregates o ≡ b)
    → IfOk r (λ b. b ≡ (of_expr e).aggregates (told text facts))
at-told e text facts (Ok b) h = sym (h (told text facts) refl refl)
at-told e text facts (Err why) h = tt

module _ (o : Outer) (text : List ℕ) (facts : Facts) (t : o.text ≡ text) (f : o.around.facts ≡ facts) where
  layer-told : (l : ResultLayer) → result_aggregates o (of_result (roll-ResultColumn l)) ≡ result_aggregates (told text facts) (of_result (roll-ResultColumn l))
  layer-told ResultColumn-F.All = rw fold-roll-ResultColumn refl
  layer-told (ResultColumn-F.AllOf token) = rw fold-roll-ResultColumn refl
  layer-told (ResultColumn-F.Expression x alias) = rw (fold-roll-ResultColumn, spanned_expr x) (holds-told (out-SpannedExpr x).expr o text facts t f)

  result-told : (r : ResultColumn) → result_aggregates o (of_result r) ≡ result_aggregates (told text facts) (of_result r)
  result-told r = rw (roll-out-ResultColumn r) at (layer-told (out-ResultColumn r))

  results-told : (rs : List ResultColumn) → list_any (result_aggregates o) (map of_result rs) ≡ list_any (result_aggregates (told text facts)) (map of_result rs)
  results-told [] = refl
  results-told (r ∷ rs) = rw (result-told r, results-told rs) refl

  core-results : (core : SelectCore) → (of_core core).results ≡ map of_result (out-SelectCore core).results
  core-results core = search (rules, the_lemmas)

  grouped-told : (core : SelectCore) (ordered : Bool) → is_grouped o (of_core core) ordered ≡ is_grouped (told text facts) (of_core core) ordered
  grouped-told core ordered =
      ap (λ l. not (is_empty (of_core core).group_by) || is_some (of_core core).having || l || ordered)
      (ap (λ rs. list_any (result_aggregates o) rs) (core-results core) ∙ results-told (out-SelectCore core).results ∙ sym (ap (λ rs. list_any (result_aggregates (told text facts)) rs) (core-results core)))

  term-expr : (x : OrderingTerm) → (of_term x).key.expr ≡ of_expr (out-SpannedExpr (out-OrderingTerm x).key).expr
  term-expr x = search (rules, the_lemmas)

  orders-told : (ts : List OrderingTerm) → orders_by_aggregate o (map of_term ts) ≡ orders_by_aggregate (told text facts) (map of_term ts)
  orders-told [] = refl
  orders-told (x ∷ xs) = rw (term-expr x, holds-told (out-SpannedExpr (out-OrderingTerm x).key).expr o text facts t f, orders-told xs) refl

pub is_grouped-wherever : (core : SelectCore) (ordered : Bool) (text : List ℕ) (facts : Facts) (r : Result Bool Cause)
    → IfOk r (λ b. b ≡ is_grouped (told text facts) (of_core core) ordered)
    → IfOk r (λ b. (o : Outer) → o.text ≡ text → o.around.facts ≡ facts → is_grouped o (of_core core) ordered ≡ b)
is_grouped-wherever core ordered text facts (Ok b) h = λ o t f. grouped-told o text facts t f core ordered ∙ sym h
is_grouped-wherever core ordered text facts (Err why) h = tt

pub orders-wherever : (ts : List OrderingTerm) (text : List ℕ) (facts : Facts) (r : Result Bool Cause)
    → IfOk r (λ b. b ≡ orders_by_aggregate (told text facts) (map of_term ts))
    → IfOk r (λ b. (o : Outer) → o.text ≡ text → o.around.facts ≡ facts → orders_by_aggregate o (map of_term ts) ≡ b)
orders-wherever ts text facts (Ok b) h = λ o t f. orders-told o text facts t f ts ∙ sym h
orders-wherever ts text facts (Err why) h = tt
