-- What results, parts of queries and queries come to, by their layers.
use Rattle.std.proofs.Common.{◌≡◌, rules, map, Some, None, refl, ap, subst}
use Rattle.sql_tree.specs.Layers.{PartLayer, ResultLayer}
use Rattle.sql_tree.specs.declared.expr.Expr.TheOpen.{QueryPart-F, ResultColumn-F}
use Rattle.sql_tree.specs.declared.expr.Expr.{the_lemmas}
use Rattle.sql_tree.specs.declared.query.QueryPart.{QueryPart, fold-roll-QueryPart, out-QueryPart, roll-QueryPart, roll-out-QueryPart}
use Rattle.sql_tree.specs.declared.query.ResultColumn.{ResultColumn, fold-roll-ResultColumn, out-ResultColumn, roll-ResultColumn, roll-out-ResultColumn}
use Rattle.sql_tree.specs.declared.query.SpannedExpr.{SpannedExpr, out-SpannedExpr}
use Rattle.sql_bound.specs.Carriers.{All, AllOf, One, PartParts, ResultParts, Select, Values}
use Rattle.sql_bound.specs.Trees.{of_core, of_expr, of_part, of_result, of_spanned}

pub of_spanned-out : (x : SpannedExpr) → of_spanned x ≡ record { expr = of_expr (out-SpannedExpr x).expr; text = (out-SpannedExpr x).text }
of_spanned-out x = search (rules, the_lemmas)

abbrev pub result_parts : ResultLayer → ResultParts
result_parts ResultColumn-F.All = All
result_parts (ResultColumn-F.AllOf t) = AllOf t
result_parts (ResultColumn-F.Expression x name) = One (record { expr = of_expr (out-SpannedExpr x).expr; text = (out-SpannedExpr x).text }) name

rolled_result : (l : ResultLayer) → of_result (roll-ResultColumn l) ≡ result_parts l
rolled_result ResultColumn-F.All = rw fold-roll-ResultColumn refl
rolled_result (ResultColumn-F.AllOf t) = rw fold-roll-ResultColumn refl
rolled_result (ResultColumn-F.Expression x None) = rw (fold-roll-ResultColumn) (ap (λ y. One y None) (of_spanned-out x))
rolled_result (ResultColumn-F.Expression x (Some t)) = rw (fold-roll-ResultColumn) (ap (λ y. One y (Some t)) (of_spanned-out x))

pub of_result-out : (r : ResultColumn) → of_result r ≡ result_parts (out-ResultColumn r)
of_result-out r = subst (λ z. of_result z ≡ result_parts (out-ResultColumn r)) (roll-out-ResultColumn r) (rolled_result (out-ResultColumn r))

abbrev pub part_parts : PartLayer → PartParts
part_parts (QueryPart-F.Select core) = Select (of_core core)
part_parts (QueryPart-F.Values rows) = Values (map (map of_expr) rows)

rolled_part : (l : PartLayer) → of_part (roll-QueryPart l) ≡ part_parts l
rolled_part (QueryPart-F.Select core) = rw fold-roll-QueryPart refl
rolled_part (QueryPart-F.Values rows) = rw fold-roll-QueryPart refl

pub of_part-out : (p : QueryPart) → of_part p ≡ part_parts (out-QueryPart p)
of_part-out p = subst (λ z. of_part z ≡ part_parts (out-QueryPart p)) (roll-out-QueryPart p) (rolled_part (out-QueryPart p))
