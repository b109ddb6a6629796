-- A SELECT that is bound is small beside its tree.
use Rattle.std.proofs.Common.{◌≡◌, ◌≤◌, ℕ, ◌*◌, Bool, true, List, [], ◌∷◌, ◌++◌, length, map, Option, Some, None, Ok, refl, ap, subst, ◌∙◌, arith}
use Rattle.std.proofs.lemmas.List.{length-map}
use Rattle.std.specs.List.{flat_map, list_all}
use Rattle.std.specs.Option.{option_map}
use Rattle.sql_tree.specs.Layers.{ResultLayer, SelectLayer, of_result as layer_of, of_select}
use Rattle.sql_tree.specs.Sizes.{size_of_filter, size_of_from, size_of_result, total}
use Rattle.sql_tree.specs.declared.expr.Expr.TheOpen.{ResultColumn-F}
use Rattle.sql_tree.specs.declared.expr.Expr.{Expr}
use Rattle.sql_tree.specs.declared.query.FromItem.{FromItem}
use Rattle.sql_tree.specs.declared.query.ResultColumn.{ResultColumn}
use Rattle.sql_tree.specs.declared.query.SelectCore.{SelectCore}
use Rattle.sql_words.specs.Refusals.{◌>>=◌}
use Rattle.bound_tree.specs.Exprs.{BoundExpr}
use Rattle.bound_tree.specs.declared.units.BoundItem.{BoundItem}
use Rattle.bound_tree.specs.declared.units.BoundKey.{BoundKey}
use Rattle.sql_bound.proofs.LimitLaws.{items_kept}
use Rattle.sql_bound.proofs.TreeLaws.{of_core-out}
use Rattle.sql_bound.specs.Carriers.{CoreParts, Expression, ItemParts, ResultParts}
use Rattle.sql_bound.specs.Cores.{clauses_bound, conjuncts_bound, core_of, having_bound, is_grouped, keys_bound, results_of, scope_of_clause, scope_with, select_bound, select_with}
use Rattle.sql_bound.specs.Froms.{Inside, items_found, nothing_found}
use Rattle.sql_bound.specs.Results.{ResultScope, alias_of, aliases_of, nothing_shown, results_bound, shown_in}
use Rattle.sql_bound.specs.Scopes.{Alias, Outer, Scope}
use Rattle.sql_bound.specs.Trees.{of_core, of_expr, of_item, of_result}
use Rattle.sql_bound.specs.declared.froms.Found.{Found}
use Rattle.sql_bound.specs.declared.queries.BoundSelect.{BoundSelect}
use Rattle.sql_bound.specs.declared.queries.Shown.{Shown}
use Rattle.sql_bound.specs.declared.scopes.Standing.TheVariants.{Nowhere, Taken}
use Rattle.sql_bound.specs.declared.scopes.Standing.{Standing}
use Rattle.sql_bound.specs.declared.scopes.Work.{Work}
use Rattle.bound_size.specs.Brought.{AllBringNodes, own_of}
use Rattle.bound_size.specs.Plain.{is_plain_core, is_plain_filter, is_plain_result}
use Rattle.bound_tree.specs.Conditions.{conditions_of}
use Rattle.bound_size.specs.Sizes.{all_nodes}
use Rattle.bound_size.specs.Small.{AreFewShown, IsSmallCore, columns_in, from_size, is_unnamed, names_none}
use Rattle.bound_size.proofs.BoundLaws.{both_hold, bound_by, same_answer}
use Rattle.bound_size.proofs.FromLaws.{FoundBrings, from_brings}
use Rattle.bound_size.proofs.LayerLaws.{of_result-out, result_parts}
use Rattle.bound_size.proofs.ResultLaws.{results_few}
use Rattle.bound_size.proofs.SplitLaws.{test_nodes}

-- ---- results

results_are_few : (standing : Standing) (o : Outer) (core : SelectCore) (f : Found) (grouped : Bool) (keys : List BoundKey) (w : Work) (r : Shown × Work) → FoundBrings f
    → list_all is_plain_result (of_select core).results ≡ true → results_of standing o (of_core core) f.level grouped keys w ≡ Ok r
    → AreFewShown (total (map size_of_result (of_select core).results)) (columns_in f.items) r.0.trees
results_are_few standing o core f grouped keys w r found plain h =
    let scope : ResultScope = record { scope = scope_with standing f.level o; own = f.level; grouped = grouped; keys = keys } in
    let parts : (of_core core).results ≡ map of_result (of_select core).results = ap (λ (c : CoreParts). c.results) (of_core-out core) in
    let here = subst (λ (rs : List ResultParts). results_bound scope rs (nothing_shown, w) ≡ Ok r) parts h in
    let few = results_few scope (of_select core).results w r refl found.nodes found.nodes plain here in
    record { stars = few.stars; hundred = few.hundred; of_columns = omega (arith, few.of_columns, found.count); nodes = few.nodes }

-- ---- WHERE, where no result has a name

no_alias : (text : List ℕ) (plain : Scope) (l : ResultLayer) → is_unnamed l ≡ true → alias_of text plain (result_parts l) ≡ []
no_alias text plain ResultColumn-F.All h = refl
no_alias text plain (ResultColumn-F.AllOf t) h = refl
no_alias text plain (ResultColumn-F.Expression x None) h = refl
no_alias text plain (ResultColumn-F.Expression x (Some t)) h = cc

no_aliases : (text : List ℕ) (plain : Scope) (rs : List ResultColumn) → names_none rs ≡ true → aliases_of text plain (map of_result rs) ≡ []
no_aliases text plain [] h = refl
no_aliases text plain (r ∷ rs) h =
    let both = both_hold (is_unnamed (layer_of r)) (names_none rs) h in
    let one : alias_of text plain (of_result r) ≡ [] = ap (alias_of text plain) (of_result-out r) ∙ no_alias text plain (layer_of r) both.0 in
    ap (λ (more : List Alias). more ++ aliases_of text plain (map of_result rs)) one ∙ no_aliases text plain rs both.1

tests_are_few : (s : Scope) (filter : Option Expr) (w : Work) (c : List BoundExpr × Work) → s.aliases ≡ [] → AllBringNodes (own_of s.outer.levels) → is_plain_filter filter ≡ true
    → conjuncts_bound s (option_map of_expr filter) w ≡ Ok c → all_nodes (flat_map conditions_of c.0) ≤ 4 * size_of_filter filter
tests_are_few s None w c bare own plain h = subst (λ (x : List BoundExpr × Work). all_nodes (flat_map conditions_of x.0) ≤ 4 * 0) (same_answer ([], w) c h) (omega arith)
tests_are_few s (Some x) w c bare own plain h =
    let a = bound_by ((of_expr x).bound s w) (λ a. Ok ((of_expr x).conjuncts a.0.tree, a.1)) c h in
    subst (λ (y : List BoundExpr × Work). all_nodes (flat_map conditions_of y.0) ≤ 4 * size_of_filter (Some x)) (same_answer ((of_expr x).conjuncts a.0.0.tree, a.0.1) c a.2) (test_nodes x s w a.0 plain bare own a.1)

filter_is_small : (o : Outer) (core : SelectCore) (f : Found) (w : Work) (c : List BoundExpr × Work) → FoundBrings f → is_plain_filter (of_select core).filter ≡ true
    → conjuncts_bound (scope_of_clause Nowhere f.level o (of_core core).results) (of_core core).filter w ≡ Ok c → names_none (of_select core).results ≡ true
    → all_nodes (flat_map conditions_of c.0) ≤ 4 * size_of_filter (of_select core).filter
filter_is_small o core f w c found plain h unnamed =
    let scope = scope_of_clause Nowhere f.level o (of_core core).results in
    let results : (of_core core).results ≡ map of_result (of_select core).results = ap (λ (x : CoreParts). x.results) (of_core-out core) in
    let filter : (of_core core).filter ≡ option_map of_expr (of_select core).filter = ap (λ (x : CoreParts). x.filter) (of_core-out core) in
    let bare : scope.aliases ≡ [] = ap (aliases_of o.text (scope_with Nowhere f.level o)) results ∙ no_aliases o.text (scope_with Nowhere f.level o) (of_select core).results unnamed in
    let here = subst (λ (x : Option Expression). conjuncts_bound scope x w ≡ Ok c) filter h in
    tests_are_few scope (of_select core).filter w c bare found.nodes plain here

-- ---- the whole

pub record IsSmallSelect (core : SelectLayer) (b : BoundSelect) : Type 0 where
  pub items : from_size b.found.items ≡ size_of_from core.from
  pub results : AreFewShown (total (map size_of_result core.results)) (columns_in b.found.items) b.shown.trees
  pub tests : names_none core.results ≡ true → all_nodes (flat_map conditions_of b.conjuncts) ≤ 4 * size_of_filter core.filter

clauses_small : (standing : Standing) (o : Outer) (core : SelectCore) (grouped : Bool) (f : Found) (w : Work) (r : BoundSelect × Work) → FoundBrings f → from_size f.items ≡ size_of_from (of_select core).from → is_plain_core core ≡ true
    → clauses_bound standing o (of_core core) grouped f w ≡ Ok r → IsSmallSelect (of_select core) r.0
clauses_small standing o core grouped f w r found items plain h =
    let both = both_hold (list_all is_plain_result (of_select core).results) (is_plain_filter (of_select core).filter) plain in
    let parts = of_core core in
    let before = scope_of_clause Nowhere f.level o parts.results in
    let behind = scope_of_clause standing f.level o parts.results in
    let shown = shown_in o.text f.level parts.results in
    let made : List BoundExpr × Work → List BoundKey × Work → List BoundExpr × Work → Shown × Work → BoundSelect × Work =
    λ c k h r. (select_with parts f c.0 grouped k.0 h.0 r.0, r.1) in
    let c = bound_by (conjuncts_bound before parts.filter w)
    (λ c. keys_bound before shown parts.group_by c.1 >>= λ k. having_bound behind k.0 f.level parts.having k.1 >>= λ h. results_of standing o parts f.level grouped k.0 h.1 >>= λ r. Ok (made c k h r)) r h in
    let k = bound_by (keys_bound before shown parts.group_by c.0.1)
    (λ k. having_bound behind k.0 f.level parts.having k.1 >>= λ h. results_of standing o parts f.level grouped k.0 h.1 >>= λ r. Ok (made c.0 k h r)) r c.2 in
    let g = bound_by (having_bound behind k.0.0 f.level parts.having k.0.1) (λ h. results_of standing o parts f.level grouped k.0.0 h.1 >>= λ r. Ok (made c.0 k.0 h r)) r k.2 in
    let s = bound_by (results_of standing o parts f.level grouped k.0.0 g.0.1) (λ r. Ok (made c.0 k.0 g.0 r)) r g.2 in
    subst (λ (x : BoundSelect × Work). IsSmallSelect (of_select core) x.0) (same_answer (made c.0 k.0 g.0 s.0) r s.2)
    (record {
      items = items;
      results = results_are_few standing o core f grouped k.0.0 g.0.1 s.0 found both.0 s.1;
      tests = filter_is_small o core f w c.0 found both.1 c.1;
    })

same_from : (items : List BoundItem) (from : List FromItem) → length items ≡ length from → from_size items ≡ size_of_from from
same_from [] [] h = refl
same_from (i ∷ items) (j ∷ from) h = omega (arith, h)
same_from [] (j ∷ from) h = cc
same_from (i ∷ items) [] h = cc

pub select_small : (i : Inside) (core : SelectCore) (ordered : Bool) (w : Work) (r : BoundSelect × Work) → is_plain_core core ≡ true → select_bound i (of_core core) ordered w ≡ Ok r → IsSmallSelect (of_select core) r.0
select_small i core ordered w r plain h =
    let parts = of_core core in
    let f = bound_by (items_found i None parts.from nothing_found w) (λ f. clauses_bound Taken i.outer parts (is_grouped i.outer parts ordered) f.0 f.1) r h in
    let from : parts.from ≡ map of_item (of_select core).from = ap (λ (c : CoreParts). c.from) (of_core-out core) in
    let kept = items_kept i None parts.from nothing_found w f.0 (omega arith) f.1 in
    let many = kept.0 in
    let as_many : length f.0.0.items ≡ length (of_select core).from = omega (arith, many, ap (λ (x : List ItemParts). length x) from, length-map (of_select core).from of_item) in
    clauses_small Taken i.outer core (is_grouped i.outer parts ordered) f.0.0 f.0.1 r (from_brings i None parts.from w f.0 f.1) (same_from f.0.0.items (of_select core).from as_many) plain f.2

pub core_small : (core : SelectLayer) (s : BoundSelect) (w : Work) → IsSmallSelect core s → IsSmallCore core (core_of s w)
core_small core s w h = record { items = h.items; results = h.results; tests = h.tests }
