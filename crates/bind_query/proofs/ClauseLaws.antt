-- SELECTs, clause by clause, as functions of their own bind them.
use Rattle.std.proofs.Common.{◌≡◌, slice_get, Bool, true, false, Option, Some, None, List, [], ◌∷◌, map, Result, Ok, Err, ap, sym, ◌∙◌, refl, rules}
use Rattle.std.specs.Option.{option_map}
use Rattle.eng_value.specs.declared.cause.Cause.{Cause}
use Rattle.sql_tree.specs.declared.expr.Expr.{Expr, the_lemmas}
use Rattle.sql_tree.specs.declared.query.FromItem.{FromItem}
use Rattle.sql_tree.specs.declared.query.ResultColumn.{ResultColumn as Written}
use Rattle.sql_tree.specs.declared.query.SpannedExpr.{SpannedExpr}
use Rattle.sql_tree.specs.declared.query.SelectCore.{SelectCore, out-SelectCore}
use Rattle.bound_tree.specs.Exprs.{BoundExpr}
use Rattle.bound_tree.specs.declared.units.BoundKey.{BoundKey}
use Rattle.sql_bound.specs.Answers.{Answers, Comes}
use Rattle.sql_bound.specs.Carriers.{Expression, ResultParts}
use Rattle.sql_bound.specs.Cores.{clauses_bound, conjuncts_bound, having_bound, is_grouped, keys_bound, recursive_select_bound, results_of, scope_of_clause, scope_with, select_bound}
use Rattle.sql_bound.specs.Froms.{items_found, nothing_found}
use Rattle.sql_bound.specs.Groups.{grouped_checked}
use Rattle.sql_bound.specs.Results.{nothing_shown, results_bound, shown_in}
use Rattle.sql_bound.specs.Scopes.{Answer, Level, Scope}
use Rattle.sql_bound.specs.Trees.{of_core, of_expr, of_item, of_result, of_spanned}
use Rattle.sql_bound.specs.declared.froms.Found.{Found}
use Rattle.sql_bound.specs.declared.froms.QueueTable.{QueueTable}
use Rattle.sql_bound.specs.declared.queries.BoundSelect.{BoundSelect}
use Rattle.sql_bound.specs.declared.queries.Shown.{Shown}
use Rattle.sql_bound.specs.declared.scopes.Operand.{Operand}
use Rattle.sql_bound.specs.declared.scopes.Standing.TheVariants.{Nowhere, Taken}
use Rattle.sql_bound.specs.declared.scopes.Standing.{Standing}
use Rattle.sql_bound.specs.declared.scopes.WithEntry.{WithEntry}
use Rattle.sql_bound.specs.declared.scopes.Work.{Work}
use Rattle.bind_result.specs.Units.{conjuncts_checked}
use Rattle.bind_query.specs.Results.{result_scope}
use Rattle.bind_query.specs.Scopes.{Levels, clause, inside_of, outer_of, own_of, scope_of}
use Rattle.bind_query.specs.Where.{Where}
use Rattle.bind_query.proofs.AnswerLaws.{comes-beside, one-beside}

-- ---- a SELECT as it is written

core-from : (core : SelectCore) → (of_core core).from ≡ map of_item (out-SelectCore core).from
core-from core = search (rules, the_lemmas)

pub core-results : (core : SelectCore) → (of_core core).results ≡ map of_result (out-SelectCore core).results
core-results core = search (rules, the_lemmas)

core-filter : (core : SelectCore) → (of_core core).filter ≡ option_map of_expr (out-SelectCore core).filter
core-filter core = search (rules, the_lemmas)

core-keys : (core : SelectCore) → (of_core core).group_by ≡ map of_spanned (out-SelectCore core).group_by
core-keys core = search (rules, the_lemmas)

core-having : (core : SelectCore) → (of_core core).having ≡ option_map of_expr (out-SelectCore core).having
core-having core = search (rules, the_lemmas)

core-distinct : (core : SelectCore) → (of_core core).distinct ≡ (out-SelectCore core).distinct
core-distinct core = search (rules, the_lemmas)

-- ---- behind FROM

module _ (w : Where) (ls : Levels) (ts : List WithEntry) (core : SelectCore) (from : List FromItem) (work : Work) (written : from ≡ (out-SelectCore core).from) where
  module _ (v : Work) (f : Found) (grouped : Bool) where
    pub select-by : (ordered : Bool) → items_found (inside_of w ls ts) None (map of_item from) nothing_found work ≡ Ok (f, v) → is_grouped (outer_of w ls ts) (of_core core) ordered ≡ grouped
        → select_bound (inside_of w ls ts) (of_core core) ordered work ≡ clauses_bound Taken (outer_of w ls ts) (of_core core) grouped f v
    select-by ordered found is = rw (core-from core, ← written, found, is) refl

    pub recursive-by : (queue : QueueTable) → items_found (inside_of w ls ts) (Some queue) (map of_item from) nothing_found work ≡ Ok (f, v) → is_grouped (outer_of w ls ts) (of_core core) false ≡ grouped
        → recursive_select_bound (inside_of w ls ts) queue (of_core core) work ≡ clauses_bound Nowhere (outer_of w ls ts) (of_core core) grouped f v
    recursive-by queue found is = rw (core-from core, ← written, found, is) refl

  module _ (why : Cause) where
    pub select-refused : (ordered : Bool) → items_found (inside_of w ls ts) None (map of_item from) nothing_found work ≡ Err why → select_bound (inside_of w ls ts) (of_core core) ordered work ≡ Err why
    select-refused ordered found = rw (core-from core, ← written, found) refl

    pub recursive-refused : (queue : QueueTable) → items_found (inside_of w ls ts) (Some queue) (map of_item from) nothing_found work ≡ Err why
        → recursive_select_bound (inside_of w ls ts) queue (of_core core) work ≡ Err why
    recursive-refused queue found = rw (core-from core, ← written, found) refl

-- ---- the clauses

remove-first : (all ls : Levels) (first level : Level) → all ≡ first ∷ ls → slice_get all 0 ≡ Some level → level ≡ first
remove-first all ls first level is there = let h : Some first ≡ Some level = rw is at there in cc

module _ (standing : Standing) (w : Where) (ls : Levels) (ts : List WithEntry) (core : SelectCore) (grouped : Bool) (f : Found) where
  abbrev quiet : Scope
  quiet = scope_of_clause Nowhere f.level (outer_of w ls ts) (of_core core).results

  abbrev loud : Scope
  loud = scope_of_clause standing f.level (outer_of w ls ts) (of_core core).results

  abbrev shown_so : List ResultParts → Standing → Scope
  shown_so rs s = scope_of_clause s f.level (outer_of w ls ts) rs

  module _ (all : Levels) (levels : all ≡ f.level ∷ ls) (rs : List Written) where
    scope-of : (p : Where) (s : Standing) → rs ≡ (out-SelectCore core).results → p ≡ clause s rs w → scope_of p all ts ≡ scope_of_clause s f.level (outer_of w ls ts) (of_core core).results
    scope-of p s results is = rw (is, levels, results) (ap (λ xs. shown_so xs s) (sym (core-results core)))

    pub where-is : (p : Where) (v : Work) (r : Answer (List BoundExpr)) → rs ≡ (out-SelectCore core).results → p ≡ clause Nowhere rs w
        → conjuncts_bound (scope_of p all ts) (option_map of_expr (out-SelectCore core).filter) v ≡ r → conjuncts_bound quiet (of_core core).filter v ≡ r
    where-is p v r results is h =
        ap (λ (s : Scope). conjuncts_bound s (of_core core).filter v) (sym (scope-of p Nowhere results is))
        ∙ ap (λ (x : Option Expression). conjuncts_bound (scope_of p all ts) x v) (core-filter core)
        ∙ h

    shown-of : (p : Where) → rs ≡ (out-SelectCore core).results → p ≡ clause Nowhere rs w → shown_in w.text f.level (of_core core).results ≡ shown_in p.text (own_of all) (map of_result p.results)
    shown-of p results is = rw (is, levels, results, core-results core) refl

    pub keys-is : (xs : List SpannedExpr) (p : Where) (v : Work) (r : Answer (List BoundKey)) → xs ≡ (out-SelectCore core).group_by → rs ≡ (out-SelectCore core).results → p ≡ clause Nowhere rs w
        → keys_bound (scope_of p all ts) (shown_in p.text (own_of all) (map of_result p.results)) (map of_spanned xs) v ≡ r
        → keys_bound quiet (shown_in w.text f.level (of_core core).results) (of_core core).group_by v ≡ r
    keys-is xs p v r keys results is h = rw (core-keys core, ← keys, shown-of p results is, sym (scope-of p Nowhere results is)) h

    pub having-is : (ks keys : List BoundKey) (p : Where) (v : Work) (r : Answer (List BoundExpr)) → ks ≡ keys → rs ≡ (out-SelectCore core).results → p ≡ clause standing rs w
        → having_bound (scope_of p all ts) ks (own_of all) (option_map of_expr (out-SelectCore core).having) v ≡ r → having_bound loud keys f.level (of_core core).having v ≡ r
    having-is ks keys p v r same results is h =
        ap (λ (s : Scope). having_bound s keys f.level (of_core core).having v) (sym (scope-of p standing results is))
        ∙ ap (λ (l : Levels). having_bound (scope_of p all ts) keys (own_of l) (of_core core).having v) (sym levels)
        ∙ ap (λ (x : Option Expression). having_bound (scope_of p all ts) keys (own_of all) x v) (core-having core)
        ∙ ap (λ (k : List BoundKey). having_bound (scope_of p all ts) k (own_of all) (option_map of_expr (out-SelectCore core).having) v) (sym same)
        ∙ h

    bare-of : (none : List Written) (p : Where) → none ≡ [] → p ≡ clause standing none w → scope_of p all ts ≡ scope_with standing f.level (outer_of w ls ts)
    bare-of none p bare is = rw (is, levels, bare) refl

    pub results-is : (none : List Written) (ks keys : List BoundKey) (p : Where) (v : Work) (r : Answer Shown) → ks ≡ keys → rs ≡ (out-SelectCore core).results → none ≡ [] → p ≡ clause standing none w
        → results_bound (result_scope (scope_of p all ts) (own_of all) grouped ks) (map of_result rs) (nothing_shown, v) ≡ r
        → results_of standing (outer_of w ls ts) (of_core core) f.level grouped keys v ≡ r
    results-is none ks keys p v r same results bare is h =
        ap (λ (s : Scope). results_bound (result_scope s f.level grouped keys) (of_core core).results (nothing_shown, v)) (sym (bare-of none p bare is))
        ∙ ap (λ (l : Levels). results_bound (result_scope (scope_of p all ts) (own_of l) grouped keys) (of_core core).results (nothing_shown, v)) (sym levels)
        ∙ ap (λ (xs : List ResultParts). results_bound (result_scope (scope_of p all ts) (own_of all) grouped keys) xs (nothing_shown, v)) (core-results core ∙ ap (map of_result) (sym results))
        ∙ ap (λ (k : List BoundKey). results_bound (result_scope (scope_of p all ts) (own_of all) grouped k) (map of_result rs) (nothing_shown, v)) (sym same)
        ∙ h

  abbrev whole : Work → Answer BoundSelect
  whole work = clauses_bound standing (outer_of w ls ts) (of_core core) grouped f work

  module _ (work : Work) where
    pub clauses-where : (why : Cause) → conjuncts_bound quiet (of_core core).filter work ≡ Err why → whole work ≡ Err why
    clauses-where why a = rw a refl

    module _ (c : List BoundExpr) (first : Work) (a : conjuncts_bound quiet (of_core core).filter work ≡ Ok (c, first)) where
      pub clauses-keys : (why : Cause) → keys_bound quiet (shown_in w.text f.level (of_core core).results) (of_core core).group_by first ≡ Err why → whole work ≡ Err why
      clauses-keys why b = rw (a, b) refl

      module _ (k : List BoundKey) (second : Work) (b : keys_bound quiet (shown_in w.text f.level (of_core core).results) (of_core core).group_by first ≡ Ok (k, second)) where
        pub clauses-having : (why : Cause) → having_bound loud k f.level (of_core core).having second ≡ Err why → whole work ≡ Err why
        clauses-having why d = rw (a, b, d) refl

        module _ (h : List BoundExpr) (third : Work) (d : having_bound loud k f.level (of_core core).having second ≡ Ok (h, third)) where
          pub clauses-results : (why : Cause) → results_of standing (outer_of w ls ts) (of_core core) f.level grouped k third ≡ Err why → whole work ≡ Err why
          clauses-results why e = rw (a, b, d, e) refl

          pub clauses-made : (r : Shown) (last : Work) (all : Levels) (level : Level) → results_of standing (outer_of w ls ts) (of_core core) f.level grouped k third ≡ Ok (r, last)
              → all ≡ f.level ∷ ls → slice_get all 0 ≡ Some level
              → whole work
              ≡ Ok (record { found = record { level = level; items = f.items; has_queue = f.has_queue }; conjuncts = c; grouped = grouped; keys = k; having = h; shown = r; distinct = (out-SelectCore core).distinct }, last)
          clauses-made r last all level e levels there = rw (a, b, d, e, core-distinct core, remove-first all ls f.level level levels there) refl

-- ---- HAVING

pub having-comes : (s : Scope) (keys : List BoundKey) (ls : Levels) (own : Level) (x : Expr) (w v : Work) (a : Operand) (r : Result (List BoundExpr) Cause) → own ≡ own_of ls → (of_expr x).bound s w ≡ Ok (a, v)
    → Answers (conjuncts_checked keys own (of_expr x) a.tree) r → Comes (having_bound s keys (own_of ls) (Some (of_expr x)) w) r v
having-comes s keys ls own x w v a r is bound h =
    comes-beside (having_bound s keys (own_of ls) (Some (of_expr x)) w) v (conjuncts_checked keys own (of_expr x) a.tree) r
    (rw (is, bound) (one-beside v (grouped_checked true keys (own_of ls) a.tree) ((of_expr x).conjuncts a.tree))) h
