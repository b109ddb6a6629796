-- Queries, each one level deeper than where it stands.
use Rattle.std.proofs.Common.{◌≡◌, ℕ, ◌+◌, suc, List, [], ◌∷◌, Some, Result, Err, ap, sym, ◌∙◌, add-one, rules}
use Rattle.eng_value.specs.declared.cause.Cause.{Cause}
use Rattle.eng_value.specs.declared.cause.Cause.TheVariants.{Limit}
use Rattle.eng_value.specs.declared.cause.LimitKind.TheVariants as limit
use Rattle.sql_tree.specs.declared.query.Query.{Query}
use Rattle.sql_tree.specs.declared.expr.Expr.{the_lemmas}
use Rattle.bound_tree.specs.declared.units.BoundUnit.{BoundUnit}
use Rattle.sql_bound.specs.Answers.{Answers, Comes}
use Rattle.sql_bound.specs.Carriers.{LimitParts}
use Rattle.sql_bound.specs.Orders.{limit_bound}
use Rattle.sql_bound.specs.Queries.{entered, query_bound, query_in}
use Rattle.sql_bound.specs.Scopes.{Level, Outer, Scope}
use Rattle.sql_bound.specs.Trees.{depth_of, of_query}
use Rattle.sql_bound.specs.declared.scopes.Asked.{Asked}
use Rattle.sql_bound.specs.declared.queries.BoundLimit.{BoundLimit}
use Rattle.sql_bound.specs.declared.scopes.Standing.TheVariants.{Nowhere}
use Rattle.sql_bound.specs.declared.scopes.WithEntry.{WithEntry}
use Rattle.sql_bound.specs.declared.scopes.Work.{Work}
use Rattle.bind_query.specs.Results.{limit_in}
use Rattle.bind_query.specs.Scopes.{Levels, around_of, clause, entered as where_entered, inside_of, outer_of, scope_of, written_of}
use Rattle.bind_query.specs.Where.{Where}
use Rattle.bind_query.proofs.PartLaws.{beside-scope}
use Rattle.bind_with.proofs.AnswerLaws.{answers-by, comes-by}

query-written : (q : Query) (o : Outer) (units : List BoundUnit) → (of_query q).bound o units ≡ query_bound (written_of q) o units
query-written q o units = search (rules, the_lemmas)

module _ (q : Query) (w : Where) (ls : Levels) (ts : List WithEntry) (units : List BoundUnit) where
  at-depth : (d : ℕ) → w.depth ≡ d → (of_query q).bound (outer_of w ls ts) units ≡ entered (outer_of w ls ts) (depth_of (λ text. of_query) (around_of w) d) (query_in (written_of q)) units
  at-depth d is = query-written q (outer_of w ls ts) units ∙ ap (λ k. entered (outer_of w ls ts) (depth_of (λ text. of_query) (around_of w) k) (query_in (written_of q)) units) is

  pub query-entered : (d : ℕ) → w.depth ≡ d + 1 → (of_query q).bound (outer_of w ls ts) units ≡ query_in (written_of q) (inside_of (where_entered d w) ls ts) units
  query-entered d is = at-depth (suc d) (is ∙ add-one d)

  pub query-refused : w.depth ≡ 0 → (of_query q).bound (outer_of w ls ts) units ≡ Err (Limit limit.Queries)
  query-refused is = at-depth 0 is

  pub query-goes : (d : ℕ) (p : Where) (r : Result (Asked × List BoundUnit) Cause) → w.depth ≡ d + 1 → p ≡ where_entered d w → Answers (query_in (written_of q) (inside_of p ls ts) units) r
      → Answers ((of_query q).bound (outer_of w ls ts) units) r
  query-goes d p r is same h =
      answers-by ((of_query q).bound (outer_of w ls ts) units) (query_in (written_of q) (inside_of p ls ts) units) r
      (query-entered d is ∙ ap (λ (x : Where). query_in (written_of q) (inside_of x ls ts) units) (sym same)) h

-- ---- LIMIT

pub limit-goes : (w p : Where) (ls all : Levels) (ts : List WithEntry) (own : Level) → own ≡ [] → all ≡ own ∷ ls → p ≡ clause Nowhere [] w → (l : LimitParts) (work new : Work) (r : Result BoundLimit Cause)
    → Comes (limit_in (scope_of p all ts) l work) r new → Comes (limit_bound (outer_of w ls ts) (Some l) work) r new
limit-goes w p ls all ts own none levels is l work new r h =
    comes-by (limit_bound (outer_of w ls ts) (Some l) work) (limit_in (scope_of p all ts) l work) r new (ap (λ (s : Scope). limit_in s l work) (beside-scope w p ls all ts own none levels is)) h
